-- The image of empty tables is zeros, and zeros are read as empty tables.
use mathlib.Core.Path.{◌≡◌, refl, sym, ap, ◌∙◌}
use lib.ListN.{replicate}
use Rattle.lists.specs.Parts.{joined}
use Rattle.tables.specs.Names.{empty_tables}
use Rattle.tables.specs.Lookup.{Sized}
use Rattle.image.specs.Layout.{image_size}
use Rattle.image.specs.Numbers.{bytes_of}
use Rattle.image.specs.Image.{ticket_numbers, ticket_bytes, program_bytes, pad_bytes, entry_numbers, entry_bytes, encode, decode}
use Rattle.image.proofs.RoundTrip.{decode_encode}

pub empty_zeros : encode empty_tables ≡ replicate image_size 0
unfolding encode joined pad_bytes program_bytes ticket_bytes ticket_numbers entry_bytes entry_numbers bytes_of empty_tables
empty_zeros = refl

pub zeros_empty : Sized empty_tables → decode (replicate image_size 0) ≡ empty_tables
zeros_empty sized = ap decode (sym empty_zeros) ∙ decode_encode empty_tables sized

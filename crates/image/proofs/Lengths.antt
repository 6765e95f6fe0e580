-- How many bytes each record has.
use native.Mathlib.Omega.{arith}
use mathlib.Core.Path.{◌≡◌, ◌∙◌}
use mathlib.Core.List.{[], ◌∷◌}
use lib.ListN.{length, get_or, length-append}
use Rattle.lists.specs.Parts.{joined}
use Rattle.lists.proofs.PartLaws.{length_joined}
use Rattle.tables.specs.declared.{Ticket.Ticket, Program.Program, Pad.Pad, Entry.Entry, Tables.Tables}
use Rattle.tables.specs.Names.{free, no_entry, no_program, no_pad}
use Rattle.image.specs.Layout.{ticket_size, program_last_at, program_size, pad_size, entry_size, entries_at, entries_size, image_size}
use Rattle.image.specs.Numbers.{bytes_of}
use Rattle.image.specs.Image.{ticket_numbers, ticket_bytes, program_bytes, pad_bytes, entry_numbers, entry_bytes, encode}
use Rattle.image.proofs.NumberLaws.{length_bytes}

pub ticket_long : (k : Ticket) → length (ticket_bytes k) ≡ ticket_size
unfolding ticket_bytes ticket_numbers
ticket_long k = length_bytes (ticket_numbers k)

pub entry_long : (e : Entry) → length (entry_bytes e) ≡ entry_size
unfolding entry_bytes entry_numbers
entry_long e = length_bytes (entry_numbers e)

pub tickets_long : (p : Program) → length (joined 8 (λ i. ticket_bytes (get_or p.tickets i free))) ≡ program_last_at
tickets_long p = length_joined ticket_size (λ i. ticket_bytes (get_or p.tickets i free)) 8 (λ i h. ticket_long _)

pub program_long : (p : Program) → length (program_bytes p) ≡ program_size
unfolding program_bytes
program_long p =
    length-append (joined 8 (λ i. ticket_bytes (get_or p.tickets i free))) (bytes_of (p.last ∷ []))
    ∙ omega (arith, tickets_long p, length_bytes (p.last ∷ []))

pub pad_long : (p : Pad) → length (pad_bytes p) ≡ pad_size
unfolding pad_bytes
pad_long p = length_joined program_size (λ i. program_bytes (get_or p.programs i no_program)) 8 (λ i h. program_long _)

pub pads_long : (t : Tables) → length (joined 4 (λ i. pad_bytes (get_or t.pads i no_pad))) ≡ entries_at
pads_long t = length_joined pad_size (λ i. pad_bytes (get_or t.pads i no_pad)) 4 (λ i h. pad_long _)

pub entries_long : (t : Tables) → length (joined 256 (λ i. entry_bytes (get_or t.entries i no_entry))) ≡ entries_size
entries_long t = length_joined entry_size (λ i. entry_bytes (get_or t.entries i no_entry)) 256 (λ i h. entry_long _)

pub image_long : (t : Tables) → length (encode t) ≡ image_size
unfolding encode
image_long t =
    length-append (joined 4 (λ i. pad_bytes (get_or t.pads i no_pad))) (joined 256 (λ i. entry_bytes (get_or t.entries i no_entry)))
    ∙ omega (arith, pads_long t, entries_long t)

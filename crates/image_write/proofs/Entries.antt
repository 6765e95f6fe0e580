-- Other entries beside the tickets of an image.
use Prim.Native.Nat.{ℕ}
use mathlib.Core.Path.{refl, sym, ap, ◌∙◌}
use mathlib.Core.List.{List}
use lib.ListN.{length}
use Rattle.tables.specs.declared.{Entry.Entry, Tables.Tables}
use Rattle.tables.specs.Lookup.{Sized}
use Rattle.image.specs.Image.{decode}
use Rattle.image_read.specs.Places.{tickets_in, lasts_in}
use Rattle.image_read.proofs.Places.{entries_long}
use Rattle.image_places.specs.Places.{Flattened}
use Rattle.image_find.proofs.Laws.{flattened, decoded_sized}
use Rattle.image_write.specs.Shows.{Shows, Holds}
use Rattle.image_write.proofs.ToTables.{holds}

module _ (image : List ℕ) (es : List Entry) where
  abbrev pub with_entries : Tables
  with_entries = record { pads = (decode image).pads; entries = es }

  flat : Flattened with_entries (tickets_in image) (lasts_in image)
  flat =
      let f = flattened image in
      record { long = f.long; same = f.same; lasts_long = f.lasts_long; last = f.last }

  pub other_entries : {image' : List ℕ} → Shows image' (tickets_in image) (lasts_in image) es → Holds image' with_entries
  other_entries {image'} shows = holds with_entries sized flat refl shows
    where
      sized : Sized with_entries
      sized =
          let z = decoded_sized image in
          record { pads = z.pads; programs = z.programs; tickets = z.tickets; entries = ap length (sym shows.entries) ∙ entries_long image' }

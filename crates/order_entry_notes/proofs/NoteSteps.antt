-- The note of a name, as the code reads it.
use Prim.Native.Nat.{ℕ, ◌≤◌, ◌<◌}
use mathlib.Core.Path.{◌≡◌, sym, ap, ◌∙◌}
use mathlib.Core.List.{List}
use lib.ListN.{length, get_or, get_or-eq_default}
use Rattle.lists.proofs.Reading.{any_default}
use Rattle.tables.specs.declared.Name.{Name}
use Rattle.image_places.specs.Places.{place_in}
use Rattle.order_entry_notes.specs.Notes.{note_of}

module _ (numbers notes : List ℕ) (n : Name) (p : ℕ) (e : p ≡ place_in numbers n) where
  pub note_none : length notes ≤ p → 256 ≡ note_of numbers notes n
  unfolding note_of
  note_none h = sym (ap (λ (q : ℕ). get_or notes q 256) (sym e) ∙ get_or-eq_default notes 256 h)

  pub note_here : p < length notes → get_or notes p 0 ≡ note_of numbers notes n
  unfolding note_of
  note_here h = any_default notes p 0 256 h ∙ ap (λ (q : ℕ). get_or notes q 256) e

-- What the code's tests tell of what goes.
use Prim.Native.Nat.{ℕ, ◌≤◌}
use mathlib.Core.Path.{◌≡◌, ap, ◌∙◌}
use mathlib.Core.Bool.{Bool, false}
use mathlib.Core.List.{List}
use Rattle.tables.specs.declared.{Name.Name, Tables.Tables}
use Rattle.lists.proofs.Laid.{Laid}
use Rattle.lists.proofs.PartLaws.{tabulated}
use Rattle.image_pads.specs.Places.{numbers_of, place_in, ups_of}
use Rattle.op_drop_tickets.specs.Marks.{goes, under_on, marks_of}

-- ---- all 64 places of a pad marked or left
pub all_marked : (test : ℕ → Bool) (n : ℕ) (marks : List Bool) → 64 ≤ n → Laid false 64 test n marks → marks ≡ marks_of test
unfolding marks_of
all_marked test n marks h laid = tabulated false 64 n test marks h laid

-- ---- what was written and found, by the tables
pub marks_under : (t : Tables) (also x : Name) (numbers up : List ℕ) (i j : ℕ) → numbers ≡ numbers_of t x.pad → up ≡ ups_of t x.pad numbers
    → i ≡ place_in numbers also.program also.number → j ≡ place_in numbers x.program x.number
    → (marks : List Bool) → marks ≡ marks_of (goes up i j) → marks ≡ marks_of (under_on t also x)
unfolding under_on
marks_under t also x numbers up i j e f g h marks m =
    let ups : up ≡ ups_of t x.pad (numbers_of t x.pad) = f ∙ ap (ups_of t x.pad) e in
    let beside : i ≡ place_in (numbers_of t x.pad) also.program also.number = g ∙ ap (λ (l : List ℕ). place_in l also.program also.number) e in
    let top : j ≡ place_in (numbers_of t x.pad) x.program x.number = h ∙ ap (λ (l : List ℕ). place_in l x.program x.number) e in
    m ∙ λ k. marks_of (goes (ups k) (beside k) (top k))

-- The group's edge: a request of the group's has a possible sender in it, a possible sender of the others' is outside, and a pass that does
-- not cross the edge has sender and recipient on one side.
use Prim.Native.Nat.{◌≤◌}
use mathlib.Core.Path.{◌≡◌, refl, sym}
use mathlib.Core.Bool.{Bool, true, false, xor}
use borrow.Author.Tests.{eq-eqb}
use Rattle.lists.proofs.Tests.{and_l, and_r}
use Rattle.tables.specs.Names.{is_program}
use Rattle.tables.proofs.NameLaws.{Possible, is_program_lem, program_possible}
use Rattle.machine.specs.declared.Request.{Request}
use Rattle.machine.specs.Sequence.{Group, from_group, crosses}

xor_same : (a b : Bool) → xor a b ≡ false → b ≡ a
unfolding xor
xor_same true true e = refl
xor_same true false e = sym e
xor_same false true e = e
xor_same false false e = refl

module _ (g : Group) (r : Request) where
  pub is_possible : from_group g r ≡ true → Possible r.pad r.program
  unfolding from_group
  is_possible e = is_program_lem r.pad r.program (and_l (is_program r.pad r.program) _ e)

  pub is_in_group : from_group g r ≡ true → g r.pad r.program ≡ true
  unfolding from_group
  is_in_group e = and_r (is_program r.pad r.program) _ e

  pub is_outside : from_group g r ≡ false → r.pad ≤ 3 → r.program ≤ 7 → g r.pad r.program ≡ false
  unfolding from_group
  is_outside e a b = rw (program_possible r.pad r.program a b) at e

  pub on_one_side : crosses g r ≡ false → r.op ≡ 2 → r.pad ≤ 3 → r.program ≤ 7 → r.topad ≤ 3 → r.toprogram ≤ 7
      → g r.topad r.toprogram ≡ g r.pad r.program
  unfolding crosses
  on_one_side e o a b c d =
      xor_same (g r.pad r.program) (g r.topad r.toprogram)
      (rw (eq-eqb r.op 2 o, program_possible r.pad r.program a b, program_possible r.topad r.toprogram c d) at e)

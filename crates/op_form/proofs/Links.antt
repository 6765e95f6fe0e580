-- The chain of 1, 2 and 3, link by link: what the code's tests say of the answer.
use Prim.Native.Nat.{ℕ, ◌≤◌, ◌<◌}
use native.Mathlib.Omega.{arith}
use mathlib.Core.Path.{◌≡◌, ap, ◌∙◌}
use mathlib.Core.Bool.{Bool, not}
use borrow.Author.Tests.{le-leb, lt-leb}
use Rattle.lists.specs.Tests.{between}
use Rattle.lists.proofs.Tests.{between_test}
use Rattle.tables.specs.Names.{is_program}
use Rattle.tables.proofs.NameLaws.{program_possible}
use Rattle.machine.specs.declared.Request.{Request}
use Rattle.machine.specs.Refusal.{◌when◌else◌}
use Rattle.machine.specs.Operation.{Fields, operation_of, used_by, fields_ok}
use Rattle.op_form.specs.declared.Used.{Used}
use Rattle.op_form.specs.Early.{fields_of, early_refusal}

-- the operation is one of the six, and `used` says what it uses
pub record Chosen (op : ℕ) (used : Used) : Type 0 where
  pub low : 1 ≤ op
  pub high : op ≤ 6
  pub fields : fields_of used ≡ used_by (operation_of op)

module _ (r : Request) where
  pub bad_pad : 3 < r.pad → 1 ≡ early_refusal r
  unfolding early_refusal is_program ◌when◌else◌
  bad_pad h = rw (lt-leb r.pad 3 h)

  module _ (a : r.pad ≤ 3) where
    pub bad_program : 7 < r.program → 1 ≡ early_refusal r
    unfolding early_refusal is_program ◌when◌else◌
    bad_program h = rw (le-leb r.pad 3 a, lt-leb r.program 7 h)

    module _ (b : r.program ≤ 7) where
      pub low_op : r.op < 1 → 2 ≡ early_refusal r
      unfolding early_refusal between ◌when◌else◌
      low_op h = rw (program_possible r.pad r.program a b, lt-leb 1 r.op h)

      pub high_op : 6 < r.op → 2 ≡ early_refusal r
      unfolding early_refusal between ◌when◌else◌
      high_op h = rw (program_possible r.pad r.program a b, le-leb 1 r.op (omega arith), lt-leb r.op 6 h)

      pub by_fields : (used : Used) → Chosen r.op used → (ok : Bool) → ok ≡ fields_ok (fields_of used) r → (3 when not ok else 0) ≡ early_refusal r
      unfolding early_refusal ◌when◌else◌
      by_fields used k ok e =
          let same : ok ≡ fields_ok (used_by (operation_of r.op)) r = e ∙ ap (λ (u : Fields). fields_ok u r) k.fields in
          rw (program_possible r.pad r.program a b, between_test 1 6 r.op k.low k.high)
          (ap (λ (x : Bool). 3 when not x else 0) same)

pub ruleset form_links = (bad_pad, bad_program, low_op, high_op)

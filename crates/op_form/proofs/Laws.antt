-- Laws for callers: what 1, 2 and 3 say of the step, and what is known of a request that is past them.
use Prim.Native.Nat.{◌≤◌}
use native.Mathlib.Omega.{arith}
use mathlib.Core.Path.{◌≡◌, sym, ap, ◌∙◌}
use mathlib.Core.Bool.{true, not}
use borrow.Author.Tests.{not-false, ne_eqb}
use Rattle.lists.specs.Tests.{between}
use Rattle.lists.proofs.Tests.{Case, pass, fail, case, and_l, and_r, between_low, between_high}
use Rattle.tables.specs.declared.Tables.{Tables}
use Rattle.tables.specs.Names.{is_program}
use Rattle.tables.proofs.NameLaws.{Possible, is_program_lem}
use Rattle.machine.specs.declared.Request.{Request}
use Rattle.machine.specs.State.{State, refused}
use Rattle.machine.specs.Refusal.{◌when◌else◌}
use Rattle.machine.specs.Operation.{Fields, taking, passing, recalling, reading, operation_of, used_by, field_ok, fields_ok}
use Rattle.machine.specs.Step.{own_refusal, request_refusal, outcome, serve}
use Rattle.machine.proofs.RefusalLaws.{when_past, when_at_most, own_decides}
use Rattle.op_form.specs.Early.{early_refusal}
use Rattle.op_form.proofs.Numbers.{op_take, op_pass, ticket_used, sheet_used}

-- ---- the three tests passed
record Tests (r : Request) : Type 0 where
  program : is_program r.pad r.program ≡ true
  op : between 1 6 r.op ≡ true
  fields : fields_ok (used_by (operation_of r.op)) r ≡ true

tests : (r : Request) → early_refusal r ≡ 0 → Tests r
unfolding early_refusal
tests r z =
    let p = when_past 1 (not (is_program r.pad r.program)) _ 0 (λ q. omega arith) z in
    let o = when_past 2 (not (between 1 6 r.op)) _ 0 (λ q. omega arith) p.1 in
    let f = when_past 3 (not (fields_ok (used_by (operation_of r.op)) r)) 0 0 (λ q. omega arith) o.1 in
    record {
      program = not-false (is_program r.pad r.program) p.0;
      op = not-false (between 1 6 r.op) o.0;
      fields = not-false (fields_ok (used_by (operation_of r.op)) r) f.0;
    }

-- ---- the answer
pub at_most_3 : (r : Request) → early_refusal r ≤ 3
unfolding early_refusal
at_most_3 r =
    when_at_most 3 1 _ _ (omega arith) (when_at_most 3 2 _ _ (omega arith) (when_at_most 3 3 _ 0 (omega arith) (omega arith)))

module _ (t : Tables) (r : Request) where
  -- past 1, 2 and 3 the operation's own tests decide
  pub past_early : early_refusal r ≡ 0 → request_refusal t r ≡ own_refusal (operation_of r.op) t r
  past_early z = let k = tests r z in own_decides t r k.program k.op k.fields

  -- and otherwise they do not
  pub stopped_early : (early_refusal r ≡ 0 → ⊥) → request_refusal t r ≡ early_refusal r
  unfolding request_refusal early_refusal ◌when◌else◌
  stopped_early ne = go (case (is_program r.pad r.program)) (case (between 1 6 r.op)) (case (fields_ok (used_by (operation_of r.op)) r))
    where
      go : Case (is_program r.pad r.program) → Case (between 1 6 r.op) → Case (fields_ok (used_by (operation_of r.op)) r)
          → request_refusal t r ≡ early_refusal r
      go (fail p) _ _ = rw p
      go (pass p) (fail o) _ = rw (p, o)
      go (pass p) (pass o) (fail f) = rw (p, o, f)
      go (pass p) (pass o) (pass f) = absurd (ne (rw (p, o, f)))

-- ---- the step past 13 and 14
module _ (s : State) (r : Request) where
  pub serve_past : early_refusal r ≡ 0 → serve s r ≡ outcome s r (own_refusal (operation_of r.op) s.tables r)
  unfolding serve
  serve_past z = ap (outcome s r) (past_early s.tables r z)

  -- 1, 2 and 3 change nothing
  pub serve_stopped : (early_refusal r ≡ 0 → ⊥) → serve s r ≡ refused s (early_refusal r)
  unfolding serve outcome
  serve_stopped ne =
      ap (outcome s r) (stopped_early s.tables r ne)
      ∙ rw (ne_eqb (early_refusal r) 0 ne, ne_eqb (early_refusal r) 12 (λ e. omega (arith, at_most_3 r)))

-- ---- what is known of a request past 1, 2 and 3
pub sender_possible : (r : Request) → early_refusal r ≡ 0 → Possible r.pad r.program
sender_possible r z = is_program_lem r.pad r.program (tests r z).program

pub op_low : (r : Request) → early_refusal r ≡ 0 → 1 ≤ r.op
op_low r z = between_low 1 6 r.op (tests r z).op

pub op_high : (r : Request) → early_refusal r ≡ 0 → r.op ≤ 6
op_high r z = between_high 1 6 r.op (tests r z).op

-- each operation's used fields
pub record TakeFields (r : Request) : Type 0 where
  pub count_low : 1 ≤ r.count
  pub count_high : r.count ≤ 256
  pub rights_low : 1 ≤ r.rights
  pub rights_high : r.rights ≤ 7

pub record PassFields (r : Request) : Type 0 where
  pub ticket : 1 ≤ r.ticket
  pub recipient : Possible r.topad r.toprogram
  pub first : r.first ≤ 255
  pub count_low : 1 ≤ r.count
  pub count_high : r.count ≤ 256
  pub rights_low : 1 ≤ r.rights
  pub rights_high : r.rights ≤ 7

-- recall and give back
pub record TicketFields (r : Request) : Type 0 where
  pub ticket : 1 ≤ r.ticket

-- read and write
pub record SheetFields (r : Request) : Type 0 where
  pub ticket : 1 ≤ r.ticket
  pub first : r.first ≤ 255

-- the test of each field
record FieldTests (used : Fields) (r : Request) : Type 0 where
  ticket : field_ok used.ticket 1 65535 r.ticket ≡ true
  topad : field_ok used.recipient 0 3 r.topad ≡ true
  toprogram : field_ok used.recipient 0 7 r.toprogram ≡ true
  first : field_ok used.first 0 255 r.first ≡ true
  count : field_ok used.count 1 256 r.count ≡ true
  rights : field_ok used.rights 1 7 r.rights ≡ true

field_tests : (used : Fields) (r : Request) → fields_ok used r ≡ true → FieldTests used r
unfolding fields_ok
field_tests used r e = record {
  ticket = search (and_l, and_r) depth 8;
  topad = search (and_l, and_r) depth 8;
  toprogram = search (and_l, and_r) depth 8;
  first = search (and_l, and_r) depth 8;
  count = search (and_l, and_r) depth 8;
  rights = search (and_l, and_r) depth 8;
}

module _ (r : Request) (z : early_refusal r ≡ 0) where
  tests_of : (used : Fields) → used_by (operation_of r.op) ≡ used → FieldTests used r
  tests_of used e = field_tests used r (ap (λ (u : Fields). fields_ok u r) (sym e) ∙ (tests r z).fields)

  pub take_fields : r.op ≡ 1 → TakeFields r
  unfolding used_by field_ok
  take_fields e =
      let f = tests_of (used_by taking) (ap used_by (op_take r.op e)) in
      record {
        count_low = between_low 1 256 r.count f.count;
        count_high = between_high 1 256 r.count f.count;
        rights_low = between_low 1 7 r.rights f.rights;
        rights_high = between_high 1 7 r.rights f.rights;
      }

  pub pass_fields : r.op ≡ 2 → PassFields r
  unfolding used_by field_ok
  pass_fields e =
      let f = tests_of (used_by passing) (ap used_by (op_pass r.op e)) in
      record {
        ticket = between_low 1 65535 r.ticket f.ticket;
        recipient = record { pad = between_high 0 3 r.topad f.topad; program = between_high 0 7 r.toprogram f.toprogram };
        first = between_high 0 255 r.first f.first;
        count_low = between_low 1 256 r.count f.count;
        count_high = between_high 1 256 r.count f.count;
        rights_low = between_low 1 7 r.rights f.rights;
        rights_high = between_high 1 7 r.rights f.rights;
      }

  pub ticket_fields : 3 ≤ r.op → r.op ≤ 4 → TicketFields r
  unfolding used_by field_ok
  ticket_fields l h =
      let f = tests_of (used_by recalling) (ticket_used r.op l h) in
      record { ticket = between_low 1 65535 r.ticket f.ticket }

  pub sheet_fields : 5 ≤ r.op → SheetFields r
  unfolding used_by field_ok
  sheet_fields l =
      let f = tests_of (used_by reading) (sheet_used r.op l (op_high r z)) in
      record { ticket = between_low 1 65535 r.ticket f.ticket; first = between_high 0 255 r.first f.first }

-- "who can read what": the printed grants are those whose holder's read the dock lets through.
use Prim.Native.Nat.{ℕ}
use native.Mathlib.Omega.{arith}
use mathlib.Core.Path.{◌≡◌, refl, sym, subst, ◌∙◌}
use mathlib.Core.Logic.{◌↔◌}
use mathlib.Core.Bool.{true, false, not}
use lib.Dec.{leb}
use borrow.Author.Tests.{leb-false, lt-leb, not-false}
use Rattle.lists.proofs.Tests.{and_l, and_r, and_intro, cannot_pass}
use Rattle.lists.specs.Tests.{between}
use Rattle.rights.specs.Rules.{rights_of, within}
use Rattle.tables.specs.declared.Tables.{Tables}
use Rattle.tables.specs.Names.{is_program}
use Rattle.tables.specs.Kinds.{is_live, is_grant, is_recall}
use Rattle.tables.specs.Lookup.{entry_of}
use Rattle.tables.proofs.KindLaws.{grant_of, live_grant, grant_recall}
use Rattle.machine.specs.declared.Request.{Request}
use Rattle.machine.specs.State.{asked_name, asked}
use Rattle.machine.specs.Refusal.{◌when◌else◌}
use Rattle.machine.specs.Operation.{operation_of, used_by, fields_ok}
use Rattle.machine.specs.Access.{access_refusal}
use Rattle.machine.specs.Step.{own_refusal, request_refusal}
use Rattle.machine.proofs.RefusalLaws.{when_past}
use Rattle.preservation.proofs.DockCheck.{access_as_listed}
use Rattle.preservation.specs.InOrder.{InOrder}
use Rattle.report.specs.Rows.{is_listed}
use Rattle.report.specs.Complete.{Shown, in_form, ReadIfShown, WrittenIfShown}
use Rattle.report.proofs.Printed.{printed_listed}

-- past 1 to 3
shown_is_accepted : (t : Tables) → InOrder t → (r : Request) (right : ℕ) → between 1 2 right ≡ true → (access_refusal right t r ≡ 0) ↔ Shown t r right
unfolding is_listed ◌when◌else◌
shown_is_accepted t now r right one_right = (to, back)
  where
    to : access_refusal right t r ≡ 0 → Shown t r right
    to e =
        let a = when_past 4 (not (is_live (asked t r).kind)) _ 0 (λ z. omega (arith, z)) (sym (access_as_listed t now r right one_right) ∙ e) in
        let b = when_past 5 (is_recall (asked t r).kind) _ 0 (λ z. omega (arith, z)) a.1 in
        let c = when_past 6 (leb (asked t r).count r.first) _ 0 (λ z. omega (arith, z)) b.1 in
        let d = when_past 7 (not (within (rights_of right) (asked t r).rights)) _ 0 (λ z. omega (arith, z)) c.1 in
        let f = when_past 12 (not (entry_of t (asked t r).dock).live) _ 0 (λ z. omega (arith, z)) d.1 in
        let grant : is_grant (asked t r).kind ≡ true = grant_of (asked t r).kind (not-false (is_live (asked t r).kind) a.0) b.0 in
        record {
          row = (printed_listed t now (asked_name r)).1 (and_intro grant (not-false (entry_of t (asked t r).dock).live f.0));
          held = not-false (within (rights_of right) (asked t r).rights) d.0;
          sheet = leb-false (asked t r).count r.first c.0;
        }

    back : Shown t r right → access_refusal right t r ≡ 0
    back s =
        let l = (printed_listed t now (asked_name r)).0 s.row in
        let grant : is_grant (asked t r).kind ≡ true = and_l (is_grant (asked t r).kind) (entry_of t (asked t r).dock).live l in
        let live : (entry_of t (asked t r).dock).live ≡ true = and_r (is_grant (asked t r).kind) (entry_of t (asked t r).dock).live l in
        let no_recall : is_recall (asked t r).kind ≡ false = cannot_pass _ (λ q. grant_recall (asked t r).kind grant q) in
        access_as_listed t now r right one_right
        ∙ rw (live_grant (asked t r).kind grant, no_recall, lt-leb (asked t r).count r.first s.sheet, s.held, live) refl

module _ (t : Tables) (r : Request) (formed : in_form r ≡ true) where
  past_form : (op : ℕ) → r.op ≡ op → between 1 6 op ≡ true → request_refusal t r ≡ own_refusal (operation_of op) t r
  unfolding request_refusal in_form ◌when◌else◌
  past_form op is known =
      let sender = and_l (is_program r.pad r.program) (fields_ok (used_by (operation_of r.op)) r) formed in
      let fields = and_r (is_program r.pad r.program) (fields_ok (used_by (operation_of r.op)) r) formed in
      rw (sender, fields, is, known)

  read_refusal : r.op ≡ 5 → request_refusal t r ≡ access_refusal 1 t r
  unfolding own_refusal operation_of between
  read_refusal is = past_form 5 is refl

  write_refusal : r.op ≡ 6 → request_refusal t r ≡ access_refusal 2 t r
  unfolding own_refusal operation_of between
  write_refusal is = past_form 6 is refl

pub read_if_shown : ReadIfShown
unfolding between
read_if_shown t now r formed is =
    subst (λ (n : ℕ). (n ≡ 0) ↔ Shown t r 1) (sym (read_refusal t r formed is)) (shown_is_accepted t now r 1 refl)

pub written_if_shown : WrittenIfShown
unfolding between
written_if_shown t now r formed is =
    subst (λ (n : ℕ). (n ≡ 0) ↔ Shown t r 2) (sym (write_refusal t r formed is)) (shown_is_accepted t now r 2 refl)

-- A request gets the same refusal on two tables in order that are the same: every test looks only at what they have in common. The dock's
-- own check too.
use Prim.Native.Nat.{ℕ, ◌≤◌}
use native.Mathlib.Omega.{arith}
use mathlib.Core.Path.{◌≡◌, sym, ap}
use mathlib.Core.Bool.{true, not}
use lib.Dec.{leb}
use Rattle.tables.specs.declared.{Name.Name, Tables.Tables}
use Rattle.tables.specs.Order.{in_order}
use Rattle.tables.specs.Same.{SameTables}
use Rattle.tables.proofs.NameLaws.{is_program_lem}
use Rattle.machine.specs.declared.Request.{Request}
use Rattle.machine.specs.State.{asked_name, asked}
use Rattle.machine.specs.Refusal.{◌when◌else◌, is_spent}
use Rattle.machine.specs.Operation.{Operation, taking, passing, recalling, giving_back, reading, writing, operation_of, used_by, fields_ok}
use Rattle.machine.specs.Dock.{dock_refusal, dock_check}
use Rattle.machine.specs.Take.{take_refusal}
use Rattle.machine.specs.Pass.{pass_refusal}
use Rattle.machine.specs.Recall.{recall_refusal}
use Rattle.machine.specs.GiveBack.{give_back_refusal}
use Rattle.machine.specs.Access.{sheet_of, access_refusal}
use Rattle.machine.specs.Step.{own_refusal, request_refusal}
use Rattle.machine.proofs.RefusalLaws.{agree_for_grants, refusals_agree}
use Rattle.preservation.specs.InOrder.{InOrder}
use Rattle.preservation.proofs.Preconditions.{pass_fields}
use Rattle.sameness.proofs.SaidFacts.{same_kind, same_first, same_count, same_rights, same_dock, same_live, same_entry_first, same_entry_count, same_entry_rights}
use Rattle.sameness.proofs.SamePlaces.{place_same, has_run_same}
use Rattle.tables.specs.Kinds.{is_live, is_grant, is_recall}

module _ (t u : Tables) (same : SameTables t u) where
  -- ---- the dock's check
  dock_same : (n : Name) (sheet right : ℕ) → dock_refusal t n sheet right ≡ dock_refusal u n sheet right
  unfolding dock_refusal
  dock_same n sheet right = rw (same_live t u same n, same_entry_first t u same n, same_entry_count t u same n, same_entry_rights t u same n)

  pub same_dock_check : in_order t ≡ true → in_order u ≡ true → (n : Name) (sheet right : ℕ) → dock_check t n sheet right ≡ dock_check u n sheet right
  unfolding dock_check
  same_dock_check o o' n sheet right = rw (o, o', dock_same n sheet right)

  spent_same : (p q : ℕ) → p ≤ 3 → q ≤ 7 → is_spent t p q ≡ is_spent u p q
  unfolding is_spent
  spent_same p q b c = ap (leb 65535) (same.lasts p q (omega arith) (omega arith))

  module _ (r : Request) where
    kind : (asked t r).kind ≡ (asked u r).kind
    kind = same_kind t u same (asked_name r)

    -- how a read, a write and a pass begin; what follows need agree only for a grant
    starts : (a b : ℕ) → (is_grant (asked t r).kind ≡ true → a ≡ b)
        → (4 when not (is_live (asked t r).kind) else 5 when is_recall (asked t r).kind else a)
        ≡ (4 when not (is_live (asked u r).kind) else 5 when is_recall (asked u r).kind else b)
    starts a b h = rw (sym kind) (agree_for_grants (asked t r).kind a b h)

    access_same : (right : ℕ) → access_refusal right t r ≡ access_refusal right u r
    unfolding access_refusal
    access_same right =
        starts _ _
        (λ g. rw (
          same_count t u same (asked_name r) g,
          same_rights t u same (asked_name r) g,
          same_dock t u same (asked_name r) g,
          same_first t u same (asked_name r) g,
          dock_same (asked u r).dock (sheet_of u r) right,
        ))

    recall_same : recall_refusal t r ≡ recall_refusal u r
    unfolding recall_refusal
    recall_same = rw kind

    give_back_same : give_back_refusal t r ≡ give_back_refusal u r
    unfolding give_back_refusal
    give_back_same = rw kind

    -- ---- operations that need a free place, of possible programs
    module _ (ok : InOrder t) (ok' : InOrder u) (p : r.pad ≤ 3) (q : r.program ≤ 7) where
      take_same : take_refusal t r ≡ take_refusal u r
      unfolding take_refusal
      take_same =
          rw (place_same t u ok ok' same r.pad r.program p q, spent_same r.pad r.program p q, has_run_same t u ok ok' same r.count)

      pass_same : r.topad ≤ 3 → r.toprogram ≤ 7 → pass_refusal t r ≡ pass_refusal u r
      unfolding pass_refusal
      pass_same b c =
          starts _ _
          (λ g. rw (
            same_count t u same (asked_name r) g,
            same_rights t u same (asked_name r) g,
            same_dock t u same (asked_name r) g,
            place_same t u ok ok' same r.pad r.program p q,
            place_same t u ok ok' same r.topad r.toprogram b c,
            spent_same r.pad r.program p q,
            spent_same r.topad r.toprogram b c,
            same_live t u same (asked u r).dock,
          ))

      own_same : (o : Operation) → fields_ok (used_by o) r ≡ true → own_refusal o t r ≡ own_refusal o u r
      unfolding own_refusal
      own_same taking f = take_same
      own_same passing f = let w = pass_fields r f in pass_same w.0 w.1
      own_same recalling f = recall_same
      own_same giving_back f = give_back_same
      own_same reading f = access_same 1
      own_same writing f = access_same 2

    -- past 13 and 14
    pub refusal_same : InOrder t → InOrder u → request_refusal t r ≡ request_refusal u r
    refusal_same ok ok' =
        refusals_agree t u r
        (λ p o f. let sender = is_program_lem r.pad r.program p in own_same ok ok' sender.pad sender.program (operation_of r.op) f)

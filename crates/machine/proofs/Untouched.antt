-- "Every refusal leaves tables, store and sheet buffer untouched, except 12, which drops tickets .., and only those": of every request, by its
-- result.
use Prim.Native.Nat.{ℕ}
use native.Mathlib.Omega.{arith}
use mathlib.Core.Path.{◌≡◌, refl, sym, ◌∙◌}
use lib.Dec.{eqb}
use Rattle.lists.proofs.Tests.{Case, pass, fail, case}
use Rattle.machine.specs.declared.Request.{Request}
use Rattle.machine.specs.State.{State, accepted, refused, with_tables}
use Rattle.machine.specs.Operation.{Operation, taking, passing, recalling, giving_back, reading, writing, operation_of}
use Rattle.machine.specs.Take.{after_take}
use Rattle.machine.specs.Pass.{after_pass}
use Rattle.machine.specs.Recall.{after_recall}
use Rattle.machine.specs.GiveBack.{after_give_back}
use Rattle.machine.specs.Access.{after_read, after_write}
use Rattle.machine.specs.Step.{refusal, after_own, outcome, step}

-- an accepted operation answers 0
pub own_result : (o : Operation) (s : State) (r : Request) → (after_own o s r).answer.result ≡ 0
unfolding after_own accepted after_take after_pass after_recall after_give_back after_read after_write
own_result taking s r = refl
own_result passing s r = refl
own_result recalling s r = refl
own_result giving_back s r = refl
own_result reading s r = refl
own_result writing s r = refl

module _ (s : State) (r : Request) where
  untouched : ((step s r).answer.result ≡ 0 → ⊥) → ((step s r).answer.result ≡ 12 → ⊥) → Case (eqb (refusal s r) 0) → Case (eqb (refusal s r) 12)
      → (step s r).state ≡ s
  unfolding step outcome refused
  untouched a b (pass e) _ = absurd (a (rw e (own_result (operation_of r.op) s r)))
  untouched a b (fail f) (pass e) = absurd (b (rw (f, e) refl))
  untouched a b (fail f) (fail e) = rw (f, e) refl

  pub refused_leaves : ((step s r).answer.result ≡ 0 → ⊥) → ((step s r).answer.result ≡ 12 → ⊥) → (step s r).state ≡ s
  refused_leaves a b = untouched a b (case (eqb (refusal s r) 0)) (case (eqb (refusal s r) 12))

  -- on 12 only tickets go
  dropped : (step s r).answer.result ≡ 12 → Case (eqb (refusal s r) 0) → Case (eqb (refusal s r) 12)
      → ((step s r).state.store ≡ s.store) × ((step s r).state.sheet ≡ s.sheet)
  unfolding step outcome refused with_tables
  dropped a (pass e) _ =
      let z : ◌≡◌ {A = ℕ} 0 12 = sym (own_result (operation_of r.op) s r) ∙ (rw e at a) in
      absurd (omega arith)
  dropped a (fail f) (pass e) = rw (f, e) (refl, refl)
  dropped a (fail f) (fail e) = rw (f, e) (refl, refl)

  pub dropped_leaves : (step s r).answer.result ≡ 12 → ((step s r).state.store ≡ s.store) × ((step s r).state.sheet ≡ s.sheet)
  dropped_leaves a = dropped a (case (eqb (refusal s r) 0)) (case (eqb (refusal s r) 12))

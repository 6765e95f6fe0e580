-- What a read or a write knows of its ticket where it is refused and where it is accepted, and what it leaves.
use Prim.Native.Nat.{ℕ, ◌<◌}
use native.Mathlib.Omega.{arith}
use mathlib.Core.Path.{◌≡◌, refl, sym, ◌∙◌}
use mathlib.Core.Bool.{true}
use mathlib.Core.List.{List}
use Rattle.tables.specs.declared.{Ticket.Ticket, Tables.Tables}
use Rattle.tables.specs.Kinds.{is_grant}
use Rattle.std.specs.Prelude.{Ok, Err}
use Rattle.machine.specs.declared.{Request.Request, Answer.Answer, Refusal.Refusal}
use Rattle.machine.specs.Refusal.{number_of}
use Rattle.machine.specs.State.{asked, accepted, sheet_at, put_sheets, state_of}
use Rattle.machine.specs.Operation.{Operation, reading, writing, operation_of}
use Rattle.machine.specs.Access.{sheet_of, access_refusal, after_read, after_write}
use Rattle.machine.specs.Step.{own_refusal, after_own, serve}
use Rattle.machine.proofs.RefusalLaws.{never_zero}
use Rattle.op_form.specs.Early.{early_refusal}
use Rattle.op_refusals.proofs.Results.{access_grant, sheet_low}
use Rattle.op_outcome.specs.Outcomes.{outcome_of, plainly, Serves}
use Rattle.op_outcome.specs.Ready.{Ready}
use Rattle.op_access.specs.Decides.{DecidesFor}
use Rattle.op_outcome.specs.Refusing.{MayRefuse, Refuses}
use Rattle.op_outcome.proofs.Laws.{may_refuse, refuses, served_done}

module _ (right : ℕ) (t : Tables) (r : Request) (early : early_refusal r ≡ 0) where
  -- it is refused
  module _ (ready : Ready t) {refusal : Refusal} (is : DecidesFor right t r (Err refusal)) (k : Ticket) (found : asked t r ≡ k) where
    grant : number_of refusal ≡ 12 → is_grant (asked t r).kind ≡ true
    grant e = access_grant t r 12 (λ z. omega (arith, z)) (λ z. omega (arith, z)) right (sym is.result ∙ e)

    module _ (n : ℕ) (of : n ≡ number_of refusal) where
      not_zero : n ≡ 0 → ⊥
      not_zero z = never_zero refusal (sym of ∙ z)

      pub may_be_refused : MayRefuse t n k
      may_be_refused = may_refuse t r early n not_zero k found ready (λ e. grant (sym of ∙ e))

      -- for the operation that needs that right
      pub refused : (op : Operation) → operation_of r.op ≡ op → own_refusal op t r ≡ access_refusal right t r
          → {a : Answer} {image store sheet : List ℕ} → Refuses t n k a image → Serves (serve (state_of t store sheet) r) a image store sheet
      refused op o own left = refuses t r early n not_zero k found ready (λ e. grant (sym of ∙ e)) left op o (own ∙ sym (of ∙ is.result))

  -- it is accepted
  module _ {at : ℕ} (is : DecidesFor right t r (Ok at)) where
    pub sheet_in_store : at < 256
    sheet_in_store = omega (arith, is.sheet, sheet_low right t r (sym is.result))

    pub done : (op : Operation) → operation_of r.op ≡ op → own_refusal op t r ≡ access_refusal right t r
        → (store sheet : List ℕ) → after_own op (state_of t store sheet) r ≡ serve (state_of t store sheet) r
    done op o own store sheet = served_done t store sheet r early op o (own ∙ sym is.result)

module _ (t : Tables) (r : Request) where
  pub own_read : own_refusal reading t r ≡ access_refusal 1 t r
  unfolding own_refusal
  own_read = refl

  pub own_write : own_refusal writing t r ≡ access_refusal 2 t r
  unfolding own_refusal
  own_write = refl

  module _ (store sheet : List ℕ) where
    pub after_read_lem : outcome_of (plainly 0) t store (sheet_at (sheet_of t r) store) ≡ after_own reading (state_of t store sheet) r
    unfolding after_own after_read accepted
    after_read_lem = refl

    pub after_write_lem : outcome_of (plainly 0) t (put_sheets (sheet_of t r) sheet store) sheet ≡ after_own writing (state_of t store sheet) r
    unfolding after_own after_write accepted
    after_write_lem = refl

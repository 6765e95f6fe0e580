-- What a refusal's number says of the ticket asked for.
use Prim.Native.Nat.{ℕ, ◌<◌}
use native.Mathlib.Omega.{arith}
use mathlib.Core.Path.{◌≡◌}
use mathlib.Core.Bool.{Bool, true, not}
use lib.Dec.{leb}
use borrow.Author.Tests.{not-false}
use Rattle.rights.specs.Rules.{rights_of, within}
use Rattle.tables.specs.declared.{Kind.Kind, Tables.Tables}
use Rattle.tables.specs.Kinds.{is_live, is_grant, is_taken, is_recall}
use Rattle.tables.proofs.KindLaws.{grant_of}
use Rattle.machine.specs.declared.Request.{Request}
use Rattle.machine.specs.State.{asked}
use Rattle.machine.specs.Refusal.{◌when◌else◌}
use Rattle.machine.specs.Pass.{pass_refusal}
use Rattle.machine.specs.Recall.{recall_refusal}
use Rattle.machine.specs.GiveBack.{give_back_refusal}
use Rattle.machine.specs.Access.{sheet_of, access_refusal}
use Rattle.machine.proofs.RefusalLaws.{when_past, when_at_most}
use Rattle.op_check.proofs.Laws.{accepted_sheet}
use Rattle.op_refusals.specs.Parts.{kind_refusal}

-- neither 4 nor 5
past_kinds : (k : Kind) (later n : ℕ) → (4 ≡ n → ⊥) → (5 ≡ n → ⊥) → (4 when not (is_live k) else 5 when is_recall k else later) ≡ n → is_grant k ≡ true
past_kinds k later n ne ne' e =
    let p₄ = when_past 4 (not (is_live k)) _ n ne e in
    let p₅ = when_past 5 (is_recall k) _ n ne' p₄.1 in
    grant_of k (not-false _ p₄.0) p₅.0

-- 4, 5 and 0 are not 12
not_lost : (kind : Kind) (wanted : Bool) → kind_refusal kind wanted ≡ 12 → ⊥
unfolding kind_refusal
not_lost kind wanted e =
    let high = when_at_most 5 4 (not (is_live kind)) _ (omega arith) (when_at_most 5 5 (not wanted) 0 (omega arith) (omega arith)) in
    omega (arith, e, high)

module _ (t : Tables) (r : Request) where
  pub recall_not_lost : recall_refusal t r ≡ 12 → ⊥
  unfolding recall_refusal kind_refusal
  recall_not_lost e = not_lost (asked t r).kind (is_recall (asked t r).kind) e

  pub give_back_not_lost : give_back_refusal t r ≡ 12 → ⊥
  unfolding give_back_refusal kind_refusal
  give_back_not_lost e = not_lost (asked t r).kind (is_taken (asked t r).kind) e

  pub gives_taken : give_back_refusal t r ≡ 0 → is_taken (asked t r).kind ≡ true
  unfolding give_back_refusal
  gives_taken e =
      let p₄ = when_past 4 (not (is_live (asked t r).kind)) _ 0 (λ z. omega (arith, z)) e in
      not-false _ (when_past 5 (not (is_taken (asked t r).kind)) 0 0 (λ z. omega (arith, z)) p₄.1).0

module _ (t : Tables) (r : Request) (n : ℕ) (ne : 4 ≡ n → ⊥) (ne' : 5 ≡ n → ⊥) where
  pub pass_grant : pass_refusal t r ≡ n → is_grant (asked t r).kind ≡ true
  unfolding pass_refusal
  pass_grant e = past_kinds (asked t r).kind _ n ne ne' e

  pub access_grant : (right : ℕ) → access_refusal right t r ≡ n → is_grant (asked t r).kind ≡ true
  unfolding access_refusal
  access_grant right e = past_kinds (asked t r).kind _ n ne ne' e

pub sheet_low : (right : ℕ) (t : Tables) (r : Request) → access_refusal right t r ≡ 0 → sheet_of t r < 256
unfolding access_refusal
sheet_low right t r e =
    let k = asked t r in
    let p₄ = when_past 4 (not (is_live k.kind)) _ 0 (λ z. omega (arith, z)) e in
    let p₅ = when_past 5 (is_recall k.kind) _ 0 (λ z. omega (arith, z)) p₄.1 in
    let p₆ = when_past 6 (leb k.count r.first) _ 0 (λ z. omega (arith, z)) p₅.1 in
    let p₇ = when_past 7 (not (within (rights_of right) k.rights)) _ 0 (λ z. omega (arith, z)) p₆.1 in
    omega (arith, accepted_sheet t k.dock (sheet_of t r) right p₇.1)

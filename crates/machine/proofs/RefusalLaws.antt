-- Laws of a chain of refusals: link by link, what an answer at its end says of the tests before it; and where two chains agree.
use Prim.Native.Nat.{ℕ, ◌≤◌}
use native.Mathlib.Omega.{arith}
use mathlib.Core.Path.{◌≡◌, refl}
use mathlib.Core.Bool.{Bool, true, false, not}
use lib.Dec.{eqb}
use lib.ListN.{length}
use borrow.Author.Tests.{eqb-true}
use Rattle.lists.specs.Tests.{between}
use Rattle.lists.proofs.Tests.{Case, pass, fail, case, and_l, and_r}
use Rattle.tables.specs.declared.{Kind.Kind, Tables.Tables}
use Rattle.tables.specs.Names.{is_program}
use Rattle.tables.proofs.KindLaws.{grant_of}
use Rattle.machine.specs.declared.Request.{Request}
use Rattle.machine.specs.State.{State, refused}
use Rattle.machine.specs.declared.Refusal.{Refusal}
use Rattle.machine.specs.declared.Refusal.TheVariants.{NoProgram, NoOperation, Field, NoTicket, WrongKind, Beyond, RightLacking, ToOneself, NoPlace, NoNumber, NoRun, NoEntry, Length, NotInOrder, OtherForm, Scratch, TooShort, BadText}
use Rattle.machine.specs.Refusal.{◌when◌else◌, number_of}
use Rattle.machine.specs.Operation.{operation_of, used_by, fields_ok}
use Rattle.machine.specs.Step.{own_refusal, request_refusal, lengths_ok, refusal, outcome, step}
use Rattle.tables.specs.Kinds.{is_live, is_grant, is_recall}

-- no refusal's number is 0, which says that a call is done
pub never_zero : (refusal : Refusal) → number_of refusal ≡ 0 → ⊥
never_zero NoProgram e = omega arith
never_zero NoOperation e = omega arith
never_zero Field e = omega arith
never_zero NoTicket e = omega arith
never_zero WrongKind e = omega arith
never_zero Beyond e = omega arith
never_zero RightLacking e = omega arith
never_zero ToOneself e = omega arith
never_zero NoPlace e = omega arith
never_zero NoNumber e = omega arith
never_zero NoRun e = omega arith
never_zero NoEntry e = omega arith
never_zero Length e = omega arith
never_zero NotInOrder e = omega arith
never_zero OtherForm e = omega arith
never_zero Scratch e = omega arith
never_zero TooShort e = omega arith
never_zero BadText e = omega arith

-- the answer came later: the test failed
pub when_past : (n : ℕ) (b : Bool) (later c : ℕ) → (n ≡ c → ⊥) → (n when b else later) ≡ c → (b ≡ false) × (later ≡ c)
unfolding ◌when◌else◌
when_past n true later c ne e = absurd (ne e)
when_past n false later c ne e = (refl, e)

-- the answer cannot have come later: the test passed
pub when_here : (n : ℕ) (b : Bool) (later : ℕ) → (later ≡ n → ⊥) → (n when b else later) ≡ n → b ≡ true
unfolding ◌when◌else◌
when_here n true later ne e = refl
when_here n false later ne e = absurd (ne e)

pub when_at_most : (m n : ℕ) (b : Bool) (later : ℕ) → n ≤ m → later ≤ m → (n when b else later) ≤ m
unfolding ◌when◌else◌
when_at_most m n true later p q = p
when_at_most m n false later p q = q

-- two chains that begin with 4 and 5 for a ticket of one kind agree, if they agree for a grant
pub agree_for_grants : (k : Kind) (a b : ℕ) → (is_grant k ≡ true → a ≡ b)
    → (4 when not (is_live k) else 5 when is_recall k else a) ≡ (4 when not (is_live k) else 5 when is_recall k else b)
unfolding ◌when◌else◌
agree_for_grants k a b same = go (case (is_live k)) (case (is_recall k))
  where
    go : Case (is_live k) → Case (is_recall k) → (4 when not (is_live k) else 5 when is_recall k else a) ≡ (4 when not (is_live k) else 5 when is_recall k else b)
    go (fail l) _ = rw l
    go (pass l) (pass r) = rw (l, r)
    go (pass l) (fail r) = rw (l, r) (same (grant_of k l r))

-- ---- 1, 2 and 3 do not look at the tables
-- past them the operation's own tests decide
pub own_decides : (t : Tables) (r : Request) → is_program r.pad r.program ≡ true → between 1 6 r.op ≡ true
    → fields_ok (used_by (operation_of r.op)) r ≡ true → request_refusal t r ≡ own_refusal (operation_of r.op) t r
unfolding request_refusal ◌when◌else◌
own_decides t r p o f = rw (p, o, f)

-- so tables on which these agree get the same refusal
pub refusals_agree : (t u : Tables) (r : Request)
    → (is_program r.pad r.program ≡ true → between 1 6 r.op ≡ true → fields_ok (used_by (operation_of r.op)) r ≡ true
    → own_refusal (operation_of r.op) t r ≡ own_refusal (operation_of r.op) u r)
    → request_refusal t r ≡ request_refusal u r
unfolding request_refusal ◌when◌else◌
refusals_agree t u r same = go (case (is_program r.pad r.program)) (case (between 1 6 r.op)) (case (fields_ok (used_by (operation_of r.op)) r))
  where
    go : Case (is_program r.pad r.program) → Case (between 1 6 r.op) → Case (fields_ok (used_by (operation_of r.op)) r)
        → request_refusal t r ≡ request_refusal u r
    go (fail p) _ _ = rw p
    go (pass p) (fail o) _ = rw (p, o)
    go (pass p) (pass o) (fail f) = rw (p, o, f)
    go (pass p) (pass o) (pass f) = rw (p, o, f) (same p o f)

-- ---- 13: with buffers of other lengths nothing changes
pub other_length : (s : State) (r : Request) → lengths_ok s ≡ false → step s r ≡ refused s 13
unfolding step refusal outcome ◌when◌else◌
other_length s r e = rw e

pub whole_lengths : (s : State) → lengths_ok s ≡ true → (length s.store ≡ 16384) × (length s.sheet ≡ 64)
unfolding lengths_ok
whole_lengths s e = (
  eqb-true (length s.store) 16384 (and_l (eqb (length s.store) 16384) (eqb (length s.sheet) 64) e),
  eqb-true (length s.sheet) 64 (and_r (eqb (length s.store) 16384) (eqb (length s.sheet) 64) e),
)

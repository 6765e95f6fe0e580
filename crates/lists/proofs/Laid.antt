-- A list of which the first n places hold what is wanted there: what a loop that writes place after place has after n turns.
use Prim.Native.Nat.{ℕ, ◌+◌, ◌<◌}
use native.Mathlib.Omega.{arith}
use mathlib.Core.Path.{◌≡◌, ◌∙◌}
use mathlib.Core.List.{List}
use lib.Dec.{eqb}
use lib.ListN.{length, get_or, set, replicate, length-replicate, length-set}
use lib.Seq.{get_or-set_same, get_or-set_other}
use borrow.Author.Tests.{eqb-true, eqb-false}
use Rattle.lists.proofs.Tests.{Case, pass, fail, case}

pub record Laid {A : Type 0} (d : A) (size : ℕ) (want : ℕ → A) (n : ℕ) (l : List A) : Type 0 where
  pub long : length l ≡ size
  pub same : (p : ℕ) → p < n → get_or l p d ≡ want p

module _ {A : Type 0} (d : A) (size : ℕ) (want : ℕ → A) where
  pub laid_none : (x : A) → Laid d size want 0 (replicate size x)
  laid_none x = record { long = length-replicate size x; same = λ p h. absurd (omega (arith, h)) }

  pub laid_to : (n m : ℕ) (l : List A) → n ≡ m → Laid d size want n l → Laid d size want m l
  laid_to n m l e laid = record { long = laid.long; same = λ p h. laid.same p (omega arith) }

  module _ (n : ℕ) (l : List A) (x : A) (laid : Laid d size want n l) (low : n < size) (here : x ≡ want n) where
    at : (p : ℕ) → p < n + 1 → Case (eqb p n) → get_or (set l n x) p d ≡ want p
    at p h (pass e) = rw (eqb-true p n e) (get_or-set_same l n x d (omega (arith, laid.long)) ∙ here)
    at p h (fail e) = get_or-set_other l n p x d (eqb-false p n e) ∙ laid.same p (omega (arith, eqb-false p n e))

    pub one_more : Laid d size want (n + 1) (set l n x)
    one_more = record { long = length-set l n x ∙ laid.long; same = λ p h. at p h (case (eqb p n)) }

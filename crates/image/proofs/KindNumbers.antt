-- Kinds by their numbers.
use Prim.Native.Nat.{ℕ, ◌≤◌}
use native.Mathlib.Omega.{arith}
use mathlib.Core.Path.{◌≡◌, ap}
use mathlib.Core.Bool.{true, false}
use lib.Dec.{eqb}
use borrow.Author.Tests.{eqb-false}
use Rattle.lists.proofs.Tests.{Case, pass, fail, case}
use Rattle.tables.specs.Kinds.{is_live, is_grant}
use Rattle.image.specs.Image.{kind_of}

pub free_kind : (n : ℕ) → n ≡ 0 → is_live (kind_of n) ≡ false
unfolding kind_of
free_kind n e = rw e

pub live_kind : (n : ℕ) → (n ≡ 0 → ⊥) → n ≤ 4 → is_live (kind_of n) ≡ true
unfolding kind_of
live_kind n ne h = go (case (eqb n 1)) (case (eqb n 2)) (case (eqb n 3)) (case (eqb n 4))
  where
    go : Case (eqb n 1) → Case (eqb n 2) → Case (eqb n 3) → Case (eqb n 4) → is_live (kind_of n) ≡ true
    go (pass a) b c d = rw a
    go (fail a) (pass b) c d = rw (a, b)
    go (fail a) (fail b) (pass c) d = rw (a, b, c)
    go (fail a) (fail b) (fail c) (pass d) = rw (a, b, c, d)
    go (fail a) (fail b) (fail c) (fail d) = absurd (omega (arith, ne, h, eqb-false n 1 a, eqb-false n 2 b, eqb-false n 3 c, eqb-false n 4 d))

pub grant_kind : (n : ℕ) → 1 ≤ n → n ≤ 3 → is_grant (kind_of n) ≡ true
unfolding kind_of
grant_kind n low high = go (case (eqb n 1)) (case (eqb n 2)) (case (eqb n 3))
  where
    go : Case (eqb n 1) → Case (eqb n 2) → Case (eqb n 3) → is_grant (kind_of n) ≡ true
    go (pass a) b c = rw a
    go (fail a) (pass b) c = rw (a, b)
    go (fail a) (fail b) (pass c) = rw (a, b, c)
    go (fail a) (fail b) (fail c) = absurd (omega (arith, low, high, eqb-false n 1 a, eqb-false n 2 b, eqb-false n 3 c))

pub recall_kind : (n : ℕ) → n ≡ 4 → is_grant (kind_of n) ≡ false
unfolding kind_of
recall_kind n e = ap (λ (k : ℕ). is_grant (kind_of k)) e

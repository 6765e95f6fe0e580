-- An element whatever stands outside its list, and a list that has one element everywhere.
use Prim.Native.Nat.{ℕ, zero, suc, ◌<◌}
use native.Mathlib.Omega.{arith}
use mathlib.Core.Path.{◌≡◌, refl}
use mathlib.Core.List.{List, [], ◌∷◌}
use lib.ListN.{length, get_or, replicate}

module _ {A : Type 0} where
  pub any_default : (l : List A) (i : ℕ) (d e : A) → i < length l → get_or l i d ≡ get_or l i e
  any_default [] i d e h = absurd (omega arith)
  any_default (x ∷ xs) zero d e h = refl
  any_default (x ∷ xs) (suc i) d e h = any_default xs i d e (omega arith)

  pub same_all : (n : ℕ) (x : A) (i : ℕ) → get_or (replicate n x) i x ≡ x
  same_all zero x i = refl
  same_all (suc n) x zero = refl
  same_all (suc n) x (suc i) = same_all n x i

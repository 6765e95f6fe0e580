-- Counting: sums over the numbers below n, how many elements of a list pass, two sums exchanged.
use Prim.Native.Nat.{ℕ, zero, suc, ◌+◌, ◌≤◌, ◌<◌}
use native.Mathlib.Omega.{arith}
use mathlib.Core.Path.{◌≡◌, refl, sym, ap, subst, ◌∙◌}
use mathlib.Core.Bool.{Bool, true, false, cond}
use mathlib.Core.List.{List, [], ◌∷◌, ◌++◌}
use Rattle.lists.proofs.Tests.{Case, pass, fail, case}
use Rattle.lists.specs.Members.{In, first, later, Once, more}
use Rattle.lists.specs.Lists.{count_of, total, count_below}

abbrev pub one : Bool → ℕ
one b = cond b 1 0

unfoldable pub sum_below : ℕ → (ℕ → ℕ) → ℕ
sum_below zero f = 0
sum_below (suc n) f = sum_below n f + f n

pub sum_same : (n : ℕ) (f g : ℕ → ℕ) → ((i : ℕ) → i < n → f i ≡ g i) → sum_below n f ≡ sum_below n g
unfolding sum_below
sum_same zero f g h = refl
sum_same (suc n) f g h = let e = sum_same n f g (λ i b. h i (omega arith)) in omega (arith, e, h n (omega arith))

pub sum_add : (n : ℕ) (f g : ℕ → ℕ) → sum_below n f + sum_below n g ≡ sum_below n (λ i. f i + g i)
unfolding sum_below
sum_add zero f g = refl
sum_add (suc n) f g = omega (arith, sum_add n f g)

pub sum_ones : (n : ℕ) → sum_below n (λ i. 1) ≡ n
unfolding sum_below
sum_ones zero = refl
sum_ones (suc n) = omega (arith, sum_ones n)

pub sum_zeros : (n : ℕ) → sum_below n (λ i. 0) ≡ 0
unfolding sum_below
sum_zeros zero = refl
sum_zeros (suc n) = omega (arith, sum_zeros n)

pub count_sum : (n : ℕ) (test : ℕ → Bool) → count_below n test ≡ sum_below n (λ i. one (test i))
unfolding sum_below count_below
count_sum zero test = refl
count_sum (suc n) test = let e = count_sum n test in ap (λ (k : ℕ). k + one (test n)) e

pub count_zero : (test : ℕ → Bool) → count_below 0 test ≡ 0
unfolding count_below
count_zero test = refl

pub count_next : (m : ℕ) (test : ℕ → Bool) → test m ≡ true → count_below (suc m) test ≡ suc (count_below m test)
unfolding count_below
count_next m test e = rw e (omega arith)

pub count_past : (m : ℕ) (test : ℕ → Bool) → test m ≡ false → count_below (suc m) test ≡ count_below m test
unfolding count_below
count_past m test e = rw e (omega arith)

pub count_same : (f g : ℕ → Bool) (n : ℕ) → ((q : ℕ) → q < n → f q ≡ g q) → count_below n f ≡ count_below n g
unfolding count_below
count_same f g zero h = refl
count_same f g (suc n) h =
    let e : count_below n f ≡ count_below n g = count_same f g n (λ q b. h q (omega arith)) in
    λ i. e i + cond (h n (omega arith) i) 1 0

pub count_most : (n : ℕ) (f : ℕ → Bool) → count_below n f ≤ n
unfolding count_below
count_most zero f = omega arith
count_most (suc n) f = go (f n) (count_most n f)
  where
    go : (b : Bool) → count_below n f ≤ n → count_below n f + cond b 1 0 ≤ suc n
    go true h = omega arith
    go false h = omega arith

-- ---- over a list
module _ {A : Type 0} where
  count_front : (test : A → Bool) (x : A) (xs : List A) → count_of test (x ∷ xs) ≡ one (test x) + count_of test xs
  unfolding count_of
  count_front test x xs = go (test x)
    where
      go : (b : Bool) → cond b (suc (count_of test xs)) (count_of test xs) ≡ one b + count_of test xs
      go true = omega arith
      go false = omega arith

  pub total_append : (f : A → ℕ) (xs ys : List A) → total f (xs ++ ys) ≡ total f xs + total f ys
  unfolding total
  total_append f [] ys = omega arith
  total_append f (x ∷ xs) ys = omega (arith, total_append f xs ys)

  pub total_same : (f g : A → ℕ) (xs : List A) → ((x : A) → In x xs → f x ≡ g x) → total f xs ≡ total g xs
  unfolding total
  total_same f g [] h = refl
  total_same f g (x ∷ xs) h = let e = total_same f g xs (λ y i. h y (later i)) in omega (arith, e, h x (first refl))

  -- the two sums exchanged
  pub exchanged : (n : ℕ) (test : A → ℕ → Bool) (xs : List A) → total (λ x. count_below n (test x)) xs ≡ sum_below n (λ i. count_of (λ x. test x i) xs)
  unfolding total count_of
  exchanged n test [] = sym (sum_zeros n)
  exchanged n test (x ∷ xs) =
      (λ k. count_sum n (test x) k + exchanged n test xs k) ∙ sum_add n (λ i. one (test x i)) (λ i. count_of (λ y. test y i) xs)
      ∙ sym (sum_same n _ _ (λ i b. count_front (λ y. test y i) x xs))

  -- none, where nobody passes; one, where one passes and nobody else
  pub count_none : (test : A → Bool) (xs : List A) → ((x : A) → In x xs → test x ≡ false) → count_of test xs ≡ 0
  unfolding count_of
  count_none test [] h = refl
  count_none test (x ∷ xs) h = rw (h x (first refl)) (count_none test xs (λ y i. h y (later i)))

  pub count_one : (test : A → Bool) (xs : List A) → Once xs → (a : A) → In a xs → test a ≡ true
      → ((x : A) → In x xs → test x ≡ true → x ≡ a) → count_of test xs ≡ 1
  unfolding count_of
  count_one test (x ∷ xs) (more out o) a (first e) p only =
      rw (ap test (sym e) ∙ p) (ap suc (count_none test xs (λ y i. go y i (case (test y)))))
    where
      go : (y : A) → In y xs → Case (test y) → test y ≡ false
      go y i (fail z) = z
      go y i (pass z) = absurd (out (subst (λ (b : A). In b xs) (only y (later i) z ∙ e) i))
  count_one test (x ∷ xs) (more out o) a (later i) p only =
      let rest = count_one test xs o a i p (λ y j q. only y (later j) q) in
      go (case (test x)) rest
    where
      go : Case (test x) → count_of test xs ≡ 1 → cond (test x) (suc (count_of test xs)) (count_of test xs) ≡ 1
      go (fail z) rest = rw z rest
      go (pass z) rest = absurd (out (subst (λ (b : A). In b xs) (sym (only x (first refl) z)) i))
  count_one test [] _ a x5 p only = elim x5 [ ]

-- For the tests that go over a listing: what holds at every listed place and at every other holds everywhere, a place that fails breaks the
-- test of all, and a buffer of one value that is written at the listed places holds what is wanted at every place.
use Prim.Native.Nat.{ℕ, ◌+◌, ◌≤◌, ◌<◌}
use native.Mathlib.Omega.{arith}
use mathlib.Core.Path.{◌≡◌, sym, ap, subst, ◌∙◌}
use mathlib.Core.Logic.{◌⊎◌, inl, inr}
use mathlib.Core.Bool.{Bool, true, false}
use mathlib.Core.List.{List}
use lib.Dec.{eqb}
use lib.ListN.{length, get_or, set, take, replicate, length-replicate, length-set}
use lib.Seq.{get_or-set_same, get_or-set_other, get_or-take, length-take-le}
use borrow.Author.Tests.{eqb-true, eqb-false}
use Rattle.lists.specs.Lists.{all_at}
use Rattle.lists.proofs.Tests.{Case, pass, fail, case}
use Rattle.lists.proofs.Reading.{any_default, same_all}
use Rattle.lists.proofs.Everywhere.{all_at_intro}
use Rattle.lists.proofs.Loops.{all_at_broken}
use Rattle.order_lists.specs.Listing.{Listing}

module _ {A : Type 0} (d : A) (test : A → Bool) (xs : List A) (n : ℕ) (places : List ℕ) (count : ℕ) (listing : Listing d test xs n places count) where
  -- what holds of the listed places holds wherever the test passes
  pub listed_all : (P : ℕ → Type 0) → ((j : ℕ) → j < count → P (get_or places j 0)) → (p : ℕ) → p < n → test (get_or xs p d) ≡ true → P p
  listed_all P h p b t = let s = listing.all p b t in subst P s.here (h s.at s.low)

  -- and with what holds where it does not, everywhere
  pub listed_every : (P : ℕ → Type 0) → ((j : ℕ) → j < count → P (get_or places j 0)) → ((p : ℕ) → p < n → test (get_or xs p d) ≡ false → P p)
      → (p : ℕ) → p < n → P p
  listed_every P h other p b = go (case (test (get_or xs p d)))
    where
      go : Case (test (get_or xs p d)) → P p
      go (pass t) = listed_all P h p b t
      go (fail t) = other p b t

  -- where none is listed, none passes
  pub none_listed : count ≡ 0 → (p : ℕ) → p < n → test (get_or xs p d) ≡ true → ⊥
  none_listed z p b t = let s = listing.all p b t in omega (arith, s.low, z)

  module _ (f : ℕ → A → Bool) (long : length xs ≡ n) where
    pub listed_all_at : ((j : ℕ) → j < count → f (get_or places j 0) (get_or xs (get_or places j 0) d) ≡ true)
        → ((p : ℕ) (x : A) → test x ≡ false → f p x ≡ true) → all_at f 0 xs ≡ true
    listed_all_at h other =
        all_at_intro d f xs
        (λ p b. listed_every (λ q. f q (get_or xs q d) ≡ true) h (λ q g t. other q (get_or xs q d) t) p (subst (λ (m : ℕ). p < m) long b))

    pub listed_broken : (j : ℕ) → j < count → f (get_or places j 0) (get_or xs (get_or places j 0) d) ≡ false → false ≡ all_at f 0 xs
    listed_broken j h e = all_at_broken d f xs (get_or places j 0) (omega (arith, listing.low j h, long)) e

  -- the listed places by themselves
  pub listed_front : count ≤ length places → Listing d test xs n (take count places) (length (take count places))
  listed_front h =
      subst (Listing d test xs n (take count places)) (sym (length-take-le count places h))
      (record {
        most = listing.most;
        low = λ j g. omega (arith, front j g, listing.low j g);
        passes = λ j g. subst (λ (p : ℕ). test (get_or xs p d) ≡ true) (sym (front j g)) (listing.passes j g);
        rising = λ i j a g. omega (arith, front i (omega (arith, a, g)), front j g, listing.rising i j a g);
        all = λ p g t. let s = listing.all p g t in record { at = s.at; low = s.low; here = front s.at s.low ∙ s.here };
      })
    where
      front : (j : ℕ) → j < count → get_or (take count places) j 0 ≡ get_or places j 0
      front j g = get_or-take count places j 0 g

-- ---- a buffer written at the listed places
-- the first i of them have what is wanted; every other place has it too, or still what the buffer began with
pub record Filled (size start : ℕ) (want : ℕ → ℕ) (places : List ℕ) (i : ℕ) (l : List ℕ) : Type 0 where
  pub long : length l ≡ size
  pub put : (j : ℕ) → j < i → get_or l (get_or places j 0) 0 ≡ want (get_or places j 0)
  pub rest : (p : ℕ) → p < size → (get_or l p 0 ≡ start) ⊎ (get_or l p 0 ≡ want p)

module _ (size start : ℕ) (want : ℕ → ℕ) (places : List ℕ) where
  pub filled_none : Filled size start want places 0 (replicate size start)
  filled_none = record {
    long = length-replicate size start;
    put = λ j h. absurd (omega (arith, h));
    rest = λ p h. inl (any_default (replicate size start) p 0 start (omega (arith, length-replicate size start, h)) ∙ same_all size start p);
  }

  module _ (i : ℕ) (l : List ℕ) (so : Filled size start want places i l) (low : get_or places i 0 < size) (x : ℕ) (e : x ≡ want (get_or places i 0)) where
    abbrev q : ℕ
    q = get_or places i 0

    new : get_or (set l q x) q 0 ≡ want q
    new = get_or-set_same l q x 0 (omega (arith, so.long, low)) ∙ e

    old : (p : ℕ) → eqb p q ≡ false → get_or (set l q x) p 0 ≡ get_or l p 0
    old p z = get_or-set_other l q p x 0 (eqb-false p q z)

    pub filled_more : Filled size start want places (i + 1) (set l q x)
    filled_more = record {
      long = length-set l q x ∙ so.long;
      put = λ j h. put j h (case (eqb (get_or places j 0) q)) (case (eqb j i));
      rest = λ p h. rest p h (case (eqb p q));
    }
      where
        put : (j : ℕ) → j < i + 1 → Case (eqb (get_or places j 0) q) → Case (eqb j i) → get_or (set l q x) (get_or places j 0) 0 ≡ want (get_or places j 0)
        put j h (pass z) c = subst (λ (p : ℕ). get_or (set l q x) p 0 ≡ want p) (sym (eqb-true (get_or places j 0) q z)) new
        put j h (fail z) (pass c) = absurd (eqb-false (get_or places j 0) q z (ap (λ (m : ℕ). get_or places m 0) (eqb-true j i c)))
        put j h (fail z) (fail c) = old (get_or places j 0) z ∙ so.put j (omega (arith, h, eqb-false j i c))

        keep : (p : ℕ) → eqb p q ≡ false → (get_or l p 0 ≡ start) ⊎ (get_or l p 0 ≡ want p) → (get_or (set l q x) p 0 ≡ start) ⊎ (get_or (set l q x) p 0 ≡ want p)
        keep p z (inl a) = inl (old p z ∙ a)
        keep p z (inr a) = inr (old p z ∙ a)

        rest : (p : ℕ) → p < size → Case (eqb p q) → (get_or (set l q x) p 0 ≡ start) ⊎ (get_or (set l q x) p 0 ≡ want p)
        rest p h (pass z) = inr (subst (λ (m : ℕ). get_or (set l q x) m 0 ≡ want m) (sym (eqb-true p q z)) new)
        rest p h (fail z) = keep p z (so.rest p h)

    -- as the code knows the place
    pub filled_at : (at : ℕ) → at ≡ q → Filled size start want places (i + 1) (set l at x)
    filled_at at a = subst (λ (m : ℕ). Filled size start want places (i + 1) (set l m x)) (sym a) filled_more

  -- the end: where the test fails, what is wanted is what the buffer began with
  pub filled_end : {A : Type 0} (d : A) (test : A → Bool) (xs : List A) (count : ℕ) → Listing d test xs size places count
      → ((p : ℕ) → p < size → test (get_or xs p d) ≡ false → want p ≡ start)
      → (i : ℕ) (l : List ℕ) → count ≤ i → Filled size start want places i l → (p : ℕ) → p < size → get_or l p 0 ≡ want p
  filled_end {A} d test xs count listing other i l g so =
      listed_every d test xs size places count listing (λ p. get_or l p 0 ≡ want p) (λ j h. so.put j (omega (arith, h, g)))
      (λ p h t. go p h t (so.rest p h))
    where
      go : (p : ℕ) → p < size → test (get_or xs p d) ≡ false → (get_or l p 0 ≡ start) ⊎ (get_or l p 0 ≡ want p) → get_or l p 0 ≡ want p
      go p h t (inl a) = a ∙ sym (other p h t)
      go p h t (inr a) = a

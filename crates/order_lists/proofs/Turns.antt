-- One turn of the listing: place i is written behind the list's end, and the list grows if the element there passes.
use Prim.Native.Nat.{ℕ, ◌+◌, ◌≤◌, ◌<◌}
use native.Mathlib.Omega.{arith}
use mathlib.Core.Path.{◌≡◌, sym, subst, ◌∙◌}
use mathlib.Core.Bool.{Bool, true, false}
use mathlib.Core.List.{List}
use mir.Val.{bool_byte as from_bool}
use lib.Dec.{eqb}
use lib.ListN.{length, get_or, set}
use lib.Seq.{get_or-set_same, get_or-set_other}
use borrow.Author.Tests.{eqb-true, eqb-false}
use Rattle.lists.proofs.Tests.{Case, pass, fail, case, contradiction}
use Rattle.order_lists.specs.Listing.{Spot, Listing}

module _ {A : Type 0} (d : A) (test : A → Bool) (xs : List A) where
  pub listed_none : (places : List ℕ) → Listing d test xs 0 places 0
  listed_none places = record {
    most = omega arith;
    low = λ j h. absurd (omega (arith, h));
    passes = λ j h. absurd (omega (arith, h));
    rising = λ i j g h. absurd (omega (arith, h));
    all = λ p h. absurd (omega (arith, h));
  }

  pub listed_to : {i n count : ℕ} {places : List ℕ} → i ≡ n → Listing d test xs i places count → Listing d test xs n places count
  listed_to {i} {n} {count} {places} e so = subst (λ (m : ℕ). Listing d test xs m places count) e so

  module _ (i : ℕ) (places : List ℕ) (count : ℕ) (so : Listing d test xs i places count) (room : i < length places) where
    abbrev now : List ℕ
    now = set places count i

    -- what is listed stays
    kept : (j : ℕ) → j < count → get_or now j 0 ≡ get_or places j 0
    kept j h = get_or-set_other places count j i 0 (λ e. omega (arith, e, h))

    new : get_or now count 0 ≡ i
    new = get_or-set_same places count i 0 (omega (arith, so.most, room))

    stays : (p m : ℕ) → count ≤ m → Spot places count p → Spot now m p
    stays p m g s = record { at = s.at; low = omega (arith, s.low, g); here = kept s.at s.low ∙ s.here }

    -- a place that is not written
    pub listed_past : (x : A) → x ≡ get_or xs i d → test x ≡ false → Listing d test xs (i + 1) places count
    listed_past x here e = record {
      most = omega (arith, so.most);
      low = λ j h. omega (arith, so.low j h);
      passes = so.passes;
      rising = so.rising;
      all = λ p h t. at p h t (case (eqb p i));
    }
      where
        at : (p : ℕ) → p < i + 1 → test (get_or xs p d) ≡ true → Case (eqb p i) → Spot places count p
        at p h t (pass q) = contradiction (subst (λ (m : ℕ). test (get_or xs m d) ≡ true) (eqb-true p i q) t) (subst (λ (y : A). test y ≡ false) here e)
        at p h t (fail q) = so.all p (omega (arith, h, eqb-false p i q)) t

    skip : test (get_or xs i d) ≡ false → Listing d test xs (i + 1) now count
    skip e = record {
      most = omega (arith, so.most);
      low = λ j h. omega (arith, kept j h, so.low j h);
      passes = λ j h. subst (λ (p : ℕ). test (get_or xs p d) ≡ true) (sym (kept j h)) (so.passes j h);
      rising = λ a j g h. omega (arith, kept a (omega (arith, g, h)), kept j h, so.rising a j g h);
      all = λ p h t. at p h t (case (eqb p i));
    }
      where
        at : (p : ℕ) → p < i + 1 → test (get_or xs p d) ≡ true → Case (eqb p i) → Spot now count p
        at p h t (pass q) = contradiction (subst (λ (m : ℕ). test (get_or xs m d) ≡ true) (eqb-true p i q) t) e
        at p h t (fail q) = stays p count (omega arith) (so.all p (omega (arith, h, eqb-false p i q)) t)

    push : test (get_or xs i d) ≡ true → Listing d test xs (i + 1) now (count + 1)
    push e = record {
      most = omega (arith, so.most);
      low = λ j h. below j h (case (eqb j count));
      passes = λ j h. passing j h (case (eqb j count));
      rising = λ a j g h. up a j g h (case (eqb j count));
      all = λ p h t. at p h t (case (eqb p i));
    }
      where
        old : (j : ℕ) → j < count + 1 → eqb j count ≡ false → j < count
        old j h q = omega (arith, h, eqb-false j count q)

        last : (j : ℕ) → eqb j count ≡ true → get_or now j 0 ≡ i
        last j q = subst (λ (m : ℕ). get_or now m 0 ≡ i) (sym (eqb-true j count q)) new

        below : (j : ℕ) → j < count + 1 → Case (eqb j count) → get_or now j 0 < i + 1
        below j h (pass q) = omega (arith, last j q)
        below j h (fail q) = omega (arith, kept j (old j h q), so.low j (old j h q))

        passing : (j : ℕ) → j < count + 1 → Case (eqb j count) → test (get_or xs (get_or now j 0) d) ≡ true
        passing j h (pass q) = subst (λ (p : ℕ). test (get_or xs p d) ≡ true) (sym (last j q)) e
        passing j h (fail q) = subst (λ (p : ℕ). test (get_or xs p d) ≡ true) (sym (kept j (old j h q))) (so.passes j (old j h q))

        up : (a j : ℕ) → a < j → j < count + 1 → Case (eqb j count) → get_or now a 0 < get_or now j 0
        up a j g h (pass q) =
            let b : a < count = omega (arith, g, eqb-true j count q) in
            omega (arith, kept a b, so.low a b, last j q)
        up a j g h (fail q) =
            let b : j < count = old j h q in
            let c : a < count = omega (arith, g, b) in
            omega (arith, kept a c, kept j b, so.rising a j g b)

        at : (p : ℕ) → p < i + 1 → test (get_or xs p d) ≡ true → Case (eqb p i) → Spot now (count + 1) p
        at p h t (pass q) = record { at = count; low = omega arith; here = new ∙ sym (eqb-true p i q) }
        at p h t (fail q) = stays p (count + 1) (omega arith) (so.all p (omega (arith, h, eqb-false p i q)) t)

    pub listed_turn : (x : A) → x ≡ get_or xs i d → (b : Bool) → b ≡ test x → (more : ℕ) → more ≡ from_bool b
        → Listing d test xs (i + 1) now (count + more)
    listed_turn x here true e more m =
        subst (λ (n : ℕ). Listing d test xs (i + 1) now (count + n)) (sym m) (push (sym (subst (λ (y : A). true ≡ test y) here e)))
    listed_turn x here false e more m =
        subst (λ (n : ℕ). Listing d test xs (i + 1) now n) (omega (arith, m)) (skip (sym (subst (λ (y : A). false ≡ test y) here e)))

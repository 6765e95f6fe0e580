-- Values beside listed places: one turn, and what they come to without the places.
use Prim.Native.Nat.{ℕ, ◌+◌, ◌≤◌, ◌<◌}
use native.Mathlib.Omega.{arith}
use mathlib.Core.Path.{◌≡◌, sym, ap, subst, ◌∙◌}
use mathlib.Core.Bool.{Bool, true, false}
use mathlib.Core.List.{List}
use mir.Val.{bool_byte as from_bool}
use lib.Dec.{eqb}
use lib.ListN.{length, get_or, set, take}
use lib.Seq.{get_or-set_same, get_or-set_other, get_or-take, length-take-le}
use borrow.Author.Tests.{eqb-true, eqb-false}
use Rattle.lists.proofs.Tests.{Case, pass, fail, case}
use Rattle.order_lists.specs.Listing.{Listing, Beside, Source, Values}

one_more : (b : Bool) (more : ℕ) → more ≡ from_bool b → more ≤ 1
one_more true more e = omega (arith, e)
one_more false more e = omega (arith, e)

module _ {A : Type 0} (d : A) (value : A → ℕ) (m : ℕ) (xs : List A) where
  pub beside_none : (places values : List ℕ) → Beside d value m xs places values 0
  beside_none places values = record { low = λ j h. absurd (omega (arith, h)); here = λ j h. absurd (omega (arith, h)) }

  -- place i and its value are written behind the lists' ends
  pub beside_turn : (places values : List ℕ) (count : ℕ) → Beside d value m xs places values count → count < length places → count < length values
      → (i v : ℕ) (x : A) → x ≡ get_or xs i d → v ≡ value x → v < m → (b : Bool) (more : ℕ) → more ≡ from_bool b
      → Beside d value m xs (set places count i) (set values count v) (count + more)
  beside_turn places values count so room also i v x this is small b more e = record {
    low = λ j h. below j h (case (eqb j count));
    here = λ j h. beside j h (case (eqb j count));
  }
    where
      old : (j : ℕ) → j < count + more → eqb j count ≡ false → j < count
      old j h q = omega (arith, h, one_more b more e, eqb-false j count q)

      other : (l : List ℕ) (y j : ℕ) → j < count → get_or (set l count y) j 0 ≡ get_or l j 0
      other l y j h = get_or-set_other l count j y 0 (λ z. omega (arith, z, h))

      new : (l : List ℕ) (y j : ℕ) → count < length l → eqb j count ≡ true → get_or (set l count y) j 0 ≡ y
      new l y j h q = subst (λ (k : ℕ). get_or (set l count y) k 0 ≡ y) (sym (eqb-true j count q)) (get_or-set_same l count y 0 h)

      below : (j : ℕ) → j < count + more → Case (eqb j count) → get_or (set values count v) j 0 < m
      below j h (pass q) = omega (arith, new values v j also q, small)
      below j h (fail q) = omega (arith, other values v j (old j h q), so.low j (old j h q))

      beside : (j : ℕ) → j < count + more → Case (eqb j count)
          → get_or (set values count v) j 0 ≡ value (get_or xs (get_or (set places count i) j 0) d)
      beside j h (pass q) = new values v j also q ∙ is ∙ ap value this ∙ ap (λ (k : ℕ). value (get_or xs k d)) (sym (new places i j room q))
      beside j h (fail q) =
          other values v j (old j h q) ∙ so.here j (old j h q) ∙ ap (λ (k : ℕ). value (get_or xs k d)) (sym (other places i j (old j h q)))

  module _ (test : A → Bool) (n : ℕ) where
    pub values_of : (places values : List ℕ) (count : ℕ) → Listing d test xs n places count → Beside d value m xs places values count
        → Values d test value m xs n values count
    values_of places values count l so = record {
      most = l.most;
      low = so.low;
      from = λ j h. record { at = get_or places j 0; low = l.low j h; passes = l.passes j h; here = sym (so.here j h) };
      all = λ p h t. let s = l.all p h t in
          record { at = s.at; low = s.low; here = so.here s.at s.low ∙ ap (λ (k : ℕ). value (get_or xs k d)) s.here };
    }

    -- the values by themselves
    pub values_front : (values : List ℕ) (count : ℕ) → Values d test value m xs n values count → count ≤ length values
        → Values d test value m xs n (take count values) (length (take count values))
    values_front values count so h =
        subst (Values d test value m xs n (take count values)) (sym (length-take-le count values h))
        (record {
          most = so.most;
          low = λ j g. omega (arith, front j g, so.low j g);
          from = λ j g. subst (Source d test value xs n) (sym (front j g)) (so.from j g);
          all = λ p g t. let s = so.all p g t in record { at = s.at; low = s.low; here = front s.at s.low ∙ s.here };
        })
      where
        front : (j : ℕ) → j < count → get_or (take count values) j 0 ≡ get_or values j 0
        front j g = get_or-take count values j 0 g

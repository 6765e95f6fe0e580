-- Keyed lists by their members: a list with the same live members finds the same under each key, whatever their places; places filled from
-- a rising list have distinct keys.
use Prim.Native.Nat.{ℕ, zero, suc}
use native.Mathlib.Omega.{arith}
use mathlib.Core.Path.{◌≡◌, refl, sym, ap, ◌∙◌, subst}
use mathlib.Core.Logic.{◌⊎◌, inl, inr}
use mathlib.Core.Bool.{Bool, true, false, ◌&&◌}
use mathlib.Core.List.{List, [], ◌∷◌, map}
use lib.ListN.{get_or}
use Rattle.lists.specs.Tests.{implies}
use Rattle.lists.specs.Lists.{first_index, some, no_two, filled}
use Rattle.lists.specs.Members.{In, first, later}
use Rattle.lists.proofs.Tests.{contradiction, cannot_pass, and_l, and_r, and_intro, not_test, implies_intro}
use Rattle.lists.proofs.Keyed.{Keys, Lawful, live, key, none, by_key, found_low, found_key, nothing_found, found_somewhere, found_at}
use Rattle.lists.proofs.Keyed as keyed
use Rattle.lists.proofs.MemberLaws.{Kept, At, at_of, in_place, found, Mapped, mapped}
use Rattle.lists.proofs.Rising.{Rising, empty, rises}
use Rattle.lists.proofs.Filled.{filled_out}

module _ {A K : Type 0} (keys : Keys A K) (laws : Lawful keys) where
  pub member_found : (l : List A) → keyed.Distinct keys l → (x : A) → In x l → live keys x ≡ true → by_key keys l (key keys x) ≡ x
  member_found l one x m h =
      let p : At (none keys) x l = at_of (none keys) x l m in
      subst (λ (y : A). by_key keys l (key keys y) ≡ y) p.is (found_at keys laws l one p.place p.low (ap (live keys) p.is ∙ h))

  pub member_somewhere : (l : List A) (x : A) → In x l → live keys x ≡ true → live keys (by_key keys l (key keys x)) ≡ true
  member_somewhere l x m h =
      let p : At (none keys) x l = at_of (none keys) x l m in
      subst (λ (y : A). live keys (by_key keys l (key keys y)) ≡ true) p.is (found_somewhere keys laws l p.place p.low (ap (live keys) p.is ∙ h))

  pub found_member : (l : List A) (n : K) → live keys (by_key keys l n) ≡ true → In (by_key keys l n) l
  found_member l n h = in_place (none keys) l (first_index (keyed.has keys n) l) (found_low keys laws l n h)

  -- a live element of a list whose live elements are f of keep of m
  pub record Of (f : A → A) (x : A) (m : List A) : Type 0 where
    pub from : A
    pub member : In from m
    pub lives : live keys from ≡ true
    pub is : x ≡ f from

  -- a list with the same live members, each changed by f, finds the same under each key, changed by f
  module _ (l m : List A) (one : keyed.Distinct keys m) (f : A → A)
      (keeps : (y : A) → live keys y ≡ true → key keys (f y) ≡ key keys y) (lives : (y : A) → live keys y ≡ true → live keys (f y) ≡ true)
      (out : (x : A) → In x l → live keys x ≡ true → Of f x m) (into : (y : A) → In y m → live keys y ≡ true → In (f y) l) where
    -- what l finds is f of what m finds
    found_of : (n : K) → live keys (by_key keys l n) ≡ true → (by_key keys l n ≡ f (by_key keys m n)) × (live keys (by_key keys m n) ≡ true)
    found_of n h =
        let o : Of f (by_key keys l n) m = out (by_key keys l n) (found_member l n h) h in
        let k : key keys o.from ≡ n = sym (keeps o.from o.lives) ∙ ap (key keys) (sym o.is) ∙ found_key keys laws l n h in
        let e : by_key keys m n ≡ o.from = ap (by_key keys m) (sym k) ∙ member_found m one o.from o.member o.lives in
        (o.is ∙ ap f (sym e), ap (live keys) e ∙ o.lives)

    pub found_same : (n : K) → live keys (by_key keys m n) ≡ true → by_key keys l n ≡ f (by_key keys m n)
    found_same n h =
        let y : A = by_key keys m n in
        let k : key keys (f y) ≡ n = keeps y h ∙ found_key keys laws m n h in
        let s : live keys (by_key keys l (key keys (f y))) ≡ true = member_somewhere l (f y) (into y (found_member m n h) h) (lives y h) in
        (found_of n (ap (λ (i : K). live keys (by_key keys l i)) (sym k) ∙ s)).0

    pub none_same : (n : K) → live keys (by_key keys m n) ≡ false → by_key keys l n ≡ none keys
    none_same n h =
        nothing_found keys laws l n (cannot_pass (live keys (by_key keys l n)) (λ e. contradiction (found_of n e).1 h))

  -- places filled from a rising list, whose elements tell their keys, have distinct keys
  module _ {B : Type 0} (order : B → ℕ) (f : B → A) where
    filled_test : (n : ℕ) (zs : List B) → Rising order zs
        → ((x y : B) → In x zs → In y zs → key keys (f x) ≡ key keys (f y) → x ≡ y)
        → no_two (λ x. live keys x) (λ x y. keys.same (key keys x) (key keys y)) (filled n (none keys) (map f zs)) ≡ true
    unfolding no_two filled implies
    filled_test zero zs r tell = refl
    filled_test (suc n) [] empty tell = rw laws.dead (filled_test n [] empty tell)
    filled_test (suc n) (z ∷ zs) (rises h r) tell =
        and_intro
        (implies_intro (live keys (f z)) _
        (λ l. not_test _ (cannot_pass (some (λ y. live keys y && keys.same (key keys (f z)) (key keys y)) (filled n (none keys) (map f zs))) alone)))
        (filled_test n zs r (λ x y a b. tell x y (later a) (later b)))
      where
        clash : (x : B) → In x zs → key keys (f z) ≡ key keys (f x) → ⊥
        clash x m e =
            let q : order z ≡ order x = ap order (tell z x (first refl) (later m) e) in
            omega (arith, h x m, q)

        which : (y : A) → live keys y ≡ true → key keys (f z) ≡ key keys y → (y ≡ none keys) ⊎ In y (map f zs) → ⊥
        which y l e (inl q) = contradiction (ap (live keys) (sym q) ∙ l) laws.dead
        which y l e (inr m) = let w : Mapped f y zs = mapped f y zs m in clash w.from w.member (e ∙ ap (key keys) w.is)

        clashes : A → Bool
        clashes y = live keys y && keys.same (key keys (f z)) (key keys y)

        alone : some clashes (filled n (none keys) (map f zs)) ≡ true → ⊥
        alone e =
            let y : A = get_or (filled n (none keys) (map f zs)) (first_index clashes (filled n (none keys) (map f zs))) (none keys) in
            let w : Kept clashes y (filled n (none keys) (map f zs)) = found clashes (filled n (none keys) (map f zs)) (none keys) e in
            which y (and_l (live keys y) _ w.passes) (laws.same_true _ _ (and_r (live keys y) _ w.passes)) (filled_out n (none keys) (map f zs) y w.member)

    pub filled_distinct : (n : ℕ) (zs : List B) → Rising order zs
        → ((x y : B) → In x zs → In y zs → key keys (f x) ≡ key keys (f y) → x ≡ y)
        → keyed.Distinct keys (filled n (none keys) (map f zs))
    filled_distinct n zs r tell = keyed.distinct_intro keys laws (filled n (none keys) (map f zs)) (filled_test n zs r tell)

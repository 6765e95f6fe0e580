-- Keyed lists: places that are live or vacant, and a key for each live element. A program's tickets are one (key: the number), the
-- dock's entries are another (key: the name). The laws say what a key finds after an element is put in the lowest vacant place and
-- after elements are dropped by key, and that keys stay distinct.
use Prim.Native.Nat.{ℕ, ◌≤◌, ◌<◌}
use native.Mathlib.Omega.{arith}
use mathlib.Core.Path.{◌≡◌, refl, sym, ap, ◌∙◌, subst}
use mathlib.Core.Logic.{◌⊎◌, inl, inr}
use mathlib.Core.Bool.{Bool, true, false, not, ◌&&◌, cond}
use mathlib.Core.List.{List, map}
use lib.Dec.{eqb, ltb}
use lib.ListN.{length, get_or, set, length-set, length-map, get_or-eq_default, get_or-map}
use lib.Seq.{get_or-set_same, get_or-set_other}
use borrow.Author.Tests.{eqb-true, eqb-false, ltb-true, ltb-false, not-true}
use Rattle.lists.specs.Lists.{first_index, some, no_two}
use Rattle.lists.proofs.Tests.{Case, pass, fail, case, no_true, contradiction, cannot_pass, and_l, and_r, and_intro}
use Rattle.lists.proofs.Everywhere.{no_two_intro, no_two_elim}
use Rattle.lists.proofs.Search.{find_passes, first_bound, some_first, none_found, find_put_other, find_put_same, find_map_none, find_map_same}

-- what makes a list keyed: which elements are live, their keys, when two keys are the same, and what a vacant place finds
pub record Keys (A K : Type 0) : Type 0 where
  pub live : A → Bool
  pub key : A → K
  pub same : K → K → Bool
  pub none : A

pub record Lawful {A K : Type 0} (keys : Keys A K) : Type 0 where
  pub same_true : (a b : K) → keys.same a b ≡ true → a ≡ b
  pub same_refl : (a : K) → keys.same a a ≡ true
  pub dead : keys.live keys.none ≡ false

module _ {A K : Type 0} (keys : Keys A K) where
  abbrev pub live : A → Bool
  live x = keys.live x

  abbrev pub key : A → K
  key x = keys.key x

  abbrev pub none : A
  none = keys.none

  -- the live element x has the key n
  abbrev pub has : K → A → Bool
  has n x = live x && keys.same (key x) n

  abbrev pub vacant : A → Bool
  vacant x = not (live x)

  -- the live element of that key, or the default
  abbrev pub by_key : List A → K → A
  by_key l n = get_or l (first_index (has n) l) none

  abbrev pub put : List A → A → List A
  put l x = set l (first_index vacant l) x

  -- the default in the place of an element whose key the test picks
  abbrev pub dropped : (K → Bool) → A → A
  dropped gone x = cond (live x && gone (key x)) none x

  -- live elements in two places have two keys
  abbrev pub Distinct : List A → Type 0
  Distinct l =
      (i j : ℕ) → i < length l → j < length l → live (get_or l i none) ≡ true → live (get_or l j none) ≡ true
      → key (get_or l i none) ≡ key (get_or l j none) → i ≡ j

  module _ (laws : Lawful keys) where
    has_key : (n : K) (x : A) → has n x ≡ true → key x ≡ n
    has_key n x e = laws.same_true (key x) n (and_r (live x) _ e)

    has_live : (n : K) (x : A) → has n x ≡ true → live x ≡ true
    has_live n x e = and_l (live x) _ e

    has_itself : (x : A) → live x ≡ true → has (key x) x ≡ true
    has_itself x l = and_intro l (laws.same_refl (key x))

    dead_has : (n : K) (x : A) → live x ≡ false → has n x ≡ false
    dead_has n x e = rw e

    has_other : (n : K) (x : A) → (key x ≡ n → ⊥) → has n x ≡ false
    has_other n x ne = cannot_pass (has n x) (λ e. ne (has_key n x e))

    vacant_dead : (x : A) → vacant x ≡ true → live x ≡ false
    vacant_dead x e = not-true (live x) e

    -- ---- distinct keys, as a test
    abbrev pub distinct_test : List A → Bool
    distinct_test l = no_two (λ x. live x) (λ x y. keys.same (key x) (key y)) l

    pub distinct_intro : (l : List A) → distinct_test l ≡ true → Distinct l
    distinct_intro l e i j b c h k q = go (case (ltb i j)) (case (ltb j i))
      where
        clash : (i j : ℕ) → i < j → j < length l → live (get_or l i none) ≡ true → live (get_or l j none) ≡ true → key (get_or l i none) ≡ key (get_or l j none) → ⊥
        clash i j p c h k q =
            contradiction (ap (keys.same (key (get_or l i none))) (sym q) ∙ laws.same_refl (key (get_or l i none)))
            (no_two_elim none (λ x. live x) (λ x y. keys.same (key x) (key y)) l e i j p c h k)

        go : Case (ltb i j) → Case (ltb j i) → i ≡ j
        go (pass p) _ = absurd (clash i j (ltb-true i j p) c h k q)
        go (fail p) (pass r) = absurd (clash j i (ltb-true j i r) b k h (sym q))
        go (fail p) (fail r) =
            let u : j ≤ i = ltb-false i j p in
            let v : i ≤ j = ltb-false j i r in
            omega arith

    pub distinct_test_lem : (l : List A) → Distinct l → distinct_test l ≡ true
    distinct_test_lem l one =
        no_two_intro none (λ x. live x) (λ x y. keys.same (key x) (key y)) l
        (λ i j p c h k. cannot_pass (keys.same (key (get_or l i none)) (key (get_or l j none)))
        (λ e. let q : i ≡ j = one i j (omega arith) c h k (laws.same_true (key (get_or l i none)) (key (get_or l j none)) e) in omega arith))

    -- ---- what a key finds
    pub found_low : (l : List A) (n : K) → live (by_key l n) ≡ true → first_index (has n) l < length l
    found_low l n h = go (case (ltb (first_index (has n) l) (length l)))
      where
        go : Case (ltb (first_index (has n) l) (length l)) → first_index (has n) l < length l
        go (pass e) = ltb-true (first_index (has n) l) (length l) e
        go (fail e) =
            let z : by_key l n ≡ none = get_or-eq_default l none (ltb-false (first_index (has n) l) (length l) e) in
            no_true (sym laws.dead ∙ ap live (sym z) ∙ h)

    pub found_key : (l : List A) (n : K) → live (by_key l n) ≡ true → key (by_key l n) ≡ n
    found_key l n h = has_key n (by_key l n) (find_passes (has n) l none (found_low l n h))

    -- where nothing is found, the default is
    pub nothing_found : (l : List A) (n : K) → live (by_key l n) ≡ false → by_key l n ≡ none
    nothing_found l n h = none_found (has n) l none (dead_has n none laws.dead) (dead_has n (by_key l n) h)

    -- a live element is found by its key, at its own place where keys are distinct
    pub found_somewhere : (l : List A) (i : ℕ) → i < length l → live (get_or l i none) ≡ true → live (by_key l (key (get_or l i none))) ≡ true
    found_somewhere l i b h =
        has_live (key (get_or l i none)) (by_key l (key (get_or l i none)))
        (find_passes (has (key (get_or l i none))) l none (first_bound (has (key (get_or l i none))) l none i b (has_itself (get_or l i none) h)))

    pub found_at : (l : List A) → Distinct l → (i : ℕ) → i < length l → live (get_or l i none) ≡ true → by_key l (key (get_or l i none)) ≡ get_or l i none
    found_at l one i b h =
        let m : live (by_key l (key (get_or l i none))) ≡ true = found_somewhere l i b h in
        ap (λ (j : ℕ). get_or l j none)
        (one (first_index (has (key (get_or l i none))) l) i (found_low l (key (get_or l i none)) m) b m h (found_key l (key (get_or l i none)) m))

    -- ---- no two elements that count are alike, by keys
    module _ (counts : A → Bool) (alike : A → A → Bool) (lives : (x : A) → counts x ≡ true → live x ≡ true) (l : List A) where
      pub no_two_keys : no_two counts alike l ≡ true → (n m : K) → (n ≡ m → ⊥) → counts (by_key l n) ≡ true → counts (by_key l m) ≡ true
          → (alike (by_key l n) (by_key l m) ≡ false) ⊎ (alike (by_key l m) (by_key l n) ≡ false)
      no_two_keys e n m ne h k = go (case (ltb (first_index (has n) l) (first_index (has m) l))) (case (ltb (first_index (has m) l) (first_index (has n) l)))
        where
          ln : live (by_key l n) ≡ true
          ln = lives (by_key l n) h

          lm : live (by_key l m) ≡ true
          lm = lives (by_key l m) k

          go : Case (ltb (first_index (has n) l) (first_index (has m) l)) → Case (ltb (first_index (has m) l) (first_index (has n) l))
              → (alike (by_key l n) (by_key l m) ≡ false) ⊎ (alike (by_key l m) (by_key l n) ≡ false)
          go (pass p) _ = inl (no_two_elim none counts alike l e _ _ (ltb-true (first_index (has n) l) (first_index (has m) l) p) (found_low l m lm) h k)
          go (fail p) (pass q) = inr (no_two_elim none counts alike l e _ _ (ltb-true (first_index (has m) l) (first_index (has n) l) q) (found_low l n ln) k h)
          go (fail p) (fail q) =
              let u : first_index (has m) l ≤ first_index (has n) l = ltb-false (first_index (has n) l) (first_index (has m) l) p in
              let v : first_index (has n) l ≤ first_index (has m) l = ltb-false (first_index (has m) l) (first_index (has n) l) q in
              let w : first_index (has n) l ≡ first_index (has m) l = omega arith in
              absurd (ne (sym (found_key l n ln) ∙ ap (λ (i : ℕ). key (get_or l i none)) w ∙ found_key l m lm))

      pub keys_no_two : Distinct l
          → ((n m : K) → (n ≡ m → ⊥) → counts (by_key l n) ≡ true → counts (by_key l m) ≡ true → alike (by_key l n) (by_key l m) ≡ false)
          → no_two counts alike l ≡ true
      keys_no_two one f =
          no_two_intro none counts alike l
          (λ i j p c h k.
          let li = lives (get_or l i none) h in
          let lj = lives (get_or l j none) k in
          let b : i < length l = omega arith in
          let u = found_at l one i b li in
          let v = found_at l one j c lj in
          let ne : key (get_or l i none) ≡ key (get_or l j none) → ⊥ = λ q. (let w : i ≡ j = one i j b c li lj q in omega arith) in
          subst (λ (y : A). alike (get_or l i none) y ≡ false) v
          (subst (λ (x : A). alike x (by_key l (key (get_or l j none))) ≡ false) u
          (f (key (get_or l i none)) (key (get_or l j none)) ne (ap counts u ∙ h) (ap counts v ∙ k))))

    -- ---- an element put in the lowest vacant place
    module _ (l : List A) (x : A) (lx : live x ≡ true) (room : some vacant l ≡ true) (fresh : live (by_key l (key x)) ≡ false) where
      place_low_lem : first_index vacant l < length l
      place_low_lem = some_first vacant l room

      pub put_same : by_key (put l x) (key x) ≡ x
      put_same =
          find_put_same (has (key x)) vacant x none (λ y e. dead_has (key x) y (vacant_dead y e)) (has_itself x lx) (dead_has (key x) none laws.dead) l place_low_lem
          (dead_has (key x) (by_key l (key x)) fresh)

      pub put_other : (n : K) → (n ≡ key x → ⊥) → by_key (put l x) n ≡ by_key l n
      put_other n ne =
          find_put_other (has n) vacant x none (λ y e. dead_has n y (vacant_dead y e)) (has_other n x (λ e. ne (sym e))) l

      put_at : get_or (put l x) (first_index vacant l) none ≡ x
      put_at = get_or-set_same l (first_index vacant l) x none place_low_lem

      put_beside : (i : ℕ) → (i ≡ first_index vacant l → ⊥) → get_or (put l x) i none ≡ get_or l i none
      put_beside i ne = get_or-set_other l (first_index vacant l) i x none ne

      pub put_length : length (put l x) ≡ length l
      put_length = length-set l (first_index vacant l) x

      put_new : (i : ℕ) → i < length l → live (get_or l i none) ≡ true → key (get_or l i none) ≡ key x → ⊥
      put_new i b h e = no_true (sym fresh ∙ ap (λ (n : K). live (by_key l n)) (sym e) ∙ found_somewhere l i b h)

      pub put_distinct : Distinct l → Distinct (put l x)
      put_distinct one i j b c h k e =
          go (subst (λ (m : ℕ). i < m) put_length b) (subst (λ (m : ℕ). j < m) put_length c) (case (eqb i (first_index vacant l))) (case (eqb j (first_index vacant l)))
        where
          at : (m : ℕ) → eqb m (first_index vacant l) ≡ true → get_or (put l x) m none ≡ x
          at m p = ap (λ (j : ℕ). get_or (put l x) j none) (eqb-true m (first_index vacant l) p) ∙ put_at

          beside : (m : ℕ) → eqb m (first_index vacant l) ≡ false → get_or (put l x) m none ≡ get_or l m none
          beside m p = put_beside m (eqb-false m (first_index vacant l) p)

          go : i < length l → j < length l → Case (eqb i (first_index vacant l)) → Case (eqb j (first_index vacant l)) → i ≡ j
          go b' c' (pass p) (pass q) = eqb-true i (first_index vacant l) p ∙ sym (eqb-true j (first_index vacant l) q)
          go b' c' (fail p) (fail q) =
              let u = beside i p in
              let v = beside j q in
              one i j b' c' (ap live (sym u) ∙ h) (ap live (sym v) ∙ k) (ap key (sym u) ∙ e ∙ ap key v)
          go b' c' (pass p) (fail q) =
              let v = beside j q in
              absurd (put_new j c' (ap live (sym v) ∙ k) (ap key (sym v) ∙ sym e ∙ ap key (at i p)))
          go b' c' (fail p) (pass q) =
              let u = beside i p in
              absurd (put_new i b' (ap live (sym u) ∙ h) (ap key (sym u) ∙ e ∙ ap key (at j q)))

    -- ---- elements dropped by key
    module _ (gone : K → Bool) where
      pub dropped_cases : (x : A) (P : A → Type 0) → P none → P x → P (dropped gone x)
      dropped_cases x P a b = go (case (live x && gone (key x)))
        where
          go : Case (live x && gone (key x)) → P (cond (live x && gone (key x)) none x)
          go (pass e) = rw e a
          go (fail e) = rw e b

      -- what is live after was there before
      dropped_live : (x : A) → live (dropped gone x) ≡ true → dropped gone x ≡ x
      dropped_live x = dropped_cases x (λ y. live y ≡ true → y ≡ x) (λ z. no_true (sym laws.dead ∙ z)) (λ l. refl)

      dropped_default : dropped gone none ≡ none
      dropped_default = dropped_cases none (λ y. y ≡ none) refl refl

      pub dropped_at : (l : List A) (i : ℕ) → get_or (map (dropped gone) l) i none ≡ dropped gone (get_or l i none)
      dropped_at l i = ap (get_or (map (dropped gone) l) i) (sym dropped_default) ∙ get_or-map (dropped gone) l i none

      pub dropped_length : (l : List A) → length (map (dropped gone) l) ≡ length l
      dropped_length l = length-map l (dropped gone)

      has_picked : (n : K) → gone n ≡ true → (x : A) → has n x ≡ true → dropped gone x ≡ none
      has_picked n g x e = rw (has_live n x e, has_key n x e, g)

      has_kept : (n : K) → gone n ≡ false → (x : A) → has n x ≡ true → dropped gone x ≡ x
      has_kept n g x e = rw (has_live n x e, has_key n x e, g)

      has_gone : (n : K) → gone n ≡ true → (x : A) → has n (dropped gone x) ≡ false
      has_gone n g x = go (case (has n x))
        where
          go : Case (has n x) → has n (dropped gone x) ≡ false
          go (pass e) = ap (has n) (has_picked n g x e) ∙ dead_has n none laws.dead
          go (fail e) = dropped_cases x (λ y. has n y ≡ false) (dead_has n none laws.dead) e

      pub drop_found : (l : List A) (n : K) → by_key (map (dropped gone) l) n ≡ cond (gone n) none (by_key l n)
      drop_found l n = go (case (gone n))
        where
          go : Case (gone n) → by_key (map (dropped gone) l) n ≡ cond (gone n) none (by_key l n)
          go (pass g) = rw g (find_map_none (has n) none (dropped gone) (dead_has n none laws.dead) (has_gone n g) l)
          go (fail g) =
              rw g
              (find_map_same (has n) none (dropped gone) (has_kept n g)
              (λ x e. dropped_cases x (λ y. has n y ≡ false) (dead_has n none laws.dead) e) l)

      pub drop_distinct : (l : List A) → Distinct l → Distinct (map (dropped gone) l)
      drop_distinct l one i j b c h k e =
          let u : get_or (map (dropped gone) l) i none ≡ get_or l i none
          = dropped_at l i ∙ dropped_live (get_or l i none) (ap live (sym (dropped_at l i)) ∙ h) in
          let v : get_or (map (dropped gone) l) j none ≡ get_or l j none
          = dropped_at l j ∙ dropped_live (get_or l j none) (ap live (sym (dropped_at l j)) ∙ k) in
          one i j (subst (λ (m : ℕ). i < m) (dropped_length l) b) (subst (λ (m : ℕ). j < m) (dropped_length l) c)
          (ap live (sym u) ∙ h) (ap live (sym v) ∙ k) (ap key (sym u) ∙ e ∙ ap key v)

      -- where no live key is picked, nothing changes
      pub drop_none : (x : A) → (live x ≡ true → gone (key x) ≡ false) → dropped gone x ≡ x
      drop_none x e = go (case (live x))
        where
          go : Case (live x) → cond (live x && gone (key x)) none x ≡ x
          go (pass l) = rw (l, e l)
          go (fail l) = rw l

-- Lists by strictly rising keys. Two of them with the same members are equal, so that whatever writes the elements in their order has written
-- the sorted list; and sorting keeps members and counts. No permutation is ever spoken of.
use Prim.Native.Nat.{ℕ, zero, suc, ◌+◌, ◌≤◌, ◌<◌}
use native.Mathlib.Omega.{arith}
use mathlib.Core.Path.{◌≡◌, refl, sym, ap, ◌∙◌, subst}
use mathlib.Core.Logic.{⊎_elim}
use mathlib.Core.Bool.{Bool, true, false, not, ◌&&◌, cond}
use mathlib.Core.List.{List, [], ◌∷◌, ◌++◌, map}
use lib.Dec.{leb}
use borrow.Author.Tests.{leb-true, leb-false, not-true}
use Rattle.lists.specs.Tests.{implies}
use Rattle.lists.specs.Lists.{some, no_two, keep, count_of, put_into, sorted_by}
use Rattle.lists.specs.Parts.{tabulate, joined}
use Rattle.lists.specs.Members.{In, first, later, Once, none, more}
use Rattle.lists.proofs.Tests.{Case, pass, fail, case, contradiction, and_l, and_r, and_intro, implies_elim}
use Rattle.lists.proofs.MemberLaws.{in_none, in_either, some_in, kept, tabulated, from_joined, mapped, in_map}

module _ {A : Type 0} (key : A → ℕ) where
  -- each key is below all later ones
  pub data Rising : List A → Type 0 where
    empty : Rising []
    rises : {x : A} {xs : List A} → ((y : A) → In y xs → key x < key y) → Rising xs → Rising (x ∷ xs)

  pub below : {x : A} {xs : List A} → Rising (x ∷ xs) → (y : A) → In y xs → key x < key y
  below (rises h r) = h

  pub rest : {x : A} {xs : List A} → Rising (x ∷ xs) → Rising xs
  rest (rises h r) = r

  abbrev pub Within : List A → List A → Type 0
  Within l m = (x : A) → In x l → In x m

  heads : (x y : A) (l m : List A) → Rising (x ∷ l) → Rising (y ∷ m) → In x (y ∷ m) → In y (x ∷ l) → x ≡ y
  heads x y l m p q (first e) v = e
  heads x y l m p q (later a) (first e) = sym e
  heads x y l m p q (later a) (later b) = absurd (omega (arith, below q x a, below p y b))

  tail_in : (x y z : A) (l m : List A) → Rising (x ∷ l) → x ≡ y → In z l → In z (y ∷ m) → In z m
  tail_in x y z l m p e a (first f) =
      let g : key z ≡ key x = ap key (f ∙ sym e) in
      absurd (omega (arith, below p z a, g))
  tail_in x y z l m p e a (later b) = b

  pub rising_unique : (l m : List A) → Rising l → Rising m → Within l m → Within m l → l ≡ m
  rising_unique [] [] p q f g = refl
  rising_unique [] (y ∷ m) p q f g = absurd (in_none (g y (first refl)))
  rising_unique (x ∷ l) [] p q f g = absurd (in_none (f x (first refl)))
  rising_unique (x ∷ l) (y ∷ m) p q f g =
      let e : x ≡ y = heads x y l m p q (f x (first refl)) (g y (first refl)) in
      let t : l ≡ m
      = rising_unique l m (rest p) (rest q) (λ z a. tail_in x y z l m p e a (f z (later a))) (λ z a. tail_in y x z m l q (sym e) a (g z (later a))) in
      λ i. e i ∷ t i

  -- ---- an element put into its place
  put_in : (x : A) (l : List A) → Within (x ∷ l) (put_into key x l)
  unfolding put_into
  put_in x [] z m = m
  put_in x (y ∷ ys) z m = go (put_in x ys z) (case (leb (key x) (key y)))
    where
      lower : (In z (x ∷ ys) → In z (put_into key x ys)) → In z (x ∷ y ∷ ys) → In z (y ∷ put_into key x ys)
      lower h (first e) = later (h (first e))
      lower h (later (first e)) = first e
      lower h (later (later a)) = later (h (later a))

      go : (In z (x ∷ ys) → In z (put_into key x ys)) → Case (leb (key x) (key y))
          → In z (cond (leb (key x) (key y)) (x ∷ y ∷ ys) (y ∷ put_into key x ys))
      go h (pass e) = rw e m
      go h (fail e) = rw e (lower h m)

  put_out : (x : A) (l : List A) → Within (put_into key x l) (x ∷ l)
  unfolding put_into
  put_out x [] z m = m
  put_out x (y ∷ ys) z m = go (put_out x ys z) (case (leb (key x) (key y)))
    where
      swapped : In z (x ∷ ys) → In z (x ∷ y ∷ ys)
      swapped (first e) = first e
      swapped (later a) = later (later a)

      lower : (In z (put_into key x ys) → In z (x ∷ ys)) → In z (y ∷ put_into key x ys) → In z (x ∷ y ∷ ys)
      lower h (first e) = later (first e)
      lower h (later a) = swapped (h a)

      go : (In z (put_into key x ys) → In z (x ∷ ys)) → Case (leb (key x) (key y)) → In z (x ∷ y ∷ ys)
      go h (pass e) = rw e at m
      go h (fail e) = lower h (rw e at m)

  put_rising : (x : A) (l : List A) → Rising l → ((y : A) → In y l → key y ≡ key x → ⊥) → Rising (put_into key x l)
  unfolding put_into
  put_rising x [] p h = rises (λ y m. absurd (in_none m)) empty
  put_rising x (y ∷ ys) p h = go (put_rising x ys (rest p) (λ z m. h z (later m))) (case (leb (key x) (key y)))
    where
      low : key x < key y → (z : A) → In z (y ∷ ys) → key x < key z
      low k z (first e) = let g : key z ≡ key y = ap key e in omega (arith, g)
      low k z (later m) = omega (arith, below p z m)

      high : key y < key x → (z : A) → In z (x ∷ ys) → key y < key z
      high k z (first e) = let g : key z ≡ key x = ap key e in omega (arith, g)
      high k z (later m) = below p z m

      go : Rising (put_into key x ys) → Case (leb (key x) (key y)) → Rising (cond (leb (key x) (key y)) (x ∷ y ∷ ys) (y ∷ put_into key x ys))
      go r (pass e) =
          let k : key x < key y = omega (arith, leb-true (key x) (key y) e, h y (first refl)) in
          rw e (rises (low k) p)
      go r (fail e) =
          let k : key y < key x = leb-false (key x) (key y) e in
          rw e (rises (λ z m. high k z (put_out x ys z m)) r)

  -- ---- the sorted list
  cons_in : (x : A) (l m : List A) → Within l m → Within (x ∷ l) (x ∷ m)
  cons_in x l m f z (first e) = first e
  cons_in x l m f z (later a) = later (f z a)

  pub sorted_in : (l : List A) → Within l (sorted_by key l)
  unfolding sorted_by
  sorted_in [] z m = m
  sorted_in (x ∷ xs) z m = put_in x (sorted_by key xs) z (cons_in x xs (sorted_by key xs) (sorted_in xs) z m)

  pub sorted_out : (l : List A) → Within (sorted_by key l) l
  unfolding sorted_by
  sorted_out [] z m = m
  sorted_out (x ∷ xs) z m = cons_in x (sorted_by key xs) xs (sorted_out xs) z (put_out x (sorted_by key xs) z m)

  pub sorted_rising : (l : List A) → Once (map key l) → Rising (sorted_by key l)
  unfolding sorted_by
  sorted_rising [] o = empty
  sorted_rising (x ∷ xs) (more out o) =
      put_rising x (sorted_by key xs) (sorted_rising xs o)
      (λ y m e. out (subst (λ (n : ℕ). In n (map key xs)) e (in_map key y xs (sorted_out xs y m))))

  -- a rising list with the members of l is l, sorted
  pub is_sorted : (l m : List A) → Once (map key l) → Rising m → Within l m → Within m l → sorted_by key l ≡ m
  is_sorted l m o r f g =
      rising_unique (sorted_by key l) m (sorted_rising l o) r (λ z a. f z (sorted_out l z a)) (λ z a. sorted_in l z (g z a))

  pub rising_once : (l : List A) → Rising l → Once (map key l)
  rising_once [] r = none
  rising_once (x ∷ xs) (rises h r) =
      more (λ i. (let m = mapped key (key x) xs i in omega (arith, h m.from m.member, m.is))) (rising_once xs r)

  pub one_key : (l : List A) → Rising l → (x y : A) → In x l → In y l → key x ≡ key y → x ≡ y
  one_key (z ∷ zs) r x y (first a) (first b) e = a ∙ sym b
  one_key (z ∷ zs) r x y (first a) (later b) e = let q : key x ≡ key z = ap key a in absurd (omega (arith, below r y b, e, q))
  one_key (z ∷ zs) r x y (later a) (first b) e = let q : key y ≡ key z = ap key b in absurd (omega (arith, below r x a, e, q))
  one_key (z ∷ zs) r x y (later a) (later b) e = one_key zs (rest r) x y a b e
  one_key [] r x y x6 _ e = elim x6 [ ]

  -- ---- counts
  put_count : (test : A → Bool) (x : A) (l : List A) → count_of test (put_into key x l) ≡ count_of test (x ∷ l)
  unfolding put_into count_of
  put_count test x [] = refl
  put_count test x (y ∷ ys) = go (put_count test x ys) (case (leb (key x) (key y))) (case (test x)) (case (test y))
    where
      go : count_of test (put_into key x ys) ≡ count_of test (x ∷ ys) → Case (leb (key x) (key y)) → Case (test x) → Case (test y)
          → count_of test (cond (leb (key x) (key y)) (x ∷ y ∷ ys) (y ∷ put_into key x ys)) ≡ count_of test (x ∷ y ∷ ys)
      go h (pass e) _ _ = rw e refl
      go h (fail e) (pass f) (pass g) = rw (e, f, g) (ap suc (rw f at h))
      go h (fail e) (pass f) (fail g) = rw (e, f, g) (rw f at h)
      go h (fail e) (fail f) (pass g) = rw (e, f, g) (ap suc (rw f at h))
      go h (fail e) (fail f) (fail g) = rw (e, f, g) (rw f at h)

  pub sorted_count : (test : A → Bool) (l : List A) → count_of test (sorted_by key l) ≡ count_of test l
  unfolding sorted_by count_of
  sorted_count test [] = refl
  sorted_count test (x ∷ xs) =
      put_count test x (sorted_by key xs) ∙ ap (λ (n : ℕ). cond (test x) (suc n) n) (sorted_count test xs)

-- ---- kept lists
module _ {A : Type 0} (key : A → ℕ) where
  pub keep_rising : (test : A → Bool) (l : List A) → Rising key l → Rising key (keep test l)
  unfolding keep
  keep_rising test [] r = empty
  keep_rising test (x ∷ xs) (rises h r) = go (keep_rising test xs r) (case (test x))
    where
      go : Rising key (keep test xs) → Case (test x) → Rising key (cond (test x) (x ∷ keep test xs) (keep test xs))
      go s (pass t) = rw t (rises (λ y m. h y (kept test y xs m).member) s)
      go s (fail t) = rw t s

-- ---- parts one behind the other, an element for each number, rows by what they are rows of
module _ {A : Type 0} (key : A → ℕ) where
  rising_append : (l m : List A) → Rising key l → Rising key m → ((x y : A) → In x l → In y m → key x < key y) → Rising key (l ++ m)
  rising_append [] m p q h = q
  rising_append (x ∷ l) m p q h =
      rises (λ y i. ⊎_elim (below key p y) (h x y (first refl)) (in_either y l m i)) (rising_append l m (rest key p) q (λ a b i j. h a b (later i) j))

  -- the keys of part m lie from `low m` on and below `low (m + 1)`
  pub rising_joined : (low : ℕ → ℕ) → ((i j : ℕ) → i ≤ j → low i ≤ low j) → (n : ℕ) (part : ℕ → List A) → ((m : ℕ) → m < n → Rising key (part m))
      → ((m : ℕ) (x : A) → m < n → In x (part m) → (low m ≤ key x) × (key x < low (m + 1))) → Rising key (joined n part)
  unfolding joined
  rising_joined low up zero part each within = empty
  rising_joined low up (suc n) part each within =
      rising_append (joined n part) (part n)
      (rising_joined low up n part (λ m h. each m (omega (arith, h))) (λ m x h. within m x (omega (arith, h)))) (each n (omega arith)) apart
    where
      apart : (x y : A) → In x (joined n part) → In y (part n) → key x < key y
      apart x y i j =
          let k = from_joined n part x i in
          omega (
            arith,
            (within k.place x (omega (arith, k.low)) k.member).1,
            up (k.place + 1) n (omega (arith, k.low)),
            (within n y (omega arith) j).0,
          )

  pub rising_tabulate : (f : ℕ → A) → ((i j : ℕ) → i < j → key (f i) < key (f j)) → (n : ℕ) → Rising key (tabulate n f)
  unfolding tabulate
  rising_tabulate f up zero = empty
  rising_tabulate f up (suc n) =
      rises (λ y i. let t = tabulated n (λ j. f (suc j)) y i in subst (λ (z : A). key (f 0) < key z) (sym t.is) (up 0 (suc t.place) (omega arith)))
      (rising_tabulate (λ j. f (suc j)) (λ i j h. up (suc i) (suc j) (omega (arith, h))) n)

pub rising_map : {A B : Type 0} (f : A → ℕ) (g : B → ℕ) (row : A → B) (l : List A)
    → ((x y : A) → In x l → In y l → f x < f y → g (row x) < g (row y)) → Rising f l → Rising g (map row l)
rising_map f g row [] up r = empty
rising_map {A} {B} f g row (x ∷ xs) up (rises low r) =
    rises (λ z i. let m = mapped row z xs i in subst (λ (y : B). g (row x) < g y) (sym m.is) (above m.from m.member))
    (rising_map f g row xs (λ a b i j. up a b (later i) (later j)) r)
  where
    above : (y : A) → In y xs → g (row x) < g (row y)
    above y i = up x y (first refl) (later i) (low y i)

-- the rows of the elements that count, no two of which are alike, have each its own key
module _ {A B : Type 0} (counts : A → Bool) (alike : A → A → Bool) (row : A → B) (order : B → ℕ) where
  pub keep_once : (l : List A) → no_two counts alike l ≡ true
      → ((x y : A) → In x l → In y l → counts x ≡ true → counts y ≡ true → order (row y) ≡ order (row x) → alike x y ≡ true)
      → Once (map order (map row (keep counts l)))
  unfolding no_two keep
  keep_once [] e tell = none
  keep_once (x ∷ xs) e tell =
      go (keep_once xs (and_r (implies (counts x) (not (some (λ y. counts y && alike x y) xs))) (no_two counts alike xs) e)
      (λ a b m k. tell a b (later m) (later k))) (case (counts x))
    where
      alone : counts x ≡ true → some (λ y. counts y && alike x y) xs ≡ false
      alone c =
          not-true (some (λ y. counts y && alike x y) xs)
          (implies_elim (counts x) _ (and_l (implies (counts x) (not (some (λ y. counts y && alike x y) xs))) (no_two counts alike xs) e) c)

      apart : counts x ≡ true → In (order (row x)) (map order (map row (keep counts xs))) → ⊥
      apart c i =
          let v = mapped order (order (row x)) (map row (keep counts xs)) i in
          let w = mapped row v.from (keep counts xs) v.member in
          let p = kept counts w.from xs w.member in
          let a : alike x w.from ≡ true
          = tell x w.from (first refl) (later p.member) c p.passes (sym (v.is ∙ ap order w.is)) in
          contradiction (some_in (λ y. counts y && alike x y) xs w.from p.member (and_intro p.passes a)) (alone c)

      go : Once (map order (map row (keep counts xs))) → Case (counts x)
          → Once (map order (map row (cond (counts x) (x ∷ keep counts xs) (keep counts xs))))
      go o (pass c) = rw c (more (apart c) o)
      go o (fail c) = rw c o

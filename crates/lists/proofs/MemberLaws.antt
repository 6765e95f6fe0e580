-- Laws of being in a list and of no element twice: at a place, appended, kept, tabulated, joined, mapped lists; tests of every element and of
-- some, by members.
use Prim.Native.Nat.{ℕ, zero, suc, ◌≤◌, ◌<◌}
use native.Mathlib.Omega.{arith}
use mathlib.Core.Path.{◌≡◌, refl, sym, ap, subst, ◌∙◌}
use mathlib.Core.Logic.{◌⊎◌, inl, inr, ⊎_elim}
use mathlib.Core.Bool.{Bool, true, false, cond}
use mathlib.Core.List.{List, [], ◌∷◌, ◌++◌, map, flat_map, map-append, append_assoc}
use lib.Dec.{ltb}
use lib.ListN.{length, get_or}
use borrow.Author.Tests.{ltb-true, ltb-false}
use Rattle.lists.specs.Lists.{first_index, all, some, keep}
use Rattle.lists.specs.Parts.{tabulate, joined}
use Rattle.lists.proofs.Tests.{Case, pass, fail, case, and_intro}
use Rattle.lists.proofs.Everywhere.{all_elim, some_intro}
use Rattle.lists.proofs.Search.{some_first, find_passes}
use Rattle.lists.specs.Members.{In, first, later, Once, none, more}

split : (i n : ℕ) → i ≤ n → (i < n) ⊎ (i ≡ n)
split i n b = go (case (ltb i n))
  where
    go : Case (ltb i n) → (i < n) ⊎ (i ≡ n)
    go (pass e) = inl (ltb-true i n e)
    go (fail e) = let c : n ≤ i = ltb-false i n e in inr (omega arith)

module _ {A : Type 0} where
  pub in_none : {a : A} → In a [] → ⊥
  in_none i = elim i [ ]

  pub in_cons : {a x : A} {xs : List A} → In a (x ∷ xs) → (a ≡ x) ⊎ In a xs
  in_cons (first e) = inl e
  in_cons (later i) = inr i

  -- ---- at a place
  pub record At (d a : A) (xs : List A) : Type 0 where
    pub place : ℕ
    pub low : place < length xs
    pub is : get_or xs place d ≡ a

  pub at_of : (d a : A) (xs : List A) → In a xs → At d a xs
  at_of d a (x ∷ xs) (first e) = record { place = 0; low = omega arith; is = sym e }
  at_of d a (x ∷ xs) (later i) = let p = at_of d a xs i in record { place = suc p.place; low = omega (arith, p.low); is = p.is }
  at_of d a [] x' = elim x' [ ]

  pub in_place : (d : A) (xs : List A) (i : ℕ) → i < length xs → In (get_or xs i d) xs
  in_place d [] i b = absurd (omega arith)
  in_place d (x ∷ xs) zero b = first refl
  in_place d (x ∷ xs) (suc i) b = later (in_place d xs i (omega (arith, b)))

  -- ---- appended
  pub in_left : (a : A) (xs ys : List A) → In a xs → In a (xs ++ ys)
  in_left a (x ∷ xs) ys (first e) = first e
  in_left a (x ∷ xs) ys (later i) = later (in_left a xs ys i)
  in_left a [] ys x' = elim x' [ ]

  pub in_right : (a : A) (xs ys : List A) → In a ys → In a (xs ++ ys)
  in_right a [] ys i = i
  in_right a (x ∷ xs) ys i = later (in_right a xs ys i)

  pub in_either : (a : A) (xs ys : List A) → In a (xs ++ ys) → In a xs ⊎ In a ys
  in_either a [] ys i = inr i
  in_either a (x ∷ xs) ys (first e) = inl (first e)
  in_either a (x ∷ xs) ys (later i) = ⊎_elim (λ j. inl (later j)) inr (in_either a xs ys i)

  pub once_append : (xs ys : List A) → Once xs → Once ys → ((a : A) → In a xs → In a ys → ⊥) → Once (xs ++ ys)
  once_append [] ys _ o apart = o
  once_append (x ∷ xs) ys (more out o) p apart =
      more (λ i. ⊎_elim out (apart x (first refl)) (in_either x xs ys i)) (once_append xs ys o p (λ a i j. apart a (later i) j))

  -- ---- kept
  pub in_keep : (test : A → Bool) (a : A) (xs : List A) → In a xs → test a ≡ true → In a (keep test xs)
  unfolding keep
  in_keep test a (x ∷ xs) (first e) t = rw (ap test (sym e) ∙ t) (first e)
  in_keep test a (x ∷ xs) (later i) t = go (test x) (in_keep test a xs i t)
    where
      go : (b : Bool) → In a (keep test xs) → In a (cond b (x ∷ keep test xs) (keep test xs))
      go true j = later j
      go false j = j
  in_keep test a [] x'' t = elim x'' [ ]

  pub record Kept (test : A → Bool) (a : A) (xs : List A) : Type 0 where
    pub member : In a xs
    pub passes : test a ≡ true

  pub kept : (test : A → Bool) (a : A) (xs : List A) → In a (keep test xs) → Kept test a xs
  unfolding keep
  kept test a (x ∷ xs) i = go (case (test x)) i (kept test a xs)
    where
      go : Case (test x) → In a (cond (test x) (x ∷ keep test xs) (keep test xs)) → (In a (keep test xs) → Kept test a xs) → Kept test a (x ∷ xs)
      go (fail e) i h = let k = h (rw e at i) in record { member = later k.member; passes = k.passes }
      go (pass e) i h = at_front (rw e at i) h
        where
          at_front : In a (x ∷ keep test xs) → (In a (keep test xs) → Kept test a xs) → Kept test a (x ∷ xs)
          at_front (first z) h = record { member = first z; passes = ap test z ∙ e }
          at_front (later j) h = let k = h j in record { member = later k.member; passes = k.passes }
  kept test a [] i = elim i [ ]

  pub once_keep : (test : A → Bool) (xs : List A) → Once xs → Once (keep test xs)
  unfolding keep
  once_keep test [] o = none
  once_keep test (x ∷ xs) (more out o) = go (test x) (once_keep test xs o)
    where
      go : (b : Bool) → Once (keep test xs) → Once (cond b (x ∷ keep test xs) (keep test xs))
      go true p = more (λ i. out (kept test x xs i).member) p
      go false p = p

  -- ---- tests of some element and of every one
  pub some_in : (test : A → Bool) (xs : List A) (a : A) → In a xs → test a ≡ true → some test xs ≡ true
  some_in test xs a i t = let p = at_of a a xs i in some_intro a test xs p.place p.low (ap test p.is ∙ t)

  -- the first that passes, where one does
  pub found : (test : A → Bool) (xs : List A) (d : A) → some test xs ≡ true → Kept test (get_or xs (first_index test xs) d) xs
  found test xs d e =
      let b = some_first test xs e in record { member = in_place d xs (first_index test xs) b; passes = find_passes test xs d b }

  pub all_in : (test : A → Bool) (xs : List A) (a : A) → all test xs ≡ true → In a xs → test a ≡ true
  all_in test xs a e i = let p = at_of a a xs i in ap test (sym p.is) ∙ all_elim a test xs e p.place p.low

  pub all_members : (test : A → Bool) (xs : List A) → ((a : A) → In a xs → test a ≡ true) → all test xs ≡ true
  unfolding all
  all_members test [] h = refl
  all_members test (x ∷ xs) h = and_intro (h x (first refl)) (all_members test xs (λ a i. h a (later i)))

  -- ---- tabulated
  pub in_tabulate : (n : ℕ) (f : ℕ → A) (i : ℕ) → i < n → In (f i) (tabulate n f)
  unfolding tabulate
  in_tabulate zero f i b = absurd (omega arith)
  in_tabulate (suc n) f zero b = first refl
  in_tabulate (suc n) f (suc i) b = later (in_tabulate n (λ j. f (suc j)) i (omega arith))

  pub record Tabulated (n : ℕ) (f : ℕ → A) (a : A) : Type 0 where
    pub place : ℕ
    pub low : place < n
    pub is : a ≡ f place

  pub tabulated : (n : ℕ) (f : ℕ → A) (a : A) → In a (tabulate n f) → Tabulated n f a
  unfolding tabulate
  tabulated (suc n) f a (first e) = record { place = 0; low = omega arith; is = e }
  tabulated (suc n) f a (later i) =
      let t = tabulated n (λ j. f (suc j)) a i in record { place = suc t.place; low = omega (arith, t.low); is = t.is }
  tabulated zero f a x' = elim x' [ ]

  pub once_tabulate : (n : ℕ) (f : ℕ → A) → ((i j : ℕ) → f i ≡ f j → i ≡ j) → Once (tabulate n f)
  unfolding tabulate
  once_tabulate zero f inj = none
  once_tabulate (suc n) f inj =
      more (λ i. (let t = tabulated n (λ j. f (suc j)) (f 0) i in let z : 0 ≡ suc t.place = inj 0 (suc t.place) t.is in omega (arith, z)))
      (once_tabulate n (λ j. f (suc j)) (λ i j e. (let z : suc i ≡ suc j = inj (suc i) (suc j) e in omega (arith, z))))

  -- ---- joined
  pub in_joined : (n : ℕ) (part : ℕ → List A) (a : A) (i : ℕ) → i < n → In a (part i) → In a (joined n part)
  unfolding joined
  in_joined zero part a i b h = absurd (omega arith)
  in_joined (suc n) part a i b h = go (split i n (omega arith)) (in_joined n part a i)
    where
      go : (i < n) ⊎ (i ≡ n) → (i < n → In a (part i) → In a (joined n part)) → In a (joined n part ++ part n)
      go (inl c) rec = in_left a (joined n part) (part n) (rec c h)
      go (inr e) rec = in_right a (joined n part) (part n) (subst (λ (k : ℕ). In a (part k)) e h)

  pub record Joined (n : ℕ) (part : ℕ → List A) (a : A) : Type 0 where
    pub place : ℕ
    pub low : place < n
    pub member : In a (part place)

  pub from_joined : (n : ℕ) (part : ℕ → List A) (a : A) → In a (joined n part) → Joined n part a
  unfolding joined
  from_joined zero part a i = absurd (in_none i)
  from_joined (suc n) part a i =
      ⊎_elim (λ j. (let r = from_joined n part a j in record { place = r.place; low = omega (arith, r.low); member = r.member }))
      (λ j. record { place = n; low = omega arith; member = j }) (in_either a (joined n part) (part n) i)

  pub once_joined : (n : ℕ) (part : ℕ → List A) → ((i : ℕ) → Once (part i))
      → ((i j : ℕ) (a : A) → In a (part i) → In a (part j) → i ≡ j) → Once (joined n part)
  unfolding joined
  once_joined zero part o apart = none
  once_joined (suc n) part o apart =
      once_append (joined n part) (part n) (once_joined n part o apart) (o n)
      (λ a i j. (let r = from_joined n part a i in let z : r.place ≡ n = apart r.place n a r.member j in omega (arith, r.low, z)))

-- ---- kept of two lists
pub keep_append : {A : Type 0} (test : A → Bool) (xs ys : List A) → keep test (xs ++ ys) ≡ keep test xs ++ keep test ys
unfolding keep
keep_append test [] ys = refl
keep_append test (x ∷ xs) ys = go (test x) (keep_append test xs ys)
  where
    go : (b : Bool) → keep test (xs ++ ys) ≡ keep test xs ++ keep test ys
        → cond b (x ∷ keep test (xs ++ ys)) (keep test (xs ++ ys)) ≡ cond b (x ∷ keep test xs) (keep test xs) ++ keep test ys
    go true rest = ap (λ (l : List _). x ∷ l) rest
    go false rest = rest

-- ---- mapped lists
pub record Mapped {A B : Type 0} (f : A → B) (b : B) (xs : List A) : Type 0 where
  pub from : A
  pub member : In from xs
  pub is : b ≡ f from

pub mapped : {A B : Type 0} (f : A → B) (b : B) (xs : List A) → In b (map f xs) → Mapped f b xs
mapped f b (x ∷ xs) (first e) = record { from = x; member = first refl; is = e }
mapped f b (x ∷ xs) (later i) = let m = mapped f b xs i in record { from = m.from; member = later m.member; is = m.is }
mapped {A = A} {B = B} f b [] x' = elim x' [ ]

pub in_map : {A B : Type 0} (f : A → B) (a : A) (xs : List A) → In a xs → In (f a) (map f xs)
in_map f a (x ∷ xs) (first e) = first (ap f e)
in_map f a (x ∷ xs) (later i) = later (in_map f a xs i)
in_map {A = A} {B = B} f a [] x' = elim x' [ ]

pub all_map : {A B : Type 0} (test : B → Bool) (f : A → B) (xs : List A) → ((a : A) → In a xs → test (f a) ≡ true) → all test (map f xs) ≡ true
all_map test f xs h =
    all_members test (map f xs) (λ b i. (let m = mapped f b xs i in ap test m.is ∙ h m.from m.member))

pub map_back : {A B : Type 0} (f : A → B) (g : B → A) (xs : List A) → ((a : A) → In a xs → g (f a) ≡ a) → map g (map f xs) ≡ xs
map_back f g [] h = refl
map_back f g (x ∷ xs) h = λ i. h x (first refl) i ∷ map_back f g xs (λ a j. h a (later j)) i

pub once_map : {A B : Type 0} (f : A → B) (xs : List A) → Once xs → ((a b : A) → In a xs → In b xs → f a ≡ f b → a ≡ b) → Once (map f xs)
once_map f [] o inj = none
once_map f (x ∷ xs) (more out o) inj =
    more (λ i. (let m = mapped f (f x) xs i in out (subst (λ (a : _). In a xs) (sym (inj x m.from (first refl) (later m.member) m.is)) m.member)))
    (once_map f xs o (λ a b i j. inj a b (later i) (later j)))

pub once_map_append : {A B : Type 0} (f : A → B) (xs ys : List A) → Once (map f xs) → Once (map f ys)
    → ((a b : A) → In a xs → In b ys → f a ≡ f b → ⊥) → Once (map f (xs ++ ys))
once_map_append f xs ys o p apart =
    subst (λ (l : List _). Once l) (sym (map-append f xs ys))
    (once_append (map f xs) (map f ys) o p (λ c i j.
    let m = mapped f c xs i in
    let n = mapped f c ys j in
    apart m.from n.from m.member n.member (sym m.is ∙ n.is)))

-- ---- parts one behind the other
pub record Flat {A B : Type 0} (f : A → List B) (b : B) (xs : List A) : Type 0 where
  pub from : A
  pub member : In from xs
  pub part : In b (f from)

pub flat : {A B : Type 0} (f : A → List B) (b : B) (xs : List A) → In b (flat_map f xs) → Flat f b xs
unfolding flat_map
flat f b (x ∷ xs) i =
    ⊎_elim (λ j. record { from = x; member = first refl; part = j }) (λ j. (let r = flat f b xs j in record
    { from = r.from; member = later r.member; part = r.part }))
    (in_either b (f x) (flat_map f xs) i)
flat {A = A} {B = B} f b [] i = elim i [ ]

pub in_flat : {A B : Type 0} (f : A → List B) (b : B) (a : A) (xs : List A) → In a xs → In b (f a) → In b (flat_map f xs)
unfolding flat_map
in_flat f b a (x ∷ xs) (first e) i = in_left b (f x) (flat_map f xs) (subst (λ (y : _). In b (f y)) e i)
in_flat f b a (x ∷ xs) (later j) i = in_right b (f x) (flat_map f xs) (in_flat f b a xs j i)
in_flat {A = A} {B = B} f b a [] x'' i = elim x'' [ ]

pub once_flat : {A B C : Type 0} (f : A → List B) (g : B → C) (xs : List A) → Once xs → ((a : A) → In a xs → Once (map g (f a)))
    → ((a a' : A) (c : C) → In a xs → In a' xs → In c (map g (f a)) → In c (map g (f a')) → a ≡ a') → Once (map g (flat_map f xs))
unfolding flat_map
once_flat f g [] o each apart = none
once_flat f g (x ∷ xs) (more out o) each apart =
    subst (λ (l : List _). Once l) (sym (map-append g (f x) (flat_map f xs)))
    (once_append (map g (f x)) (map g (flat_map f xs)) (each x (first refl)) (once_flat f g xs o (λ a i. each a (later i))
    (λ a a' c i j. apart a a' c (later i) (later j)))
    (λ c i j. (let m = mapped g c (flat_map f xs) j in
    let p = flat f m.from xs m.member in
    let there : In c (map g (f p.from)) = subst (λ (y : _). In y (map g (f p.from))) (sym m.is) (in_map g m.from (f p.from) p.part) in
    out (subst (λ (a : _). In a xs) (sym (apart x p.from c (first refl) (later p.member) i there)) p.member))))

-- ---- parts of parts
pub flat_append : {A B : Type 0} (f : A → List B) (xs ys : List A) → flat_map f (xs ++ ys) ≡ flat_map f xs ++ flat_map f ys
unfolding flat_map
flat_append f [] ys = refl
flat_append f (x ∷ xs) ys = ap (λ (l : List _). f x ++ l) (flat_append f xs ys) ∙ sym (append_assoc (f x) (flat_map f xs) (flat_map f ys))

pub flat_flat : {A B C : Type 0} (f : B → List C) (g : A → List B) (xs : List A) → flat_map f (flat_map g xs) ≡ flat_map (λ x. flat_map f (g x)) xs
unfolding flat_map
flat_flat f g [] = refl
flat_flat f g (x ∷ xs) = flat_append f (g x) (flat_map g xs) ∙ ap (λ (l : List _). flat_map f (g x) ++ l) (flat_flat f g xs)

-- ---- the same for every element
module _ {A B : Type 0} where
  pub map_same : (f g : A → B) (xs : List A) → ((a : A) → In a xs → f a ≡ g a) → map f xs ≡ map g xs
  map_same f g [] same = refl
  map_same f g (x ∷ xs) same = λ i. same x (first refl) i ∷ map_same f g xs (λ a j. same a (later j)) i

  pub flat_same : (f g : A → List B) (xs : List A) → ((a : A) → In a xs → f a ≡ g a) → flat_map f xs ≡ flat_map g xs
  unfolding flat_map
  flat_same f g [] same = refl
  flat_same f g (x ∷ xs) same = λ i. same x (first refl) i ++ flat_same f g xs (λ a j. same a (later j)) i

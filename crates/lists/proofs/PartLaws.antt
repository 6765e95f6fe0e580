-- Laws of lists made of elements or parts: their lengths, what stands at each place, and what a loop that writes one after the other has
-- after some turns.
use Prim.Native.Nat.{ℕ, zero, suc, ◌+◌, ◌-◌, ◌*◌, ◌/◌, ◌%◌, ◌≤◌, ◌<◌}
use native.Mathlib.Nat.{mul-zero, mul-suc}
use native.Mathlib.Omega.{arith}
use mathlib.Core.Path.{◌≡◌, refl, sym, ap, subst, ◌∙◌}
use mathlib.Core.Bool.{Bool, true, false}
use mathlib.Core.List.{List, [], ◌∷◌, ◌++◌, append_assoc, append-nil}
use lib.Dec.{eqb}
use lib.ListN.{length, get_or, take, drop, length-append, length-drop}
use lib.Seq.{take-add, take_at, drop_at, drop-drop, drop-length, ext_get_or}
use borrow.Author.Tests.{eqb-true, eqb-false}
use borrow.Rule.Slice.PartMut.{put_mid}
use Rattle.lists.specs.Lists.{all}
use Rattle.lists.specs.Parts.{tabulate, joined}
use Rattle.lists.proofs.Tests.{Case, pass, fail, case}
use Rattle.lists.proofs.Everywhere.{all_intro, all_elim}
use Rattle.lists.proofs.Laid.{Laid}
use Rattle.lists.proofs.Loops.{all_broken, so_far}

-- ---- elements
module _ {A : Type 0} where
  pub length_tabulate : (n : ℕ) (element : ℕ → A) → length (tabulate n element) ≡ n
  unfolding tabulate
  length_tabulate zero element = refl
  length_tabulate (suc n) element = ap suc (length_tabulate n (λ i. element (suc i)))

  pub get_or_tabulate : (n : ℕ) (element : ℕ → A) (i : ℕ) (d : A) → i < n → get_or (tabulate n element) i d ≡ element i
  unfolding tabulate
  get_or_tabulate zero element i d h = absurd (omega arith)
  get_or_tabulate (suc n) element zero d h = refl
  get_or_tabulate (suc n) element (suc i) d h = get_or_tabulate n (λ i. element (suc i)) i d (omega arith)

  pub tabulate_last : (n : ℕ) (element : ℕ → A) → tabulate (suc n) element ≡ tabulate n element ++ element n ∷ []
  unfolding tabulate
  tabulate_last zero element = refl
  tabulate_last (suc n) element = ap (λ (l : List A). element 0 ∷ l) (tabulate_last n (λ i. element (suc i)))

  -- every place holds what is wanted there
  pub tabulated : (d : A) (n m : ℕ) (element : ℕ → A) (l : List A) → n ≤ m → Laid d n element m l → l ≡ tabulate n element
  tabulated d n m element l h laid =
      ext_get_or d l (tabulate n element) (laid.long ∙ sym (length_tabulate n element))
      (λ i low. laid.same i (omega (arith, laid.long)) ∙ sym (get_or_tabulate n element i d (omega (arith, laid.long))))

-- every number below n passes a test
abbrev up_to : ℕ → List ℕ
up_to n = tabulate n (λ i. i)

module _ (n : ℕ) (test : ℕ → Bool) where
  pub every_intro : ((i : ℕ) → i < n → test i ≡ true) → all test (up_to n) ≡ true
  every_intro each =
      all_intro 0 test (up_to n)
      (λ i h. let low : i < n = omega (arith, length_tabulate n (λ j. j)) in rw (get_or_tabulate n (λ j. j) i 0 low) (each i low))

  pub every_at : all test (up_to n) ≡ true → (i : ℕ) → i < n → test i ≡ true
  every_at e i h =
      subst (λ (j : ℕ). test j ≡ true) (get_or_tabulate n (λ j. j) i 0 h) (all_elim 0 test (up_to n) e i (omega (arith, length_tabulate n (λ j. j))))

  pub every_broken : (i : ℕ) → i < n → test i ≡ false → false ≡ all test (up_to n)
  every_broken i h e =
      all_broken 0 test (up_to n) i (omega (arith, length_tabulate n (λ j. j))) (rw (get_or_tabulate n (λ j. j) i 0 h) e)

-- ---- parts, all of one width
-- the whole begins with a part
pub record Begins {A : Type 0} (part whole : List A) : Type 0 where
  pub rest : List A
  pub same : whole ≡ part ++ rest

module _ {A : Type 0} (w : ℕ) where
  module _ (part : ℕ → List A) where
    pub length_joined : (n : ℕ) → ((i : ℕ) → i < n → length (part i) ≡ w) → length (joined n part) ≡ w * n
    unfolding joined
    length_joined zero wide = sym (mul-zero w)
    length_joined (suc n) wide =
        length-append (joined n part) (part n)
        ∙ (λ i. length_joined n (λ j h. wide j (omega arith)) i + wide n (omega arith) i) ∙ sym (mul-suc w n)

    pub joined_begins : (n i : ℕ) → ((j : ℕ) → j < n → length (part j) ≡ w) → i < n → (after : List A)
        → Begins (part i) (drop (w * i) (joined n part ++ after))
    unfolding joined
    joined_begins zero i wide h after = absurd (omega arith)
    joined_begins (suc n) i wide h after = go (case (eqb i n)) (λ low. joined_begins n i (λ j l. wide j (omega arith)) low (part n ++ after))
      where
        go : Case (eqb i n) → (i < n → Begins (part i) (drop (w * i) (joined n part ++ (part n ++ after))))
            → Begins (part i) (drop (w * i) (joined n part ++ part n ++ after))
        go (pass e) earlier =
            rw (eqb-true i n e)
            (record {
              rest = after;
              same = ap (drop (w * n)) (append_assoc (joined n part) (part n) after)
                  ∙ drop_at (joined n part) (part n ++ after) (w * n) (length_joined n (λ j l. wide j (omega arith)));
            })
        go (fail e) earlier =
            let b = earlier (omega (arith, eqb-false i n e)) in
            record { rest = b.rest; same = ap (drop (w * i)) (append_assoc (joined n part) (part n) after) ∙ b.same }

    -- the part at its place
    pub joined_at : (n : ℕ) → ((j : ℕ) → j < n → length (part j) ≡ w) → (i : ℕ) → i < n → take w (drop (w * i) (joined n part)) ≡ part i
    joined_at n wide i h =
        let it : Begins (part i) (drop (w * i) (joined n part ++ [])) = joined_begins n i wide h [] in
        ap (λ (l : List A). take w (drop (w * i) l)) (sym (append-nil (joined n part))) ∙ ap (take w) it.same ∙ take_at (part i) it.rest w (wide i h)

    -- parts that are cut from a list one behind the other
    pub joined_cut : (n : ℕ) (l : List A) → ((i : ℕ) → i < n → part i ≡ take w (drop (w * i) l)) → joined n part ≡ take (w * n) l
    unfolding joined
    joined_cut zero l cut = rw mul-zero
    joined_cut (suc n) l cut =
        (λ i. joined_cut n l (λ j h. cut j (omega arith)) i ++ cut n (omega arith) i) ∙ sym (take-add (w * n) w l) ∙ ap (λ (m : ℕ). take m l) (sym (mul-suc w n))

-- ---- parts of any width
module _ {A : Type 0} where
  pub joined_same : (n : ℕ) (f g : ℕ → List A) → ((i : ℕ) → i < n → f i ≡ g i) → joined n f ≡ joined n g
  unfolding joined
  joined_same zero f g same = refl
  joined_same (suc n) f g same = (λ i. joined_same n f g (λ j h. same j (omega arith)) i ++ same n (omega arith) i)

  pub joined_add : (m n : ℕ) (part : ℕ → List A) → joined (m + n) part ≡ joined m part ++ joined n (λ i. part (m + i))
  unfolding joined
  joined_add m zero part = let z : m + 0 ≡ m = omega arith in ap (λ (k : ℕ). joined k part) z ∙ sym (append-nil (joined m part))
  joined_add m (suc n) part =
      let z : m + suc n ≡ suc (m + n) = omega arith in
      ap (λ (k : ℕ). joined k part) z ∙ ap (λ (l : List A). l ++ part (m + n)) (joined_add m n part)
      ∙ append_assoc (joined m part) (joined n (λ i. part (m + i))) (part (m + n))

  -- the first m of n
  pub joined_front : (m n : ℕ) (part : ℕ → List A) → m ≤ n → Begins (joined m part) (joined n part)
  joined_front m n part h =
      let z : m + (n - m) ≡ n = omega arith in
      record { rest = joined (n - m) (λ i. part (m + i)); same = ap (λ (k : ℕ). joined k part) (sym z) ∙ joined_add m (n - m) part }

  -- eight in each, counted through
  pub joined_eights : (n : ℕ) (part : ℕ → ℕ → List A) → joined n (λ a. joined 8 (part a)) ≡ joined (8 * n) (λ p. part (p / 8) (p % 8))
  unfolding joined
  joined_eights zero part = refl
  joined_eights (suc n) part =
      let z : 8 * suc n ≡ 8 * n + 8 = omega arith in
      let through : (i : ℕ) → i < 8 → part n i ≡ part ((8 * n + i) / 8) ((8 * n + i) % 8)
      = λ i h. (let a : (8 * n + i) / 8 ≡ n = omega arith in let b : (8 * n + i) % 8 ≡ i = omega arith in rw (a, b) refl) in
      (λ i. joined_eights n part i ++ joined_same 8 (part n) (λ i. part ((8 * n + i) / 8) ((8 * n + i) % 8)) through i)
      ∙ sym (joined_add (8 * n) 8 (λ p. part (p / 8) (p % 8))) ∙ ap (λ (k : ℕ). joined k (λ p. part (p / 8) (p % 8))) (sym z)

-- ---- parts written one behind the other over a list, i of them so far
pub record Written {A : Type 0} (w : ℕ) (part : ℕ → List A) (before : List A) (i : ℕ) (now : List A) : Type 0 where
  pub wide : (j : ℕ) → j < i → length (part j) ≡ w
  pub size : length now ≡ length before
  pub same : now ≡ joined i part ++ drop (w * i) before

module _ {A : Type 0} (w : ℕ) (part : ℕ → List A) (before : List A) where
  pub written_none : Written w part before 0 before
  unfolding joined
  written_none = record { wide = λ j h. absurd (omega (arith, h)); size = refl; same = rw mul-zero }

  module _ (i : ℕ) (now : List A) (so : Written w part before i now) where
    length_so : length (joined i part) ≡ w * i
    length_so = length_joined w part i so.wide

    ahead : drop (w * i) now ≡ drop (w * i) before
    ahead = ap (drop (w * i)) so.same ∙ drop_at (joined i part) (drop (w * i) before) (w * i) length_so

    -- what stands where the next part goes
    pub written_next : (a k : ℕ) → a ≡ w * i → k ≡ w → take k (drop a now) ≡ take w (drop (w * i) before)
    written_next a k ea ek = rw (ea, ek) (ap (take w) ahead)

    -- the parts so far
    pub written_front : take (w * i) now ≡ joined i part
    written_front = ap (take (w * i)) so.same ∙ take_at (joined i part) (drop (w * i) before) (w * i) length_so

    -- it came back as the next part
    pub written_more : (a k : ℕ) (back : List A) → a ≡ w * i → k ≡ w → length (part i) ≡ w → w * i + w ≤ length before → back ≡ part i
        → Written w part before (i + 1) (put_mid a k now back)
    unfolding joined
    written_more a k back ea ek long fits is =
        let here : put_mid (w * i) w now (part i) ≡ joined (suc i) part ++ drop (w * suc i) before =
        (λ j. written_front j
        ++ (part i ++ (ap (drop w) ahead ∙ drop-drop w (w * i) before ∙ ap (λ (m : ℕ). drop m before) (sym (mul-suc w i))) j))
        ∙ sym (append_assoc (joined i part) (part i) (drop (w * suc i) before)) in
        let e : i + 1 ≡ suc i = omega arith in
        let same : put_mid a k now back ≡ joined (i + 1) part ++ drop (w * (i + 1)) before = rw (ea, ek, is, e) here in
        record {
          wide = so_far i so.wide long;
          size = ap length same ∙ rw e (length-append (joined (suc i) part) (drop (w * suc i) before)
              ∙ omega (arith, length_joined w part (suc i) (λ j h. so_far i so.wide long j (omega (arith, h))), length-drop (w * suc i) before, mul-suc w i));
          same = same;
        }

    -- no part is left to write
    pub written_all : (n : ℕ) → i ≡ n → length before ≡ w * n → now ≡ joined n part
    written_all n e long =
        let none : drop (w * i) before ≡ [] = ap (λ (m : ℕ). drop m before) (ap (λ (m : ℕ). w * m) e ∙ sym long) ∙ drop-length before in
        so.same ∙ ap (λ (l : List A). joined i part ++ l) none ∙ append-nil (joined i part) ∙ ap (λ (m : ℕ). joined m part) e

-- ---- what a list begins with
module _ {A : Type 0} where
  pub begins_all : (l : List A) → Begins l l
  begins_all l = record { rest = []; same = sym (append-nil l) }

  module _ (a b l : List A) (it : Begins (a ++ b) l) where
    both : l ≡ a ++ (b ++ it.rest)
    both = it.same ∙ append_assoc a b it.rest

    pub begins_front : Begins a l
    begins_front = record { rest = b ++ it.rest; same = both }

    pub begins_behind : (n : ℕ) → length a ≡ n → Begins b (drop n l)
    begins_behind n long = record { rest = it.rest; same = ap (drop n) both ∙ drop_at a (b ++ it.rest) n long }

-- ---- n elements, each written as a part of width w and read from a list that begins with its part
module _ {A B : Type 0} (w n : ℕ) (part : A → List B) (d : A) where
  abbrev part_at : List A → ℕ → List B
  part_at l i = part (get_or l i d)

  pub part_begins : ((x : A) → length (part x) ≡ w) → (l : List A) (bytes : List B) → Begins (joined n (part_at l)) bytes
      → (i : ℕ) → i < n → Begins (part_at l i) (drop (w * i) bytes)
  part_begins wide l bytes it i h = rw it.same (joined_begins w (part_at l) n i (λ j low. wide (get_or l j d)) h it.rest)

  module _ (read : List B → A) where
    abbrev read_at : List B → ℕ → A
    read_at bytes i = read (drop (w * i) bytes)

    pub parts_back : ((x : A) → length (part x) ≡ w) → (l : List A) (bytes : List B) → Begins (joined n (part_at l)) bytes → length l ≡ n
        → ((i : ℕ) → i < n → Begins (part_at l i) (drop (w * i) bytes) → read_at bytes i ≡ get_or l i d) → tabulate n (read_at bytes) ≡ l
    parts_back wide l bytes it long back =
        sym (tabulated d n n (read_at bytes) l (omega arith)
        (record { long = long; same = λ i h. sym (back i h (part_begins wide l bytes it i h)) }))

    pub parts_cut : (bytes : List B) → ((i : ℕ) → i < n → part (read_at bytes i) ≡ take w (drop (w * i) bytes))
        → joined n (part_at (tabulate n (read_at bytes))) ≡ take (w * n) bytes
    parts_cut bytes cut =
        joined_cut w (part_at (tabulate n (read_at bytes))) n bytes (λ i h. ap part (get_or_tabulate n (read_at bytes) i d h) ∙ cut i h)

-- A line is cut into its fields, and they make the line again; a line ended by byte 10 is a text's only line.
use Prim.Native.Nat.{ℕ, ◌<◌}
use native.Mathlib.Omega.{arith}
use mathlib.Core.Path.{◌≡◌, refl, sym, ap, ◌∙◌}
use mathlib.Core.Bool.{Bool, true, false, not}
use mathlib.Core.List.{List, [], ◌∷◌, ◌++◌}
use lib.Dec.{eqb}
use lib.ListN.{length}
use borrow.Author.Tests.{eq-eqb, eqb-true, not-true}
use Rattle.lists.specs.Lists.{all}
use Rattle.lists.proofs.Tests.{Case, pass, fail, case, and_l, and_r}
use Rattle.text.specs.Bytes.{space, line_end}
use Rattle.text.specs.Reading.{in_front, cut, lines, fields}
use Rattle.text.proofs.ReadingLaws.{fields_some}

-- no byte of the text is x
abbrev pub without : ℕ → List ℕ → Bool
without x text = all (λ b. not (eqb b x)) text

-- fields with one space between
unfoldable pub joined : List (List ℕ) → List ℕ
joined [] = []
joined (f ∷ []) = f
joined (f ∷ g ∷ fs) = f ++ space ∷ joined (g ∷ fs)

-- ---- cutting
-- one byte more in front
cut_at : (x : ℕ) (last : List (List ℕ)) (text : List ℕ) → cut x last (x ∷ text) ≡ [] ∷ cut x last text
unfolding cut
cut_at x last text = rw (eq-eqb x x refl)

cut_past : (x : ℕ) (last : List (List ℕ)) (b : ℕ) (text : List ℕ) → eqb b x ≡ false → cut x last (b ∷ text) ≡ in_front b (cut x last text)
unfolding cut
cut_past x last b text e = rw e

-- a part that the byte x ends
cut_part : (x : ℕ) (last : List (List ℕ)) (part text : List ℕ) → without x part ≡ true
    → cut x last (part ++ x ∷ text) ≡ part ∷ cut x last text
unfolding all in_front
cut_part x last [] text e = cut_at x last text
cut_part x last (b ∷ part) text e =
    let n : eqb b x ≡ false = not-true (eqb b x) (and_l (not (eqb b x)) (without x part) e) in
    cut_past x last b (part ++ x ∷ text) n ∙ ap (in_front b) (cut_part x last part text (and_r (not (eqb b x)) (without x part) e))

-- a part that the text ends
cut_last : (x : ℕ) (part : List ℕ) → without x part ≡ true → cut x ([] ∷ []) part ≡ part ∷ []
unfolding all in_front cut
cut_last x [] e = refl
cut_last x (b ∷ part) e =
    let n : eqb b x ≡ false = not-true (eqb b x) (and_l (not (eqb b x)) (without x part) e) in
    rw n (ap (in_front b) (cut_last x part (and_r (not (eqb b x)) (without x part) e)))

pub first_line_lem : (line rest : List ℕ) → without line_end line ≡ true → lines (line ++ line_end ∷ rest) ≡ line ∷ lines rest
unfolding lines
first_line_lem line rest e = cut_part line_end [] line rest e

pub one_line : (line : List ℕ) → without line_end line ≡ true → lines (line ++ line_end ∷ []) ≡ line ∷ []
unfolding lines cut
one_line line e = first_line_lem line [] e

-- ---- fields
pub fields_joined : (f : List ℕ) (fs : List (List ℕ)) → all (without space) (f ∷ fs) ≡ true → fields (joined (f ∷ fs)) ≡ f ∷ fs
unfolding fields joined all
fields_joined f [] e = cut_last space f (and_l (without space f) true e)
fields_joined f (g ∷ fs) e =
    cut_part space ([] ∷ []) f (joined (g ∷ fs)) (and_l (without space f) (all (without space) (g ∷ fs)) e)
    ∙ ap (λ (l : List (List ℕ)). f ∷ l) (fields_joined g fs (and_r (without space f) (all (without space) (g ∷ fs)) e))

joined_front : (x : ℕ) (l : List (List ℕ)) → joined (in_front x l) ≡ x ∷ joined l
unfolding joined in_front
joined_front x [] = refl
joined_front x (f ∷ []) = refl
joined_front x (f ∷ g ∷ fs) = refl

joined_empty : (l : List (List ℕ)) → 0 < length l → joined ([] ∷ l) ≡ space ∷ joined l
unfolding joined
joined_empty [] h = absurd (omega arith)
joined_empty (f ∷ fs) h = refl

pub joined_fields : (line : List ℕ) → joined (fields line) ≡ line
unfolding joined fields cut
joined_fields [] = refl
joined_fields (b ∷ line) = at (case (eqb b space)) (joined_fields line)
  where
    at : Case (eqb b space) → joined (fields line) ≡ line → joined (fields (b ∷ line)) ≡ b ∷ line
    at (pass e) ih =
        rw e (joined_empty (fields line) (fields_some line) ∙ (λ k. sym (eqb-true b space e) k ∷ ih k))
    at (fail e) ih = rw e (joined_front b (fields line) ∙ ap (λ (l : List ℕ). b ∷ l) ih)

-- Reading a line's values one by one: what holds after i values, with the rest of the line from `at` on, and what each value leads to.
use Prim.Native.Nat.{ℕ, suc, ◌+◌, ◌-◌, ◌≤◌, ◌<◌}
use native.Mathlib.Numerals.{add-one}
use native.Mathlib.Omega.{arith}
use mathlib.Core.Path.{◌≡◌, sym, ap, ◌∙◌}
use mathlib.Core.Bool.{true, false}
use mathlib.Core.List.{List, [], ◌∷◌, ◌++◌}
use lib.Dec.{eqb}
use Rattle.std.specs.Prelude.{Some, None}
use lib.ListN.{length, set, take, drop, length-drop, length-set}
use lib.Seq.{take_all, take-suc-set, drop-drop, append_snoc}
use borrow.Author.Tests.{eqb-true, eqb-false}
use Rattle.lists.proofs.Front.{rest_part}
use Rattle.lists.proofs.Tests.{Case, pass, fail, case}
use Rattle.lists.proofs.Search.{first_within}
use Rattle.text.specs.declared.Field.{Field}
use Rattle.text.specs.Bytes.{space}
use Rattle.text.specs.Reading.{number, is_value, has_values, values_of, first_field, value_in}
use Rattle.text.proofs.ReadingLaws.{up_to, first_long, values_more, values_rest, values_last, one_value, too_few, too_many, no_value}

-- ---- what the value reader told
pub record Told (rest : List ℕ) (value end : ℕ) : Type 0 where
  pub formed : is_value (first_field rest) ≡ true
  pub is : value ≡ number (first_field rest)
  pub ends : end ≡ up_to space rest

module _ (rest : List ℕ) where
  told : (v : Field) → Some v ≡ value_in rest → Told rest v.number v.end
  unfolding value_in
  told v e = go (case (is_value (first_field rest)))
    where
      go : Case (is_value (first_field rest)) → Told rest v.number v.end
      go (pass p) =
          let q = rw p at e in
          let f : v ≡ record { number = number (first_field rest); end = length (first_field rest) } = cc in
          record { formed = p; is = ap (λ (w : Field). w.number) f; ends = ap (λ (w : Field). w.end) f ∙ first_long rest }
      go (fail p) = let q = rw p at e in cc

  told_other : None ≡ value_in rest → is_value (first_field rest) ≡ false
  unfolding value_in
  told_other e = go (case (is_value (first_field rest)))
    where
      go : Case (is_value (first_field rest)) → is_value (first_field rest) ≡ false
      go (pass p) = let q = rw p at e in cc
      go (fail p) = p

-- ---- the values so far
pub record SoFar (line : List ℕ) (count : ℕ) (values : List ℕ) (at i : ℕ) : Type 0 where
  pub inside : at ≤ length line
  pub long : length values ≡ count
  pub some : i ≤ count
  pub form : has_values count line ≡ has_values (count - i) (drop at line)
  pub read : values_of line ≡ take i values ++ values_of (drop at line)

module _ (line : List ℕ) (count : ℕ) (values : List ℕ) (at i : ℕ) (s : SoFar line count values at i) where
  pub all_read : count ≤ i → has_values count line ≡ false
  all_read h = s.form ∙ ap (λ (n : ℕ). has_values n (drop at line)) (omega (arith, s.some)) ∙ too_many (drop at line)

  pub is_other : None ≡ value_in (take (length line - at) (drop at line)) → has_values count line ≡ false
  is_other e = s.form ∙ no_value (count - i) (drop at line) (told_other (drop at line) (e ∙ ap value_in (rest_part line at)))

  -- the value v is read
  module _ (v : Field) (read : Some v ≡ value_in (take (length line - at) (drop at line))) where
    t : Told (drop at line) v.number v.end
    t = told (drop at line) v (read ∙ ap value_in (rest_part line at))

    rest_long : length (drop at line) ≡ length line - at
    rest_long = length-drop at line

    pub end_inside : at + v.end ≤ length line
    end_inside = omega (arith, rest_long, s.inside, t.ends, first_within (λ b. eqb b space) (drop at line))

    set_first : i < count → take (i + 1) (set values i v.number) ≡ take i values ++ v.number ∷ []
    set_first h = rw add-one (take-suc-set values i v.number (omega (arith, s.long)))

    behind : drop (suc (up_to space (drop at line))) (drop at line) ≡ drop (at + v.end + 1) line
    behind =
        let e : at + suc (up_to space (drop at line)) ≡ at + v.end + 1 = omega (arith, t.ends) in
        drop-drop (suc (up_to space (drop at line))) at line ∙ ap (λ (n : ℕ). drop n line) e

    -- at the line's end: it is of the form if this was the last value
    pub last_form : at + v.end ≡ length line → eqb (i + 1) count ≡ has_values count line
    last_form e = go (case (eqb (i + 1) count))
      where
        go : Case (eqb (i + 1) count) → eqb (i + 1) count ≡ has_values count line
        go (pass q) =
            let n = eqb-true _ _ q in
            q
            ∙ sym (s.form ∙ ap (λ (n : ℕ). has_values n (drop at line)) (omega (arith, n))
            ∙ one_value (drop at line) (omega (arith, rest_long, t.ends, s.inside)) t.formed)
        go (fail q) =
            let n = eqb-false _ _ q in
            q
            ∙ sym (s.form ∙ too_few (count - i) (drop at line) (omega (arith, rest_long, t.ends, s.inside)) (λ o. n (omega (arith, o))))

    pub last_values : at + v.end ≡ length line → eqb (i + 1) count ≡ true → set values i v.number ≡ values_of line
    last_values e last =
        let q = eqb-true _ _ last in
        sym (take_all (i + 1) (set values i v.number) (omega (arith, q, s.long, length-set values i v.number)))
        ∙ set_first (omega (arith, q))
        ∙ ap (λ (n : ℕ). take i values ++ n ∷ []) t.is
        ∙ sym (s.read
        ∙ ap (λ (vs : List ℕ). take i values ++ vs) (values_last (drop at line) (omega (arith, rest_long, t.ends, s.inside))))

    pub and_more : i < count → (at + v.end ≡ length line → ⊥) → SoFar line count (set values i v.number) (at + v.end + 1) (i + 1)
    and_more h ne = record {
      inside = omega (arith, end_inside, ne);
      long = length-set values i v.number ∙ s.long;
      some = omega arith;
      form =
          s.form ∙ ap (λ (n : ℕ). has_values n (drop at line)) (omega arith)
          ∙ values_more (count - (i + 1)) (drop at line) (omega (arith, rest_long, t.ends, end_inside, ne)) t.formed
          ∙ ap (has_values (count - (i + 1))) behind;
      read =
          s.read
          ∙ ap (λ (vs : List ℕ). take i values ++ vs) (values_rest (drop at line) (omega (arith, rest_long, t.ends, end_inside, ne)))
          ∙ (λ k. take i values ++ sym t.is k ∷ values_of (behind k))
          ∙ sym (append_snoc (take i values) v.number (values_of (drop (at + v.end + 1) line)))
          ∙ ap (λ (vs : List ℕ). vs ++ values_of (drop (at + v.end + 1) line)) (sym (set_first h));
    }

-- Sorts of lines: a line's sort tells whose it is, so that a count of lines is a count of their sort, and there is room for a line exactly where
-- its sort is not full.
use Prim.Native.Nat.{ℕ, suc, ◌+◌, ◌*◌, ◌≤◌, ◌<◌}
use native.Mathlib.Omega.{arith}
use mathlib.Core.Path.{◌≡◌, refl, sym, ap, ◌∙◌}
use mathlib.Core.Logic.{◌⊎◌, inl, inr}
use mathlib.Core.Bool.{Bool, true, not, ◌||◌, cond}
use mathlib.Core.List.{List, [], ◌∷◌}
use lib.Dec.{ltb, eqb}
use borrow.Author.Tests.{eqb-true, eq-eqb, ltb-true, ltb-false, lt-ltb, le-ltb}
use Rattle.lists.specs.Lists.{some, count_of}
use Rattle.lists.proofs.Tests.{Case, pass, fail, case, cannot_pass, both_ways}
use Rattle.saved.specs.declared.Row.{Row}
use Rattle.saved.specs.Row.{is_last_row, is_ticket_row, is_entry_row, row_ok}
use Rattle.saved.specs.Load.{last_of_program, ticket_of_program, has_room}
use Rattle.saved.proofs.RowLaws.{Ranges, ranges, three_kinds, last_no_ticket, last_no_entry, ticket_no_entry, last_kind, last_is, is_last, ticket_kind, ticket_is}
use Rattle.saved.proofs.RowLaws.{is_ticket}
use Rattle.text_fill.specs.Filling.{sorts, program_of, sort_of, most_of, count_before, Followed, none, more}

-- ---- the kinds by their numbers
pub is_last_row_lem : (r : Row) → r.kind ≡ 0 → is_last_row r ≡ true
unfolding is_last_row
is_last_row_lem r e = eq-eqb r.kind 0 e

pub is_entry_row_lem : (r : Row) → r.kind ≡ 5 → is_entry_row r ≡ true
unfolding is_entry_row
is_entry_row_lem r e = eq-eqb r.kind 5 e

pub is_ticket_row_lem : (r : Row) → row_ok r ≡ true → (r.kind ≡ 0 → ⊥) → (r.kind ≡ 5 → ⊥) → is_ticket_row r ≡ true
unfolding is_last_row is_entry_row
is_ticket_row_lem r o nl ne = go (three_kinds r o)
  where
    go : (is_last_row r ≡ true) ⊎ ((is_ticket_row r ≡ true) ⊎ (is_entry_row r ≡ true)) → is_ticket_row r ≡ true
    go (inl l) = absurd (nl (eqb-true r.kind 0 l))
    go (inr (inl k)) = k
    go (inr (inr e)) = absurd (ne (eqb-true r.kind 5 e))

-- ---- the sort of each kind of line
pub sort_last : (r : Row) → is_last_row r ≡ true → sort_of r ≡ program_of r
unfolding sort_of
sort_last r l = rw l

pub sort_entry : (r : Row) → is_entry_row r ≡ true → sort_of r ≡ 64
unfolding sort_of
sort_entry r e = rw (cannot_pass (is_last_row r) (λ l. last_no_entry r l e), e)

pub sort_ticket : (r : Row) → is_ticket_row r ≡ true → sort_of r ≡ 32 + program_of r
unfolding sort_of
sort_ticket r k = rw (cannot_pass (is_last_row r) (λ l. last_no_ticket r l k), cannot_pass (is_entry_row r) (ticket_no_entry r k))

pub sort_low : (r : Row) → row_ok r ≡ true → sort_of r < sorts
sort_low r o = go (three_kinds r o)
  where
    w : Ranges r
    w = ranges r o

    go : (is_last_row r ≡ true) ⊎ ((is_ticket_row r ≡ true) ⊎ (is_entry_row r ≡ true)) → sort_of r < sorts
    go (inl l) = omega (arith, sort_last r l, w.pad, w.program)
    go (inr (inl k)) = omega (arith, sort_ticket r k, w.pad, w.program)
    go (inr (inr e)) = omega (arith, sort_entry r e)

-- ---- how many there may be of it
pub most_ticket : (r : Row) → is_ticket_row r ≡ true → most_of r ≡ 8
unfolding most_of
most_ticket r k = rw (cannot_pass (is_last_row r) (λ l. last_no_ticket r l k), cannot_pass (is_entry_row r) (ticket_no_entry r k))

pub most_entry : (r : Row) → is_entry_row r ≡ true → most_of r ≡ 256
unfolding most_of
most_entry r e = rw (cannot_pass (is_last_row r) (λ l. last_no_entry r l e), e)

pub most_high : (r : Row) → most_of r ≤ 256
unfolding most_of
most_high r = go (case (is_last_row r)) (case (is_entry_row r))
  where
    go : Case (is_last_row r) → Case (is_entry_row r) → most_of r ≤ 256
    go (pass l) _ = rw l (omega arith)
    go (fail l) (pass e) = rw (l, e) (omega arith)
    go (fail l) (fail e) = rw (l, e) (omega arith)

-- ---- whose line it is, by its sort
module _ (r : Row) (o : row_ok r ≡ true) where
  w : Ranges r
  w = ranges r o

  kinds : (is_last_row r ≡ true) ⊎ ((is_ticket_row r ≡ true) ⊎ (is_entry_row r ≡ true))
  kinds = three_kinds r o

  module _ (p q : ℕ) (a : p < 4) (b : q < 8) where
    pub last_by_sort : last_of_program p q r ≡ eqb (sort_of r) (8 * p + q)
    last_by_sort = both_ways (last_of_program p q r) (eqb (sort_of r) (8 * p + q)) there (λ e. back (eqb-true (sort_of r) (8 * p + q) e) kinds)
      where
        there : last_of_program p q r ≡ true → eqb (sort_of r) (8 * p + q) ≡ true
        there l =
            let i = last_is p q r l in eq-eqb (sort_of r) (8 * p + q) (sort_last r (last_kind p q r l) ∙ λ j. 8 * i.0 j + i.1 j)

        back : sort_of r ≡ 8 * p + q → (is_last_row r ≡ true) ⊎ ((is_ticket_row r ≡ true) ⊎ (is_entry_row r ≡ true)) → last_of_program p q r ≡ true
        back e (inl l) =
            let s = sort_last r l in is_last p q r l (omega (arith, s, e, b, w.program)) (omega (arith, s, e, b, w.program))
        back e (inr (inl k)) = absurd (omega (arith, sort_ticket r k, e, a, b))
        back e (inr (inr n)) = absurd (omega (arith, sort_entry r n, e, a, b))

    pub ticket_by_sort : ticket_of_program p q r ≡ eqb (sort_of r) (32 + (8 * p + q))
    ticket_by_sort = both_ways (ticket_of_program p q r) (eqb (sort_of r) (32 + (8 * p + q))) there (λ e. back (eqb-true (sort_of r) (32 + (8 * p + q)) e) kinds)
      where
        there : ticket_of_program p q r ≡ true → eqb (sort_of r) (32 + (8 * p + q)) ≡ true
        there l =
            let i = ticket_is p q r l in eq-eqb (sort_of r) (32 + (8 * p + q)) (sort_ticket r (ticket_kind p q r l) ∙ λ j. 32 + (8 * i.0 j + i.1 j))

        back : sort_of r ≡ 32 + (8 * p + q) → (is_last_row r ≡ true) ⊎ ((is_ticket_row r ≡ true) ⊎ (is_entry_row r ≡ true)) → ticket_of_program p q r ≡ true
        back e (inl l) = absurd (omega (arith, sort_last r l, e, w.pad, w.program))
        back e (inr (inl k)) =
            let s = sort_ticket r k in is_ticket p q r k (omega (arith, s, e, b, w.program)) (omega (arith, s, e, b, w.program))
        back e (inr (inr n)) = absurd (omega (arith, sort_entry r n, e, a, b))

  pub entry_by_sort : is_entry_row r ≡ eqb (sort_of r) 64
  entry_by_sort = both_ways (is_entry_row r) (eqb (sort_of r) 64) (λ e. eq-eqb (sort_of r) 64 (sort_entry r e)) (λ e. back (eqb-true (sort_of r) 64 e) kinds)
    where
      back : sort_of r ≡ 64 → (is_last_row r ≡ true) ⊎ ((is_ticket_row r ≡ true) ⊎ (is_entry_row r ≡ true)) → is_entry_row r ≡ true
      back e (inl l) = absurd (omega (arith, sort_last r l, e, w.pad, w.program))
      back e (inr (inl k)) = absurd (omega (arith, sort_ticket r k, e, w.pad, w.program))
      back e (inr (inr n)) = n

-- ---- counts of lines are counts of their sort
count_by : (f g : Row → Bool) → ((r : Row) → row_ok r ≡ true → f r ≡ g r) → {before : List Row} → Followed before → count_of f before ≡ count_of g before
unfolding count_of
count_by f g same none = refl
count_by f g same (more {r} {before} o m earlier) = λ i. cond (same r o i) (suc (count_by f g same earlier i)) (count_by f g same earlier i)

module _ {before : List Row} (ok : Followed before) where
  pub count_last : (p q : ℕ) → p < 4 → q < 8 → count_of (last_of_program p q) before ≡ count_before before (8 * p + q)
  unfolding count_before
  count_last p q a b = count_by (last_of_program p q) (λ r. eqb (sort_of r) (8 * p + q)) (λ r o. last_by_sort r o p q a b) ok

  pub count_ticket : (p q : ℕ) → p < 4 → q < 8 → count_of (ticket_of_program p q) before ≡ count_before before (32 + (8 * p + q))
  unfolding count_before
  count_ticket p q a b = count_by (ticket_of_program p q) (λ r. eqb (sort_of r) (32 + (8 * p + q))) (λ r o. ticket_by_sort r o p q a b) ok

  pub count_entry : count_of is_entry_row before ≡ count_before before 64
  unfolding count_before
  count_entry = count_by is_entry_row (λ r. eqb (sort_of r) 64) entry_by_sort ok

-- none is there where none is counted
pub some_counted : {A : Type 0} (test : A → Bool) (l : List A) → some test l ≡ ltb 0 (count_of test l)
unfolding some count_of
some_counted test [] = refl
some_counted test (x ∷ xs) = go (some_counted test xs) (case (test x))
  where
    go : some test xs ≡ ltb 0 (count_of test xs) → Case (test x)
        → (test x || some test xs) ≡ ltb 0 (cond (test x) (suc (count_of test xs)) (count_of test xs))
    go h (pass e) = rw e (sym (lt-ltb 0 (suc (count_of test xs)) (omega arith)))
    go h (fail e) = rw e h

not_counted : (n : ℕ) → not (ltb 0 n) ≡ ltb n 1
not_counted n = go (case (ltb 0 n))
  where
    go : Case (ltb 0 n) → not (ltb 0 n) ≡ ltb n 1
    go (pass e) = rw e (sym (le-ltb n 1 (ltb-true 0 n e)))
    go (fail e) = rw e (sym (lt-ltb n 1 (let z : n ≤ 0 = ltb-false 0 n e in omega arith)))

-- ---- room
pub room_by_sort : (before : List Row) (r : Row) → Followed before → row_ok r ≡ true → has_room before r ≡ ltb (count_before before (sort_of r)) (most_of r)
unfolding has_room most_of
room_by_sort before r ok o = go (three_kinds r o)
  where
    w : Ranges r
    w = ranges r o

    go : (is_last_row r ≡ true) ⊎ ((is_ticket_row r ≡ true) ⊎ (is_entry_row r ≡ true)) → has_room before r ≡ ltb (count_before before (sort_of r)) (most_of r)
    go (inl l) =
        rw l
        (ap not (some_counted (last_of_program r.pad r.program) before)
        ∙ not_counted (count_of (last_of_program r.pad r.program) before)
        ∙ ap (λ (n : ℕ). ltb n 1) (count_last ok r.pad r.program (omega (arith, w.pad)) (omega (arith, w.program)) ∙ ap (count_before before)
        (sym (sort_last r l))))
    go (inr (inl k)) =
        rw (cannot_pass (is_last_row r) (λ l. last_no_ticket r l k), cannot_pass (is_entry_row r) (ticket_no_entry r k))
        (ap (λ (n : ℕ). ltb n 8)
        (count_ticket ok r.pad r.program (omega (arith, w.pad)) (omega (arith, w.program)) ∙ ap (count_before before) (sym (sort_ticket r k))))
    go (inr (inr e)) =
        rw (cannot_pass (is_last_row r) (λ l. last_no_entry r l e), e)
        (ap (λ (n : ℕ). ltb n 256) (count_entry ok ∙ ap (count_before before) (sym (sort_entry r e))))

-- How many sheets are free: a sheet is a run of one, free where the furthest of the entries that begin there or below does not end behind it.
use Prim.Native.Nat.{ℕ, ◌+◌, ◌≤◌, ◌<◌, max}
use native.Mathlib.Omega.{arith}
use native.Mathlib.Numerals.{add-one}
use mathlib.Core.Path.{◌≡◌, sym, ap, ◌∙◌}
use mathlib.Core.Logic.{◌⊎◌, inl, inr}
use mathlib.Core.Bool.{false}
use mathlib.Core.List.{List}
use lib.ListN.{get_or}
use borrow.Author.Tests.{le-leb}
use Rattle.lists.specs.Lists.{count_below}
use Rattle.lists.proofs.Counting.{count_zero, count_next, count_past, count_same}
use Rattle.tables.specs.declared.Entry.{Entry}
use Rattle.tables.specs.Sheets.{is_free_run, is_free_sheet, sheets_free}
use Rattle.op_run.specs.Ends.{note_ends}
use Rattle.op_run.proofs.Runs.{no_ends, further_from, reach_more, run_behind, run_clear}

sheet_run : (es : List Entry) (s : ℕ) → s < 256 → is_free_run es 1 s ≡ is_free_sheet es s
unfolding is_free_sheet is_free_run
sheet_run es s b = rw (le-leb (s + 1) 256 (omega arith))

-- where the count stands: the sheets below s have been counted, and no entry that begins at one of them ends past reach
pub record Counted (ends : List ℕ) (reach free s : ℕ) : Type 0 where
  pub few : free ≤ s
  pub past : (k : ℕ) → k < s → get_or ends k 0 ≤ reach
  -- from the last of them on, no sheet below reach is free
  pub taken : (es : List Entry) → ends ≡ note_ends es no_ends → (a : ℕ) → s ≤ a + 1 → a < reach → is_free_run es 1 a ≡ false
  pub count : (es : List Entry) → ends ≡ note_ends es no_ends → free ≡ count_below s (is_free_run es 1)

module _ {ends : List ℕ} where
  pub counted_none : Counted ends 0 0 0
  counted_none = record {
    few = omega arith;
    past = λ k b. absurd (omega arith);
    taken = λ es q a b c. absurd (omega arith);
    count = λ es q. sym (count_zero (is_free_run es 1));
  }

  -- next: the reach with the ends at the sheet s seen too
  module _ {reach free s : ℕ} (so_far : Counted ends reach free s) (b : s < 256) {next : ℕ} (is : next ≡ max reach (get_or ends s 0)) where
    next_past : (k : ℕ) → k < s + 1 → get_or ends k 0 ≤ next
    next_past = reach_more ends so_far.past is

    next_taken : (es : List Entry) → ends ≡ note_ends es no_ends → (a : ℕ) → s + 1 ≤ a + 1 → a < next → is_free_run es 1 a ≡ false
    next_taken es q a c d = go (further_from reach (get_or ends s 0) a (rw is at d))
      where
        go : (a < reach) ⊎ (a < get_or ends s 0) → is_free_run es 1 a ≡ false
        go (inl h) = so_far.taken es q a (omega arith) h
        go (inr h) = run_behind es q 1 a s (omega arith) h

    pub counted_free : next ≤ s → Counted ends next (free + 1) (s + 1)
    counted_free h = record { few = omega (arith, so_far.few); past = next_past; taken = next_taken; count = count }
      where
        count : (es : List Entry) → ends ≡ note_ends es no_ends → free + 1 ≡ count_below (s + 1) (is_free_run es 1)
        count es q =
            let clear = run_clear es q 1 s (omega arith) (λ k c. omega (arith, next_past k c)) in
            rw (add-one s) (omega (arith, so_far.count es q, count_next s (is_free_run es 1) clear))

    pub counted_taken : s < next → Counted ends next free (s + 1)
    counted_taken h = record { few = omega (arith, so_far.few); past = next_past; taken = next_taken; count = count }
      where
        count : (es : List Entry) → ends ≡ note_ends es no_ends → free ≡ count_below (s + 1) (is_free_run es 1)
        count es q =
            let met = next_taken es q s (omega arith) h in
            rw (add-one s) (so_far.count es q ∙ sym (count_past s (is_free_run es 1) met))

  pub counted_all : {reach free s : ℕ} → Counted ends reach free s → s ≡ 256 → (es : List Entry) → ends ≡ note_ends es no_ends → free ≡ sheets_free es
  unfolding sheets_free
  counted_all so_far end es q =
      so_far.count es q ∙ ap (λ (n : ℕ). count_below n (is_free_run es 1)) end
      ∙ count_same (is_free_run es 1) (is_free_sheet es) 256 (sheet_run es)

-- The walk, step by step: nothing printed yet, one visit more, a place that is marked, and a ticket's line with its loans behind it.
use Prim.Native.Nat.{ℕ, zero, suc, ◌+◌, ◌*◌, ◌≤◌, ◌<◌}
use native.Mathlib.Omega.{arith}
use mathlib.Core.Path.{◌≡◌, refl, sym, ap, subst, ◌∙◌}
use mathlib.Core.Bool.{Bool, true, false}
use mathlib.Core.List.{List, [], ◌∷◌, ◌++◌, append_assoc, append-nil}
use Rattle.lists.specs.Members.{In}
use Rattle.tables.specs.declared.{Name.Name, Tables.Tables}
use Rattle.tables.specs.Lookup.{place_of}
use Rattle.text.specs.Appending.{Appends}
use Rattle.text.proofs.Appending.{append_none, append_both}
use Rattle.text_marks.specs.Marks.{marked_in, with_mark, unmarked}
use Rattle.text_marks.proofs.Laws.{one_less}
use Rattle.preservation.specs.InOrder.{InOrder}
use Rattle.report.specs.Rows.{row_of, is_listed, loans_of}
use Rattle.report.specs.Report.{row_line, line_room, report_room}
use Rattle.report.specs.Marked.{Visit, behind, visits, visit}
use Rattle.report.proofs.Short.{Fitted, visit_fits, all_fit}
use Rattle.text_loans.specs.Walk.{Prints, Printed}

-- ---- visits of two lists, one behind the other
visits_append : (one : (ℕ → Bool) → Name → Visit) (marks : ℕ → Bool) (ps qs : List Name)
    → visits one marks (ps ++ qs) ≡ behind (visits one marks ps).text (visits one (visits one marks ps).marks qs)
unfolding visits
visits_append one marks [] qs = refl
visits_append one marks (p ∷ ps) qs =
    let v = one marks p in
    let rest = visits one v.marks ps in
    let last = visits one rest.marks qs in
    ap (behind v.text) (visits_append one v.marks ps qs)
    ∙ (λ i. record { text = sym (append_assoc v.text rest.text last.text) i; marks = last.marks })

module _ (t : Tables) (depth : ℕ) where
  -- the visits of names, one after the other
  abbrev pub Visited : List Name → List ℕ → List ℕ → List ℕ → List ℕ → ℕ → ℕ → Type 0
  Visited qs marks marks' out out' at total = Printed (λ left. visits (visit t left depth) (marked_in marks) qs) marks marks' out out' at total

  pub visited_none : (marks out : List ℕ) (at : ℕ) → Visited [] marks marks out out at at
  unfolding visits
  visited_none marks out at left h = record { text = append_none out at; marked = refl }

  visited_one : (q : Name) (marks marks' out out' : List ℕ) (at total : ℕ)
      → Printed (λ left. visit t left depth (marked_in marks) q) marks marks' out out' at total → Visited (q ∷ []) marks marks' out out' at total
  unfolding visits
  visited_one q marks marks' out out' at total next left h =
      let v = visit t left depth (marked_in marks) q in
      let one = next left h in
      record { text = subst (λ (l : List ℕ). Appends l out out' at total) (sym (append-nil v.text)) one.text; marked = one.marked }

  pub visited_as : (qs rs : List Name) (marks marks' out out' : List ℕ) (at total : ℕ) → qs ≡ rs
      → Visited qs marks marks' out out' at total → Visited rs marks marks' out out' at total
  visited_as qs rs marks marks' out out' at total e v = subst (λ (ns : List Name). Visited ns marks marks' out out' at total) e v

  -- ---- what the visits so far leave: fewer places, and room in them
  module _ (order : InOrder t) (qs : List Name) (listed : (q : Name) → In q qs → is_listed t q ≡ true) (marks marks' out out' : List ℕ)
      (at total : ℕ) (so_far : Visited qs marks marks' out out' at total) (shallow : depth + unmarked (marked_in marks) ≤ 256) where
    abbrev v : Visit
    v = visits (visit t (unmarked (marked_in marks)) depth) (marked_in marks) qs

    last : Prints v marks' out out' at total
    last = so_far (unmarked (marked_in marks)) (omega arith)

    fitted : Fitted t order (marked_in marks) v
    fitted = all_fit t order (unmarked (marked_in marks)) depth (visit_fits t order (unmarked (marked_in marks)) depth) qs (marked_in marks) listed shallow

    left_now : unmarked (marked_in marks') ≡ unmarked v.marks
    left_now = ap unmarked last.marked

    pub fewer : unmarked (marked_in marks') ≤ unmarked (marked_in marks)
    fewer = omega (arith, left_now, fitted.fewer)

    pub room_left : at + line_room * unmarked (marked_in marks) ≤ report_room → total + line_room * unmarked (marked_in marks') ≤ report_room
    room_left room = omega (arith, left_now, fitted.room, last.text.total, room)

    -- ---- more behind them
    pub visited_append : (rs : List Name) (marks'' out'' : List ℕ) (r : ℕ) → Visited rs marks' marks'' out' out'' total r
        → Visited (qs ++ rs) marks marks'' out out'' at r
    visited_append rs marks'' out'' r next left h =
        let one = visit t left depth in
        let first = so_far left h in
        let second = next left (omega (arith, h, fewer)) in
        let u = visits one (marked_in marks) qs in
        let both : Prints (behind u.text (visits one u.marks rs)) marks'' out out'' at r
        = subst (λ (m : ℕ → Bool). Prints (behind u.text (visits one m rs)) marks'' out out'' at r) first.marked
        (record { text = append_both _ _ _ _ _ _ _ _ first.text second.text; marked = second.marked }) in
        subst (λ (w : Visit). Prints w marks'' out out'' at r) (sym (visits_append one (marked_in marks) qs rs)) both

    pub visited_more : (q : Name) (marks'' out'' : List ℕ) (r : ℕ)
        → Printed (λ left. visit t left depth (marked_in marks') q) marks' marks'' out' out'' total r → Visited (qs ++ q ∷ []) marks marks'' out out'' at r
    visited_more q marks'' out'' r next = visited_append (q ∷ []) marks'' out'' r (visited_one q marks' marks'' out' out'' total r next)

-- ---- a ticket
module _ (t : Tables) (depth : ℕ) (n : Name) where
  pub already : (marks out : List ℕ) (at : ℕ) → marked_in marks (place_of t n) ≡ true
      → Printed (λ left. visit t left depth (marked_in marks) n) marks marks out out at at
  unfolding visit
  already marks out at e zero h = record { text = append_none out at; marked = refl }
  already marks out at e (suc left) h = rw e (record { text = append_none out at; marked = refl })

  module _ (marks marks₁ marks₂ out out₁ out₂ : List ℕ) (at k r : ℕ) (low : place_of t n < 256)
      (clear : marked_in marks (place_of t n) ≡ false) (marked : marked_in marks₁ ≡ with_mark (place_of t n) (marked_in marks))
      (line : Appends (row_line t (row_of depth n)) out out₁ at k) where
    pub less : unmarked (marked_in marks) ≡ suc (unmarked (marked_in marks₁))
    less = one_less (place_of t n) (marked_in marks) clear low ∙ ap (λ (m : ℕ → Bool). suc (unmarked m)) (sym marked)

    pub line_and_loans : Visited t (depth + 1) (loans_of t n) marks₁ marks₂ out₁ out₂ k r
        → Printed (λ left. visit t left depth (marked_in marks) n) marks marks₂ out out₂ at r
    unfolding visit
    line_and_loans loans zero h = absurd (omega (arith, h, less))
    line_and_loans loans (suc left) h =
        let behind_it = loans left (omega (arith, h, less)) in
        let from_here = subst (λ (m : ℕ → Bool). Prints (visits (visit t left (depth + 1)) m (loans_of t n)) marks₂ out₁ out₂ k r) marked behind_it in
        rw clear (record { text = append_both _ _ _ _ _ _ _ _ line from_here.text; marked = from_here.marked })

-- Marks turn nobody away: in tables in order the walk with marks prints the report's rows, from marks that have nothing at or below the start.
use Prim.Native.Nat.{ℕ, zero, suc, ◌+◌}
use native.Mathlib.Omega.{arith}
use mathlib.Core.Path.{◌≡◌, refl, sym, ap, subst, ◌∙◌}
use mathlib.Core.Logic.{◌⊎◌, inl, inr, ⊎_elim}
use mathlib.Core.Bool.{Bool, true, false}
use mathlib.Core.List.{List, [], ◌∷◌, ◌++◌, flat_map}
use lib.Dec.{eqb}
use borrow.Author.Tests.{eqb-true}
use Rattle.lists.proofs.Tests.{Case, pass, fail, case, cannot_pass, contradiction}
use Rattle.tables.specs.declared.{Name.Name, Tables.Tables}
use Rattle.tables.specs.Kinds.{is_live}
use Rattle.tables.specs.Lookup.{lookup, place_of}
use Rattle.tables.proofs.KindLaws.{live_grant}
use Rattle.lists.proofs.MemberLaws.{flat_flat}
use Rattle.lists.specs.Members.{In, first, later, Once, more}
use Rattle.report.specs.Rows.{row_of, loans_of, taken_grants, rows_from, rows}
use Rattle.report.specs.Report.{row_line}
use Rattle.preservation.specs.InOrder.{InOrder}
use Rattle.report.specs.Marked.{Visit, visits, visit}
use Rattle.text_marks.specs.Marks.{with_mark}
use Rattle.text_marks.proofs.Laws.{with_other}
use Rattle.preservation.proofs.Places.{all_once}
use Rattle.report.proofs.TakenGrants.{once_taken, taken_is}
use Rattle.report.proofs.Lending.{once_loans}
use Rattle.report.proofs.Depth.{Lent, root, loan, one_depth, lent_listed, listed_grant}
use Rattle.report.proofs.Printed.{here, Under, down_lent, above, one_top}

module _ (t : Tables) (now : InOrder t) where
  abbrev place : Name → ℕ
  place n = place_of t n

  abbrev L : Name → ℕ → Type 0
  L n d = Lent t now n d

  abbrev U : Name → Name → Type 0
  U n x = Under t now n x

  abbrev text : ℕ → ℕ → Name → List ℕ
  text left depth n = flat_map (row_line t) (rows_from left t depth n)

  live_under : {n x : Name} {d : ℕ} → L n d → U n x → is_live (lookup t x).kind ≡ true
  live_under {x = x} l u = live_grant (lookup t x).kind (listed_grant t now x (lent_listed t now (down_lent t now l u.way)))

  pub record Same (marks : ℕ → Bool) (n : Name) (says_this : List ℕ) (v : Visit) : Type 0 where
    pub says : v.text ≡ says_this
    pub marked : (p : ℕ) → v.marks p ≡ true → (marks p ≡ true) ⊎ ((x : Name) × U n x × (p ≡ place x))

  pub record SameAll (marks : ℕ → Bool) (qs : List Name) (says_this : List ℕ) (v : Visit) : Type 0 where
    pub says : v.text ≡ says_this
    pub marked : (p : ℕ) → v.marks p ≡ true → (marks p ≡ true) ⊎ ((q : Name) × (x : Name) × In q qs × U q x × (p ≡ place x))

  abbrev One : ℕ → ℕ → Type 0
  One left depth =
      (marks : ℕ → Bool) (n : Name) → L n depth → ((x : Name) → U n x → marks (place x) ≡ false)
      → Same marks n (text left depth n) (visit t left depth marks n)

  module _ (left depth : ℕ) (one : One left depth) where
    walk_all : (qs : List Name) (marks : ℕ → Bool) → Once qs → ((q : Name) → In q qs → L q depth)
        → ((q : Name) → In q qs → (x : Name) → U q x → marks (place x) ≡ false)
        → SameAll marks qs (flat_map (text left depth) qs) (visits (visit t left depth) marks qs)
    unfolding visits flat_map
    walk_all [] marks _ lent clear = record { says = refl; marked = λ x h. inl h }
    walk_all (q ∷ qs) marks (more out rest) lent clear =
        let s = one marks q (lent q (first refl)) (clear q (first refl)) in
        let l = walk_all qs (visit t left depth marks q).marks rest (λ r i. lent r (later i)) (still_clear s) in
        record {
          says = (λ i. s.says i ++ l.says i);
          marked = λ p h. ⊎_elim (λ m. ⊎_elim inl (λ b. inr (q, b.0, first refl, b.1, b.2)) (s.marked p m))
              (λ r. inr (r.0, r.1, later r.2, r.3, r.4)) (l.marked p h);
        }
      where
        still_clear : Same marks q (text left depth q) (visit t left depth marks q)
            → (r : Name) → In r qs → (x : Name) → U r x → (visit t left depth marks q).marks (place x) ≡ false
        still_clear s r i x u =
            cannot_pass _ (λ h. ⊎_elim (λ m. contradiction m (clear r (later i) x u))
            (λ c. (let e : x ≡ c.0 = all_once t now x c.0 (live_under (lent r (later i)) u) (live_under (lent q (first refl)) c.1) c.2 in
            let u' : U q x = subst (λ (y : Name). U q y) (sym e) c.1 in
            out (subst (λ (z : Name). In z qs) (sym (one_top t now depth q r x (lent q (first refl)) (lent r (later i)) u' u)) i))) (s.marked (place x) h))

  pub walk_rows : (left depth : ℕ) → One left depth
  unfolding visit rows_from flat_map
  walk_rows zero depth marks n l clear = record { says = refl; marked = λ p h. inl h }
  walk_rows (suc left) depth marks n l clear =
      let w = walk_all left (depth + 1) (walk_rows left (depth + 1)) (loans_of t n) (with_mark (place n) marks) (once_loans t now n) deeper clear' in
      rw (clear n (record { steps = 0; way = here refl }))
      (record {
        says = ap (λ (k : List ℕ). row_line t (row_of depth n) ++ k) (w.says ∙ sym (flat_flat (row_line t) (rows_from left t (depth + 1)) (loans_of t n)));
        marked = λ p h. ⊎_elim (old p) (λ r. inr (r.1, record { steps = suc r.3.steps; way = above t now r.2 r.3.way }, r.4)) (w.marked p h);
      })
    where
      deeper : (q : Name) → In q (loans_of t n) → L q (depth + 1)
      deeper q i = let z : suc depth ≡ depth + 1 = omega arith in subst (λ (d : ℕ). L q d) z (loan l i)

      clear' : (q : Name) → In q (loans_of t n) → (x : Name) → U q x → with_mark (place n) marks (place x) ≡ false
      clear' q i x u =
          let lx : L x (u.steps + (depth + 1)) = down_lent t now (deeper q i) u.way in
          let other : eqb (place x) (place n) ≡ false = cannot_pass _ (λ e.
          (let z : x ≡ n = all_once t now x n (live_under (deeper q i) u) (live_under l (record { steps = 0; way = here refl })) (eqb-true (place x) (place n) e) in
          let d : u.steps + (depth + 1) ≡ depth = one_depth t now (subst (λ (y : Name). L y (u.steps + (depth + 1))) z lx) l in
          absurd (omega (arith, d)))) in
          with_other (place n) marks (place x) other ∙ clear x (record { steps = suc u.steps; way = above t now i u.way })

      old : (p : ℕ) → with_mark (place n) marks p ≡ true → (marks p ≡ true) ⊎ ((x : Name) × U n x × (p ≡ place x))
      old p h = go (case (eqb p (place n)))
        where
          go : Case (eqb p (place n)) → (marks p ≡ true) ⊎ ((x : Name) × U n x × (p ≡ place x))
          go (pass e) = inr (n, record { steps = 0; way = here refl }, eqb-true p (place n) e)
          go (fail e) = inl (sym (with_other (place n) marks p e) ∙ h)

  -- the whole: from each taken grant, with no marks
  pub walk_report : (visits (visit t 256 0) (λ p. false) (taken_grants t)).text ≡ flat_map (row_line t) (rows t)
  unfolding rows
  walk_report =
      (walk_all 256 0 (walk_rows 256 0) (taken_grants t) (λ p. false) (once_taken t) (λ q i. root (taken_is t q i)) (λ q i x u. refl)).says
      ∙ sym (flat_flat (row_line t) (rows_from 256 t 0) (taken_grants t))

-- A chain on a pad has at most 31 links. Each child on it has its recall, on the same pad, and the recalls are neither grants nor one
-- another: a chain of d links needs 2 d + 1 of the pad's 64 places.
use Prim.Native.Nat.{ℕ, suc, ◌+◌, ◌-◌, ◌≤◌, ◌<◌}
use native.Mathlib.Omega.{arith}
use mathlib.Core.Path.{◌≡◌, refl, sym, ap, ◌∙◌, subst}
use mathlib.Core.Logic.{◌⊎◌, inl, inr}
use mathlib.Core.Bool.{true}
use lib.Dec.{eqb, leb}
use borrow.Author.Tests.{eqb-true, eqb-false, leb-true, leb-false}
use Rattle.lists.proofs.Tests.{Case, pass, fail, case, no_true, contradiction}
use Rattle.lists.proofs.Pigeonhole.{pigeonhole}
use Rattle.tables.specs.declared.{Name.Name, Tables.Tables}
use Rattle.tables.specs.Kinds.{is_live, is_grant, is_head, is_child, is_recall}
use Rattle.tables.specs.Lookup.{last_of, lookup, entry_of}
use Rattle.tables.specs.Chains.{parent_of, chain_links}
use Rattle.tables.proofs.KindLaws.{live_grant, live_recall, grant_recall, grant_sort, head_up}
use Rattle.preservation.specs.Rules.{Recalled, Ends, up}
use Rattle.preservation.specs.InOrder.{InOrder}
use Rattle.preservation.proofs.Walks.{ends_unique, link, link_ends, link_good, links_are}
use Rattle.preservation.proofs.RuleFacts.{parent_grant}
use Rattle.preservation.proofs.Places.{place_on_pad, pad_low_lem, pad_once, parent_pad, chain_short}
use Rattle.preservation.proofs.ChainSteps.{has_chain}
use Rattle.links.specs.Links.{most_links}

module _ (t : Tables) (ok : InOrder t) where
  -- the recall of a child, with where it stands
  record ItsRecall (n m : Name) : Type 0 where
    recall : is_recall (lookup t m).kind ≡ true
    target : (lookup t m).other ≡ n
    pad : m.pad ≡ n.pad

  recall_found : (n : Name) → is_child (lookup t n).kind ≡ true → (r : Recalled (lookup t) n) → ItsRecall n r.by
  recall_found n c r = record { recall = r.recall; target = r.target; pad = go (case (eqb (lookup t r.by).other.pad r.by.pad)) }
    where
      go : Case (eqb (lookup t r.by).other.pad r.by.pad) → r.by.pad ≡ n.pad
      go (pass e) = sym (eqb-true (lookup t r.by).other.pad r.by.pad e) ∙ ap (λ (m : Name). m.pad) r.target
      go (fail e) =
          no_true
          (sym (ok.rules.no_far r.by r.recall (eqb-false (lookup t r.by).other.pad r.by.pad e))
          ∙ ap (λ (m : Name). is_child (lookup t m).kind) r.target ∙ c)

  its_recall_by : (n : Name) → Case (is_child (lookup t n).kind) → Name
  its_recall_by n (pass c) = (ok.rules.recalled n c).by
  its_recall_by n (fail c) = n

  its_recall : Name → Name
  its_recall n = its_recall_by n (case (is_child (lookup t n).kind))

  is_its_recall : (n : Name) → is_child (lookup t n).kind ≡ true → ItsRecall n (its_recall n)
  unfolding its_recall its_recall_by
  is_its_recall n c = go (case (is_child (lookup t n).kind))
    where
      go : (k : Case (is_child (lookup t n).kind)) → ItsRecall n (its_recall_by n k)
      go (pass d) = recall_found n d (ok.rules.recalled n d)
      go (fail d) = contradiction c d

  module _ (n : Name) (g : is_grant (lookup t n).kind ≡ true) {d : ℕ} (r : Ends (parent_of (lookup t)) n d) where
    abbrev Good : Name → Type 0
    Good m = (is_grant (lookup t m).kind ≡ true) × (m.pad ≡ n.pad)

    abbrev at : ℕ → Name
    at i = link (parent_of (lookup t)) r i

    good : (i : ℕ) → Good (at i)
    good i =
        link_good (parent_of (lookup t)) Good (λ m h z. (parent_grant (lookup t) (entry_of t) (last_of t) ok.rules m z, parent_pad t ok m z ∙ h.1)) r (g, refl) i

    ends_at : (i : ℕ) → i ≤ d → Ends (parent_of (lookup t)) (at i) i
    ends_at i b = link_ends (parent_of (lookup t)) r i b

    -- what is one link or more from the end is a child
    child_at : (i : ℕ) → suc i ≤ d → is_child (lookup t (at (suc i))).kind ≡ true
    child_at i b = go (grant_sort (lookup t (at (suc i))).kind (good (suc i)).0) (ends_at (suc i) b)
      where
        go : (is_head (lookup t (at (suc i))).kind ≡ true) ⊎ (is_child (lookup t (at (suc i))).kind ≡ true)
            → Ends (parent_of (lookup t)) (at (suc i)) (suc i) → is_child (lookup t (at (suc i))).kind ≡ true
        go (inr c) e = c
        go (inl h) (up z e) = contradiction (head_up (lookup t (at (suc i))).kind (at (suc i)) (lookup t (at (suc i))) h) z

    same_at : (i j : ℕ) → i ≤ d → j ≤ d → at i ≡ at j → i ≡ j
    same_at i j b c e =
        ends_unique (parent_of (lookup t)) (subst (λ (x : Name). Ends (parent_of (lookup t)) x i) e (ends_at i b)) (ends_at j c)

    recall_at : (i : ℕ) → suc i ≤ d → ItsRecall (at (suc i)) (its_recall (at (suc i)))
    recall_at i b = is_its_recall (at (suc i)) (child_at i b)

    live_recall_at : (i : ℕ) → suc i ≤ d → is_live (lookup t (its_recall (at (suc i)))).kind ≡ true
    live_recall_at i b = live_recall (lookup t (its_recall (at (suc i)))).kind (recall_at i b).recall

    live_at : (i : ℕ) → is_live (lookup t (at i)).kind ≡ true
    live_at i = live_grant (lookup t (at i)).kind (good i).0

    -- the d + 1 grants, and then the d recalls
    spot_by : (i : ℕ) → Case (leb i d) → ℕ
    spot_by i (pass e) = place_on_pad t ok (at i)
    spot_by i (fail e) = place_on_pad t ok (its_recall (at (suc (i - suc d))))

    spot : ℕ → ℕ
    spot i = spot_by i (case (leb i d))

    spot_low_lem : (i : ℕ) → i < d + suc d → spot i < 64
    unfolding spot spot_by
    spot_low_lem i b = go (case (leb i d))
      where
        go : (k : Case (leb i d)) → spot_by i k < 64
        go (pass e) = pad_low_lem t ok (at i) (live_at i)
        go (fail e) = pad_low_lem t ok (its_recall (at (suc (i - suc d)))) (live_recall_at (i - suc d) (omega (arith, leb-false i d e)))

    spot_once : (i j : ℕ) → i < d + suc d → j < d + suc d → spot i ≡ spot j → i ≡ j
    unfolding spot spot_by
    spot_once i j b c q = go (case (leb i d)) (case (leb j d)) q
      where
        apart : (i j : ℕ) → suc j ≤ d → place_on_pad t ok (at i) ≡ place_on_pad t ok (its_recall (at (suc j))) → ⊥
        apart i j b q =
            let e : at i ≡ its_recall (at (suc j)) = pad_once t ok (at i) (its_recall (at (suc j))) (live_at i) (live_recall_at j b) ((good i).1 ∙ sym ((recall_at j b).pad ∙ (good (suc j)).1)) q in
            grant_recall (lookup t (at i)).kind (good i).0 (ap (λ (m : Name). is_recall (lookup t m).kind) e ∙ (recall_at j b).recall)

        go : (k : Case (leb i d)) (l : Case (leb j d)) → spot_by i k ≡ spot_by j l → i ≡ j
        go (pass e) (pass f) q =
            same_at i j (leb-true i d e) (leb-true j d f) (pad_once t ok (at i) (at j) (live_at i) (live_at j) ((good i).1 ∙ sym (good j).1) q)
        go (pass e) (fail f) q = absurd (apart i (j - suc d) (omega (arith, leb-false j d f)) q)
        go (fail e) (pass f) q = absurd (apart j (i - suc d) (omega (arith, leb-false i d e)) (sym q))
        go (fail e) (fail f) q =
            let a : i - suc d < d = omega (arith, leb-false i d e) in
            let a' : j - suc d < d = omega (arith, leb-false j d f) in
            let m : its_recall (at (suc (i - suc d))) ≡ its_recall (at (suc (j - suc d)))
            = pad_once t ok (its_recall (at (suc (i - suc d)))) (its_recall (at (suc (j - suc d)))) (live_recall_at (i - suc d) a) (live_recall_at (j - suc d) a')
            ((recall_at (i - suc d) a).pad ∙ (good (suc (i - suc d))).1 ∙ sym ((recall_at (j - suc d) a').pad ∙ (good (suc (j - suc d))).1)) q in
            let s : suc (i - suc d) ≡ suc (j - suc d)
            = same_at (suc (i - suc d)) (suc (j - suc d)) a a'
            (sym (recall_at (i - suc d) a).target ∙ ap (λ (x : Name). (lookup t x).other) m ∙ (recall_at (j - suc d) a').target) in
            omega (arith, leb-false i d e, leb-false j d f)

    few : d ≤ most_links
    few = let z : d + suc d ≤ 64 = pigeonhole 64 (d + suc d) spot spot_low_lem spot_once in omega arith

  -- "Show that it is never above 31 with tables in order."
  pub links_at_most_31 : (n : Name) → is_grant (lookup t n).kind ≡ true → chain_links t n ≤ most_links
  links_at_most_31 n g =
      let l = live_grant (lookup t n).kind g in
      let c = has_chain t ok n l in
      rw (links_are (parent_of (lookup t)) c.1 64 (chain_short t ok l c.1)) (few n g c.1)

-- Removal after removal: where what went was closed under below, the next entry that goes takes with it exactly what was below it at first.
-- So several entries go one after the other as they would at once (02, 1/13).
use Prim.Native.Nat.{ℕ, ◌<◌}
use mathlib.Core.Path.{◌≡◌, refl, sym, ap, ◌∙◌, subst}
use mathlib.Core.Bool.{Bool, true, false, ◌&&◌, ◌||◌, cond}
use mathlib.Core.List.{List, map}
use lib.ListN.{length}
use Rattle.lists.proofs.Tests.{Case, pass, fail, case, no_true, not_pass, and_intro, and_false, or_left}
use Rattle.lists.proofs.Keyed.{drop_found, drop_distinct, dropped_at, dropped_length}
use Rattle.tables.specs.declared.{Name.Name, Entry.Entry}
use Rattle.tables.specs.Names.{is_none, no_entry}
use Rattle.tables.specs.Lookup.{is_named, entry_in}
use Rattle.tables.specs.Chains.{entry_parent}
use Rattle.tables.specs.Change.{drop_entry}
use Rattle.tables.proofs.Keys.{entry_keys, entry_laws}
use Rattle.tables.proofs.ByPlace.{at}
use Rattle.tables.proofs.Links.{reaches_same, end_same}
use Rattle.op_drop_entries.specs.Links.{LinkedEntries}
use Rattle.op_drop_entries.proofs.Reaching.{reaches_up, under, at_name, dropped_by_places}

long : (gone : Name → Bool) (es : List Entry) → length (map (drop_entry gone) es) ≡ length es
unfolding drop_entry
long gone es = dropped_length entry_keys entry_laws gone es

place_dropped : (gone : Name → Bool) (es : List Entry) (i : ℕ) → at (map (drop_entry gone) es) i ≡ drop_entry gone (at es i)
unfolding drop_entry
place_dropped gone es i = dropped_at entry_keys entry_laws gone es i

-- an entry that is live and picked, or not
drop_picked : (gone : Name → Bool) (e : Entry) → (e.live && gone e.name) ≡ true → drop_entry gone e ≡ no_entry
unfolding drop_entry
drop_picked gone e h = ap (λ (b : Bool). cond b no_entry e) h

drop_kept : (gone : Name → Bool) (e : Entry) → (e.live && gone e.name) ≡ false → drop_entry gone e ≡ e
unfolding drop_entry
drop_kept gone e h = ap (λ (b : Bool). cond b no_entry e) h

drop_agree : (gone gone' : Name → Bool) (e : Entry) → gone e.name ≡ gone' e.name → drop_entry gone e ≡ drop_entry gone' e
unfolding drop_entry
drop_agree gone gone' e h = ap (λ (b : Bool). cond (e.live && b) no_entry e) h

-- what goes is closed under below
pub record Closed (es : List Entry) (cut : Name → Bool) : Type 0 where
  pub sink : (n : Name) → (entry_in es n).live ≡ true → is_none (entry_in es n).parent ≡ false → cut (entry_in es n).parent ≡ true → cut n ≡ true

module _ (es : List Entry) (ok : LinkedEntries es) (cut : Name → Bool) (closed : Closed es cut) where
  abbrev us : List Entry
  us = map (drop_entry cut) es

  left : (n : Name) → entry_in us n ≡ cond (cut n) no_entry (entry_in es n)
  unfolding entry_in is_named drop_entry
  left n = drop_found entry_keys entry_laws cut es n

  Good : Name → Type 0
  Good n = ((entry_in es n).live ≡ true) × (cut n ≡ false)

  -- what is live yet is what it was
  stays : (n : Name) → (entry_in us n).live ≡ true → Good n
  unfolding Good
  stays n l = go (case (cut n))
    where
      go : Case (cut n) → ((entry_in es n).live ≡ true) × (cut n ≡ false)
      go (pass e) = let z : entry_in us n ≡ no_entry = left n ∙ rw e in no_true (ap (λ (d : Entry). d.live) (sym z) ∙ l)
      go (fail e) = let z : entry_in us n ≡ entry_in es n = left n ∙ rw e in (ap (λ (d : Entry). d.live) (sym z) ∙ l, e)

  same : (n : Name) → Good n → entry_in us n ≡ entry_in es n
  unfolding Good
  same n h = left n ∙ rw h.1

  climbs : (n : Name) → Good n → is_none (entry_in es n).parent ≡ false → Good (entry_in es n).parent
  unfolding Good
  climbs n h z = (ok.parent n h.0 z, not_pass (closed.sink n h.0 z) h.1)

  parents : (n : Name) → Good n → (entry_in us n).parent ≡ (entry_in es n).parent
  parents n h = ap (λ (e : Entry). e.parent) (same n h)

  ends : (n : Name) → Good n → is_none (entry_in us n).parent ≡ is_none (entry_in es n).parent
  ends n h = ap is_none (parents n h)

  links : (n : Name) → Good n → is_none (entry_in us n).parent ≡ false → ((entry_in us n).parent ≡ (entry_in es n).parent) × Good (entry_in us n).parent
  links n h z = (parents n h, subst Good (sym (parents n h)) (climbs n h (sym (ends n h) ∙ z)))

  pub under_again : (x n : Name) → (entry_in us n).live ≡ true → under us x n ≡ under es x n
  under_again x n l = reaches_same (entry_parent (entry_in us)) (entry_parent (entry_in es)) Good ends links x 256 n (stays n l)

  distinct_left : (i j : ℕ) → i < length us → j < length us → (at us i).live ≡ true → (at us j).live ≡ true → (at us i).name ≡ (at us j).name → i ≡ j
  unfolding drop_entry
  distinct_left = drop_distinct entry_keys entry_laws cut es ok.distinct

  pub linked_again : LinkedEntries us
  unfolding Good
  linked_again = record {
    distinct = distinct_left;
    parent = λ n l z.
        let h = stays n l in
        let z₀ : is_none (entry_in es n).parent ≡ false = ap is_none (sym (parents n h)) ∙ z in
        let g = climbs n h z₀ in
        ap (λ (m : Name). (entry_in us m).live) (parents n h) ∙ ap (λ (e : Entry). e.live) (same (entry_in es n).parent g) ∙ g.0;
    ends = λ n l.
        let h = stays n l in
        ap is_none (end_same (entry_parent (entry_in us)) (entry_parent (entry_in es)) Good ends links 256 n h) ∙ ok.ends n h.0;
  }

  -- at one place: first the one removal, then the other
  twice : (x : Name) (i : ℕ) → i < length es → drop_entry (under us x) (drop_entry cut (at es i)) ≡ drop_entry (λ n. cut n || under es x n) (at es i)
  twice x i b = go (case (at es i).live) (case (cut (at es i).name))
    where
      go : Case (at es i).live → Case (cut (at es i).name) → drop_entry (under us x) (drop_entry cut (at es i)) ≡ drop_entry (λ n. cut n || under es x n) (at es i)
      go (fail l) _ =
          ap (drop_entry (under us x)) (drop_kept cut (at es i) (ap (λ (c : Bool). c && cut (at es i).name) l))
          ∙ drop_kept (under us x) (at es i) (ap (λ (c : Bool). c && under us x (at es i).name) l)
          ∙ sym (drop_kept (λ n. cut n || under es x n) (at es i) (ap (λ (c : Bool). c && (cut (at es i).name || under es x (at es i).name)) l))
      go (pass l) (pass e) =
          ap (drop_entry (under us x)) (drop_picked cut (at es i) (and_intro l e))
          ∙ drop_kept (under us x) no_entry refl
          ∙ sym (drop_picked (λ n. cut n || under es x n) (at es i) (and_intro l (or_left (under es x (at es i).name) e)))
      go (pass l) (fail e) =
          let k : drop_entry cut (at es i) ≡ at es i = drop_kept cut (at es i) (ap (λ (c : Bool). (at es i).live && c) e ∙ and_false (at es i).live) in
          let n : entry_in es (at es i).name ≡ at es i = at_name es ok i b l in
          let u : under us x (at es i).name ≡ under es x (at es i).name
          = under_again x (at es i).name (ap (λ (d : Entry). d.live) (left (at es i).name ∙ ap (λ (c : Bool). cond c no_entry (entry_in es (at es i).name)) e ∙ n) ∙ l) in
          ap (drop_entry (under us x)) k ∙ drop_agree (under us x) (λ n. cut n || under es x n) (at es i) (u ∙ sym (ap (λ (c : Bool). c || under es x (at es i).name) e))

  -- one after the other is both at once
  pub dropped_again : (x : Name) → map (drop_entry (under us x)) us ≡ map (drop_entry (λ n. cut n || under es x n)) es
  dropped_again x =
      dropped_by_places es (map (drop_entry (under us x)) us) (λ n. cut n || under es x n) longs
      (λ i b. at_us i ∙ each i b)
    where
      longs : length (map (drop_entry (under us x)) us) ≡ length es
      longs = long (under us x) us ∙ long cut es

      at_us : (i : ℕ) → at (map (drop_entry (under us x)) us) i ≡ drop_entry (under us x) (drop_entry cut (at es i))
      at_us i = place_dropped (under us x) us i ∙ ap (drop_entry (under us x)) (place_dropped cut es i)

      each : (i : ℕ) → i < length es → drop_entry (under us x) (drop_entry cut (at es i)) ≡ drop_entry (λ n. cut n || under es x n) (at es i)
      each i b = twice x i b

-- what is at or below x is closed
pub under_closed : (es : List Entry) → LinkedEntries es → (x n : Name) → (entry_in es n).live ≡ true → is_none (entry_in es n).parent ≡ false
    → under es x (entry_in es n).parent ≡ true → under es x n ≡ true
under_closed es ok x n l z h = reaches_up (entry_parent (entry_in es)) x 255 n (ok.ends n l) z h

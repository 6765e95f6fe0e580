-- Parents and chains by places are parents and chains by names: the place that is linked to an entry's is the place of its parent's entry, so
-- the walk by places and the walk by names go up in step, and where one ends at an entry the other does.
use Prim.Native.Nat.{ℕ, zero, suc, ◌≤◌, ◌<◌}
use native.Mathlib.Omega.{arith}
use mathlib.Core.Path.{◌≡◌, refl, sym, ap, ◌∙◌}
use mathlib.Core.Bool.{Bool, true, false, not, ◌&&◌, cond}
use mathlib.Core.List.{List, map}
use lib.Dec.{ltb}
use lib.ListN.{length, get_or, length-map, get_or-map, get_or-eq_default}
use borrow.Author.Tests.{lt-ltb, le-ltb, ltb-true, ltb-false}
use Rattle.lists.specs.Tests.{implies}
use Rattle.lists.specs.Lists.{all, all_at}
use Rattle.lists.proofs.Tests.{Case, pass, fail, case, no_true, and_l, and_r, and_intro, both_ways, not_test, implies_intro, implies_elim}
use Rattle.lists.proofs.Everywhere.{all_intro, all_elim, all_at_intro, all_at_elim}
use Rattle.lists.proofs.Reading.{any_default}
use Rattle.tables.specs.declared.{Name.Name, Entry.Entry, Tables.Tables}
use Rattle.tables.specs.Names.{no_name, is_none, is_program, no_entry}
use Rattle.tables.specs.Lookup.{entry_of}
use Rattle.tables.specs.Chains.{end_of, entry_parent, chain_root}
use Rattle.tables.specs.Order.{every_entry, entry_names_ok, under_store, parent_entry_ok}
use Rattle.tables.proofs.ByPlace.{found_name}
use Rattle.image_places.specs.Walk.{end_from}
use Rattle.image_places.specs.Places.{place_in, Numbered, Noted}
use Rattle.order_lists.specs.Listing.{is_hung}
use Rattle.order_entry_notes.specs.Notes.{note_of, entry_by}
use Rattle.order_entry_notes.proofs.Grants.{entry_at}
use Rattle.order_entry_notes.proofs.Laws.{entry_here, entry_noted}
use Rattle.order_entry_chains.specs.Ends.{all_end}
use Rattle.order_entry_chains.proofs.Settling.{end_stops, end_climbs}
use Rattle.order_entries.specs.Parents.{has_parent, up_of}

-- "A parent entry is live, has the pass on right and contains the entry's sheets and rights."
abbrev pub parents_ok : Tables → Bool
parents_ok t = every_entry (λ e. implies (not (under_store e)) (parent_entry_ok e (entry_of t e.parent))) t

-- "Chains end at the store."
abbrev pub chains_ok : Tables → Bool
chains_ok t = every_entry (λ e. (entry_of t (chain_root t e.name)).live) t

implies_both : (a b c : Bool) → implies (a && b) c ≡ implies a (implies b c)
unfolding implies
implies_both true b c = refl
implies_both false b c = refl

-- ---- one step of the walk by names
module _ (parent : Name → Name) (m : ℕ) (n : Name) where
  name_stops : is_none (parent n) ≡ true → end_of (suc m) parent n ≡ n
  unfolding end_of
  name_stops e = rw e

  name_climbs : is_none (parent n) ≡ false → end_of (suc m) parent n ≡ end_of m parent (parent n)
  unfolding end_of
  name_climbs e = rw e

-- no name without a number has a place
no_place : (numbers : List ℕ) → place_in numbers no_name ≡ 256
unfolding place_in is_program
no_place numbers = refl

module _ (t : Tables) (numbers notes : List ℕ) (ix : Numbered t numbers) (noted : Noted t numbers notes) where
  by_note : (n : Name) → entry_by numbers notes t.entries n ≡ entry_of t n
  by_note n = sym (entry_noted t numbers notes ix noted n)

  pub parents_told : all (has_parent numbers notes t.entries) t.entries ≡ parents_ok t
  unfolding has_parent every_entry
  parents_told =
      (λ i. all (λ e. implies (is_hung e) (parent_entry_ok e (by_note e.parent i))) t.entries)
      ∙ (λ i. all (λ e. implies_both e.live (not (under_store e)) (parent_entry_ok e (entry_of t e.parent)) i) t.entries)

  module _ (names : entry_names_ok t ≡ true) (parents : parents_ok t ≡ true) (up : List ℕ) (ups : up ≡ map (up_of numbers notes) t.entries) where
    long : length t.entries ≡ 256
    long = ix.sized.entries

    ups_long : length up ≡ 256
    ups_long = ap length ups ∙ length-map t.entries (up_of numbers notes) ∙ long

    up_at : (i : ℕ) → i < 256 → get_or up i 0 ≡ up_of numbers notes (entry_at t i)
    unfolding up_of
    up_at i h =
        any_default up i 0 256 (omega (arith, ups_long, h)) ∙ ap (λ (l : List ℕ). get_or l i 256) ups
        ∙ get_or-map (up_of numbers notes) t.entries i no_entry

    up_none : (i : ℕ) → i < 256 → is_hung (entry_at t i) ≡ false → length up ≤ get_or up i 0
    unfolding up_of
    up_none i h e =
        let z : get_or up i 0 ≡ 256
        = up_at i h ∙ ap (λ (b : Bool). cond b (note_of numbers notes (entry_at t i).parent) 256) e in
        omega (arith, ups_long, z)

    up_note : (i : ℕ) → i < 256 → is_hung (entry_at t i) ≡ true → get_or up i 0 ≡ note_of numbers notes (entry_at t i).parent
    unfolding up_of
    up_note i h e = up_at i h ∙ ap (λ (b : Bool). cond b (note_of numbers notes (entry_at t i).parent) 256) e

    -- an entry that hangs under another: its parent's entry, at the place that is linked
    record Parent (i : ℕ) : Type 0 where
      low : get_or up i 0 < 256
      live : (entry_at t (get_or up i 0)).live ≡ true
      name : (entry_at t (get_or up i 0)).name ≡ (entry_at t i).parent

    parent_at_lem : (i : ℕ) → i < 256 → is_hung (entry_at t i) ≡ true → Parent i
    unfolding every_entry parent_entry_ok
    parent_at_lem i h e =
        let n = (entry_at t i).parent in
        let p : parent_entry_ok (entry_at t i) (entry_of t n) ≡ true
        = implies_elim (not (under_store (entry_at t i))) _
        (implies_elim (entry_at t i).live _
        (all_elim no_entry (λ a. implies a.live (implies (not (under_store a)) (parent_entry_ok a (entry_of t a.parent)))) t.entries parents i (omega (arith, long, h)))
        (and_l (entry_at t i).live _ e)) (and_r (entry_at t i).live _ e) in
        let l : (entry_of t n).live ≡ true = search (and_l, and_r) depth 5 in
        let q : entry_at t (get_or up i 0) ≡ entry_of t n = ap (entry_at t) (up_note i h e) ∙ by_note n in
        record {
          low = in_bounds (get_or up i 0) (ap (λ (a : Entry). a.live) q ∙ l);
          live = ap (λ (a : Entry). a.live) q ∙ l;
          name = ap (λ (a : Entry). a.name) q ∙ found_name t ix.sized n l;
        }
      where
        in_bounds : (j : ℕ) → (entry_at t j).live ≡ true → j < 256
        in_bounds j l = go (case (ltb j 256))
          where
            go : Case (ltb j 256) → j < 256
            go (pass e) = ltb-true j 256 e
            go (fail e) =
                let z : entry_at t j ≡ no_entry = get_or-eq_default t.entries no_entry (omega (arith, long, ltb-false j 256 e)) in
                no_true (sym (ap (λ (a : Entry). a.live) z) ∙ l)

    abbrev above : Name → Name
    above n = entry_parent (entry_of t) n

    -- the walks in step
    walk : (m i : ℕ) → i < 256 → (entry_at t i).live ≡ true → ltb (end_from m up i) 256 ≡ (entry_of t (end_of m above (entry_at t i).name)).live
    unfolding end_from end_of
    walk zero i h l =
        le-ltb (length up) 256 (omega (arith, ups_long)) ∙ sym (ap (λ (e : Entry). e.live) (noted.nowhere no_name (no_place numbers)))
    walk (suc m) i h l = go (case (under_store (entry_at t i))) (walk m (get_or up i 0))
      where
        e : Entry
        e = entry_at t i

        this : entry_of t e.name ≡ e
        this = entry_here t names i (omega (arith, long, h)) l

        go : Case (under_store e)
            → (get_or up i 0 < 256 → (entry_at t (get_or up i 0)).live ≡ true → ltb (end_from m up (get_or up i 0)) 256 ≡ (entry_of t (end_of m above (entry_at t (get_or up i 0)).name)).live)
            → ltb (end_from (suc m) up i) 256 ≡ (entry_of t (end_of (suc m) above e.name)).live
        go (pass z) ih =
            let n : is_none (above e.name) ≡ true = ap (λ (a : Entry). is_none a.parent) this ∙ z in
            let f : is_hung e ≡ false = rw (l, z) in
            ap (λ (j : ℕ). ltb j 256) (end_stops up m i (up_none i h f)) ∙ lt-ltb i 256 h
            ∙ sym (ap (λ (x : Name). (entry_of t x).live) (name_stops above m e.name n) ∙ ap (λ (a : Entry). a.live) this ∙ l)
        go (fail z) ih =
            let n : is_none (above e.name) ≡ false = ap (λ (a : Entry). is_none a.parent) this ∙ z in
            let p = parent_at_lem i h (and_intro l (not_test (under_store e) z)) in
            let q : (entry_at t (get_or up i 0)).name ≡ above e.name = p.name ∙ sym (ap (λ (a : Entry). a.parent) this) in
            ap (λ (j : ℕ). ltb j 256) (end_climbs up m i (omega (arith, p.low, ups_long))) ∙ ih p.low p.live
            ∙ ap (λ (x : Name). (entry_of t (end_of m above x)).live) q
            ∙ sym (ap (λ (x : Name). (entry_of t x).live) (name_climbs above m e.name n))

    pub chains_told : all_end up ≡ chains_ok t
    unfolding all_end every_entry
    chains_told = both_ways (all_at ends 0 up) (all rooted t.entries) to from
      where
        ends : ℕ → ℕ → Bool
        ends i next = ltb (end_from 256 up i) 256

        rooted : Entry → Bool
        rooted e = implies e.live (entry_of t (chain_root t e.name)).live

        to : all_at ends 0 up ≡ true → all rooted t.entries ≡ true
        to a =
            all_intro no_entry rooted t.entries
            (λ i h. implies_intro (entry_at t i).live _
            (λ l. sym (walk 256 i (omega (arith, long, h)) l) ∙ all_at_elim 0 ends up a i (omega (arith, long, ups_long, h))))

        from : all rooted t.entries ≡ true → all_at ends 0 up ≡ true
        from a = all_at_intro 0 ends up (λ i h. at i (omega (arith, ups_long, h)) (case (entry_at t i).live))
          where
            at : (i : ℕ) → i < 256 → Case (entry_at t i).live → ltb (end_from 256 up i) 256 ≡ true
            at i h (pass l) =
                walk 256 i h l
                ∙ implies_elim (entry_at t i).live _ (all_elim no_entry rooted t.entries a i (omega (arith, long, h))) l
            at i h (fail l) =
                let f : is_hung (entry_at t i) ≡ false = rw l in
                ap (λ (j : ℕ). ltb j 256) (end_stops up 255 i (up_none i h f)) ∙ lt-ltb i 256 h

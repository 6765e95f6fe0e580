-- One recall by itself: what the code finds at its own name and at its target's key is what the tables have there, so each way through
-- the code's tests settles `recall_holds`. A grant or a child that has no place is not there; an entry without a note is none.
use Prim.Native.Nat.{ℕ, ◌+◌, ◌*◌, ◌≤◌, ◌<◌}
use native.Mathlib.Omega.{arith}
use mathlib.Core.Path.{◌≡◌, sym, ap, ◌∙◌, subst}
use mathlib.Core.Bool.{Bool, true, false, not, ◌&&◌, cond}
use mathlib.Core.List.{List, map}
use lib.Dec.{ltb}
use lib.ListN.{length, get_or, get_or-eq_default}
use borrow.Author.Count.{below_more}
use borrow.Author.Tests.{ltb-true, ltb-false, eq-eqb, ne_eqb}
use Rattle.lists.specs.Tests.{implies, between}
use Rattle.lists.proofs.Tests.{Case, pass, fail, case, contradiction, cannot_pass, and_l}
use Rattle.lists.proofs.Reading.{any_default}
use Rattle.tables.specs.declared.{Name.Name, Ticket.Ticket, Entry.Entry, Tables.Tables}
use Rattle.tables.specs.Names.{free, no_entry, eq_name, is_program}
use Rattle.tables.specs.Lookup.{last_of, lookup, entry_of}
use Rattle.tables.specs.Chains.{own_name}
use Rattle.tables.specs.Sheets.{inside}
use Rattle.tables.specs.Order.{every_ticket, recall_parent_ok, is_child_of, far_target_ok, target_ok}
use Rattle.tables.proofs.KindLaws.{live_grant, live_child}
use Rattle.tables.proofs.NameLaws.{is_program_lem}
use Rattle.image_places.specs.Places.{placed, name_at, place_in}
use Rattle.image_places.proofs.Laws.{every_placed, placed_every, lookup_place, live_place, place_most}
use Rattle.image_read.specs.Places.{tickets_in, lasts_in, entries_in}
use Rattle.image_read.proofs.Places.{tickets_long, entries_long}
use Rattle.order_lists.specs.Listing.{TicketsListed}
use Rattle.order_lists.proofs.Laws.{listed_all}
use Rattle.order_recall_marks.specs.Keys.{target_key}
use Rattle.order_recall_marks.proofs.Laws.{recall_key, key_is_place, key_has_none, key_written}
use Rattle.order_recalls.specs.Recalls.{LaidOut, recall_holds}
use Rattle.tables.specs.Kinds.{is_live, is_grant, is_child, is_recall}

-- a grant, or a child, is live
parent_live : (k : Ticket) → recall_parent_ok k ≡ true → is_live k.kind ≡ true
unfolding recall_parent_ok
parent_live k e = live_grant k.kind (and_l (is_grant k.kind) _ e)

child_live : (n : Name) (k : Ticket) → is_child_of n k ≡ true → is_live k.kind ≡ true
unfolding is_child_of
child_live n k e = live_child k.kind (and_l (is_child k.kind) _ e)

-- ---- the recall k at a place, as the code has it: the name of its grant, that name's place, and the key of its target
pub record Picked (image numbers keys : List ℕ) (i : ℕ) (k : Ticket) (own : Name) (place : ℕ) : Type 0 where
  pub low : i < 256
  pub keyed : keys ≡ map (target_key numbers) (tickets_in image)
  pub read : k ≡ get_or (tickets_in image) i free
  pub recall : is_recall k.kind ≡ true
  pub named : own ≡ own_name (name_at i k) k
  pub found : place ≡ place_in numbers own

-- at the j-th listed place
pub pick : {image numbers recalls keys : List ℕ} → TicketsListed (λ k. is_recall k.kind) (tickets_in image) recalls
    → keys ≡ map (target_key numbers) (tickets_in image) → {j : ℕ} → j < length recalls → {i : ℕ} → i ≡ get_or recalls j 0
    → {k : Ticket} → k ≡ get_or (tickets_in image) i free → {own : Name} → own ≡ own_name (name_at i k) k → {place : ℕ} → place ≡ place_in numbers own
    → Picked image numbers keys i k own place
pick {image} listing keyed {j} h at {k} read named found = record {
  low = omega (arith, at, listing.low j h);
  keyed = keyed;
  read = read;
  recall = subst (λ (x : Ticket). is_recall x.kind ≡ true) (sym (read ∙ ap (λ (p : ℕ). get_or (tickets_in image) p free) at)) (listing.passes j h);
  named = named;
  found = found;
}

module _ {image numbers keys : List ℕ} {i : ℕ} {k : Ticket} {own : Name} {place : ℕ} (w : Picked image numbers keys i k own place) where
  its_key : get_or keys i 0 ≡ target_key numbers k
  its_key =
      key_written numbers keys (tickets_in image) w.keyed i (omega (arith, tickets_long image, w.low))
      ∙ ap (target_key numbers) (sym w.read)

  pub has_key : get_or keys i 0 ≡ 256 → ⊥
  has_key e = recall_key numbers k w.recall (sym its_key ∙ e)

-- the recall at the place p holds, and so do those at the first i listed places
abbrev pub Holds : Tables → ℕ → Type 0
Holds t p = recall_holds t (name_at p (placed t p)) (placed t p) ≡ true

abbrev pub Held : Tables → List ℕ → ℕ → Type 0
Held t recalls i = (j : ℕ) → j < i → Holds t (get_or recalls j 0)

module _ {t : Tables} {image numbers notes : List ℕ} (ix : LaidOut t image numbers notes) where
  found_at : (n : Name) → place_in numbers n < 256 → lookup t n ≡ get_or (tickets_in image) (place_in numbers n) free
  found_at n h = lookup_place t numbers ix.numbered n ∙ sym (ix.flat.same (place_in numbers n) h)

  no_entry_lem : get_or (entries_in image) 256 no_entry ≡ no_entry
  no_entry_lem = get_or-eq_default (entries_in image) no_entry (omega (arith, entries_long image))

  -- ---- all places
  pub held_end : (recalls : List ℕ) → TicketsListed (λ k. is_recall k.kind) (tickets_in image) recalls → (i : ℕ) → length recalls ≤ i
      → Held t recalls i → true ≡ every_ticket is_recall (recall_holds t) t
  held_end recalls listing i h all =
      sym (placed_every t ix.numbered.sized is_recall (recall_holds t)
      (λ p l r.
      listed_all free (λ k. is_recall k.kind) (tickets_in image) 256 recalls (length recalls) listing (Holds t) (λ j g. all j (omega (arith, g, h))) p l
      (subst (λ (k : Ticket). is_recall k.kind ≡ true) (sym (ix.flat.same p l)) r)))

  -- ---- one recall
  module _ {keys : List ℕ} {i : ℕ} {k : Ticket} {own : Name} {place : ℕ} (w : Picked image numbers keys i k own place) where
    abbrev n : Name
    n = name_at i k

    abbrev key : ℕ
    key = get_or keys i 0

    here : k ≡ placed t i
    here = w.read ∙ ix.flat.same i w.low

    -- one listed place more
    pub held_more : (recalls : List ℕ) (j : ℕ) → i ≡ get_or recalls j 0 → Held t recalls j → recall_holds t n k ≡ true → Held t recalls (j + 1)
    held_more recalls j at before e =
        below_more _ j before (subst (Holds t) at (subst (λ (x : Ticket). recall_holds t (name_at i x) x ≡ true) here e))

    not_held : recall_holds t n k ≡ false → false ≡ every_ticket is_recall (recall_holds t) t
    not_held e =
        sym (cannot_pass (every_ticket is_recall (recall_holds t) t)
        (λ all. contradiction
        (subst (λ (x : Ticket). recall_holds t (name_at i x) x ≡ true) (sym here)
        (every_placed t ix.numbered.sized is_recall (recall_holds t) all i w.low
        (subst (λ (x : Ticket). is_recall x.kind ≡ true) here w.recall)))
        e))

    grant_place : place_in numbers (own_name n k) ≡ place
    grant_place = ap (place_in numbers) (sym w.named) ∙ sym w.found

    bad_parent : recall_parent_ok (lookup t (own_name n k)) ≡ false → false ≡ every_ticket is_recall (recall_holds t) t
    unfolding recall_holds
    bad_parent e = not_held (ap (λ (b : Bool). b && target_ok t n k) e)

    pub no_grant : 256 ≤ place → false ≡ every_ticket is_recall (recall_holds t) t
    no_grant h =
        bad_parent (cannot_pass (recall_parent_ok (lookup t (own_name n k)))
        (λ e. omega (arith, live_place t numbers ix.numbered (own_name n k) (parent_live (lookup t (own_name n k)) e), grant_place, h)))

    module _ (low : place < 256) {grant : Ticket} (granted : grant ≡ get_or (tickets_in image) place free) where
      grant_found : lookup t (own_name n k) ≡ grant
      grant_found =
          found_at (own_name n k) (omega (arith, grant_place, low)) ∙ ap (λ (p : ℕ). get_or (tickets_in image) p free) grant_place ∙ sym granted

      pub bad_grant : recall_parent_ok grant ≡ false → false ≡ every_ticket is_recall (recall_holds t) t
      bad_grant e = bad_parent (ap recall_parent_ok grant_found ∙ e)

      module _ (good : recall_parent_ok grant ≡ true) where
        holds_by_target : recall_holds t n k ≡ target_ok t n k
        unfolding recall_holds
        holds_by_target = ap (λ (b : Bool). b && target_ok t n k) (ap recall_parent_ok grant_found ∙ good)

        own_pad : own.pad ≡ n.pad
        own_pad = ap (λ (x : Name). x.pad) w.named

        -- ---- the target on the recall's own pad
        module _ (near : k.other.pad ≡ own.pad) where
          near_target : recall_holds t n k ≡ is_child_of own (lookup t k.other)
          unfolding target_ok
          near_target =
              holds_by_target
              ∙ ap (λ (b : Bool). cond b (is_child_of (own_name n k) (lookup t k.other)) (far_target_ok t k.other (lookup t (own_name n k)) (entry_of t k.other)))
              (eq-eqb k.other.pad n.pad (near ∙ own_pad))
              ∙ ap (λ (x : Name). is_child_of x (lookup t k.other)) (sym w.named)

          pub near_none : 256 < key → false ≡ every_ticket is_recall (recall_holds t) t
          near_none h =
              not_held (near_target ∙ cannot_pass (is_child_of own (lookup t k.other))
              (λ e. let q = key_has_none numbers k (subst (λ (x : ℕ). 256 < x) (its_key w) h) in
              omega (arith, q, live_place t numbers ix.numbered k.other (child_live own (lookup t k.other) e))))

          module _ (placed_there : key < 256) {child : Ticket} (read : child ≡ get_or (tickets_in image) key free) where
            near_child : recall_holds t n k ≡ is_child_of own child
            near_child =
                let q : place_in numbers k.other ≡ key = key_is_place numbers k (subst (λ (x : ℕ). x < 256) (its_key w) placed_there) ∙ sym (its_key w) in
                near_target
                ∙ ap (is_child_of own) (found_at k.other (omega (arith, q, placed_there)) ∙ ap (λ (p : ℕ). get_or (tickets_in image) p free) q ∙ sym read)

            pub near_bad : is_child_of own child ≡ false → false ≡ every_ticket is_recall (recall_holds t) t
            near_bad e = not_held (near_child ∙ e)

            pub near_ok : is_child_of own child ≡ true → recall_holds t n k ≡ true
            near_ok e = near_child ∙ e

        -- ---- the target on another pad
        module _ (far : k.other.pad ≡ own.pad → ⊥) where
          abbrev target : Name
          target = k.other

          abbrev given : Bool
          given =
              is_program target.pad target.program && between 1 (get_or (lasts_in image) (8 * target.pad + target.program) 0) target.number
              && not (is_child (get_or (tickets_in image) key free).kind)

          abbrev entry_fits : Entry → Bool
          entry_fits e =
              implies e.live
              (eq_name e.parent grant.dock && inside e.first e.count e.rights grant.first grant.count grant.rights)

          -- the key tells whether the target is a live child
          child_there : is_child (get_or (tickets_in image) key free).kind ≡ is_child (lookup t target).kind
          child_there = go (case (ltb key 256))
            where
              go : Case (ltb key 256) → is_child (get_or (tickets_in image) key free).kind ≡ is_child (lookup t target).kind
              go (pass e) =
                  let h = ltb-true key 256 e in
                  let q : place_in numbers target ≡ key = key_is_place numbers k (subst (λ (x : ℕ). x < 256) (its_key w) h) ∙ sym (its_key w) in
                  sym (ap (λ (x : Ticket). is_child x.kind) (found_at target (omega (arith, q, h)) ∙ ap (λ (p : ℕ). get_or (tickets_in image) p free) q))
              go (fail e) =
                  let h : 256 < key = omega (arith, ltb-false key 256 e, has_key w) in
                  let q = key_has_none numbers k (subst (λ (x : ℕ). 256 < x) (its_key w) h) in
                  ap (λ (x : Ticket). is_child x.kind) (get_or-eq_default (tickets_in image) free (omega (arith, tickets_long image, h)))
                  ∙ sym (cannot_pass (is_child (lookup t target).kind)
                  (λ c. omega (arith, q, live_place t numbers ix.numbered target (live_child (lookup t target).kind c))))

          given_there : given
              ≡ (is_program target.pad target.program && between 1 (last_of t target.pad target.program) target.number && not (is_child (lookup t target).kind))
          given_there = go (case (is_program target.pad target.program)) ∙ ap (λ (b : Bool). bounds && not b) child_there
            where
              bounds : Bool
              bounds = is_program target.pad target.program && between 1 (last_of t target.pad target.program) target.number

              go : Case (is_program target.pad target.program) → given ≡ (bounds && not (is_child (get_or (tickets_in image) key free).kind))
              go (pass e) =
                  let q = is_program_lem target.pad target.program e in
                  ap (λ (m : ℕ). is_program target.pad target.program && between 1 m target.number && not (is_child (get_or (tickets_in image) key free).kind))
                  (ix.flat.last target.pad target.program (omega (arith, q.pad)) (omega (arith, q.program)))
              go (fail e) = rw e

          -- the entry of the target is noted under its key
          noted_at : entry_of t target ≡ get_or (entries_in image) (get_or notes key 256) no_entry
          noted_at = go (case (ltb key 256))
            where
              long : length notes ≡ 256
              long = ix.noted.long

              go : Case (ltb key 256) → entry_of t target ≡ get_or (entries_in image) (get_or notes key 256) no_entry
              go (pass e) =
                  let h = ltb-true key 256 e in
                  let q : place_in numbers target ≡ key = key_is_place numbers k (subst (λ (x : ℕ). x < 256) (its_key w) h) ∙ sym (its_key w) in
                  ix.noted.here target (omega (arith, q, h))
                  ∙ ap (λ (l : List Entry). get_or l (get_or notes (place_in numbers target) 0) no_entry) (sym ix.entries)
                  ∙ ap (λ (p : ℕ). get_or (entries_in image) (get_or notes p 0) no_entry) q
                  ∙ ap (λ (p : ℕ). get_or (entries_in image) p no_entry) (any_default notes key 0 256 (omega (arith, long, h)))
              go (fail e) =
                  let h : 256 < key = omega (arith, ltb-false key 256 e, has_key w) in
                  let q = key_has_none numbers k (subst (λ (x : ℕ). 256 < x) (its_key w) h) in
                  ix.noted.nowhere target (omega (arith, q, place_most t numbers ix.numbered target))
                  ∙ sym no_entry_lem
                  ∙ ap (λ (p : ℕ). get_or (entries_in image) p no_entry) (sym (get_or-eq_default notes 256 (omega (arith, long, h))))

          far_target : recall_holds t n k ≡ (given && entry_fits (get_or (entries_in image) (get_or notes key 256) no_entry))
          unfolding target_ok far_target_ok
          far_target =
              holds_by_target
              ∙ ap (λ (b : Bool). cond b (is_child_of (own_name n k) (lookup t target)) (far_target_ok t target (lookup t (own_name n k)) (entry_of t target)))
              (ne_eqb target.pad n.pad (λ e. far (e ∙ sym own_pad)))
              ∙ (λ j. far_target_ok t target (grant_found j) (noted_at j))
              ∙ ap (λ (b : Bool). b && entry_fits (get_or (entries_in image) (get_or notes key 256) no_entry)) (sym given_there)

          pub not_given : given ≡ false → false ≡ every_ticket is_recall (recall_holds t) t
          not_given e = not_held (far_target ∙ ap (λ (b : Bool). b && entry_fits (get_or (entries_in image) (get_or notes key 256) no_entry)) e)

          module _ (was : given ≡ true) where
            by_entry : recall_holds t n k ≡ entry_fits (get_or (entries_in image) (get_or notes key 256) no_entry)
            by_entry = far_target ∙ ap (λ (b : Bool). b && entry_fits (get_or (entries_in image) (get_or notes key 256) no_entry)) was

            -- without a note there is no entry
            pub far_none : 256 ≤ get_or notes key 256 → recall_holds t n k ≡ true
            unfolding implies
            far_none h =
                by_entry ∙ ap entry_fits
                (get_or-eq_default (entries_in image) no_entry (omega (arith, entries_long image, h)))

            -- with a note there is the entry that was read
            module _ (note : ℕ) (noted : note ≡ get_or notes key 256) {e : Entry} (read : e ≡ get_or (entries_in image) note no_entry) {r : Bool} (told : r ≡ entry_fits e) where
              by_note : recall_holds t n k ≡ r
              by_note = by_entry ∙ ap entry_fits (ap (λ (p : ℕ). get_or (entries_in image) p no_entry) (sym noted) ∙ sym read) ∙ sym told

              pub far_bad : r ≡ false → false ≡ every_ticket is_recall (recall_holds t) t
              far_bad l = not_held (by_note ∙ l)

              pub far_ok : r ≡ true → recall_holds t n k ≡ true
              far_ok l = by_note ∙ l

-- T5 put together from what the loops decide: the entries' grants and names, their parents and chains, the roots' sheets, the taken
-- grants' entries. A loop that says no refutes its part of T5; where all say yes, every part holds.
use Prim.Native.Nat.{ℕ, ◌+◌, ◌<◌}
use native.Mathlib.Omega.{arith}
use mathlib.Core.Path.{◌≡◌, refl, sym, ap, subst, ◌∙◌}
use mathlib.Core.Bool.{Bool, true, false, not, ◌&&◌}
use mathlib.Core.List.{List, map}
use lib.Dec.{eqb, leb, ltb}
use lib.ListN.{length, get_or, get_or-eq_default}
use borrow.Author.Tests.{eqb-true, eqb-false, leb-true, lt-ltb, le-ltb}
use Rattle.lists.specs.Tests.{implies}
use Rattle.lists.specs.Lists.{all, all_at}
use Rattle.lists.proofs.Tests.{Case, pass, fail, case, no_true, contradiction, cannot_pass, both_ways, and_l, and_r, and_intro, and_false, implies_intro, implies_elim}
use Rattle.lists.proofs.Everywhere.{all_intro, all_elim, all_at_intro, all_at_elim}
use Rattle.tables.specs.declared.{Ticket.Ticket, Entry.Entry, Tables.Tables}
use Rattle.tables.specs.Names.{free, no_entry}
use Rattle.tables.specs.Lookup.{lookup, entry_of}
use Rattle.tables.specs.Chains.{chain_root}
use Rattle.tables.specs.Order.{every_ticket, every_entry, span_ok, t2, entry_names_ok, under_store, grant_ok, parent_entry_ok, entry_ok, roots_ok, t5}
use Rattle.tables.proofs.KindLaws.{head_grant, live_taken}
use Rattle.image_places.specs.Places.{placed, name_at, place_in, Flattened, Numbered, Noted}
use Rattle.image_places.proofs.Laws.{every_placed, placed_every, lookup_place, name_place}
use Rattle.order_entry_notes.specs.Notes.{every_live, has_grant, names_apart, NotesOf, Noting, note_of}
use Rattle.order_entry_notes.proofs.Grants.{grants_ok, entry_at, grant_at, grants_told, names_told, has_place_lem}
use Rattle.order_entry_notes.proofs.Laws.{noted_all, entry_noted}
use Rattle.order_entry_chains.specs.Ends.{all_end}
use Rattle.order_roots.specs.Marks.{Spanned, roots_in}
use Rattle.order_entries.specs.Parents.{has_parent, up_of, hung_ok}
use Rattle.order_entries.specs.Order.{has_note, taken_noted, EntryOrder}
use Rattle.order_entries.proofs.Parents.{parents_ok, chains_ok, parents_told, chains_told}
use Rattle.tables.specs.Kinds.{is_grant, is_taken}

-- ---- the parts of T5
-- "Every taken grant has its entry."
abbrev taken_ok : Tables → Bool
taken_ok t = every_ticket is_taken (λ n k. (entry_of t n).live) t

record Parts (t : Tables) : Type 0 where
  names : entry_names_ok t ≡ true
  grants : grants_ok t ≡ true
  parents : parents_ok t ≡ true
  chains : chains_ok t ≡ true
  roots : roots_ok t ≡ true
  taken : taken_ok t ≡ true

every_weaken : (t : Tables) (f g : Entry → Bool) → ((e : Entry) → f e ≡ true → g e ≡ true) → every_entry f t ≡ true → every_entry g t ≡ true
unfolding every_entry
every_weaken t f g h a =
    all_intro no_entry (λ e. implies e.live (g e)) t.entries
    (λ i b. let e = get_or t.entries i no_entry in
    implies_intro e.live (g e) (λ l. h e (implies_elim e.live (f e) (all_elim no_entry (λ e. implies e.live (f e)) t.entries a i b) l)))

every_both : (t : Tables) (f g : Entry → Bool) → every_entry f t ≡ true → every_entry g t ≡ true → every_entry (λ e. f e && g e) t ≡ true
unfolding every_entry
every_both t f g a c =
    all_intro no_entry (λ e. implies e.live (f e && g e)) t.entries
    (λ i b. let e = get_or t.entries i no_entry in
    implies_intro e.live (f e && g e)
    (λ l. and_intro (implies_elim e.live (f e) (all_elim no_entry (λ e. implies e.live (f e)) t.entries a i b) l)
    (implies_elim e.live (g e) (all_elim no_entry (λ e. implies e.live (g e)) t.entries c i b) l)))

module _ (t : Tables) where
  abbrev suited : Entry → Bool
  suited e = grant_ok e (lookup t e.name)

  abbrev hung : Entry → Bool
  hung e = implies (not (under_store e)) (parent_entry_ok e (entry_of t e.parent))

  abbrev rooted : Entry → Bool
  rooted e = (entry_of t (chain_root t e.name)).live

  parts_of : t5 t ≡ true → Parts t
  unfolding t5 entry_ok
  parts_of h =
      let every : every_entry (λ e. suited e && hung e && rooted e) t ≡ true = search (and_l, and_r) depth 5 in
      record {
        names = search (and_l, and_r) depth 5;
        grants = every_weaken t _ suited (λ e q. and_l (suited e) (hung e) (and_l (suited e && hung e) (rooted e) q)) every;
        parents = every_weaken t _ hung (λ e q. and_r (suited e) (hung e) (and_l (suited e && hung e) (rooted e) q)) every;
        chains = every_weaken t _ rooted (λ e q. and_r (suited e && hung e) (rooted e) q) every;
        roots = search (and_l, and_r) depth 5;
        taken = search (and_l, and_r) depth 5;
      }

  all_parts : Parts t → t5 t ≡ true
  unfolding t5 entry_ok
  all_parts p =
      and_intro
      (and_intro (and_intro p.names (every_both t (λ e. suited e && hung e) rooted (every_both t suited hung p.grants p.parents) p.chains)) p.roots)
      p.taken

-- ---- what T2 says of the entries' sheets, by their grants
spanned : (t : Tables) (numbers : List ℕ) → Numbered t numbers → t2 t ≡ true → grants_ok t ≡ true → Spanned t.entries
unfolding t2 span_ok
spanned t numbers ix spans g i h l =
    let e = entry_at t i in
    let b : i < length t.entries = omega (arith, ix.sized.entries, h) in
    let s = grant_at t g i b l in
    let q = lookup_place t numbers ix e.name in
    let p = place_in numbers e.name in
    let k = placed t p in
    let z : span_ok k ≡ true
    = every_placed t ix.sized is_grant (λ n k. span_ok k) spans p (has_place_lem t numbers ix g i b l)
    (ap (λ (x : Ticket). is_grant x.kind) (sym q) ∙ head_grant (lookup t e.name).kind s.head) in
    let one : leb 1 k.count ≡ true = search (and_l, and_r) depth 5 in
    let most : leb (k.first + k.count) 256 ≡ true = search (and_l, and_r) depth 5 in
    let c : k.count ≡ e.count = ap (λ (x : Ticket). x.count) (sym q) ∙ s.count in
    let f : k.first ≡ e.first = ap (λ (x : Ticket). x.first) (sym q) ∙ s.first in
    (omega (arith, leb-true 1 k.count one, c), omega (arith, leb-true (k.first + k.count) 256 most, c, f))

-- ---- taken grants
module _ (t : Tables) (tickets : List Ticket) (lasts : List ℕ) (flat : Flattened t tickets lasts) (numbers : List ℕ) (ix : Numbered t numbers)
    (notes : List ℕ) (noted : Noted t numbers notes) (of : NotesOf numbers t.entries 256 notes) where
  -- a note is a live entry's
  live_note : (p : ℕ) → (entry_at t (get_or notes p 256)).live ≡ ltb (get_or notes p 256) 256
  live_note p = go (case (eqb (get_or notes p 256) 256))
    where
      go : Case (eqb (get_or notes p 256) 256) → (entry_at t (get_or notes p 256)).live ≡ ltb (get_or notes p 256) 256
      go (pass e) =
          let z : get_or notes p 256 ≡ 256 = eqb-true (get_or notes p 256) 256 e in
          ap (λ (a : Entry). a.live) (get_or-eq_default t.entries no_entry (omega (arith, ix.sized.entries, z)))
          ∙ sym (le-ltb (get_or notes p 256) 256 (omega (arith, z)))
      go (fail e) =
          let w = of.noter p (eqb-false (get_or notes p 256) 256 e) in
          w.live ∙ sym (lt-ltb (get_or notes p 256) 256 w.low)

  -- the note at a taken grant's place is its entry's
  its_entry : (p : ℕ) → p < 256 → is_taken (placed t p).kind ≡ true → (entry_of t (name_at p (placed t p))).live ≡ ltb (get_or notes p 256) 256
  unfolding note_of
  its_entry p h k =
      ap (λ (e : Entry). e.live) (entry_noted t numbers notes ix noted (name_at p (placed t p)))
      ∙ ap (λ (q : ℕ). (entry_at t (get_or notes q 256)).live) (name_place t numbers ix p h (live_taken (placed t p).kind k)) ∙ live_note p

  taken_told : taken_noted notes tickets ≡ taken_ok t
  unfolding taken_noted has_note
  taken_told = both_ways (all_at (has_note notes) 0 tickets) (taken_ok t) to from
    where
      to : all_at (has_note notes) 0 tickets ≡ true → taken_ok t ≡ true
      to a =
          placed_every t ix.sized is_taken (λ n k. (entry_of t n).live)
          (λ p h k. its_entry p h k
          ∙ implies_elim (is_taken (placed t p).kind) (ltb (get_or notes p 256) 256)
          (ap (λ (x : Ticket). has_note notes p x) (sym (flat.same p h)) ∙ all_at_elim free (has_note notes) tickets a p (omega (arith, flat.long, h))) k)

      from : taken_ok t ≡ true → all_at (has_note notes) 0 tickets ≡ true
      from a =
          all_at_intro free (has_note notes) tickets
          (λ p b. let h : p < 256 = omega (arith, flat.long, b) in
          ap (λ (x : Ticket). has_note notes p x) (flat.same p h)
          ∙ implies_intro (is_taken (placed t p).kind) (ltb (get_or notes p 256) 256)
          (λ k. sym (its_entry p h k) ∙ every_placed t ix.sized is_taken (λ n k. (entry_of t n).live) a p h k))

-- ---- the answers, one loop after the other
module _ (lives : Bool) (t : Tables) (numbers notes : List ℕ) where
  refuted : (t5 t ≡ true → ⊥) → EntryOrder lives t numbers notes false
  refuted h = record { same = sym (ap (λ (b : Bool). lives && b) (cannot_pass (t5 t) h) ∙ and_false lives); noted = λ e. no_true e }

module _ (lives : Bool) (t : Tables) (tickets : List Ticket) (lasts : List ℕ) (flat : Flattened t tickets lasts) (es : List Entry) (e : es ≡ t.entries)
    (numbers : List ℕ) (ix : Numbered t numbers) (spans : t2 t ≡ true) (notes : List ℕ) (r₁ : Bool) (noting : Noting lives tickets numbers es notes r₁) where
  -- by the notes
  n : Noting lives tickets numbers t.entries notes r₁
  n = subst (λ (l : List Entry). Noting lives tickets numbers l notes r₁) e noting

  pub bad_notes : r₁ ≡ false → EntryOrder lives t numbers notes false
  bad_notes q = record { same = sym (cannot_pass (lives && t5 t) bad); noted = λ y. no_true y }
    where
      bad : (lives && t5 t) ≡ true → ⊥
      bad h =
          let p = parts_of t (and_r lives (t5 t) h) in
          contradiction
          (n.same
          ∙ and_intro (and_l lives (t5 t) h)
          (and_intro (grants_told t numbers ix tickets lasts flat ∙ p.grants) (names_told t numbers ix p.grants ∙ p.names))) q

  module _ (yes₁ : r₁ ≡ true) where
    abbrev named : Bool
    named = every_live (has_grant tickets numbers) t.entries && names_apart numbers t.entries

    live : lives ≡ true
    live = and_l lives named (sym n.same ∙ yes₁)

    both : named ≡ true
    both = and_r lives named (sym n.same ∙ yes₁)

    grants : grants_ok t ≡ true
    grants = sym (grants_told t numbers ix tickets lasts flat) ∙ and_l _ (names_apart numbers t.entries) both

    names : entry_names_ok t ≡ true
    names = sym (names_told t numbers ix grants) ∙ and_r (every_live (has_grant tickets numbers) t.entries) _ both

    of : NotesOf numbers t.entries 256 notes
    of = n.noted yes₁

    noted : Noted t numbers notes
    noted = noted_all t numbers notes ix grants names of

    module _ (r₂ : Bool) (hanging : r₂ ≡ hung_ok numbers notes es) where
      abbrev fitting : Bool
      fitting = all (has_parent numbers notes t.entries) t.entries

      abbrev ending : Bool
      ending = all_end (map (up_of numbers notes) t.entries)

      -- by the parents and their chains
      linked : r₂ ≡ (fitting && ending)
      unfolding hung_ok
      linked = hanging ∙ ap (hung_ok numbers notes) e

      ended : parents_ok t ≡ true → ending ≡ chains_ok t
      ended p = chains_told t numbers notes ix noted names p (map (up_of numbers notes) t.entries) refl

      pub bad_hung : r₂ ≡ false → EntryOrder lives t numbers notes false
      bad_hung q = refuted lives t numbers notes (λ h. let p = parts_of t h in
          contradiction (linked ∙ and_intro (parents_told t numbers notes ix noted ∙ p.parents) (ended p.parents ∙ p.chains)) q)

      module _ (yes₂ : r₂ ≡ true) where
        parents : parents_ok t ≡ true
        parents = sym (parents_told t numbers notes ix noted) ∙ and_l fitting ending (sym linked ∙ yes₂)

        chains : chains_ok t ≡ true
        chains = sym (ended parents) ∙ and_r fitting ending (sym linked ∙ yes₂)

        -- by the roots' sheets
        apart : (r₃ : Bool) → (Spanned es → r₃ ≡ roots_in es) → r₃ ≡ roots_ok t
        unfolding roots_in roots_ok
        apart r₃ f = subst (λ (s : List Entry). (Spanned s → r₃ ≡ roots_in s)) e f (spanned t numbers ix spans grants)

        pub bad_roots : (r₃ : Bool) → (Spanned es → r₃ ≡ roots_in es) → r₃ ≡ false → EntryOrder lives t numbers notes false
        bad_roots r₃ f q = refuted lives t numbers notes (λ h. contradiction (apart r₃ f ∙ (parts_of t h).roots) q)

        -- by the taken grants
        pub last_part : (r₃ : Bool) → (Spanned es → r₃ ≡ roots_in es) → r₃ ≡ true
            → (r : Bool) → r ≡ taken_noted notes tickets → EntryOrder lives t numbers notes r
        last_part r₃ f yes₃ r k = record { same = both_ways r (t5 t) to from ∙ sym (ap (λ (b : Bool). b && t5 t) live); noted = λ q. noted }
          where
            told : r ≡ taken_ok t
            told = k ∙ taken_told t tickets lasts flat numbers ix notes noted of

            to : r ≡ true → t5 t ≡ true
            to q = all_parts t (record {
              names = names;
              grants = grants;
              parents = parents;
              chains = chains;
              roots = sym (apart r₃ f) ∙ yes₃;
              taken = sym told ∙ q;
            })

            from : t5 t ≡ true → r ≡ true
            from q = told ∙ (parts_of t q).taken

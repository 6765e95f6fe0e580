-- Places run out last: a chain on a pad has fewer than 64 links and a chain in the dock fewer than 256, and while a program has a free place
-- so has the dock. All three by the pigeonhole: the names of a chain lie in different places; and were all 256 entries live, their grants
-- would lie in all 256 places of tickets, the free one too.
use Prim.Native.Nat.{ℕ, ◌+◌, ◌*◌, ◌≤◌, ◌<◌}
use native.Mathlib.Omega.{arith}
use mathlib.Core.Path.{◌≡◌, refl, sym, ap, ◌∙◌, subst}
use mathlib.Core.Logic.{◌⊎◌, inl, inr}
use mathlib.Core.Bool.{true, false, not}
use lib.ListN.{length}
use borrow.Author.Tests.{not-true}
use Rattle.lists.specs.Lists.{first_index, some}
use Rattle.lists.proofs.Tests.{cannot_fail, contradiction}
use Rattle.lists.proofs.Search.{find_passes, some_first}
use Rattle.lists.proofs.Everywhere.{some_intro}
use Rattle.lists.proofs.Keyed.{found_low}
use Rattle.lists.proofs.NoneLeftOut.{none_left_out}
use Rattle.tables.specs.declared.{Name.Name, Ticket.Ticket, Entry.Entry, Tables.Tables}
use Rattle.tables.specs.Names.{is_none, free, no_entry}
use Rattle.tables.specs.Lookup.{tickets_of, last_of, has_number, ticket_in, lookup, place_of, is_named, entry_in, entry_of}
use Rattle.tables.specs.Chains.{parent_of, entry_parent}
use Rattle.tables.specs.Change.{is_free, has_place, is_spare}
use Rattle.tables.proofs.KindLaws.{live_head, has_parent_lem}
use Rattle.tables.proofs.NameLaws.{name_eq}
use Rattle.tables.proofs.Keys.{entry_keys, entry_laws, entry_keyed}
use Rattle.tables.proofs.ByPlace.{ticket_at, entry_at, place_low_lem}
use Rattle.preservation.specs.Rules.{Given, Ends}
use Rattle.preservation.specs.InOrder.{InOrder}
use Rattle.preservation.proofs.Walks.{chain_length}
use Rattle.preservation.proofs.RuleFacts.{entry_head, child_up, recall_up, parent_live}
use Rattle.preservation.proofs.TestsByName.{at_entry_name}
use Rattle.tables.specs.Kinds.{is_live, is_child, is_recall}

module _ (t : Tables) (ok : InOrder t) where
  -- ---- the place of a name's ticket: in its program, on its pad, on all pads
  abbrev place_in : Name → ℕ
  place_in n = first_index (has_number n.number) (tickets_of t n.pad n.program)

  pub place_on_pad : Name → ℕ
  place_on_pad n = 8 * n.program + place_in n

  ticket_at_place : (n : Name) → lookup t n ≡ ticket_at t n.pad n.program (place_in n)
  unfolding lookup ticket_in
  ticket_at_place n = refl

  module _ (n : Name) (l : is_live (lookup t n).kind ≡ true) where
    given : Given (last_of t) n
    given = ok.rules.named n l

    below_8 : place_in n < 8
    below_8 =
        subst (λ (m : ℕ). place_in n < m) (ok.shape.sized.tickets n.pad n.program (omega (arith, given.pad)) (omega (arith, given.program)))
        (place_low_lem t ok.shape.sized n l)

    pub pad_low_lem : place_on_pad n < 64
    unfolding place_on_pad
    pad_low_lem = omega (arith, below_8, given.program)

    place_of_lem : place_of t n ≡ 64 * n.pad + place_on_pad n
    unfolding place_of place_on_pad
    place_of_lem = rw l (omega arith)

    pub all_low : place_of t n < 256
    all_low = omega (arith, place_of_lem, pad_low_lem, given.pad)

  -- two live tickets in one place are one
  module _ (n m : Name) (l : is_live (lookup t n).kind ≡ true) (k : is_live (lookup t m).kind ≡ true) where
    place_once : n.pad ≡ m.pad → n.program ≡ m.program → place_in n ≡ place_in m → n ≡ m
    place_once p q e =
        let s : lookup t n ≡ lookup t m
        = ticket_at_place n ∙ ap (λ (x : ℕ). ticket_at t x n.program (place_in n)) p ∙ ap (λ (x : ℕ). ticket_at t m.pad x (place_in n)) q
        ∙ ap (ticket_at t m.pad m.program) e ∙ sym (ticket_at_place m) in
        name_eq p q (sym (ok.rules.number n l) ∙ ap (λ (x : Ticket). x.number) s ∙ ok.rules.number m k)

    pub pad_once : n.pad ≡ m.pad → place_on_pad n ≡ place_on_pad m → n ≡ m
    unfolding place_on_pad
    pad_once p e = place_once p (omega (arith, e, below_8 n l, below_8 m k)) (omega (arith, e, below_8 n l, below_8 m k))

    pub all_once : place_of t n ≡ place_of t m → n ≡ m
    all_once e =
        let on_pad_lem : n.pad ≡ m.pad = omega (arith, e, place_of_lem n l, place_of_lem m k, pad_low_lem n l, pad_low_lem m k) in
        pad_once on_pad_lem (omega (arith, e, on_pad_lem, place_of_lem n l, place_of_lem m k))

  -- ---- chains on a pad
  pub parent_pad : (n : Name) → is_none (parent_of (lookup t) n) ≡ false → (parent_of (lookup t) n).pad ≡ n.pad
  parent_pad n z = go (has_parent_lem (lookup t n).kind n (lookup t n) z)
    where
      go : (is_child (lookup t n).kind ≡ true) ⊎ (is_recall (lookup t n).kind ≡ true) → (parent_of (lookup t) n).pad ≡ n.pad
      go (inl c) = ap (λ (x : Name). x.pad) (child_up (lookup t) (entry_of t) (last_of t) ok.rules n c) ∙ (ok.rules.child n c).pad
      go (inr c) = ap (λ (x : Name). x.pad) (recall_up (lookup t) (entry_of t) (last_of t) ok.rules n c)

  pub chain_short : {n : Name} {d : ℕ} → is_live (lookup t n).kind ≡ true → Ends (parent_of (lookup t)) n d → d < 64
  chain_short {n} l r =
      chain_length (parent_of (lookup t)) (λ m. (is_live (lookup t m).kind ≡ true) × (m.pad ≡ n.pad)) place_on_pad 64
      (λ m h z. (parent_live (lookup t) (entry_of t) (last_of t) ok.rules m z, parent_pad m z ∙ h.1))
      (λ m h. pad_low_lem m h.0) (λ m k h i. pad_once m k h.0 i.0 (h.1 ∙ sym i.1)) (l, refl) r

  -- ---- chains in the dock
  pub entry_place : Name → ℕ
  entry_place n = first_index (is_named n) t.entries

  pub entry_at_place : (n : Name) → entry_of t n ≡ entry_at t (entry_place n)
  unfolding entry_place entry_in
  entry_at_place n = refl

  pub entry_place_low : (n : Name) → (entry_of t n).live ≡ true → entry_place n < length t.entries
  unfolding entry_place is_named
  entry_place_low n l = found_low entry_keys entry_laws t.entries n (ap (λ (e : Entry). e.live) (sym (entry_keyed t n)) ∙ l)

  entry_place_once : (n m : Name) → (entry_of t n).live ≡ true → (entry_of t m).live ≡ true → entry_place n ≡ entry_place m → n ≡ m
  entry_place_once n m l k e =
      sym (ok.rules.entry_name n l) ∙ ap (λ (x : Entry). x.name) (entry_at_place n ∙ ap (entry_at t) e ∙ sym (entry_at_place m)) ∙ ok.rules.entry_name m k

  pub entry_chain_short : {n : Name} {d : ℕ} → (entry_of t n).live ≡ true → Ends (entry_parent (entry_of t)) n d → d < 256
  entry_chain_short =
      chain_length (entry_parent (entry_of t)) (λ m. (entry_of t m).live ≡ true) entry_place 256 (λ m l z. (ok.rules.under m l z).live)
      (λ m l. subst (λ (k : ℕ). entry_place m < k) ok.shape.sized.entries (entry_place_low m l)) entry_place_once

  -- ---- a free place for an entry
  module _ (p q : ℕ) (p3 : p ≤ 3) (q7 : q ≤ 7) (has : has_place t p q ≡ true) (full : some is_spare t.entries ≡ false) where
    abbrev free_place : ℕ
    free_place = first_index is_free (tickets_of t p q)

    free_low : free_place < length (tickets_of t p q)
    unfolding has_place
    free_low = some_first is_free (tickets_of t p q) has

    free_below_8 : free_place < 8
    free_below_8 = subst (λ (m : ℕ). free_place < m) (ok.shape.sized.tickets p q (omega arith) (omega arith)) free_low

    all_live : (i : ℕ) → i < 256 → (entry_at t i).live ≡ true
    unfolding is_spare
    all_live i h =
        cannot_fail (entry_at t i).live
        (λ e. contradiction (some_intro no_entry is_spare t.entries i (rw ok.shape.sized.entries h) (rw e)) full)

    entry_live : (i : ℕ) → i < 256 → (entry_of t (entry_at t i).name).live ≡ true
    entry_live i h =
        ap (λ (e : Entry). e.live) (at_entry_name t ok.shape i (subst (λ (m : ℕ). i < m) (sym ok.shape.sized.entries) h) (all_live i h)) ∙ all_live i h

    grant_live : (i : ℕ) → i < 256 → is_live (lookup t (entry_at t i).name).kind ≡ true
    grant_live i h = live_head (lookup t (entry_at t i).name).kind (entry_head (ok.rules.entry (entry_at t i).name (entry_live i h)))

    abbrev free_of_all : ℕ
    free_of_all = 64 * p + 8 * q + free_place

    not_free : (n : Name) → is_live (lookup t n).kind ≡ true → place_of t n ≡ free_of_all → ⊥
    unfolding place_on_pad is_free
    not_free n l there =
        let e : 64 * n.pad + (8 * n.program + place_in n) ≡ free_of_all = sym (place_of_lem n l) ∙ there in
        let a : n.pad ≡ p = omega (arith, e, below_8 n l, (given n l).program, free_below_8) in
        let b : n.program ≡ q = omega (arith, e, below_8 n l, (given n l).program, free_below_8) in
        let c : place_in n ≡ free_place = omega (arith, e, below_8 n l, (given n l).program, free_below_8) in
        let s : lookup t n ≡ ticket_at t p q free_place
        = ticket_at_place n ∙ ap (λ (x : ℕ). ticket_at t x n.program (place_in n)) a ∙ ap (λ (x : ℕ). ticket_at t p x (place_in n)) b ∙ ap (ticket_at t p q) c in
        let f : not (is_live (ticket_at t p q free_place).kind) ≡ true = find_passes is_free (tickets_of t p q) free free_low in
        let g : not (is_live (lookup t n).kind) ≡ true = rw s f in
        contradiction l (not-true (is_live (lookup t n).kind) g)

    one : (i j : ℕ) → i < 256 → j < 256 → place_of t (entry_at t i).name ≡ place_of t (entry_at t j).name → i ≡ j
    one i j h k e =
        ok.shape.distinct_entries i j (rw ok.shape.sized.entries h) (rw ok.shape.sized.entries k) (all_live i h) (all_live j k)
        (all_once (entry_at t i).name (entry_at t j).name (grant_live i h) (grant_live j k) e)

    impossible : ⊥
    impossible =
        none_left_out 256 (λ i. place_of t (entry_at t i).name) (λ i h. all_low (entry_at t i).name (grant_live i h)) one free_of_all
        (omega (arith, free_below_8)) (λ i h. not_free (entry_at t i).name (grant_live i h))

  -- no refusal is needed for a full table of entries
  pub entry_room : (p q : ℕ) → p ≤ 3 → q ≤ 7 → has_place t p q ≡ true → some is_spare t.entries ≡ true
  entry_room p q a b h = cannot_fail (some is_spare t.entries) (impossible p q a b h)

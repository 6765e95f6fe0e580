-- What the places of names decide is what T5 says of names. At a name's place stands the ticket that the tables find under it, and a place
-- has one name: so two entries have one name where they have one place.
use Prim.Native.Nat.{ℕ, ◌<◌}
use native.Mathlib.Omega.{arith}
use mathlib.Core.Path.{◌≡◌, sym, ap, subst, ◌∙◌}
use mathlib.Core.Bool.{Bool, true, cond, ◌&&◌}
use mathlib.Core.List.{List}
use lib.Dec.{eqb, ltb}
use lib.ListN.{length, get_or, get_or-eq_default}
use borrow.Author.Tests.{ltb-true, ltb-false, eqb-true, eqb-false}
use Rattle.lists.specs.Tests.{implies}
use Rattle.lists.specs.Lists.{all, no_two}
use Rattle.lists.proofs.Tests.{Case, pass, fail, case, cannot_pass, both_ways, and_l, and_r, implies_elim}
use Rattle.lists.proofs.Everywhere.{all_elim, no_two_intro, no_two_elim}
use Rattle.lists.proofs.Keyed.{nothing_found}
use Rattle.tables.specs.declared.{Name.Name, Ticket.Ticket, Entry.Entry, Tables.Tables}
use Rattle.tables.specs.Names.{no_name, eq_name, free, no_entry}
use Rattle.tables.specs.Lookup.{tickets_of, lookup}
use Rattle.tables.specs.Order.{every_entry, entry_names_ok, under_store, grant_ok}
use Rattle.tables.proofs.NameLaws.{eq_name_false, eq_name_ne}
use Rattle.tables.proofs.KindLaws.{live_head, taken_head, received_head}
use Rattle.tables.proofs.Keys.{ticket_keys, ticket_laws, lookup_keyed}
use Rattle.image_places.specs.Places.{name_at, placed, place_in, Flattened, Numbered}
use Rattle.image_places.proofs.Laws.{lookup_place, place_most, place_found, live_place}
use Rattle.order_entry_notes.specs.Notes.{every_live, place_of, has_grant, names_apart}
use Rattle.tables.specs.Kinds.{is_live, is_head, is_taken, is_received}

-- ---- an entry and its grant
pub record Suits (e : Entry) (k : Ticket) : Type 0 where
  pub head : is_head k.kind ≡ true
  pub first : k.first ≡ e.first
  pub count : k.count ≡ e.count

pub suits : (e : Entry) (k : Ticket) → grant_ok e k ≡ true → Suits e k
unfolding grant_ok
suits e k g =
    let kind : cond (under_store e) (eq_name e.parent no_name && is_taken k.kind) (is_received k.kind) ≡ true = search (and_l, and_r) depth 5 in
    let first : eqb k.first e.first ≡ true = search (and_l, and_r) depth 5 in
    let count : eqb k.count e.count ≡ true = search (and_l, and_r) depth 5 in
    record { head = go (case (under_store e)) kind; first = eqb-true k.first e.first first; count = eqb-true k.count e.count count }
  where
    go : Case (under_store e) → cond (under_store e) (eq_name e.parent no_name && is_taken k.kind) (is_received k.kind) ≡ true → is_head k.kind ≡ true
    go (pass p) h = taken_head k.kind (and_r (eq_name e.parent no_name) (is_taken k.kind) (rw p at h))
    go (fail p) h = received_head k.kind (rw p at h)

-- "Each names a live grant with equal sheets and rights"
abbrev pub grants_ok : Tables → Bool
grants_ok t = every_entry (λ e. grant_ok e (lookup t e.name)) t

module _ (t : Tables) where
  abbrev pub entry_at : ℕ → Entry
  entry_at i = get_or t.entries i no_entry

  -- a live entry's grant
  pub grant_at : grants_ok t ≡ true → (i : ℕ) → i < length t.entries → (entry_at i).live ≡ true → Suits (entry_at i) (lookup t (entry_at i).name)
  unfolding every_entry
  grant_at g i h l =
      suits (entry_at i) (lookup t (entry_at i).name)
      (implies_elim (entry_at i).live _ (all_elim no_entry (λ e. implies e.live (grant_ok e (lookup t e.name))) t.entries g i h) l)

module _ (t : Tables) (numbers : List ℕ) (ix : Numbered t numbers) where
  -- a name without a place has no ticket
  pub no_ticket : (n : Name) → place_in numbers n ≡ 256 → lookup t n ≡ free
  no_ticket n e =
      lookup_keyed t n
      ∙ nothing_found ticket_keys ticket_laws (tickets_of t n.pad n.program) n.number
      (ap (λ (k : Ticket). is_live k.kind) (sym (lookup_keyed t n))
      ∙ cannot_pass (is_live (lookup t n).kind) (λ l. let b : place_in numbers n < 256 = live_place t numbers ix n l in omega arith))

  -- two names at one place are one
  pub one_name_lem : (n m : Name) → place_in numbers n < 256 → place_in numbers n ≡ place_in numbers m → n ≡ m
  one_name_lem n m h e =
      sym (place_found t numbers ix n h).name
      ∙ ap (λ (p : ℕ). name_at p (placed t p)) e
      ∙ (place_found t numbers ix m (subst (λ (p : ℕ). p < 256) e h)).name

  module _ (tickets : List Ticket) (lasts : List ℕ) (flat : Flattened t tickets lasts) where
    found : (n : Name) → get_or tickets (place_in numbers n) free ≡ lookup t n
    found n = go (case (ltb (place_in numbers n) 256))
      where
        go : Case (ltb (place_in numbers n) 256) → get_or tickets (place_in numbers n) free ≡ lookup t n
        go (pass e) = flat.same (place_in numbers n) (ltb-true (place_in numbers n) 256 e) ∙ sym (lookup_place t numbers ix n)
        go (fail e) =
            let z : place_in numbers n ≡ 256 = omega (arith, ltb-false (place_in numbers n) 256 e, place_most t numbers ix n) in
            get_or-eq_default tickets free (omega (arith, flat.long, z)) ∙ sym (no_ticket n z)

    pub grants_told : every_live (has_grant tickets numbers) t.entries ≡ grants_ok t
    unfolding has_grant every_entry
    grants_told = λ i. all (λ e. implies e.live (grant_ok e (found e.name i))) t.entries

  module _ (g : grants_ok t ≡ true) where
    pub has_place_lem : (i : ℕ) → i < length t.entries → (entry_at t i).live ≡ true → place_of numbers (entry_at t i) < 256
    has_place_lem i h l =
        let k = lookup t (entry_at t i).name in
        live_place t numbers ix (entry_at t i).name (live_head k.kind (grant_at t g i h l).head)

    pub names_told : names_apart numbers t.entries ≡ entry_names_ok t
    unfolding names_apart entry_names_ok
    names_told = both_ways (no_two live one_place t.entries) (no_two live one_name t.entries) to from
      where
        live : Entry → Bool
        live e = e.live

        one_place : Entry → Entry → Bool
        one_place e other = eqb (place_of numbers e) (place_of numbers other)

        one_name : Entry → Entry → Bool
        one_name e other = eq_name e.name other.name

        to : no_two live one_place t.entries ≡ true → no_two live one_name t.entries ≡ true
        to e =
            no_two_intro no_entry live one_name t.entries
            (λ i j p q l m. eq_name_false (entry_at t i).name (entry_at t j).name
            (λ n. eqb-false (place_of numbers (entry_at t i)) (place_of numbers (entry_at t j))
            (no_two_elim no_entry live one_place t.entries e i j p q l m) (ap (place_in numbers) n)))

        from : no_two live one_name t.entries ≡ true → no_two live one_place t.entries ≡ true
        from e =
            no_two_intro no_entry live one_place t.entries
            (λ i j p q l m. cannot_pass (one_place (entry_at t i) (entry_at t j))
            (λ n. eq_name_ne (entry_at t i).name (entry_at t j).name (no_two_elim no_entry live one_name t.entries e i j p q l m)
            (one_name_lem (entry_at t i).name (entry_at t j).name (has_place_lem i (omega arith) l)
            (eqb-true (place_of numbers (entry_at t i)) (place_of numbers (entry_at t j)) n))))

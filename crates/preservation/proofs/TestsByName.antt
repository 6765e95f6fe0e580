-- Tests over all places are statements about all names: a test of every ticket of some kinds, of some ticket, or of every live entry holds
-- exactly where it holds of what each name finds. From places to names the lengths suffice; from names to places numbers and names must be
-- distinct.
use Prim.Native.Nat.{ℕ, ◌<◌}
use mathlib.Core.Path.{◌≡◌, refl, sym, ap, ◌∙◌, subst}
use mathlib.Core.Bool.{Bool, true}
use lib.ListN.{length}
use Rattle.lists.specs.Tests.{implies}
use Rattle.lists.proofs.Tests.{and_l, and_r, and_intro, implies_intro}
use Rattle.lists.proofs.Everywhere.{all_intro}
use Rattle.lists.proofs.Keyed.{found_at}
use Rattle.tables.specs.declared.{Name.Name, Kind.Kind, Ticket.Ticket, Entry.Entry, Tables.Tables}
use Rattle.tables.specs.Names.{name_of, no_entry}
use Rattle.tables.specs.Lookup.{Sized, tickets_of, has_number, ticket_in, lookup, is_named, entry_in, entry_of}
use Rattle.tables.specs.Order.{every_ticket, some_ticket, every_entry}
use Rattle.tables.proofs.NameLaws.{name_eq}
use Rattle.tables.proofs.Keys.{ticket_keys, entry_keys, ticket_laws, entry_laws}
use Rattle.tables.proofs.ByPlace.{ticket_at, entry_at, place, place_low_lem, found_number, name_in_range, every_at, every_from, some_at_lem, some_from}
use Rattle.preservation.specs.InOrder.{Shape}
use Rattle.tables.specs.Kinds.{is_live}

module _ (t : Tables) (z : Sized t) (kinds : Kind → Bool) (live : (k : Kind) → kinds k ≡ true → is_live k ≡ true) (test : Name → Ticket → Bool) where
  pub every_ticket_elim : every_ticket kinds test t ≡ true → (n : Name) → kinds (lookup t n).kind ≡ true → test n (lookup t n) ≡ true
  unfolding lookup ticket_in
  every_ticket_elim e n h =
      let l = live (lookup t n).kind h in
      let r = name_in_range t z n l in
      subst (λ (m : Name). test m (lookup t n) ≡ true) (name_eq refl refl (found_number t z n l))
      (every_at t z kinds test e n.pad n.program (place t z n) r.pad r.program (place_low_lem t z n l) h)

  pub some_ticket_intro : (n : Name) → kinds (lookup t n).kind ≡ true → test n (lookup t n) ≡ true → some_ticket kinds test t ≡ true
  unfolding lookup ticket_in
  some_ticket_intro n h e =
      let l = live (lookup t n).kind h in
      let r = name_in_range t z n l in
      some_at_lem t z kinds test n.pad n.program (place t z n) r.pad r.program (place_low_lem t z n l)
      (and_intro h (subst (λ (m : Name). test m (lookup t n) ≡ true) (sym (name_eq refl refl (found_number t z n l))) e))

module _ (t : Tables) (ok : Shape t) where
  -- a live ticket at a place is the one that its name finds; so is a live entry
  pub at_name : (p q i : ℕ) → p < 4 → q < 8 → i < length (tickets_of t p q) → is_live (ticket_at t p q i).kind ≡ true
      → lookup t (name_of p q (ticket_at t p q i).number) ≡ ticket_at t p q i
  unfolding lookup ticket_in has_number
  at_name p q i b c d l = found_at ticket_keys ticket_laws (tickets_of t p q) (ok.distinct p q b c) i d l

  pub at_entry_name : (i : ℕ) → i < length t.entries → (entry_at t i).live ≡ true → entry_of t (entry_at t i).name ≡ entry_at t i
  unfolding entry_in is_named
  at_entry_name i d l = found_at entry_keys entry_laws t.entries ok.distinct_entries i d l

  pub every_entry_intro : (test : Entry → Bool) → ((n : Name) → (entry_of t n).live ≡ true → test (entry_of t n) ≡ true) → every_entry test t ≡ true
  unfolding every_entry
  every_entry_intro test h =
      all_intro no_entry (λ a. implies a.live (test a)) t.entries
      (λ i d. implies_intro (entry_at t i).live _
      (λ l. let e = at_entry_name i d l in subst (λ (a : Entry). test a ≡ true) e (h (entry_at t i).name (ap (λ (a : Entry). a.live) e ∙ l))))

  module _ (kinds : Kind → Bool) (live : (k : Kind) → kinds k ≡ true → is_live k ≡ true) (test : Name → Ticket → Bool) where
    pub every_ticket_intro : ((n : Name) → kinds (lookup t n).kind ≡ true → test n (lookup t n) ≡ true) → every_ticket kinds test t ≡ true
    every_ticket_intro h = every_from t ok.sized kinds test at_place
      where
        at_place : (p q i : ℕ) → p < 4 → q < 8 → i < length (tickets_of t p q) → kinds (ticket_at t p q i).kind ≡ true
            → test (name_of p q (ticket_at t p q i).number) (ticket_at t p q i) ≡ true
        at_place p q i b c d k =
            let e = at_name p q i b c d (live (ticket_at t p q i).kind k) in
            subst (λ (a : Ticket). test (name_of p q (ticket_at t p q i).number) a ≡ true) e (h (name_of p q (ticket_at t p q i).number) (rw e k))

    -- some ticket: the name that has it
    pub record SomeName : Type 0 where
      pub name : Name
      pub picked : kinds (lookup t name).kind ≡ true
      pub passes : test name (lookup t name) ≡ true

    pub some_ticket_elim : some_ticket kinds test t ≡ true → SomeName
    some_ticket_elim e =
        let w = some_from t ok.sized kinds test e in
        let p = w.pad in
        let q = w.program in
        let i = w.place in
        let k : kinds (ticket_at t p q i).kind ≡ true = and_l (kinds (ticket_at t p q i).kind) _ w.here in
        let s = at_name p q i w.pad_low w.program_low w.place_low (live (ticket_at t p q i).kind k) in
        record {
          name = name_of p q (ticket_at t p q i).number;
          picked = rw s k;
          passes =
              subst (λ (a : Ticket). test (name_of p q (ticket_at t p q i).number) a ≡ true) (sym s)
              (and_r (kinds (ticket_at t p q i).kind) _ w.here);
        }

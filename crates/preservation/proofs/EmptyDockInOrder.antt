-- The emptied dock is in order: no name finds a ticket or an entry there, so that every rule holds of nothing. And emptying leaves
-- that dock, or with another length 13.
use Prim.Native.Nat.{ℕ, ◌<◌}
use mathlib.Core.Path.{◌≡◌, refl, sym, ap, ◌∙◌, subst}
use mathlib.Core.Bool.{true}
use mathlib.Core.List.{List}
use lib.ListN.{length, get_or, replicate, get_or-replicate}
use borrow.Author.Tests.{eq-eqb, ne_eqb}
use Rattle.lists.specs.Lists.{first_index}
use Rattle.lists.proofs.Tests.{no_true}
use Rattle.tables.specs.declared.{Name.Name, Ticket.Ticket, Program.Program, Pad.Pad, Entry.Entry}
use Rattle.tables.specs.Names.{free, no_entry, no_program, no_pad, empty_tables}
use Rattle.tables.specs.Lookup.{Sized, pad_at, program_at, last_of, has_number, ticket_in, lookup, is_named, entry_in, entry_of}
use Rattle.tables.proofs.KindLaws.{live_grant, live_child, live_recall, live_head, live_taken}
use Rattle.tables.proofs.ByPlace.{ticket_at, entry_at, InRange, name_in_range}
use Rattle.machine.specs.Empty.{emptied, empty_dock}
use Rattle.preservation.specs.Rules.{Rules}
use Rattle.preservation.specs.InOrder.{Shape, InOrder}
use Rattle.tables.specs.Kinds.{is_live}

abbrev empty_program : Program
empty_program = record { tickets = replicate 8 free; last = 0 }

abbrev empty_pad : Pad
empty_pad = record { programs = replicate 8 empty_program }

empty_pad_lem : (p : ℕ) → p < 4 → pad_at empty_tables p ≡ empty_pad
unfolding empty_tables
empty_pad_lem p b = get_or-replicate 4 p empty_pad no_pad b

empty_program_lem : (p q : ℕ) → p < 4 → q < 8 → program_at empty_tables p q ≡ empty_program
empty_program_lem p q b c = ap (λ (a : Pad). get_or a.programs q no_program) (empty_pad_lem p b) ∙ get_or-replicate 8 q empty_program no_program c

pub empty_sized : Sized empty_tables
unfolding empty_tables
empty_sized = record {
  pads = refl;
  programs = λ p b. ap (λ (a : Pad). length a.programs) (empty_pad_lem p b);
  tickets = λ p q b c. ap (λ (a : Program). length a.tickets) (empty_program_lem p q b c);
  entries = refl;
}

empty_find : (m : ℕ) → ticket_in (replicate 8 free) m ≡ free
unfolding ticket_in has_number first_index
empty_find m = refl

pub no_ticket_live : (n : Name) {A : Type 0} → is_live (lookup empty_tables n).kind ≡ true → A
unfolding lookup
no_ticket_live n l =
    let r : InRange n = name_in_range empty_tables empty_sized n l in
    let e : lookup empty_tables n ≡ free
    = ap (λ (a : Program). ticket_in a.tickets n.number) (empty_program_lem n.pad n.program r.pad r.program) ∙ empty_find n.number in
    no_true (sym (ap (λ (k : Ticket). is_live k.kind) e) ∙ l)

no_entry_lem : (n : Name) → entry_of empty_tables n ≡ no_entry
unfolding empty_tables entry_in is_named first_index
no_entry_lem n = refl

pub no_entry_live : (n : Name) {A : Type 0} → (entry_of empty_tables n).live ≡ true → A
no_entry_live n l = no_true (sym (ap (λ (e : Entry). e.live) (no_entry_lem n)) ∙ l)

no_ticket_at : (p q i : ℕ) {A : Type 0} → p < 4 → q < 8 → i < 8 → is_live (ticket_at empty_tables p q i).kind ≡ true → A
no_ticket_at p q i b c d l =
    let e : ticket_at empty_tables p q i ≡ free
    = ap (λ (a : Program). get_or a.tickets i free) (empty_program_lem p q b c) ∙ get_or-replicate 8 i free free d in
    no_true (sym (ap (λ (k : Ticket). is_live k.kind) e) ∙ l)

no_entry_at : (i : ℕ) {A : Type 0} → i < length empty_tables.entries → (entry_at empty_tables i).live ≡ true → A
unfolding empty_tables
no_entry_at i b l =
    let e : get_or (replicate 256 no_entry) i no_entry ≡ no_entry = get_or-replicate 256 i no_entry no_entry b in
    no_true (sym (ap (λ (a : Entry). a.live) e) ∙ l)

empty_shape : Shape empty_tables
empty_shape = record {
  sized = empty_sized;
  distinct = λ p q b c i j d f l m e. no_ticket_at p q i b c (subst (λ (m : ℕ). i < m) (empty_sized.tickets p q b c) d) l;
  distinct_entries = λ i j b c l m e. no_entry_at i b l;
}

empty_rules : Rules (lookup empty_tables) (entry_of empty_tables) (last_of empty_tables)
empty_rules = record {
  named = λ n l. no_ticket_live n l;
  number = λ n l. no_ticket_live n l;
  span = λ n l. no_ticket_live n (live_grant (lookup empty_tables n).kind l);
  child = λ n l. no_ticket_live n (live_child (lookup empty_tables n).kind l);
  chain = λ n l. no_ticket_live n (live_child (lookup empty_tables n).kind l);
  recalled = λ n l. no_ticket_live n (live_child (lookup empty_tables n).kind l);
  dock = λ n l. no_ticket_live n (live_head (lookup empty_tables n).kind l);
  taken = λ n l. no_ticket_live n (live_taken (lookup empty_tables n).kind l);
  recall = λ n l. no_ticket_live n (live_recall (lookup empty_tables n).kind l);
  near = λ n l. no_ticket_live n (live_recall (lookup empty_tables n).kind l);
  far = λ n l. no_ticket_live n (live_recall (lookup empty_tables n).kind l);
  far_entry = λ n l. no_ticket_live n (live_recall (lookup empty_tables n).kind l);
  once = λ n m l. no_ticket_live n (live_recall (lookup empty_tables n).kind l);
  entry_name = λ n l. no_entry_live n l;
  entry = λ n l. no_entry_live n l;
  under = λ n l. no_entry_live n l;
  entry_chain = λ n l. no_entry_live n l;
  roots = λ n m l. no_entry_live n l;
  no_far = λ n l. no_ticket_live n (live_recall (lookup empty_tables n).kind l);
  lent = λ n l. no_entry_live n l;
}

pub empty_invariant : InOrder empty_tables
empty_invariant = record { shape = empty_shape; rules = empty_rules }

-- emptying a store of the right length leaves the tables and the store of the emptied dock
pub emptying_leaves : (store : List ℕ) → length store ≡ 16384
    → emptied store ≡ record { result = 0; tables = empty_dock.tables; store = empty_dock.store }
unfolding emptied empty_dock
emptying_leaves store e = rw (eq-eqb (length store) 16384 e)

-- with another length: 13, empty tables, the store untouched
pub emptying_refused : (store : List ℕ) → (length store ≡ 16384 → ⊥) → emptied store ≡ record { result = 13; tables = empty_tables; store = store }
unfolding emptied
emptying_refused store e = rw (ne_eqb (length store) 16384 e)

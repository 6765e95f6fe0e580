-- The tables as two maps: what `lookup`, `entry_of` and `last_of` answer after a ticket is given, an entry is made, and tickets or entries
-- are removed; and that the shape is kept. Tickets and entries are both keyed lists, so each law is one of lists' Keyed.antt, carried
-- through the two levels of pads and programs.
use Prim.Native.Nat.{ℕ, suc, ◌≤◌, ◌<◌}
use native.Mathlib.Omega.{arith}
use mathlib.Core.Path.{◌≡◌, refl, sym, ap, ◌∙◌, subst}
use mathlib.Core.Bool.{Bool, true, false, cond}
use mathlib.Core.List.{List, map}
use lib.ListN.{length, get_or, set, length-set}
use Rattle.lists.specs.Lists.{first_index, some}
use Rattle.lists.proofs.Tests.{Case, pass, fail, case}
use Rattle.lists.proofs.Keyed.{by_key, Distinct, nothing_found, put_same, put_other, put_length, put_distinct, dropped_length, drop_found, drop_distinct}
use Rattle.tables.specs.declared.{Name.Name, Ticket.Ticket, Program.Program, Pad.Pad, Entry.Entry, Tables.Tables}
use Rattle.tables.specs.Names.{name_of, same_program, free, no_entry, no_program, no_pad}
use Rattle.tables.specs.Lookup.{Sized, program_at, tickets_of, last_of, has_number, ticket_in, lookup, is_named, entry_in, entry_of}
use Rattle.tables.specs.Change.{is_free, has_place, with_ticket, with_program, give, is_spare, put_entry, drop_ticket, drop_tickets, drop_entry, drop_entries}
use Rattle.tables.proofs.NameLaws.{name_eq, program_same}
use Rattle.tables.proofs.Keys.{ticket_keys, entry_keys, ticket_laws, entry_laws, lookup_keyed}
use Rattle.tables.proofs.Programs.{dropped_tickets, dropped_last, dropped_sized, program_here, program_beside, sized_with}
use Rattle.preservation.specs.InOrder.{Shape}
use Rattle.tables.specs.Kinds.{is_live}

-- a name without a live entry finds the free record
pub no_entry_there : (t : Tables) (n : Name) → (entry_of t n).live ≡ false → entry_of t n ≡ no_entry
unfolding entry_in is_named
no_entry_there t n l = nothing_found entry_keys entry_laws t.entries n l

-- a name's ticket is found in its own program
pub lookup_programs : (t t' : Tables) (n : Name) → program_at t' n.pad n.program ≡ program_at t n.pad n.program → lookup t' n ≡ lookup t n
unfolding lookup
lookup_programs t t' n e = ap (λ (p : Program). ticket_in p.tickets n.number) e

pub lookup_pads : (t t' : Tables) → t'.pads ≡ t.pads → (n : Name) → lookup t' n ≡ lookup t n
unfolding lookup
lookup_pads t t' e n =
    ap (λ (l : List Pad). ticket_in (get_or (get_or l n.pad no_pad).programs n.program no_program).tickets n.number) e

-- ---- tickets removed
module _ (gone : Name → Bool) where
  lookup_drop : (t : Tables) (n : Name) → lookup (drop_tickets gone t) n ≡ cond (gone n) free (lookup t n)
  unfolding lookup ticket_in has_number drop_ticket
  lookup_drop t n =
      ap (λ (l : List Ticket). ticket_in l n.number) (dropped_tickets gone t n.pad n.program)
      ∙ drop_found ticket_keys ticket_laws (λ m. gone (name_of n.pad n.program m)) (tickets_of t n.pad n.program) n.number

  entries_drop : (t : Tables) (n : Name) → entry_of (drop_tickets gone t) n ≡ entry_of t n
  unfolding drop_tickets
  entries_drop t n = refl

-- ---- entries removed
module _ (cut : Name → Bool) where
  entry_drop : (t : Tables) (n : Name) → entry_of (drop_entries cut t) n ≡ cond (cut n) no_entry (entry_of t n)
  unfolding entry_in is_named drop_entries drop_entry
  entry_drop t n = drop_found entry_keys entry_laws cut t.entries n

  lookup_cut : (t : Tables) (n : Name) → lookup (drop_entries cut t) n ≡ lookup t n
  unfolding drop_entries lookup
  lookup_cut t n = refl

-- tickets and entries removed
abbrev pub removed : (Name → Bool) → (Name → Bool) → Tables → Tables
removed gone cut t = drop_entries cut (drop_tickets gone t)

module _ (gone cut : Name → Bool) (t : Tables) where
  pub lookup_removed : (n : Name) → lookup (removed gone cut t) n ≡ cond (gone n) free (lookup t n)
  lookup_removed n = lookup_cut cut (drop_tickets gone t) n ∙ lookup_drop gone t n

  pub entry_removed : (n : Name) → entry_of (removed gone cut t) n ≡ cond (cut n) no_entry (entry_of t n)
  entry_removed n = entry_drop cut (drop_tickets gone t) n ∙ ap (λ (e : Entry). cond (cut n) no_entry e) (entries_drop gone t n)

  pub last_removed : (p q : ℕ) → last_of (removed gone cut t) p q ≡ last_of t p q
  unfolding drop_entries
  last_removed p q = dropped_last gone t p q

  pub tickets_removed : (p q : ℕ) → tickets_of (removed gone cut t) p q ≡ map (drop_ticket gone p q) (tickets_of t p q)
  unfolding drop_entries
  tickets_removed p q = dropped_tickets gone t p q

  entries_length : length (map (drop_entry cut) t.entries) ≡ length t.entries
  unfolding drop_entry
  entries_length = dropped_length entry_keys entry_laws cut t.entries

  pub sized_removed : Sized t → Sized (removed gone cut t)
  unfolding drop_entries drop_tickets
  sized_removed z =
      let d = dropped_sized gone t z in
      record { pads = d.pads; programs = d.programs; tickets = d.tickets; entries = entries_length ∙ z.entries }

  distinct_tickets : (p q : ℕ) → Distinct ticket_keys (tickets_of t p q) → Distinct ticket_keys (map (drop_ticket gone p q) (tickets_of t p q))
  unfolding drop_ticket
  distinct_tickets p q = drop_distinct ticket_keys ticket_laws (λ m. gone (name_of p q m)) (tickets_of t p q)

  distinct_entries_lem : Distinct entry_keys t.entries → Distinct entry_keys (removed gone cut t).entries
  unfolding drop_entries drop_tickets drop_entry
  distinct_entries_lem = drop_distinct entry_keys entry_laws cut t.entries

  pub shape_removed : Shape t → Shape (removed gone cut t)
  shape_removed ok = record {
    sized = sized_removed ok.sized;
    distinct = λ p q b c. subst (Distinct ticket_keys) (sym (tickets_removed p q)) (distinct_tickets p q (ok.distinct p q b c));
    distinct_entries = distinct_entries_lem ok.distinct_entries;
  }

-- ---- a ticket given: k under the new name x, the next of its program
pub record Next (t : Tables) (x : Name) (k : Ticket) : Type 0 where
  pub pad : x.pad ≤ 3
  pub program : x.program ≤ 7
  pub number : x.number ≡ suc (last_of t x.pad x.program)
  pub own : k.number ≡ x.number
  pub live : is_live k.kind ≡ true
  pub room : has_place t x.pad x.program ≡ true
  pub unused : is_live (lookup t x).kind ≡ false

-- t' is t with the ticket k under the name x
pub record Added (t t' : Tables) (x : Name) (k : Ticket) : Type 0 where
  pub shape : Shape t'
  pub got : lookup t' x ≡ k
  pub others : (n : Name) → (n ≡ x → ⊥) → lookup t' n ≡ lookup t n
  pub entries : t'.entries ≡ t.entries
  pub programs : (p q : ℕ) → same_program p q x.pad x.program ≡ false → program_at t' p q ≡ program_at t p q
  pub tickets : tickets_of t' x.pad x.program ≡ set (tickets_of t x.pad x.program) (first_index is_free (tickets_of t x.pad x.program)) k
  pub last : last_of t' x.pad x.program ≡ x.number

module _ (t : Tables) (ok : Shape t) (x : Name) (k : Ticket) (next : Next t x k) where
  abbrev before : List Ticket
  before = tickets_of t x.pad x.program

  abbrev after : Tables
  after = give t x.pad x.program k

  p_low : x.pad < 4
  p_low = omega (arith, next.pad)

  q_low : x.program < 8
  q_low = omega (arith, next.program)

  room_in : some is_free before ≡ true
  unfolding has_place
  room_in = next.room

  fresh_in : is_live (by_key ticket_keys before k.number).kind ≡ false
  fresh_in = rw next.own (ap (λ (a : Ticket). is_live a.kind) (sym (lookup_keyed t x)) ∙ next.unused)

  program_given : program_at after x.pad x.program ≡ with_ticket (program_at t x.pad x.program) k
  unfolding give
  program_given = program_here t ok.sized x.pad x.program next.pad next.program (with_ticket (program_at t x.pad x.program) k)

  programs_beside : (p q : ℕ) → same_program p q x.pad x.program ≡ false → program_at after p q ≡ program_at t p q
  unfolding give
  programs_beside = program_beside t ok.sized x.pad x.program next.pad next.program (with_ticket (program_at t x.pad x.program) k)

  tickets_here : tickets_of after x.pad x.program ≡ set before (first_index is_free before) k
  unfolding with_ticket
  tickets_here = ap (λ (a : Program). a.tickets) program_given

  last_here : last_of after x.pad x.program ≡ x.number
  unfolding with_ticket
  last_here = ap (λ (a : Program). a.last) program_given ∙ next.own

  put_finds : (m : ℕ) → (m ≡ k.number → ⊥) → by_key ticket_keys (set before (first_index is_free before) k) m ≡ by_key ticket_keys before m
  unfolding is_free
  put_finds m ne = put_other ticket_keys ticket_laws before k next.live room_in fresh_in m ne

  put_finds_new : by_key ticket_keys (set before (first_index is_free before) k) k.number ≡ k
  unfolding is_free
  put_finds_new = put_same ticket_keys ticket_laws before k next.live room_in fresh_in

  got_x : lookup after x ≡ k
  got_x =
      lookup_keyed after x ∙ ap (λ (l : List Ticket). by_key ticket_keys l x.number) tickets_here
      ∙ ap (by_key ticket_keys (set before (first_index is_free before) k)) (sym next.own) ∙ put_finds_new

  others_x : (n : Name) → (n ≡ x → ⊥) → lookup after n ≡ lookup t n
  others_x n ne = go (case (same_program n.pad n.program x.pad x.program))
    where
      go : Case (same_program n.pad n.program x.pad x.program) → lookup after n ≡ lookup t n
      go (fail e) = lookup_programs t after n (programs_beside n.pad n.program e)
      go (pass e) =
          let s = program_same n.pad n.program x.pad x.program e in
          let a : tickets_of after n.pad n.program ≡ set before (first_index is_free before) k = rw (s.pad, s.program) tickets_here in
          let b : before ≡ tickets_of t n.pad n.program = rw (s.pad, s.program) refl in
          lookup_keyed after n ∙ ap (λ (l : List Ticket). by_key ticket_keys l n.number) a
          ∙ put_finds n.number (λ w. ne (name_eq s.pad s.program (w ∙ next.own)))
          ∙ ap (λ (l : List Ticket). by_key ticket_keys l n.number) b ∙ sym (lookup_keyed t n)

  distinct_here : Distinct ticket_keys (set before (first_index is_free before) k)
  unfolding is_free
  distinct_here = put_distinct ticket_keys ticket_laws before k next.live room_in fresh_in (ok.distinct x.pad x.program p_low q_low)

  sized_after : Sized after
  unfolding give with_ticket
  sized_after =
      sized_with t ok.sized x.pad x.program next.pad next.program (with_ticket (program_at t x.pad x.program) k)
      (length-set before (first_index is_free before) k ∙ ok.sized.tickets x.pad x.program p_low q_low)

  entries_kept_lem : after.entries ≡ t.entries
  unfolding give with_program
  entries_kept_lem = refl

  shape_given : Shape after
  shape_given = record {
    sized = sized_after;
    distinct = λ p q b c. distinct_at p q b c (case (same_program p q x.pad x.program));
    distinct_entries = subst (Distinct entry_keys) (sym entries_kept_lem) ok.distinct_entries;
  }
    where
      distinct_at : (p q : ℕ) → p < 4 → q < 8 → Case (same_program p q x.pad x.program) → Distinct ticket_keys (tickets_of after p q)
      distinct_at p q b c (pass e) =
          let s = program_same p q x.pad x.program e in
          let a : tickets_of after p q ≡ set before (first_index is_free before) k = rw (s.pad, s.program) tickets_here in
          subst (Distinct ticket_keys) (sym a) distinct_here
      distinct_at p q b c (fail e) = subst (Distinct ticket_keys) (sym (ap (λ (a : Program). a.tickets) (programs_beside p q e))) (ok.distinct p q b c)

  pub give_adds : Added t after x k
  give_adds = record {
    shape = shape_given;
    got = got_x;
    others = others_x;
    entries = entries_kept_lem;
    programs = programs_beside;
    tickets = tickets_here;
    last = last_here;
  }

-- ---- an entry made
module _ (t : Tables) (e : Entry) (live : e.live ≡ true) (room : some is_spare t.entries ≡ true)
    (fresh : (entry_of t e.name).live ≡ false) where
  pub entry_same : entry_of (put_entry t e) e.name ≡ e
  unfolding entry_in is_named is_spare put_entry
  entry_same = put_same entry_keys entry_laws t.entries e live room fresh

  pub entry_other : (n : Name) → (n ≡ e.name → ⊥) → entry_of (put_entry t e) n ≡ entry_of t n
  unfolding entry_in is_named is_spare put_entry
  entry_other n ne = put_other entry_keys entry_laws t.entries e live room fresh n ne

  pub lookup_put : (n : Name) → lookup (put_entry t e) n ≡ lookup t n
  unfolding put_entry lookup
  lookup_put n = refl

  pub shape_put : Shape t → Shape (put_entry t e)
  unfolding entry_in is_named is_spare put_entry
  shape_put ok = record {
    sized = record {
      pads = ok.sized.pads;
      programs = ok.sized.programs;
      tickets = ok.sized.tickets;
      entries = put_length entry_keys entry_laws t.entries e live room fresh ∙ ok.sized.entries;
    };
    distinct = ok.distinct;
    distinct_entries = put_distinct entry_keys entry_laws t.entries e live room fresh ok.distinct_entries;
  }

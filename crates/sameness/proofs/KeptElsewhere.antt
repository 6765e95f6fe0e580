-- An example: two tables in order that are the same and not equal. One grant and its entry are kept in their first places, or in their second
-- ones behind free places that hold the remains of others. So the theorem is about more than equal tables, and what a request leaves need
-- not be equal.
use Prim.Native.Nat.{ℕ}
use native.Mathlib.Omega.{arith}
use mathlib.Core.Path.{◌≡◌, refl, sym, ap, ◌∙◌}
use mathlib.Core.Bool.{true, false, ◌&&◌}
use mathlib.Core.List.{List, [], ◌∷◌}
use lib.Dec.{eqb}
use lib.ListN.{length, get_or, replicate}
use Rattle.lists.specs.Tests.{implies, between}
use Rattle.lists.specs.Lists.{first_index, all, some, no_two, all_at, some_at}
use Rattle.lists.proofs.Tests.{Case, pass, fail, case, and_l, and_r}
use Rattle.rights.specs.Rules.{rights_of, within}
use Rattle.tables.specs.declared.{Name.Name, Ticket.Ticket, Program.Program, Entry.Entry, Tables.Tables}
use Rattle.tables.specs.declared.Kind.TheVariants.{Free, Taken}
use Rattle.tables.specs.Names.{name_of, no_name, eq_name, is_program, same_program, free, head_ticket, no_entry, entry_for, empty_tables}
use Rattle.tables.specs.Lookup.{Sized, program_at, last_of, has_number, ticket_in, lookup, is_named, entry_in, entry_of}
use Rattle.tables.specs.Chains.{reaches, end_of}
use Rattle.tables.specs.Sheets.{apart, inside}
use Rattle.tables.specs.Change.{with_program}
use Rattle.tables.specs.Order.{every_ticket_of, every_ticket, some_ticket_of, some_ticket, every_entry, numbers_ok, t1, span_ok, t2, parent_ok, child_ok, t3, t4, entry_names_ok, grant_ok, parent_entry_ok, entry_ok, roots_ok, t5, recall_parent_ok, is_child_of, far_target_ok, target_ok, recall_ok, t6, in_order}
use Rattle.tables.specs.Same.{said, said_entry, SameTables}
use Rattle.tables.proofs.NameLaws.{program_same}
use Rattle.tables.proofs.Programs.{program_here, program_beside, sized_with}
use Rattle.machine.specs.declared.Request.{Request}
use Rattle.machine.specs.State.{refused}
use Rattle.machine.specs.Refusal.{◌when◌else◌}
use Rattle.machine.specs.Step.{lengths_ok, refusal, outcome, step}
use Rattle.preservation.proofs.AfterChange.{lookup_programs}
use Rattle.preservation.proofs.EmptyDockInOrder.{empty_sized}
use Rattle.sameness.specs.SameOutcome.{SameOutcome}
use Rattle.sameness.proofs.SameStep.{same_step}

-- ---- the emptied dock with these tickets of program 0 of pad 0, which was given one number, and these entries
abbrev owner : List Ticket → Program
owner tickets = record { tickets = tickets; last = 1 }

kept : List Ticket → List Entry → Tables
kept tickets entries = record { pads = (with_program empty_tables 0 0 (owner tickets)).pads; entries = entries }

module _ (tickets : List Ticket) (entries : List Entry) where
  owner_here : program_at (kept tickets entries) 0 0 ≡ owner tickets
  unfolding kept
  owner_here = program_here empty_tables empty_sized 0 0 (omega arith) (omega arith) (owner tickets)

  empty_beside : (p q : ℕ) → same_program p q 0 0 ≡ false → program_at (kept tickets entries) p q ≡ program_at empty_tables p q
  unfolding kept
  empty_beside = program_beside empty_tables empty_sized 0 0 (omega arith) (omega arith) (owner tickets)

  kept_sized : length tickets ≡ 8 → length entries ≡ 256 → Sized (kept tickets entries)
  unfolding kept
  kept_sized a b =
      let z = sized_with empty_tables empty_sized 0 0 (omega arith) (omega arith) (owner tickets) a in
      record { pads = z.pads; programs = z.programs; tickets = z.tickets; entries = b }

-- what numbers and names find decides
module _ (ks ms : List Ticket) (es ds : List Entry) (tickets : (m : ℕ) → said (ticket_in ks m) ≡ said (ticket_in ms m))
    (entries : (n : Name) → said_entry (entry_in es n) ≡ said_entry (entry_in ds n)) where
  ticket_at_lem : (n : Name) → Case (same_program n.pad n.program 0 0) → said (lookup (kept ks es) n) ≡ said (lookup (kept ms ds) n)
  unfolding lookup
  ticket_at_lem n (pass e) =
      let s = program_same n.pad n.program 0 0 e in
      rw (s.pad, s.program)
      (ap (λ (p : Program). said (ticket_in p.tickets n.number)) (owner_here ks es) ∙ tickets n.number
      ∙ ap (λ (p : Program). said (ticket_in p.tickets n.number)) (sym (owner_here ms ds)))
  ticket_at_lem n (fail e) =
      ap said (lookup_programs (kept ms ds) (kept ks es) n (empty_beside ks es n.pad n.program e ∙ sym (empty_beside ms ds n.pad n.program e)))

  last_at : (p q : ℕ) → Case (same_program p q 0 0) → last_of (kept ks es) p q ≡ last_of (kept ms ds) p q
  last_at p q (pass e) =
      let s = program_same p q 0 0 e in
      rw (s.pad, s.program) (ap (λ (a : Program). a.last) (owner_here ks es) ∙ ap (λ (a : Program). a.last) (sym (owner_here ms ds)))
  last_at p q (fail e) = ap (λ (a : Program). a.last) (empty_beside ks es p q e ∙ sym (empty_beside ms ds p q e))

  entry_at : (n : Name) → said_entry (entry_of (kept ks es) n) ≡ said_entry (entry_of (kept ms ds) n)
  unfolding kept
  entry_at n = entries n

  kept_same : SameTables (kept ks es) (kept ms ds)
  kept_same = record {
    lasts = λ p q b c. last_at p q (case (same_program p q 0 0));
    tickets = λ n. ticket_at_lem n (case (same_program n.pad n.program 0 0));
    entries = entry_at;
  }

-- ---- one grant of sheet 0 with its entry, and what others left behind
abbrev mine : Name
mine = name_of 0 0 1

abbrev grant : Ticket
grant = head_ticket Taken mine 0 1 (rights_of 7)

abbrev entry : Entry
entry = entry_for mine no_name 0 1 (rights_of 7)

abbrev remains : Ticket
remains = head_ticket Free (name_of 0 0 9) 5 2 (rights_of 3)

abbrev entry_remains : Entry
entry_remains = record { live = false; name = name_of 2 0 9; parent = mine; first = 5; count = 2; rights = rights_of 3 }

abbrev first_tickets : List Ticket
first_tickets = grant ∷ replicate 7 free

abbrev second_tickets : List Ticket
second_tickets = remains ∷ grant ∷ replicate 6 free

abbrev first_entries : List Entry
first_entries = entry ∷ replicate 255 no_entry

abbrev second_entries : List Entry
second_entries = entry_remains ∷ entry ∷ replicate 254 no_entry

in_first_places : Tables
in_first_places = kept first_tickets first_entries

in_second_places : Tables
in_second_places = kept second_tickets second_entries

same_ticket : (m : ℕ) → Case (eqb 1 m) → said (ticket_in first_tickets m) ≡ said (ticket_in second_tickets m)
unfolding ticket_in has_number first_index
same_ticket m (pass e) = rw e
same_ticket m (fail e) = rw e

same_entry : (n : Name) → Case (eq_name mine n)
    → said_entry (entry_in first_entries n) ≡ said_entry (entry_in second_entries n)
unfolding entry_in is_named first_index
same_entry n (pass e) = rw e
same_entry n (fail e) = rw e

places_same : SameTables in_first_places in_second_places
unfolding in_first_places in_second_places
places_same =
    kept_same first_tickets second_tickets first_entries second_entries
    (λ m. same_ticket m (case (eqb 1 m))) (λ n. same_entry n (case (eq_name mine n)))

places_differ : in_first_places ≡ in_second_places → ⊥
unfolding in_first_places in_second_places kept
places_differ e = let z : ◌≡◌ {A = ℕ} 0 5 = ap (λ (t : Tables). (get_or t.entries 0 no_entry).first) e in omega arith

first_sized : Sized in_first_places
unfolding in_first_places
first_sized = kept_sized first_tickets first_entries refl refl

second_sized : Sized in_second_places
unfolding in_second_places
second_sized = kept_sized second_tickets second_entries refl refl

both_in_order : (in_order in_first_places && in_order in_second_places) ≡ true
unfolding implies between first_index all some no_two all_at some_at within eq_name is_program empty_tables
    has_number ticket_in lookup is_named entry_in reaches end_of apart inside with_program
    every_ticket_of every_ticket some_ticket_of some_ticket every_entry numbers_ok t1 span_ok t2 parent_ok child_ok t3 t4
    entry_names_ok grant_ok parent_entry_ok entry_ok roots_ok t5 recall_parent_ok is_child_of far_target_ok target_ok recall_ok t6 in_order
    kept in_first_places in_second_places
both_in_order = refl

-- no request can tell the two apart
places_do_not_count : (store sheet : List ℕ) (r : Request)
    → SameOutcome (step (record { tables = in_first_places; store = store; sheet = sheet }) r)
    (step (record { tables = in_second_places; store = store; sheet = sheet }) r)
places_do_not_count store sheet r =
    same_step in_first_places in_second_places store sheet r first_sized second_sized
    (and_l (in_order in_first_places) (in_order in_second_places) both_in_order) (and_r (in_order in_first_places) (in_order in_second_places) both_in_order) places_same

-- what it leaves need not be equal: with a store of length 0 both are refused with 13 and stay as they are
left_differ : (r : Request)
    → (step (record { tables = in_first_places; store = []; sheet = [] }) r).state.tables
    ≡ (step (record { tables = in_second_places; store = []; sheet = [] }) r).state.tables → ⊥
unfolding step outcome refusal lengths_ok ◌when◌else◌ refused
left_differ r e = places_differ e

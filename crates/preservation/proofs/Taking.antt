-- What an accepted take does to tables in order (`TakeEffect`), and that it keeps the order. It is an instance of the insertion theorem:
-- one new name, with a taken grant and an entry under the store whose sheets lie outside all entries.
use Prim.Native.Nat.{ℕ, suc, ◌≤◌}
use native.Mathlib.Omega.{arith}
use mathlib.Core.Path.{◌≡◌, refl, sym, ap, ◌∙◌}
use mathlib.Core.Logic.{◌⊎◌, inl, inr}
use mathlib.Core.Bool.{true, false}
use mathlib.Core.List.{List}
use lib.ListN.{set}
use Rattle.lists.specs.Lists.{first_index, some}
use Rattle.lists.proofs.Tests.{Case, pass, fail, case, no_true}
use Rattle.lists.proofs.Everywhere.{all_elim}
use Rattle.rights.specs.Rules.{rights_of}
use Rattle.tables.specs.declared.{Name.Name, Ticket.Ticket, Program.Program, Entry.Entry, Tables.Tables}
use Rattle.tables.specs.declared.Kind.TheVariants.{Taken}
use Rattle.tables.specs.Names.{no_name, eq_name, same_program, no_entry, head_ticket, entry_for}
use Rattle.tables.specs.Lookup.{program_at, tickets_of, last_of, lookup, entry_of}
use Rattle.tables.specs.Change.{is_free, has_place, new_name, give, is_spare, put_entry}
use Rattle.tables.specs.Sheets.{outside, has_run}
use Rattle.tables.specs.Order.{under_store}
use Rattle.tables.proofs.NameLaws.{eq_name_true, eq_name_ne, program_same}
use Rattle.machine.specs.declared.Request.{Request}
use Rattle.machine.specs.Take.{take_tables}
use Rattle.preservation.specs.Rules.{Apart, Given, here}
use Rattle.preservation.specs.InOrder.{Shape, InOrder}
use Rattle.preservation.proofs.SheetTests.{outside_of}
use Rattle.preservation.proofs.AfterChange.{Added, give_adds, entry_same, entry_other, lookup_put, shape_put}
use Rattle.preservation.proofs.Insertion.{NewTicket, NewEntry, Inserted, order_inserted}
use Rattle.preservation.proofs.Places.{entry_place, entry_at_place, entry_place_low, entry_room}
use Rattle.preservation.proofs.NewNames.{past_ticket, past_entry, past_given, not_past, not_past_entry, new_head}
use Rattle.tables.specs.Kinds.{is_live}
use Rattle.best_fit.specs.BestFit.{best_fit}
use Rattle.best_fit.proofs.Laws.{best_fits, best_outside}

-- what the tests of a take have shown
pub record MayTake (t : Tables) (r : Request) : Type 0 where
  pub pad : r.pad ≤ 3
  pub program : r.program ≤ 7
  pub some : 1 ≤ r.count
  pub right : 1 ≤ r.rights
  pub rights : r.rights ≤ 7
  pub room : has_place t r.pad r.program ≡ true
  pub run : has_run t.entries r.count ≡ true

-- ---- what a take does to the tables: x is the new name, s the first sheet
pub record TakeEffect (t t' : Tables) (r : Request) (x : Name) (s : ℕ) : Type 0 where
  pub ticket : lookup t' x ≡ head_ticket Taken x s r.count (rights_of r.rights)
  pub tickets : (n : Name) → (n ≡ x → ⊥) → lookup t' n ≡ lookup t n
  pub entry : entry_of t' x ≡ entry_for x no_name s r.count (rights_of r.rights)
  pub entries : (n : Name) → (n ≡ x → ⊥) → entry_of t' n ≡ entry_of t n
  pub apart : (n : Name) → (entry_of t n).live ≡ true → Apart s r.count (entry_of t n).first (entry_of t n).count
  pub programs : (p q : ℕ) → same_program p q r.pad r.program ≡ false → program_at t' p q ≡ program_at t p q
  pub places : tickets_of t' r.pad r.program
      ≡ set (tickets_of t r.pad r.program) (first_index is_free (tickets_of t r.pad r.program)) (head_ticket Taken x s r.count (rights_of r.rights))
  pub last : last_of t' r.pad r.program ≡ x.number

module _ (t : Tables) (ok : InOrder t) (r : Request) (may : MayTake t r) where
  abbrev x : Name
  x = new_name t r.pad r.program

  abbrev s : ℕ
  s = best_fit t.entries r.count

  abbrev k : Ticket
  k = head_ticket Taken x s r.count (rights_of r.rights)

  abbrev e : Entry
  e = entry_for x no_name s r.count (rights_of r.rights)

  abbrev t₁ : Tables
  t₁ = give t r.pad r.program k

  abbrev t₂ : Tables
  t₂ = put_entry t₁ e

  added : Added t t₁ x k
  added =
      give_adds t ok.shape x k
      (record { pad = may.pad; program = may.program; number = refl; own = refl; live = refl; room = may.room; unused = past_ticket t ok x refl })

  entries_same : (n : Name) → entry_of t₁ n ≡ entry_of t n
  entries_same n = ap (λ (l : List Entry). entry_of (record { pads = t.pads; entries = l }) n) added.entries

  room : some is_spare t₁.entries ≡ true
  room = rw added.entries (entry_room t ok r.pad r.program may.pad may.program may.room)

  fresh : (entry_of t₁ x).live ≡ false
  fresh = rw (entries_same x) (past_entry t ok x refl)

  tickets_beside : (n : Name) → (n ≡ x → ⊥) → lookup t₂ n ≡ lookup t n
  tickets_beside n ne = lookup_put t₁ e refl room fresh n ∙ added.others n ne

  ticket_x : lookup t₂ x ≡ k
  ticket_x = lookup_put t₁ e refl room fresh x ∙ added.got

  entries_beside : (n : Name) → (n ≡ x → ⊥) → entry_of t₂ n ≡ entry_of t n
  entries_beside n ne = entry_other t₁ e refl room fresh n ne ∙ entries_same n

  entry_x : entry_of t₂ x ≡ e
  entry_x = entry_same t₁ e refl room fresh

  programs_put : (p q : ℕ) → program_at t₂ p q ≡ program_at t₁ p q
  unfolding put_entry
  programs_put p q = refl

  last_x : last_of t₂ r.pad r.program ≡ suc (last_of t r.pad r.program)
  last_x = ap (λ (a : Program). a.last) (programs_put r.pad r.program) ∙ added.last

  grown : (p q : ℕ) → last_of t p q ≤ last_of t₂ p q
  grown p q = go (case (same_program p q r.pad r.program))
    where
      go : Case (same_program p q r.pad r.program) → last_of t p q ≤ last_of t₂ p q
      go (pass h) = let w = program_same p q r.pad r.program h in rw (w.pad, w.program, last_x) (omega arith)
      go (fail h) =
          let w : last_of t₂ p q ≡ last_of t p q = ap (λ (a : Program). a.last) (programs_put p q ∙ added.programs p q h) in
          rw w (omega arith)

  given_x : Given (last_of t₂) x
  given_x = record { pad = may.pad; program = may.program; low = omega arith; high = rw last_x (omega arith) }

  new_x : NewTicket (lookup t₂) (entry_of t₂) (last_of t₂) x
  new_x =
      new_head (lookup t₂) (entry_of t₂) (last_of t₂) x Taken s r.count (rights_of r.rights) ticket_x refl refl given_x
      (record { some = may.some; fits = best_fits t.entries r.count may.some may.run; right = may.right; rights = may.rights }) (λ h. rw entry_x)

  apart_x : (n : Name) → (entry_of t n).live ≡ true → Apart s r.count (entry_of t n).first (entry_of t n).count
  apart_x n l =
      outside_of s r.count (entry_of t n)
      (rw (entry_at_place t ok n)
      (all_elim no_entry (outside s r.count) t.entries (best_outside t.entries r.count may.some may.run) (entry_place t ok n)
      (entry_place_low t ok n l)))
      l

  new_entry_x : NewEntry (lookup t₂) (entry_of t₂) x
  new_entry_x = record {
    entry_name = rw entry_x;
    entry = rw (entry_x, ticket_x) (record { taken = λ h. refl; store = λ h. refl; received = λ h. no_true (sym h); first = refl; count = refl; rights = refl });
    under = λ z. no_true (sym z ∙ ap under_store entry_x);
    entry_chain = (0, here {n = x} (ap under_store entry_x));
    lent = λ z. no_true (sym z ∙ ap under_store entry_x);
    roots = λ z m l w ne.
        let q = entries_beside m (λ y. ne (sym y)) in
        rw (entry_x, q) (apart_x m (rw q at l));
  }

  old : (n : Name) → is_live (lookup t₂ n).kind ≡ true → Case (eq_name n x) → (is_live (lookup t n).kind ≡ true) ⊎ NewTicket (lookup t₂) (entry_of t₂) (last_of t₂) n
  old n l (pass h) = inr (rw (eq_name_true n x h) new_x)
  old n l (fail h) = inl (rw (tickets_beside n (eq_name_ne n x h)) at l)

  old_entry : (n : Name) → (entry_of t₂ n).live ≡ true → Case (eq_name n x) → ((entry_of t n).live ≡ true) ⊎ NewEntry (lookup t₂) (entry_of t₂) n
  old_entry n l (pass h) = inr (rw (eq_name_true n x h) new_entry_x)
  old_entry n l (fail h) = inl (rw (entries_beside n (eq_name_ne n x h)) at l)

  not_x : (n : Name) → Given (last_of t) n → n ≡ x → ⊥
  not_x n g q = past_given t ok x refl (rw q at g)

  inserted : Inserted (lookup t) (lookup t₂) (entry_of t) (entry_of t₂) (last_of t) (last_of t₂)
  inserted = record {
    tickets_kept = λ n l. tickets_beside n (not_past t ok x refl n l);
    entries_kept = λ n l. entries_beside n (not_past_entry t ok x refl n l);
    lasts_grow = grown;
    tickets_new = λ n l. old n l (case (eq_name n x));
    entries_new = λ n l. old_entry n l (case (eq_name n x));
    tickets_fresh = λ n g l. rw (tickets_beside n (not_x n g)) at l;
    entries_fresh = λ n g l. rw (entries_beside n (not_x n g)) at l;
  }

  pub take_effect : TakeEffect t (take_tables t r) r x s
  unfolding take_tables
  take_effect = record {
    ticket = ticket_x;
    tickets = tickets_beside;
    entry = entry_x;
    entries = entries_beside;
    apart = apart_x;
    programs = λ p q h. programs_put p q ∙ added.programs p q h;
    places = ap (λ (a : Program). a.tickets) (programs_put r.pad r.program) ∙ added.tickets;
    last = last_x;
  }

  shape_after : Shape t₂
  shape_after = shape_put t₁ e refl room fresh added.shape

pub take_keeps : (t : Tables) → InOrder t → (r : Request) → MayTake t r → InOrder (take_tables t r)
unfolding take_tables
take_keeps t ok r may = order_inserted t (t₂ t ok r may) ok (shape_after t ok r may) (inserted t ok r may)

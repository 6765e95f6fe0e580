-- What an accepted pass does to tables in order, on the same pad and to another: the asker gets a recall and the recipient a grant, each
-- under its program's next name and in its lowest free place; nothing else changes but, to another pad, the new entry.
use Prim.Native.Nat.{ℕ, suc, ◌+◌, ◌≤◌}
use mathlib.Core.Path.{◌≡◌, refl, sym, ap, ◌∙◌, subst}
use mathlib.Core.Bool.{true, false}
use mathlib.Core.List.{List}
use lib.ListN.{get_or, set}
use borrow.Author.Tests.{eq-eqb, ne_eqb}
use Rattle.lists.specs.Lists.{first_index, some}
use Rattle.rights.specs.Rules.{rights_of, within, can_pass}
use Rattle.tables.specs.declared.{Name.Name, Ticket.Ticket, Program.Program, Pad.Pad, Entry.Entry, Tables.Tables}
use Rattle.tables.specs.declared.Kind.TheVariants.{Received, Child}
use Rattle.tables.specs.Names.{same_program, grant_ticket, head_ticket, recall_ticket, entry_for, no_program, no_pad}
use Rattle.tables.specs.Lookup.{program_at, tickets_of, last_of, lookup, entry_in, entry_of}
use Rattle.tables.specs.Change.{is_free, has_place, new_name, give, is_spare, put_entry}
use Rattle.tables.proofs.NameLaws.{program_apart, program_sym}
use Rattle.machine.specs.declared.Request.{Request}
use Rattle.machine.specs.State.{asked_name, asked}
use Rattle.machine.specs.Pass.{pass_tables}
use Rattle.preservation.specs.InOrder.{Shape, InOrder}
use Rattle.preservation.proofs.AfterChange.{Added, give_adds, entry_same, entry_other, lookup_pads, shape_put}
use Rattle.preservation.proofs.Places.{entry_room}
use Rattle.preservation.proofs.NewNames.{past_ticket, past_entry}
use Rattle.tables.specs.Kinds.{is_live, is_grant}

-- what the tests of a pass have shown
pub record MayPass (t : Tables) (r : Request) : Type 0 where
  pub pad : r.pad ≤ 3
  pub program : r.program ≤ 7
  pub topad : r.topad ≤ 3
  pub toprogram : r.toprogram ≤ 7
  pub some : 1 ≤ r.count
  pub right : 1 ≤ r.rights
  pub rights : r.rights ≤ 7
  pub grant : is_grant (asked t r).kind ≡ true
  pub differ : same_program r.pad r.program r.topad r.toprogram ≡ false
  pub fit : r.first + r.count ≤ (asked t r).count
  pub may : can_pass (asked t r).rights ≡ true
  pub within : within (rights_of r.rights) (asked t r).rights ≡ true
  pub room : has_place t r.pad r.program ≡ true
  pub room_there : has_place t r.topad r.toprogram ≡ true
  pub known : (r.pad ≡ r.topad → ⊥) → (entry_of t (asked t r).dock).live ≡ true

-- ---- the two new names, and what they name
abbrev pub recall_name : Tables → Request → Name
recall_name t r = new_name t r.pad r.program

abbrev pub grant_name : Tables → Request → Name
grant_name t r = new_name t r.topad r.toprogram

abbrev pub new_recall : Tables → Request → Ticket
new_recall t r = recall_ticket (recall_name t r).number r.ticket (grant_name t r)

abbrev pub new_child : Tables → Request → Ticket
new_child t r =
    grant_ticket Child (grant_name t r).number (asked_name r) ((asked t r).first + r.first) r.count (rights_of r.rights) (asked t r).dock

abbrev pub new_received : Tables → Request → Ticket
new_received t r = head_ticket Received (grant_name t r) ((asked t r).first + r.first) r.count (rights_of r.rights)

abbrev pub new_entry : Tables → Request → Entry
new_entry t r = entry_for (grant_name t r) (asked t r).dock ((asked t r).first + r.first) r.count (rights_of r.rights)

-- the program with the ticket k in its lowest free place
pub record Gained (t t' : Tables) (p q : ℕ) (k : Ticket) : Type 0 where
  pub tickets : tickets_of t' p q ≡ set (tickets_of t p q) (first_index is_free (tickets_of t p q)) k
  pub last : last_of t' p q ≡ k.number

-- what a pass does, with k as the new grant
pub record PassEffect (t t' : Tables) (r : Request) (k : Ticket) : Type 0 where
  pub shape : Shape t'
  pub recall : lookup t' (recall_name t r) ≡ new_recall t r
  pub grant : lookup t' (grant_name t r) ≡ k
  pub tickets : (n : Name) → (n ≡ recall_name t r → ⊥) → (n ≡ grant_name t r → ⊥) → lookup t' n ≡ lookup t n
  pub entries : (n : Name) → (n ≡ grant_name t r → ⊥) → entry_of t' n ≡ entry_of t n
  pub programs : (p q : ℕ) → same_program p q r.pad r.program ≡ false → same_program p q r.topad r.toprogram ≡ false
      → program_at t' p q ≡ program_at t p q
  pub asker : Gained t t' r.pad r.program (new_recall t r)
  pub recipient : Gained t t' r.topad r.toprogram k

module _ (t : Tables) (ok : InOrder t) (r : Request) (may : MayPass t r) where
  abbrev x : Name
  x = recall_name t r

  abbrev y : Name
  y = grant_name t r

  pub names_differ : x ≡ y → ⊥
  names_differ e =
      program_apart r.pad r.program r.topad r.toprogram may.differ
      (ap (λ (n : Name). n.pad) e) (ap (λ (n : Name). n.program) e)

  -- ---- the recall given
  abbrev t₁ : Tables
  t₁ = give t r.pad r.program (new_recall t r)

  added₁ : Added t t₁ x (new_recall t r)
  added₁ =
      give_adds t ok.shape x (new_recall t r)
      (record { pad = may.pad; program = may.program; number = refl; own = refl; live = refl; room = may.room; unused = past_ticket t ok x refl })

  program₁ : program_at t₁ r.topad r.toprogram ≡ program_at t r.topad r.toprogram
  program₁ = added₁.programs r.topad r.toprogram (program_sym r.pad r.program r.topad r.toprogram may.differ)

  room_there_lem : has_place t₁ r.topad r.toprogram ≡ true
  unfolding has_place
  room_there_lem = subst (λ (p : Program). some is_free p.tickets ≡ true) (sym program₁) may.room_there

  -- ---- then the grant k
  module _ (k : Ticket) (own : k.number ≡ y.number) (live : is_live k.kind ≡ true) where
    abbrev t₂ : Tables
    t₂ = give t₁ r.topad r.toprogram k

    added₂ : Added t₁ t₂ y k
    added₂ =
        give_adds t₁ added₁.shape y k
        (record {
          pad = may.topad;
          program = may.toprogram;
          number = ap (λ (p : Program). suc p.last) (sym program₁);
          own = own;
          live = live;
          room = room_there_lem;
          unused = rw (added₁.others y (λ e. names_differ (sym e))) (past_ticket t ok y refl);
        })

    entries₂ : t₂.entries ≡ t.entries
    entries₂ = added₂.entries ∙ added₁.entries

    entry₂ : (n : Name) → entry_of t₂ n ≡ entry_of t n
    entry₂ n = ap (λ (l : List Entry). entry_in l n) entries₂

    -- the tables after have these pads, and entries that differ at y alone
    module _ (t₃ : Tables) (pads : t₃.pads ≡ t₂.pads) where
      tickets₃ : (n : Name) → lookup t₃ n ≡ lookup t₂ n
      tickets₃ = lookup_pads t₂ t₃ pads

      programs₃ : (p q : ℕ) → program_at t₃ p q ≡ program_at t₂ p q
      programs₃ p q = ap (λ (l : List Pad). get_or (get_or l p no_pad).programs q no_program) pads

      program_asker : program_at t₃ r.pad r.program ≡ program_at t₁ r.pad r.program
      program_asker = programs₃ r.pad r.program ∙ added₂.programs r.pad r.program may.differ

      effect : Shape t₃ → ((n : Name) → (n ≡ y → ⊥) → entry_of t₃ n ≡ entry_of t n) → PassEffect t t₃ r k
      effect shape entries = record {
        shape = shape;
        recall = tickets₃ x ∙ added₂.others x names_differ ∙ added₁.got;
        grant = tickets₃ y ∙ added₂.got;
        tickets = λ n e f. tickets₃ n ∙ added₂.others n f ∙ added₁.others n e;
        entries = entries;
        programs = λ p q e f. programs₃ p q ∙ added₂.programs p q f ∙ added₁.programs p q e;
        asker = record {
          tickets = ap (λ (p : Program). p.tickets) program_asker ∙ added₁.tickets;
          last = ap (λ (p : Program). p.last) program_asker ∙ added₁.last;
        };
        recipient = record {
          tickets =
              ap (λ (p : Program). p.tickets) (programs₃ r.topad r.toprogram) ∙ added₂.tickets
              ∙ ap (λ (p : Program). set p.tickets (first_index is_free p.tickets) k) program₁;
          last = ap (λ (p : Program). p.last) (programs₃ r.topad r.toprogram) ∙ added₂.last ∙ sym own;
        };
      }

  -- ---- on the same pad: "it is a child and the dock isn't told"
  module _ (same : r.pad ≡ r.topad) where
    near_tables : pass_tables t r ≡ t₂ (new_child t r) refl refl
    unfolding pass_tables
    near_tables = rw (eq-eqb r.pad r.topad same)

    pub pass_near : PassEffect t (pass_tables t r) r (new_child t r)
    pass_near =
        subst (λ (u : Tables). PassEffect t u r (new_child t r)) (sym near_tables)
        (effect (new_child t r) refl refl (t₂ (new_child t r) refl refl) refl (added₂ (new_child t r) refl refl).shape (λ n ne. entry₂ (new_child t r) refl refl n))

    pub pass_near_entries : (n : Name) → entry_of (pass_tables t r) n ≡ entry_of t n
    pass_near_entries n = ap (λ (u : Tables). entry_of u n) near_tables ∙ entry₂ (new_child t r) refl refl n

  -- ---- "To another pad it is a received grant with an entry"
  module _ (away : r.pad ≡ r.topad → ⊥) where
    abbrev tr : Tables
    tr = t₂ (new_received t r) refl refl

    far_tables : pass_tables t r ≡ put_entry tr (new_entry t r)
    unfolding pass_tables
    far_tables = rw (ne_eqb r.pad r.topad away)

    room : some is_spare tr.entries ≡ true
    room = rw (entries₂ (new_received t r) refl refl) (entry_room t ok r.pad r.program may.pad may.program may.room)

    fresh : (entry_of tr y).live ≡ false
    fresh = rw (entry₂ (new_received t r) refl refl y) (past_entry t ok y refl)

    pads_put : (put_entry tr (new_entry t r)).pads ≡ tr.pads
    unfolding put_entry
    pads_put = refl

    pub pass_far : PassEffect t (pass_tables t r) r (new_received t r)
    pass_far =
        subst (λ (u : Tables). PassEffect t u r (new_received t r)) (sym far_tables)
        (effect (new_received t r) refl refl (put_entry tr (new_entry t r)) pads_put
        (shape_put tr (new_entry t r) refl room fresh (added₂ (new_received t r) refl refl).shape)
        (λ n ne. entry_other tr (new_entry t r) refl room fresh n ne ∙ entry₂ (new_received t r) refl refl n))

    pub pass_far_entry : entry_of (pass_tables t r) y ≡ new_entry t r
    pass_far_entry = ap (λ (u : Tables). entry_of u y) far_tables ∙ entry_same tr (new_entry t r) refl room fresh

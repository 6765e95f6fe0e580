-- A program's tickets are a list keyed by their numbers, the dock's entries one keyed by their names: so the laws of lists' Keyed.antt
-- are laws of what `lookup` and `entry_of` find.
use Prim.Native.Nat.{ℕ}
use mathlib.Core.Path.{◌≡◌, refl}
use mathlib.Core.Bool.{false}
use lib.Dec.{eqb}
use borrow.Author.Tests.{eqb-true, eq-eqb}
use Rattle.lists.proofs.Everywhere.{map_id}
use Rattle.lists.proofs.Keyed.{Keys, Lawful, by_key, drop_none}
use Rattle.tables.specs.declared.{Name.Name, Ticket.Ticket, Entry.Entry, Tables.Tables}
use Rattle.tables.specs.Names.{eq_name, free, no_entry}
use Rattle.tables.specs.Lookup.{tickets_of, has_number, ticket_in, lookup, is_named, entry_in, entry_of}
use Rattle.tables.specs.Change.{drop_entry, drop_entries}
use Rattle.tables.proofs.NameLaws.{eq_name_true, eq_name_refl}
use Rattle.tables.specs.Kinds.{is_live}

abbrev pub ticket_keys : Keys Ticket ℕ
ticket_keys = record { live = λ k. is_live k.kind; key = λ k. k.number; same = eqb; none = free }

abbrev pub entry_keys : Keys Entry Name
entry_keys = record { live = λ e. e.live; key = λ e. e.name; same = eq_name; none = no_entry }

pub ticket_laws : Lawful ticket_keys
ticket_laws = record { same_true = eqb-true; same_refl = λ a. eq-eqb a a refl; dead = refl }

pub entry_laws : Lawful entry_keys
entry_laws = record { same_true = eq_name_true; same_refl = eq_name_refl; dead = refl }

-- what a name finds is the keyed list's element of that key
pub lookup_keyed : (t : Tables) (n : Name) → lookup t n ≡ by_key ticket_keys (tickets_of t n.pad n.program) n.number
unfolding lookup ticket_in has_number
lookup_keyed t n = refl

pub entry_keyed : (t : Tables) (n : Name) → entry_of t n ≡ by_key entry_keys t.entries n
unfolding entry_in is_named
entry_keyed t n = refl

-- where no entry goes, all stays
no_cut : (e : Entry) → drop_entry (λ n. false) e ≡ e
unfolding drop_entry
no_cut e = drop_none entry_keys entry_laws (λ n. false) e (λ l. refl)

pub drop_no_entry : (t : Tables) → drop_entries (λ n. false) t ≡ t
unfolding drop_entries
drop_no_entry t = λ j. record { pads = t.pads; entries = map_id (drop_entry (λ n. false)) no_cut t.entries j }

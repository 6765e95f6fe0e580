-- Tables in order, as a proposition: that numbers and entry names are distinct is about places, all else about the two maps (Rules.antt).
-- `InOrder` is T1 to T6, what the test `in_order` decides and every request keeps.
use Rattle.std.specs.Prelude.{ℕ, ◌<◌, ◌≡◌, length}
use Rattle.lists.proofs.Keyed.{Distinct}
use Rattle.tables.specs.declared.{Tables.Tables}
use Rattle.tables.specs.Lookup.{Sized, tickets_of, last_of, lookup, entry_of}
use Rattle.tables.proofs.Keys.{ticket_keys, entry_keys}
use Rattle.machine.specs.State.{State}
use Rattle.preservation.specs.Rules.{Rules}

-- the arrays have their lengths; T1, "distinct numbers"; T5, "Entry names are distinct"
pub record Shape (t : Tables) : Type 0 where
  pub sized : Sized t
  pub distinct : (p q : ℕ) → p < 4 → q < 8 → Distinct ticket_keys (tickets_of t p q)
  pub distinct_entries : Distinct entry_keys t.entries

-- T1 to T6
pub record InOrder (t : Tables) : Type 0 where
  pub shape : Shape t
  pub rules : Rules (lookup t) (entry_of t) (last_of t)

-- a dock that only requests have changed: tables in order, and a store of 256 sheets
pub record DockOk (s : State) : Type 0 where
  pub tables : InOrder s.tables
  pub store : length s.store ≡ 16384

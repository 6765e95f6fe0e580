-- What removal needs of the tables. All of it is part of T1, T3 and T6.
use Rattle.std.specs.Prelude.{ℕ, ◌≤◌, ◌<◌, ◌≡◌, true, false}
use Rattle.lists.proofs.Keyed.{Distinct}
use Rattle.tables.specs.declared.{Name.Name, Tables.Tables}
use Rattle.tables.specs.Kinds.{is_live}
use Rattle.tables.specs.Names.{is_none}
use Rattle.tables.specs.Lookup.{tickets_of, lookup}
use Rattle.tables.specs.Chains.{parent_of}
use Rattle.tables.proofs.Keys.{ticket_keys}

pub record Linked (t : Tables) : Type 0 where
  -- T1: live tickets of a program have distinct numbers, 1 or more
  pub distinct : (pad program : ℕ) → pad < 4 → program < 8 → Distinct ticket_keys (tickets_of t pad program)
  pub numbered : (n : Name) → is_live (lookup t n).kind ≡ true → 1 ≤ n.number
  -- T3, T6: a parent is live, and on the same pad
  pub parent : (n : Name) → is_none (parent_of (lookup t) n) ≡ false → is_live (lookup t (parent_of (lookup t) n)).kind ≡ true
  pub near : (n : Name) → is_none (parent_of (lookup t) n) ≡ false → (parent_of (lookup t) n).pad ≡ n.pad

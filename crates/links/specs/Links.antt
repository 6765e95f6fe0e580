-- Links followed: what is claimed of how far a chain of loans goes.
use Rattle.std.specs.Prelude.{ℕ, ◌≤◌, ◌≡◌, true, List, length}
use Rattle.tables.specs.declared.{Name.Name, Tables.Tables}
use Rattle.tables.specs.Kinds.{is_grant}
use Rattle.tables.specs.Lookup.{Sized, lookup}
use Rattle.tables.specs.Chains.{chain_links}
use Rattle.tables.specs.Order.{in_order}
use Rattle.machine.specs.Empty.{empty_dock}
use Rattle.machine.specs.Sequence.{Sent, after}

-- "never above 31"
abbrev pub most_links : ℕ
most_links = 31

-- ---- "Show that it is never above 31 with tables in order."
abbrev pub ChainLinksBounded : Type 0
ChainLinksBounded = (t : Tables) → Sized t → in_order t ≡ true → (n : Name) → is_grant (lookup t n).kind ≡ true → chain_links t n ≤ most_links

-- ---- "Show one set of tables that reaches 31.": what these requests leave of an emptied dock
pub record MostReached : Type 0 where
  pub requests : List Sent
  pub many : length requests ≡ 32
  pub order : in_order (after empty_dock requests).tables ≡ true
  pub ticket : Name
  pub grant : is_grant (lookup (after empty_dock requests).tables ticket).kind ≡ true
  pub links : chain_links (after empty_dock requests).tables ticket ≡ most_links

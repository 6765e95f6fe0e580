-- Chains of parents, on a pad and in the dock. "Under" a ticket: what reaches it by parents on that pad, recalls included.
-- "Below" an entry: what reaches it by parents in the dock. A walk follows the map from a name to its parent's and counts the
-- places left: 64 on a pad, 256 in the dock. In tables in order that is more than a chain has.
use Rattle.std.specs.Prelude.{ℕ, zero, suc, Bool, false, not, ◌&&◌, ◌||◌, cond, eqb}
use Rattle.tables.specs.declared.{Name.Name, Kind.Kind, Ticket.Ticket, Entry.Entry, Tables.Tables}
use Rattle.tables.specs.declared.Kind.TheVariants.{Free, Taken, Received, Child, Recall}
use Rattle.tables.specs.Kinds.{is_recall}
use Rattle.tables.specs.Names.{name_of, no_name, is_none, eq_name}
use Rattle.tables.specs.Lookup.{lookup, entry_of}

-- n is x, or reaches it by parents
unfoldable pub reaches : ℕ → (Name → Name) → Name → Name → Bool
reaches zero parent n x = false
reaches (suc left) parent n x =
    let higher = reaches left parent (parent n) x in
    eq_name n x || (not (is_none (parent n)) && higher)

-- the end of n's chain, which has no parent; no_name where the places left do not suffice
unfoldable pub end_of : ℕ → (Name → Name) → Name → Name
end_of zero parent n = no_name
end_of (suc left) parent n =
    let higher = end_of left parent (parent n) in
    cond (is_none (parent n)) n higher

-- how many links lead from n to the end of its chain; no more than the places left
unfoldable pub links_of : ℕ → (Name → Name) → Name → ℕ
links_of zero parent n = 0
links_of (suc left) parent n =
    let higher = links_of left parent (parent n) in
    cond (is_none (parent n)) 0 (suc higher)

-- ---- on a pad
-- the grant that a recall stands under: it is of the same program
abbrev pub own_name : Name → Ticket → Name
own_name n k = name_of n.pad n.program k.own

-- a recall that stands under the grant of that number
unfoldable pub is_recall_of : ℕ → Ticket → Bool
is_recall_of own k = is_recall k.kind && eqb k.own own

abbrev pub parent_by : Kind → Name → Ticket → Name
parent_by Free n k = no_name
parent_by Taken n k = no_name
parent_by Received n k = no_name
parent_by Child n k = k.other
parent_by Recall n k = own_name n k

-- the parent of the ticket named n, over any map from a name to its ticket
abbrev pub parent_of : (Name → Ticket) → Name → Name
parent_of ticket n = parent_by (ticket n).kind n (ticket n)

-- n is x or under it
abbrev pub at_or_under : Tables → Name → Name → Bool
at_or_under t x n = reaches 64 (parent_of (lookup t)) n x

-- "The chain of parents is followed until a grant without a parent"
abbrev pub chain_head : Tables → Name → Name
chain_head t n = end_of 64 (parent_of (lookup t)) n

-- "the number of parent links on that pad from the ticket to the head of its chain"
abbrev pub chain_links : Tables → Name → ℕ
chain_links t n = links_of 64 (parent_of (lookup t)) n

-- ---- in the dock
-- the parent of the entry named n, over any map from a name to its entry
abbrev pub entry_parent : (Name → Entry) → Name → Name
entry_parent entry n = (entry n).parent

-- n is x or below it
abbrev pub at_or_below : Tables → Name → Name → Bool
at_or_below t x n = reaches 256 (entry_parent (entry_of t)) n x

-- the entry directly under the store from which n's chain hangs
abbrev pub chain_root : Tables → Name → Name
chain_root t n = end_of 256 (entry_parent (entry_of t)) n

-- "Two tables are the same when their last numbers, live tickets and entries agree; the place where a ticket or entry is kept,
-- and what a free place holds, don't count." Nor does a field that a ticket's kind does not use. Tickets and entries are
-- compared by name, which finds every one of them where names are distinct (T1, T5).
use Rattle.std.specs.Prelude.{ℕ, ◌<◌, ◌≡◌, cond}
use Rattle.tables.specs.declared.{Name.Name, Kind.Kind, Ticket.Ticket, Entry.Entry, Tables.Tables}
use Rattle.tables.specs.declared.Kind.TheVariants.{Free, Taken, Received, Child, Recall}
use Rattle.tables.specs.Names.{no_name, is_none, free, grant_ticket, recall_ticket}
use Rattle.tables.specs.Lookup.{last_of, lookup, entry_of}

-- the ticket with the fields that its kind does not use set to 0
unfoldable pub said_by : Kind → Ticket → Ticket
said_by Free k = free
said_by Taken k = grant_ticket Taken k.number no_name k.first k.count k.rights k.dock
said_by Received k = grant_ticket Received k.number no_name k.first k.count k.rights k.dock
said_by Child k = grant_ticket Child k.number k.other k.first k.count k.rights k.dock
said_by Recall k = recall_ticket k.number k.own k.other

abbrev pub said : Ticket → Ticket
said k = said_by k.kind k

-- the entry with the store as its parent written in one way
unfoldable pub said_entry : Entry → Entry
said_entry e = record {
  live = e.live;
  name = e.name;
  parent = cond (is_none e.parent) no_name e.parent;
  first = e.first;
  count = e.count;
  rights = e.rights;
}

pub record SameTables (t u : Tables) : Type 0 where
  pub lasts : (pad program : ℕ) → pad < 4 → program < 8 → last_of t pad program ≡ last_of u pad program
  pub tickets : (n : Name) → said (lookup t n) ≡ said (lookup u n)
  pub entries : (n : Name) → said_entry (entry_of t n) ≡ said_entry (entry_of u n)

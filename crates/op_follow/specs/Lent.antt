-- What was lent away from marked tickets of a pad, by place: the entries that recalls of other pads' tickets at marked places name, and all
-- below. And the tables without a loan.
use Rattle.std.specs.Prelude.{ℕ, zero, suc, Bool, false, not, ◌&&◌, ◌||◌, List, eqb, get_or}
use Rattle.tables.specs.declared.{Name.Name, Ticket.Ticket, Tables.Tables}
use Rattle.tables.specs.Kinds.{is_recall}
use Rattle.tables.specs.Chains.{at_or_below}
use Rattle.tables.specs.Change.{drop_tickets, drop_entries}
use Rattle.machine.specs.Recall.{lent_away}
use Rattle.image_pads.specs.Places.{on_pad}
use Rattle.op_drop_tickets.specs.Marks.{also_under}

-- the ticket k is marked, and a recall of another pad's ticket
unfoldable pub is_lending : ℕ → Bool → Ticket → Bool
is_lending pad mark k = mark && is_recall k.kind && not (eqb k.other.pad pad)

-- the entry n goes with what is marked in the first i places of the pad
unfoldable pub lent_by : Tables → ℕ → List Bool → ℕ → Name → Bool
lent_by t pad marks zero n = false
lent_by t pad marks (suc i) n =
    lent_by t pad marks i n || (is_lending pad (get_or marks i false) (on_pad t pad i) && at_or_below t (on_pad t pad i).other n)

-- the tables without `also`, x and all under x, and in the dock without what was lent away from there
abbrev pub without_loan : Tables → Name → Name → Tables
without_loan t also x = drop_entries (lent_away t (also_under t also x)) (drop_tickets (also_under t also x) t)

-- What a pass gives the recipient.
use Rattle.std.specs.Prelude.{◌+◌, cond, eqb}
use Rattle.rights.specs.Rules.{rights_of}
use Rattle.tables.specs.declared.{Name.Name, Ticket.Ticket, Tables.Tables}
use Rattle.tables.specs.declared.Kind.TheVariants.{Received, Child}
use Rattle.tables.specs.Names.{grant_ticket, head_ticket, entry_for}
use Rattle.tables.specs.Change.{give, put_entry}
use Rattle.machine.specs.declared.Request.{Request}
use Rattle.machine.specs.State.{asked_name}

-- "On the same pad it is a child and the dock isn't told. To another pad it is a received grant with an entry, whose parent is the entry
-- of the ticket's dock name."
unfoldable pub granted : Tables → Ticket → Request → Name → Tables
granted t k r n =
    let first = k.first + r.first in
    let rights = rights_of r.rights in
    cond (eqb r.pad r.topad)
    (give t r.topad r.toprogram (grant_ticket Child n.number (asked_name r) first r.count rights k.dock))
    (put_entry (give t r.topad r.toprogram (head_ticket Received n first r.count rights)) (entry_for n k.dock first r.count rights))

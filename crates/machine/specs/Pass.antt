-- Op 2, pass (ticket, to-pad, to-program, first, count, rights): its refusals in order, the tables after, and the whole outcome.
-- The asker's recall and the recipient's grant are both new tickets, under the next numbers of their programs.
use Rattle.std.specs.Prelude.{ℕ, ◌+◌, not, ◌&&◌, ◌||◌, cond, ltb, eqb}
use Rattle.rights.specs.Rules.{rights_of, within, can_pass}
use Rattle.tables.specs.declared.Tables.{Tables}
use Rattle.tables.specs.declared.Kind.TheVariants.{Received, Child}
use Rattle.tables.specs.Kinds.{is_live, is_recall}
use Rattle.tables.specs.Names.{same_program, grant_ticket, head_ticket, recall_ticket, entry_for}
use Rattle.tables.specs.Lookup.{entry_of}
use Rattle.tables.specs.Change.{has_place, new_name, give, put_entry}
use Rattle.machine.specs.declared.Request.{Request}
use Rattle.machine.specs.State.{State, Outcome, accepted, with_tables, asked_name, asked}
use Rattle.machine.specs.Refusal.{◌when◌else◌, is_spent}

-- "4 the asker has no live ticket of that number; 5 it is a recall; 8 the recipient is the asker; 6 first + count exceeds the ticket's
-- count; 7 the ticket lacks pass on, or the request doesn't ask only for rights the ticket has, bit by bit; 9 asker or recipient has
-- no free place; 10 either's numbers are spent; 12, to another pad only, the dock has no entry of the ticket's dock name."
unfoldable pub pass_refusal : Tables → Request → ℕ
pass_refusal t r =
    let k = asked t r in
    4 when not (is_live k.kind) else
    5 when is_recall k.kind else
    8 when same_program r.pad r.program r.topad r.toprogram else
    6 when ltb k.count (r.first + r.count) else
    7 when not (can_pass k.rights) || not (within (rights_of r.rights) k.rights) else
    9 when not (has_place t r.pad r.program) || not (has_place t r.topad r.toprogram) else
    10 when is_spent t r.pad r.program || is_spent t r.topad r.toprogram else
    12 when not (eqb r.pad r.topad) && not (entry_of t k.dock).live else
    0

-- "the asker gets a recall under its ticket, the recipient a grant. On the same pad it is a child and the dock isn't told. To another
-- pad it is a received grant with an entry, whose parent is the entry of the ticket's dock name." "A child has the dock name of its
-- parent grant."
unfoldable pub pass_tables : Tables → Request → Tables
pass_tables t r =
    let k = asked t r in
    let n = new_name t r.topad r.toprogram in
    let first = k.first + r.first in
    let rights = rights_of r.rights in
    let child = grant_ticket Child n.number (asked_name r) first r.count rights k.dock in
    let received = head_ticket Received n first r.count rights in
    let lent = give t r.pad r.program (recall_ticket (new_name t r.pad r.program).number r.ticket n) in
    cond (eqb r.pad r.topad)
    (give lent r.topad r.toprogram child)
    (put_entry (give lent r.topad r.toprogram received) (entry_for n k.dock first r.count rights))

unfoldable pub after_pass : State → Request → Outcome
after_pass s r =
    accepted
    (with_tables s (pass_tables s.tables r))
    (new_name s.tables r.pad r.program).number
    (new_name s.tables r.topad r.toprogram).number

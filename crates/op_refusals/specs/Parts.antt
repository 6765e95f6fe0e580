-- Refusals over what was found. Those of pass, read and write are in two parts: what the ticket asked for says, and what is asked only
-- where that refuses nothing.
use Rattle.std.specs.Prelude.{ℕ, ◌+◌, Bool, not, ◌||◌, cond, leb, ltb, eqb}
use Rattle.rights.specs.declared.Rights.{Rights}
use Rattle.rights.specs.Rules.{rights_of, within, can_pass}
use Rattle.tables.specs.declared.{Kind.Kind, Ticket.Ticket}
use Rattle.tables.specs.Kinds.{is_live, is_recall}
use Rattle.tables.specs.Names.{same_program}
use Rattle.machine.specs.declared.Request.{Request}
use Rattle.machine.specs.Refusal.{◌when◌else◌}
use Rattle.op_refusals.specs.declared.Seat.{Seat}

-- the first refusal, or the second where the first is 0
infixr 10 ◌or_else◌
unfoldable pub ◌or_else◌ : ℕ → ℕ → ℕ
first or_else second = cond (eqb first 0) second first

-- "4; 5 it isn't a taken grant", or isn't a recall
unfoldable pub kind_refusal : Kind → Bool → ℕ
kind_refusal kind wanted =
    4 when not (is_live kind) else
    5 when not wanted else
    0

-- "4 the asker has no live ticket of that number; 5 it is a recall; 8 the recipient is the asker; 6 first + count exceeds the ticket's
-- count; 7 the ticket lacks pass on, or the request doesn't ask only for rights the ticket has, bit by bit"
unfoldable pub pass_ticket_refusal : Ticket → Request → ℕ
pass_ticket_refusal k r =
    4 when not (is_live k.kind) else
    5 when is_recall k.kind else
    8 when same_program r.pad r.program r.topad r.toprogram else
    6 when ltb k.count (r.first + r.count) else
    7 when not (can_pass k.rights) || not (within (rights_of r.rights) k.rights) else
    0

-- "9 asker or recipient has no free place; 10 either's numbers are spent; 12, to another pad only, the dock has no entry of the ticket's
-- dock name."
unfoldable pub pass_room_refusal : Seat → Seat → Bool → ℕ
pass_room_refusal asker recipient lost =
    9 when asker.full || recipient.full else
    10 when leb 65535 asker.last || leb 65535 recipient.last else
    12 when lost else
    0

-- "4; 5 a recall; 6 first is not below the count; 7 the right is lacking"
unfoldable pub access_ticket_refusal : Rights → Ticket → ℕ → ℕ
access_ticket_refusal right k first =
    4 when not (is_live k.kind) else
    5 when is_recall k.kind else
    6 when leb k.count first else
    7 when not (within right k.rights) else
    0

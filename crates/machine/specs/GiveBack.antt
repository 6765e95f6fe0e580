-- Op 4, give back (ticket): its refusals in order, the tables after, and the whole outcome. Only a taken grant can be given back, and all
-- that came from it goes: on its pad by parents there, in the dock by parents there.
use Rattle.std.specs.Prelude.{ℕ, not}
use Rattle.tables.specs.declared.Tables.{Tables}
use Rattle.tables.specs.Kinds.{is_live, is_taken}
use Rattle.tables.specs.Chains.{at_or_under, at_or_below}
use Rattle.tables.specs.Change.{drop_tickets, drop_entries}
use Rattle.machine.specs.declared.Request.{Request}
use Rattle.machine.specs.State.{State, Outcome, accepted, clear_sheets, asked_name, asked}
use Rattle.machine.specs.Refusal.{◌when◌else◌}

-- "4; 5 it isn't a taken grant."
unfoldable pub give_back_refusal : Tables → Request → ℕ
give_back_refusal t r =
    let k = asked t r in
    4 when not (is_live k.kind) else
    5 when not (is_taken k.kind) else
    0

-- "its entry and all below it go, .. it and all under it go."
unfoldable pub give_back_tables : Tables → Request → Tables
give_back_tables t r = drop_entries (at_or_below t (asked_name r)) (drop_tickets (at_or_under t (asked_name r)) t)

-- "its sheets become 0"
unfoldable pub after_give_back : State → Request → Outcome
after_give_back s r =
    let k = asked s.tables r in
    accepted
    (record { tables = give_back_tables s.tables r; store = clear_sheets k.first k.count s.store; sheet = s.sheet })
    0
    0

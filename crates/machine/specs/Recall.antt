-- Op 3, recall (ticket): its refusals in order, the tables after, and the whole outcome. "Recalling the child and leaving what it lent
-- further on its pad" is a trap of this trade: what is at the target or under it goes.
use Rattle.std.specs.Prelude.{ℕ, Bool, not, ◌&&◌, ◌||◌, cond, eqb}
use Rattle.tables.specs.declared.{Name.Name, Tables.Tables}
use Rattle.tables.specs.Kinds.{is_live, is_recall}
use Rattle.tables.specs.Names.{eq_name}
use Rattle.tables.specs.Chains.{at_or_under, at_or_below}
use Rattle.tables.specs.Order.{some_ticket}
use Rattle.tables.specs.Change.{drop_tickets, drop_entries}
use Rattle.machine.specs.declared.Request.{Request}
use Rattle.machine.specs.State.{State, Outcome, accepted, with_tables, asked_name, asked}
use Rattle.machine.specs.Refusal.{◌when◌else◌}

-- "4; 5 it is a grant."
unfoldable pub recall_refusal : Tables → Request → ℕ
recall_refusal t r =
    let k = asked t r in
    4 when not (is_live k.kind) else
    5 when not (is_recall k.kind) else
    0

-- the entry n goes: it is "the target entry of each other-pad recall among the tickets it removes", or below
unfoldable pub lent_away : Tables → (Name → Bool) → Name → Bool
lent_away t gone n = some_ticket is_recall (λ m k. gone m && not (eqb k.other.pad m.pad) && at_or_below t k.other n) t

-- "on the same pad the target and all under it go, with the recall"
abbrev pub goes_with : Tables → Request → Name → Bool
goes_with t r n = eq_name n (asked_name r) || at_or_under t (asked t r).other n

-- 02, 1/13: "a recall on the same pad also removes, at the dock, the target entry of each other-pad recall among the tickets it removes,
-- and all below." "For another pad the recall goes, and the entry and all below it if still there; the other pad learns at its next use."
unfoldable pub recall_tables : Tables → Request → Tables
recall_tables t r =
    let target = (asked t r).other in
    cond (eqb target.pad r.pad)
    (drop_entries (lent_away t (goes_with t r)) (drop_tickets (goes_with t r) t))
    (drop_entries (at_or_below t target) (drop_tickets (λ n. eq_name n (asked_name r)) t))

unfoldable pub after_recall : State → Request → Outcome
after_recall s r = accepted (with_tables s (recall_tables s.tables r)) 0 0

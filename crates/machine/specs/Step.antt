-- The step that serves one request: a refusal's number by the chain of tests, and what follows from that number. "Every refusal
-- leaves tables, store and sheet buffer untouched, except 12, which drops tickets as said below, and only those."
use Rattle.std.specs.Prelude.{ℕ, Bool, not, ◌&&◌, cond, eqb, length}
use Rattle.lists.specs.Tests.{between}
use Rattle.tables.specs.declared.Tables.{Tables}
use Rattle.tables.specs.Names.{is_program}
use Rattle.tables.specs.Chains.{chain_head, at_or_under}
use Rattle.tables.specs.Order.{in_order}
use Rattle.tables.specs.Change.{drop_tickets}
use Rattle.machine.specs.declared.Request.{Request}
use Rattle.machine.specs.State.{State, Outcome, refused, with_tables, asked_name}
use Rattle.machine.specs.Refusal.{◌when◌else◌}
use Rattle.machine.specs.Operation.{Operation, taking, passing, recalling, giving_back, reading, writing, operation_of, used_by, fields_ok}
use Rattle.machine.specs.Take.{take_refusal, after_take}
use Rattle.machine.specs.Pass.{pass_refusal, after_pass}
use Rattle.machine.specs.Recall.{recall_refusal, after_recall}
use Rattle.machine.specs.GiveBack.{give_back_refusal, after_give_back}
use Rattle.machine.specs.Access.{access_refusal, after_read, after_write}

-- ---- the refusals in their order
unfoldable pub own_refusal : Operation → Tables → Request → ℕ
own_refusal taking t r = take_refusal t r
own_refusal passing t r = pass_refusal t r
own_refusal recalling t r = recall_refusal t r
own_refusal giving_back t r = give_back_refusal t r
own_refusal reading t r = access_refusal 1 t r
own_refusal writing t r = access_refusal 2 t r

-- "1 pad above 3 or program above 7; 2 op outside 1 to 6; 3 a used field out of range or an unused one not 0."
unfoldable pub request_refusal : Tables → Request → ℕ
request_refusal t r =
    let own = own_refusal (operation_of r.op) t r in
    1 when not (is_program r.pad r.program) else
    2 when not (between 1 6 r.op) else
    3 when not (fields_ok (used_by (operation_of r.op)) r) else
    own

unfoldable pub lengths_ok : State → Bool
lengths_ok s = eqb (length s.store) 16384 && eqb (length s.sheet) 64

-- "Every operation, first: 13 store or sheet buffer has another length; 14 tables are not in order"
unfoldable pub refusal : State → Request → ℕ
refusal s r =
    let later = request_refusal s.tables r in
    13 when not (lengths_ok s) else
    14 when not (in_order s.tables) else
    later

-- ---- what follows
unfoldable pub after_own : Operation → State → Request → Outcome
after_own taking s r = after_take s r
after_own passing s r = after_pass s r
after_own recalling s r = after_recall s r
after_own giving_back s r = after_give_back s r
after_own reading s r = after_read s r
after_own writing s r = after_write s r

-- "On 12 the pad drops the taken or received grant that heads the chain, and all under it."
unfoldable pub drop_head : Tables → Request → Tables
drop_head t r = let head = chain_head t (asked_name r) in drop_tickets (at_or_under t head) t

unfoldable pub outcome : State → Request → ℕ → Outcome
outcome s r result =
    let done = after_own (operation_of r.op) s r in
    let dropped = refused (with_tables s (drop_head s.tables r)) 12 in
    let untouched = refused s result in
    cond (eqb result 0) done (cond (eqb result 12) dropped untouched)

unfoldable pub step : State → Request → Outcome
step s r = outcome s r (refusal s r)

-- the step past 13 and 14, for a caller that knows the lengths and that its tables are in order
unfoldable pub serve : State → Request → Outcome
serve s r = outcome s r (request_refusal s.tables r)

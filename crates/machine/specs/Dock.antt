-- "The dock's own check (tables, name, sheet of the store, one right 1 or 2): 14; 3 sheet above 255 or another right; 12 no entry of
-- that name, impossible names included; 6 the sheet is outside the entry; 7 the entry lacks the right; otherwise 0. Nothing changes."
use Rattle.std.specs.Prelude.{ℕ, not, ◌||◌, ltb}
use Rattle.lists.specs.Tests.{between}
use Rattle.rights.specs.Rules.{rights_of, within}
use Rattle.tables.specs.declared.{Name.Name, Tables.Tables}
use Rattle.tables.specs.Lookup.{entry_of}
use Rattle.tables.specs.Sheets.{apart}
use Rattle.tables.specs.Order.{in_order}
use Rattle.machine.specs.Refusal.{◌when◌else◌}

-- past 14: what read and write ask after the pad's own tests
unfoldable pub dock_refusal : Tables → Name → ℕ → ℕ → ℕ
dock_refusal t n sheet right =
    let e = entry_of t n in
    3 when ltb 255 sheet || not (between 1 2 right) else
    12 when not e.live else
    6 when apart sheet 1 e.first e.count else
    7 when not (within (rights_of right) e.rights) else
    0

unfoldable pub dock_check : Tables → Name → ℕ → ℕ → ℕ
dock_check t n sheet right =
    let later = dock_refusal t n sheet right in
    14 when not (in_order t) else
    later

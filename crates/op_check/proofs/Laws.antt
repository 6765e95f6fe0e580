-- Laws for callers.
use Prim.Native.Nat.{ℕ, ◌≤◌}
use native.Mathlib.Omega.{arith}
use mathlib.Core.Path.{◌≡◌}
use mathlib.Core.Bool.{◌||◌, not}
use lib.Dec.{ltb}
use borrow.Author.Tests.{ltb-false}
use Rattle.lists.specs.Tests.{between}
use Rattle.lists.proofs.Tests.{or_false_l}
use Rattle.tables.specs.declared.{Name.Name, Tables.Tables}
use Rattle.machine.specs.Dock.{dock_refusal}
use Rattle.machine.proofs.RefusalLaws.{when_past}

-- ---- an access that the dock accepts is to a sheet of the store
pub accepted_sheet : (t : Tables) (n : Name) (sheet right : ℕ) → dock_refusal t n sheet right ≡ 0 → sheet ≤ 255
unfolding dock_refusal
accepted_sheet t n sheet right e =
    let p = when_past 3 (ltb 255 sheet || not (between 1 2 right)) _ 0 (λ q. omega arith) e in
    ltb-false 255 sheet (or_false_l (ltb 255 sheet) (not (between 1 2 right)) p.0)

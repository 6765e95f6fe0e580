-- What neither the worked cases nor the traps reach: a store that was used before, buffers of another length, tables out of order, the
-- dock's own check, emptying.
use Prim.Native.Nat.{ℕ}
use mathlib.Core.Bool.{Bool, ◌&&◌}
use mathlib.Core.List.{List, [], ◌∷◌}
use lib.Dec.{eqb}
use lib.ListN.{take, replicate}
use Rattle.lists.specs.Lists.{all}
use Rattle.tables.specs.declared.{Name.Name, Tables.Tables}
use Rattle.tables.specs.declared.Kind.TheVariants.{Taken}
use Rattle.tables.specs.Names.{name_of, recall_ticket, empty_tables}
use Rattle.tables.specs.Change.{give}
use Rattle.tables.proofs.Building.{head, child, with_taken, with_received, with_last}
use Rattle.machine.specs.Dock.{dock_check}
use Rattle.machine.specs.Empty.{empty_store, empty_dock}
use Rattle.machine.proofs.CaseLines.{Line, line, gives, holds, leaves}
use Rattle.machine.proofs.WorkedCases.{m1}
use Rattle.machine.proofs.RefusalOrder.{exhausted, exhaustion}

-- a taken grant without its entry
abbrev pub out_of_order : Tables
out_of_order = give empty_tables 0 0 (head Taken (name_of 0 0 1) 0 1 7)

-- (0,0) has the taken grant 1 and its recall 2, whose target is a live child of another pad: (1,1) has child 1 of (1,0)'s taken grant 1
abbrev pub far_child : Tables
far_child =
    let granted = with_taken (name_of 1 0 1) 1 1 7 (with_taken (name_of 0 0 1) 0 1 7 empty_tables) in
    give (give granted 0 0 (recall_ticket 2 1 (name_of 1 1 1))) 1 1 (child 1 (name_of 1 0 1) 1 1 7 (name_of 1 0 1))

-- (1,0) has a loan of (0,0)'s taken grant, and no recall names it
abbrev pub unrecalled : Tables
unrecalled = with_received (name_of 1 0 1) (name_of 0 0 1) 0 1 1 (with_taken (name_of 0 0 1) 0 1 7 empty_tables)

-- ---- cases from states that a host can lend
pub record Start : Type 0 where
  pub tables : Tables
  pub store : List ℕ
  pub lines : List Line

unfoldable pub from_start : Start → Bool
from_start c = holds (record { tables = c.tables; store = c.store; sheet = [] }) c.lines

abbrev pub starts : List Start
starts =
    -- "its bytes set to 0": a take clears what the store held before
    record {
      tables = empty_tables;
      store = replicate 16384 9;
      lines = line 0 0 1 0 0 0 0 2 7 0 (gives 0 1 0 0) ∷ line 0 0 5 1 0 0 1 0 0 0 (gives 0 0 0 0) ∷ [];
    } ∷
    -- "13 store .. has another length", before anything else
    record { tables = out_of_order; store = replicate 16383 0; lines = line 4 0 0 0 0 0 0 0 0 0 (gives 13 0 0 0) ∷ [] } ∷
    record { tables = empty_tables; store = replicate 16385 0; lines = line 0 0 1 0 0 0 0 1 7 0 (gives 13 0 0 0) ∷ [] } ∷
    -- "14 tables are not in order", before 1
    record { tables = out_of_order; store = empty_store; lines = line 4 0 0 0 0 0 0 0 0 0 (gives 14 0 0 0) ∷ [] } ∷
    -- "no recall names a live child of another pad"
    record { tables = far_child; store = empty_store; lines = line 0 0 3 2 0 0 0 0 0 0 (gives 14 0 0 0) ∷ [] } ∷
    -- "every entry below another has exactly one live recall naming it"
    record { tables = unrecalled; store = empty_store; lines = line 1 0 5 1 0 0 0 0 0 0 (gives 14 0 0 0) ∷ [] } ∷
    -- places and numbers spent; the last number is still given
    record {
      tables = with_last 0 0 65534 empty_tables;
      store = empty_store;
      lines = line 0 0 1 0 0 0 0 1 7 0 (gives 0 65535 0 0) ∷ line 0 0 1 0 0 0 0 1 7 0 (gives 10 0 0 0) ∷ [];
    } ∷
    record { tables = exhausted; store = empty_store; lines = exhaustion } ∷
    []

-- ---- the dock's own check, asked after some lines from an emptied dock
pub record Ask : Type 0 where
  pub name : Name
  pub sheet : ℕ
  pub right : ℕ
  pub result : ℕ

abbrev pub ask : Name → ℕ → ℕ → ℕ → Ask
ask n sheet right result = record { name = n; sheet = sheet; right = right; result = result }

pub record Asked : Type 0 where
  pub lines : List Line
  pub asks : List Ask

unfoldable pub answered : Asked → Bool
answered c =
    let t = (leaves empty_dock c.lines).tables in
    holds empty_dock c.lines && all (λ a. eqb (dock_check t a.name a.sheet a.right) a.result) c.asks

-- after M1's third line: entry 0 0 1 has sheets 0 to 3 and all rights, entry 1 0 1 below it sheets 2 and 3 to read
abbrev pub lent : Asked
lent = record {
  lines = take 3 m1;
  asks =
      ask (name_of 0 0 1) 0 1 0 ∷
      ask (name_of 0 0 1) 3 2 0 ∷
      ask (name_of 0 0 1) 4 1 6 ∷
      ask (name_of 1 0 1) 2 1 0 ∷
      ask (name_of 1 0 1) 1 2 6 ∷
      ask (name_of 1 0 1) 2 2 7 ∷
      -- 3 for sheet 256 and for rights 0 and 3, before 12
      ask (name_of 0 0 1) 255 1 6 ∷
      ask (name_of 0 0 9) 256 1 3 ∷
      ask (name_of 0 0 9) 0 0 3 ∷
      ask (name_of 0 0 9) 0 3 3 ∷
      -- 12 for a child, a recall, a dead number, an impossible pad, an impossible program, number 0
      ask (name_of 0 1 1) 0 1 12 ∷
      ask (name_of 0 0 2) 0 1 12 ∷
      ask (name_of 0 0 9) 0 1 12 ∷
      ask (name_of 4 0 1) 0 1 12 ∷
      ask (name_of 0 8 1) 0 1 12 ∷
      ask (name_of 0 0 0) 0 1 12 ∷
      [];
}

-- 02, 5/13, "the smallest free run that is long enough": the store's last sheet, and not the two that were given back
abbrev pub smallest : Asked
smallest = record {
  lines =
      line 0 0 1 0 0 0 0 2 7 0 (gives 0 1 0 0) ∷
      line 0 0 1 0 0 0 0 253 7 0 (gives 0 2 0 0) ∷
      line 0 0 4 1 0 0 0 0 0 0 (gives 0 0 0 0) ∷
      line 0 0 1 0 0 0 0 1 7 0 (gives 0 3 0 0) ∷
      line 0 0 1 0 0 0 0 2 7 0 (gives 0 4 0 0) ∷
      line 0 0 1 0 0 0 0 1 7 0 (gives 11 0 0 0) ∷
      [];
  asks =
      ask (name_of 0 0 2) 2 1 0 ∷
      ask (name_of 0 0 2) 254 1 0 ∷
      ask (name_of 0 0 3) 255 1 0 ∷
      ask (name_of 0 0 4) 0 1 0 ∷
      ask (name_of 0 0 4) 1 1 0 ∷
      [];
}

-- "its sheets become 0": what a give back leaves in the store
unfoldable pub store_given_back : List ℕ
store_given_back =
    (leaves empty_dock
    (line 0 0 1 0 0 0 0 2 7 0 (gives 0 1 0 0) ∷
    line 0 0 6 1 0 0 1 0 0 9 (gives 0 0 0 0) ∷
    line 0 0 4 1 0 0 0 0 0 0 (gives 0 0 0 0) ∷
    [])
    ).store

-- "Emptying the dock gives tables without tickets or entries, last numbers 0, and a store of zeros; with another length, 13, empty
-- tables and the store untouched."
use Rattle.std.specs.Prelude.{ℕ, cond, List, eqb, length, replicate}
use Rattle.tables.specs.declared.Tables.{Tables}
use Rattle.tables.specs.Names.{empty_tables}
use Rattle.machine.specs.State.{State}

abbrev pub empty_store : List ℕ
empty_store = replicate 16384 0

pub record Emptied : Type 0 where
  pub result : ℕ
  pub tables : Tables
  pub store : List ℕ

unfoldable pub emptied : List ℕ → Emptied
emptied store =
    let empty : Emptied = record { result = 0; tables = empty_tables; store = empty_store } in
    let refused : Emptied = record { result = 13; tables = empty_tables; store = store } in
    cond (eqb (length store) 16384) empty refused

-- the tables and store that emptying leaves, with a sheet buffer of zeros
unfoldable pub empty_dock : State
empty_dock = record { tables = empty_tables; store = empty_store; sheet = replicate 64 0 }

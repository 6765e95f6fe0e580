-- Op 1, take (count, rights): its refusals in order, the tables after, and the whole outcome.
use Rattle.std.specs.Prelude.{ℕ, not}
use Rattle.rights.specs.Rules.{rights_of}
use Rattle.tables.specs.declared.Tables.{Tables}
use Rattle.tables.specs.declared.Kind.TheVariants.{Taken}
use Rattle.tables.specs.Names.{no_name, head_ticket, entry_for}
use Rattle.tables.specs.Sheets.{has_run}
use Rattle.tables.specs.Change.{has_place, new_name, give, put_entry}
use Rattle.best_fit.specs.BestFit.{best_fit}
use Rattle.machine.specs.declared.Request.{Request}
use Rattle.machine.specs.State.{State, Outcome, accepted, clear_sheets}
use Rattle.machine.specs.Refusal.{◌when◌else◌, is_spent}

-- "9 no free place; 10 last number is 65,535; 11 no run of count sheets lies outside all entries."
unfoldable pub take_refusal : Tables → Request → ℕ
take_refusal t r =
    9 when not (has_place t r.pad r.program) else
    10 when is_spent t r.pad r.program else
    11 when not (has_run t.entries r.count) else
    0

-- "an entry made under the store, a taken grant given."
unfoldable pub take_tables : Tables → Request → Tables
take_tables t r =
    let n = new_name t r.pad r.program in
    let first = best_fit t.entries r.count in
    let rights = rights_of r.rights in
    put_entry (give t r.pad r.program (head_ticket Taken n first r.count rights)) (entry_for n no_name first r.count rights)

-- "Otherwise the .. run is taken, its bytes set to 0"; 02, 5/13 says which
unfoldable pub after_take : State → Request → Outcome
after_take s r =
    accepted
    (record {
      tables = take_tables s.tables r;
      store = clear_sheets (best_fit s.tables.entries r.count) r.count s.store;
      sheet = s.sheet;
    })
    (new_name s.tables r.pad r.program).number
    0

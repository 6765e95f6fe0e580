-- What is decided of a take, and what was found for that.
use Rattle.std.specs.Prelude.{◌≡◌, Result, IfOk}
use Rattle.tables.specs.declared.Tables.{Tables}
use Rattle.tables.specs.Change.{new_name}
use Rattle.best_fit.specs.BestFit.{best_fit}
use Rattle.machine.specs.declared.{Request.Request, Refusal.Refusal}
use Rattle.machine.specs.Refusal.{said}
use Rattle.machine.specs.Take.{take_refusal}
use Rattle.op_take.specs.declared.Granted.{Granted}

pub record Decides (t : Tables) (r : Request) (d : Result Granted Refusal) : Type 0 where
  pub result : said d ≡ take_refusal t r
  -- where it is accepted
  pub number : IfOk d (λ granted. granted.number ≡ (new_name t r.pad r.program).number)
  pub first : IfOk d (λ granted. granted.first ≡ best_fit t.entries r.count)

-- What is decided of a pass, and what was found for that.
use Rattle.std.specs.Prelude.{◌≡◌, Result, IfOk}
use Rattle.tables.specs.declared.Tables.{Tables}
use Rattle.tables.specs.Change.{new_name}
use Rattle.machine.specs.declared.{Request.Request, Refusal.Refusal}
use Rattle.machine.specs.State.{asked}
use Rattle.machine.specs.Refusal.{said}
use Rattle.machine.specs.Pass.{pass_refusal}
use Rattle.op_outcome.specs.declared.Decision.{Decision}
use Rattle.op_pass.specs.declared.Numbers.{Numbers}

pub record DecidesFor (t : Tables) (r : Request) (d : Result Numbers Refusal) : Type 0 where
  pub result : said d ≡ pass_refusal t r
  -- where it is accepted
  pub own : IfOk d (λ numbers. numbers.own ≡ (new_name t r.pad r.program).number)
  pub other : IfOk d (λ numbers. numbers.other ≡ (new_name t r.topad r.toprogram).number)

-- the same with the ticket asked for
pub record Decides (t : Tables) (r : Request) (d : Decision Numbers) : Type 0 where
  pub ticket : asked t r ≡ d.ticket
  pub found : DecidesFor t r d.found

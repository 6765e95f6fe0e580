-- What is decided of a read or a write, and what was found for that.
use Rattle.std.specs.Prelude.{ℕ, ◌≡◌, Result, IfOk}
use Rattle.tables.specs.declared.Tables.{Tables}
use Rattle.machine.specs.declared.{Request.Request, Refusal.Refusal}
use Rattle.machine.specs.State.{asked}
use Rattle.machine.specs.Refusal.{said}
use Rattle.machine.specs.Access.{sheet_of, access_refusal}
use Rattle.op_outcome.specs.declared.Decision.{Decision}

pub record DecidesFor (right : ℕ) (t : Tables) (r : Request) (d : Result ℕ Refusal) : Type 0 where
  pub result : said d ≡ access_refusal right t r
  -- where it is accepted
  pub sheet : IfOk d (λ sheet. sheet ≡ sheet_of t r)

-- the same with the ticket asked for
pub record Decides (right : ℕ) (t : Tables) (r : Request) (d : Decision ℕ) : Type 0 where
  pub ticket : asked t r ≡ d.ticket
  pub found : DecidesFor right t r d.found

-- What is decided of a request for a ticket, and what was found for that.
use Rattle.std.specs.Prelude.{ℕ, ◌≡◌}
use Rattle.tables.specs.declared.Tables.{Tables}
use Rattle.machine.specs.declared.Request.{Request}
use Rattle.machine.specs.State.{asked}
use Rattle.machine.specs.Refusal.{said}
use Rattle.op_outcome.specs.declared.Decision.{Decision}

pub record Decides {A : Type 0} (refusal : Tables → Request → ℕ) (t : Tables) (r : Request) (d : Decision A) : Type 0 where
  pub result : said d.found ≡ refusal t r
  pub ticket : asked t r ≡ d.ticket

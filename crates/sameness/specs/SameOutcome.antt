-- Two outcomes that agree in all that counts: the same answer, the same store and sheet buffer, and the same tables in the sense of
-- document 01, where "the place where a ticket or entry is kept, and what a free place holds, don't count".
use Rattle.std.specs.Prelude.{◌≡◌}
use Rattle.tables.specs.Same.{SameTables}
use Rattle.machine.specs.State.{Outcome}

pub record SameOutcome (o p : Outcome) : Type 0 where
  pub answer : o.answer ≡ p.answer
  pub store : o.state.store ≡ p.state.store
  pub sheet : o.state.sheet ≡ p.state.sheet
  pub tables : SameTables o.state.tables p.state.tables

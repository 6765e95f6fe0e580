-- A refusal of a request for a ticket: what it needs of the tables, and what it leaves.
use Rattle.std.specs.Prelude.{ℕ, ◌≡◌, true, cond, List, eqb}
use Rattle.tables.specs.declared.{Ticket.Ticket, Tables.Tables}
use Rattle.tables.specs.Kinds.{is_head}
use Rattle.tables.specs.Lookup.{lookup}
use Rattle.tables.specs.Chains.{at_or_under}
use Rattle.tables.specs.Change.{drop_tickets}
use Rattle.machine.specs.declared.Answer.{Answer}
use Rattle.image_write.specs.Shows.{Holds}
use Rattle.op_outcome.specs.Outcomes.{plainly}
use Rattle.op_outcome.specs.Ready.{Ready}

pub record MayRefuse (t : Tables) (result : ℕ) (k : Ticket) : Type 0 where
  pub ready : Ready t
  -- T3: the dock name of a grant is that of its chain's head
  pub head : result ≡ 12 → is_head (lookup t k.dock).kind ≡ true

-- "Every refusal leaves tables .. untouched, except 12": then "the taken or received grant that heads the chain, and all under it" go
unfoldable pub after_refusal : Tables → ℕ → Ticket → Tables
after_refusal t result k = cond (eqb result 12) (drop_tickets (at_or_under t k.dock) t) t

pub record Refuses (t : Tables) (result : ℕ) (k : Ticket) (a : Answer) (image : List ℕ) : Type 0 where
  pub answer : a ≡ plainly result
  pub holds : Holds image (after_refusal t result k)

-- Sequences of requests: "each gets the tables and the store exactly as the one before it left them". Then a group's part in one.
use Rattle.std.specs.Prelude.{ℕ, ◌≡◌, Bool, not, ◌&&◌, cond, List, [], ◌∷◌, eqb, length}
use Rattle.std.specs.Bool.{xor}
use Rattle.lists.specs.Lists.{all}
use Rattle.tables.specs.Names.{is_program}
use Rattle.machine.specs.declared.{Request.Request, Answer.Answer}
use Rattle.machine.specs.State.{State, Outcome}
use Rattle.machine.specs.Step.{step}

-- "each with its numbers and the 64 bytes of a sheet buffer of its own"
pub record Sent : Type 0 where
  pub request : Request
  pub sheet : List ℕ
  pub whole : length sheet ≡ 64

-- the tables and the store as they were left, with the request's own sheet buffer
unfoldable pub enter : State → Sent → State
enter s i = record { tables = s.tables; store = s.store; sheet = i.sheet }

-- the state that a sequence leaves
unfoldable pub after : State → List Sent → State
after s [] = s
after s (i ∷ is) = after (step (enter s i) i.request).state is

-- ---- "A group is any set of the 32 programs, none and all included": a test of pad and program
abbrev pub Group : Type 0
Group = ℕ → ℕ → Bool

-- "a request with an impossible sender is the others'"
unfoldable pub from_group : Group → Request → Bool
from_group g r = is_program r.pad r.program && g r.pad r.program

-- "A pass crosses the edge when sender and recipient are among the 32 and only one is in the group; refused ones count."
unfoldable pub crosses : Group → Request → Bool
crosses g r =
    eqb r.op 2 && is_program r.pad r.program && is_program r.topad r.toprogram
    && xor (g r.pad r.program) (g r.topad r.toprogram)

unfoldable pub none_crosses : Group → List Sent → Bool
none_crosses g is = all (λ i. not (crosses g i.request)) is

-- ---- a request of the group's, with its answer and the sheet buffer that it leaves
pub record Exchange : Type 0 where
  pub sent : Sent
  pub answer : Answer
  pub left : List ℕ

unfoldable pub exchange : Sent → Outcome → Exchange
exchange i o = record { sent = i; answer = o.answer; left = o.state.sheet }

-- the group's exchanges of a sequence from the state s, in their order
unfoldable pub group_exchanges : Group → State → List Sent → List Exchange
group_exchanges g s [] = []
group_exchanges g s (i ∷ is) =
    let o = step (enter s i) i.request in
    let later = group_exchanges g o.state is in
    cond (from_group g i.request) (exchange i o ∷ later) later

-- Requests served one after the other: "each gets the tables and the store exactly as the one before it left them", and has a sheet
-- buffer of its own.
use Rattle.std.specs.Prelude.{ℕ, zero, suc, ◌*◌, ◌≡◌, List, length}
use Rattle.lists.specs.Parts.{joined}
use Rattle.tables.specs.declared.Tables.{Tables}
use Rattle.machine.specs.State.{State, Outcome, sheet_at, state_of}
use Rattle.machine.specs.Numbers.{request_width, answer_width, answer_numbers}
use Rattle.machine.specs.Step.{step}
use Rattle.image.specs.Image.{encode, decode}
use Rattle.lending.specs.Numbers.{request_at}

-- what the first request meets, and all that is sent: the requests' numbers, and a sheet buffer of 64 bytes for each
pub record Start : Type 0 where
  pub tables : Tables
  pub store : List ℕ
  pub sheets : List ℕ
  pub requests : List ℕ

-- what the i-th request meets
unfoldable pub met : Start → ℕ → State
met b zero = state_of b.tables b.store (sheet_at 0 b.sheets)
met b (suc i) =
    let left = (step (met b i) (request_at i b.requests)).state in
    state_of left.tables left.store (sheet_at (suc i) b.sheets)

-- its answer, and what it leaves
unfoldable pub outcome_at : Start → ℕ → Outcome
outcome_at b i = step (met b i) (request_at i b.requests)

-- the sheet buffers and the answers of the first n, one behind the other
abbrev pub sheets_of : Start → ℕ → List ℕ
sheets_of b n = joined n (λ i. (outcome_at b i).state.sheet)

abbrev pub answers_of : Start → ℕ → List ℕ
answers_of b n = joined n (λ i. answer_numbers (outcome_at b i).answer)

-- ---- contracts
abbrev pub start_with : Tables → List ℕ → List ℕ → List ℕ → Start
start_with tables store sheets requests = record { tables = tables; store = store; sheets = sheets; requests = requests }

-- the buffers for n requests have the lengths that they must have
pub record Whole (n : ℕ) (store' sheets' requests' answers' : List ℕ) : Type 0 where
  pub store : length store' ≡ 16384
  pub sheets : length sheets' ≡ 64 * n
  pub requests : length requests' ≡ request_width * n
  pub answers : length answers' ≡ answer_width * n

-- what n requests leave, field by field, the tables as their image
pub record AllServed (b : Start) (n : ℕ) (tables' store' sheets' answers' : List ℕ) : Type 0 where
  pub tables : tables' ≡ encode (met b n).tables
  pub decoded : decode tables' ≡ (met b n).tables
  pub store : store' ≡ (met b n).store
  pub sheets : sheets' ≡ sheets_of b n
  pub answers : answers' ≡ answers_of b n

-- What a request meets and what it leaves: the tables, the store, and the sheet buffer.
use Rattle.std.specs.Prelude.{ℕ, ◌+◌, ◌*◌, List, ◌++◌, length, take, drop, replicate}
use Rattle.tables.specs.declared.{Name.Name, Ticket.Ticket, Tables.Tables}
use Rattle.tables.specs.Names.{name_of}
use Rattle.tables.specs.Lookup.{lookup}
use Rattle.machine.specs.declared.{Request.Request, Answer.Answer}

pub record State : Type 0 where
  pub tables : Tables
  pub store : List ℕ
  pub sheet : List ℕ

pub record Outcome : Type 0 where
  pub answer : Answer
  pub state : State

-- "The answer is: result (0 or a refusal), the asker's new number, the recipient's new number; 0 where there is none."
abbrev pub answer_of : ℕ → ℕ → ℕ → Answer
answer_of result ticket recipient = record { result = result; ticket = ticket; recipient = recipient }

-- accepted, with the new numbers of asker and recipient
unfoldable pub accepted : State → ℕ → ℕ → Outcome
accepted s ticket recipient = record { answer = answer_of 0 ticket recipient; state = s }

unfoldable pub refused : State → ℕ → Outcome
refused s result = record { answer = answer_of result 0 0; state = s }

unfoldable pub with_tables : State → Tables → State
with_tables s t = record { tables = t; store = s.store; sheet = s.sheet }

-- ---- "The store is 256 sheets of 64 bytes"
unfoldable pub sheet_at : ℕ → List ℕ → List ℕ
sheet_at sheet store = take 64 (drop (64 * sheet) store)

-- the store with the bytes laid over it from a sheet's start on
unfoldable pub put_sheets : ℕ → List ℕ → List ℕ → List ℕ
put_sheets first bytes store = take (64 * first) store ++ bytes ++ drop (64 * first + length bytes) store

unfoldable pub clear_sheets : ℕ → ℕ → List ℕ → List ℕ
clear_sheets first count store = put_sheets first (replicate (64 * count) 0) store

-- ---- the ticket that a request names: always one of the asker's own
abbrev pub asked_name : Request → Name
asked_name r = name_of r.pad r.program r.ticket

abbrev pub asked : Tables → Request → Ticket
asked t r = lookup t (asked_name r)

-- ---- what a caller lends: the tables with the store and the sheet buffer
abbrev pub state_of : Tables → List ℕ → List ℕ → State
state_of t store sheet = record { tables = t; store = store; sheet = sheet }

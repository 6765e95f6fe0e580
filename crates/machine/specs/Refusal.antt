-- Refusals are numbers. A list of them in document 01 is a chain of `when .. else`: the first test that passes gives the answer,
-- and 0 at the end says accepted. The same chain decides answer, tables, store and sheet buffer.
use Rattle.std.specs.Prelude.{ℕ, Bool, true, false, Result, Ok, Err, leb}
use Rattle.tables.specs.declared.Tables.{Tables}
use Rattle.tables.specs.Lookup.{last_of}
use Rattle.machine.specs.declared.Refusal.{Refusal}
use Rattle.machine.specs.declared.Refusal.TheVariants.{NoProgram, NoOperation, Field, NoTicket, WrongKind, Beyond, RightLacking, ToOneself, NoPlace, NoNumber, NoRun, NoEntry, Length, NotInOrder, OtherForm, Scratch, TooShort, BadText}

-- the papers' number of each refusal that the code names
abbrev pub number_of : Refusal → ℕ
number_of NoProgram = 1
number_of NoOperation = 2
number_of Field = 3
number_of NoTicket = 4
number_of WrongKind = 5
number_of Beyond = 6
number_of RightLacking = 7
number_of ToOneself = 8
number_of NoPlace = 9
number_of NoNumber = 10
number_of NoRun = 11
number_of NoEntry = 12
number_of Length = 13
number_of NotInOrder = 14
number_of OtherForm = 15
number_of Scratch = 16
number_of TooShort = 17
number_of BadText = 18

-- what a call says: 0 where it is done, or its refusal's number
abbrev pub said : {A : Type 0} → Result A Refusal → ℕ
said (Ok x) = 0
said (Err refusal) = number_of refusal

-- the length that an answer carries: "0 with a refusal"
abbrev pub length_said : Result ℕ Refusal → ℕ
length_said (Ok length) = length
length_said (Err refusal) = 0

infixr 10 ◌when◌else◌
unfoldable pub ◌when◌else◌ : ℕ → Bool → ℕ → ℕ
n when true else later = n
n when false else later = later

-- "10 last number is 65,535"
unfoldable pub is_spent : Tables → ℕ → ℕ → Bool
is_spent t pad program = leb 65535 (last_of t pad program)

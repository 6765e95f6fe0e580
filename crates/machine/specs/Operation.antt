-- The six operations by their numbers, and the fields that each uses.
use Rattle.std.specs.Prelude.{ℕ, Bool, true, false, ◌&&◌, cond, eqb}
use Rattle.lists.specs.Tests.{between}
use Rattle.machine.specs.declared.Request.{Request}

pub data Operation : Type 0 where
  taking : Operation
  passing : Operation
  recalling : Operation
  giving_back : Operation
  reading : Operation
  writing : Operation

-- op 1 take, 2 pass, 3 recall, 4 give back, 5 read, 6 write; other numbers are refused before they are looked up here
unfoldable pub operation_of : ℕ → Operation
operation_of op =
    cond (eqb op 1) taking
    (cond (eqb op 2) passing (cond (eqb op 3) recalling (cond (eqb op 4) giving_back (cond (eqb op 5) reading writing))))

-- which fields an operation uses; the recipient is to-pad and to-program
pub record Fields : Type 0 where
  pub ticket : Bool
  pub recipient : Bool
  pub first : Bool
  pub count : Bool
  pub rights : Bool

unfoldable pub used_by : Operation → Fields
used_by taking = record { ticket = false; recipient = false; first = false; count = true; rights = true }
used_by passing = record { ticket = true; recipient = true; first = true; count = true; rights = true }
used_by recalling = record { ticket = true; recipient = false; first = false; count = false; rights = false }
used_by giving_back = record { ticket = true; recipient = false; first = false; count = false; rights = false }
used_by reading = record { ticket = true; recipient = false; first = true; count = false; rights = false }
used_by writing = record { ticket = true; recipient = false; first = true; count = false; rights = false }

-- "A field not used by the op must be 0."
unfoldable pub field_ok : Bool → ℕ → ℕ → ℕ → Bool
field_ok used low high x = cond used (between low high x) (eqb x 0)

-- "Ranges where used: ticket 1 to 65,535, to-pad 0 to 3, to-program 0 to 7, first 0 to 255, count 1 to 256, rights 1 to 7."
unfoldable pub fields_ok : Fields → Request → Bool
fields_ok used r =
    field_ok used.ticket 1 65535 r.ticket && field_ok used.recipient 0 3 r.topad && field_ok used.recipient 0 7 r.toprogram
    && field_ok used.first 0 255 r.first && field_ok used.count 1 256 r.count && field_ok used.rights 1 7 r.rights

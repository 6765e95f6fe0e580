-- A line of the saved text: its columns, and what it must be by itself.
use Rattle.std.specs.Prelude.{ℕ, ◌+◌, ◌*◌, Bool, ◌&&◌, ◌||◌, List, [], ◌∷◌, leb, eqb, get_or}
use Rattle.lists.specs.Tests.{between}
use Rattle.tables.specs.declared.Name.{Name}
use Rattle.tables.specs.Names.{name_of, is_program, same_program}
use Rattle.text.specs.Bytes.{bytes}
use Rattle.text.specs.Reading.{has_values, values_of}
use Rattle.saved.specs.declared.Row.{Row}

-- "The names are kind, pad, program, number, own, opad, oprogram, onumber, first, count, rights."
unfoldable pub column_names : List ℕ
column_names = bytes "kind pad program number own opad oprogram onumber first count rights"

-- how many columns a line has
abbrev pub columns : ℕ
columns = 11

abbrev pub row_of : List ℕ → Row
row_of values = record {
  kind = get_or values 0 0;
  pad = get_or values 1 0;
  program = get_or values 2 0;
  number = get_or values 3 0;
  own = get_or values 4 0;
  other = name_of (get_or values 5 0) (get_or values 6 0) (get_or values 7 0);
  first = get_or values 8 0;
  count = get_or values 9 0;
  rights = get_or values 10 0;
}

abbrev pub columns_of : Row → List ℕ
columns_of r =
    r.kind ∷ r.pad ∷ r.program ∷ r.number ∷ r.own ∷ r.other.pad ∷ r.other.program ∷ r.other.number ∷ r.first ∷ r.count
    ∷ r.rights ∷ []

-- the ticket or entry that the line is about
abbrev pub name_in : Row → Name
name_in r = name_of r.pad r.program r.number

-- ---- kinds: "Kind 0 gives a program's last number"; "Kinds 1, 2, 3 and 4 are taken, received, child and recall; kind 5 is an entry."
unfoldable pub is_last_row : Row → Bool
is_last_row r = eqb r.kind 0

unfoldable pub is_ticket_row : Row → Bool
is_ticket_row r = between 1 4 r.kind

unfoldable pub is_entry_row : Row → Bool
is_entry_row r = eqb r.kind 5

unfoldable pub of_program : ℕ → ℕ → Row → Bool
of_program pad program r = same_program r.pad r.program pad program

-- ---- "What a kind doesn't use is 0."
unfoldable pub zero_unless : Bool → ℕ → Bool
zero_unless used value = used || eqb value 0

-- "Own is the number of a recall's grant."
unfoldable pub own_ok : Row → Bool
own_ok r = zero_unless (eqb r.kind 4) r.own

-- "The three o-columns give a child's parent, a recall's target or an entry's parent"
unfoldable pub other_ok : Row → Bool
other_ok r =
    let used = between 3 5 r.kind in
    zero_unless used r.other.pad && zero_unless used r.other.program && zero_unless used r.other.number

-- grants and entries have sheets and rights
unfoldable pub sheets_ok : Row → Bool
sheets_ok r =
    let used = between 1 3 r.kind || eqb r.kind 5 in
    zero_unless used r.first && zero_unless used r.count && zero_unless used r.rights

-- 18: "a kind above 5, pad or opad above 3, program or oprogram above 7"
unfoldable pub row_ok : Row → Bool
row_ok r =
    leb r.kind 5 && is_program r.pad r.program && is_program r.other.pad r.other.program
    && own_ok r && other_ok r && sheets_ok r

-- 18: "another form"
unfoldable pub line_ok : List ℕ → Bool
line_ok line = let r = row_of (values_of line) in has_values columns line && row_ok r

-- ---- "Lines stand by kind, pad, program, number": as the digits of one number
unfoldable pub key : Row → ℕ
key r = ((r.kind * 4 + r.pad) * 8 + r.program) * 65536 + r.number

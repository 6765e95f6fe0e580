-- Texts loaded and saved, computed from the definitions: every refusal on both sides of its edge, and that a text that loads is saved as it was.
-- The results are those of an independent model of the rules.
use Prim.Native.Nat.{ℕ}
use Prim.Native.String.{String}
use mathlib.Core.Path.{◌≡◌, refl}
use mathlib.Core.Bool.{cond}
use mathlib.Core.List.{List, [], ◌∷◌, ◌++◌, map, flat_map}
use lib.ListN.{take}
use Rattle.lists.specs.Tests.{implies, between}
use Rattle.lists.specs.Lists.{first_index, all, some, keep, count_of, no_two, all_at, some_at, filled, put_into, sorted_by}
use Rattle.lists.specs.Parts.{tabulate}
use Rattle.rights.specs.Rules.{within}
use Rattle.tables.specs.Names.{eq_name, is_program, same_program}
use Rattle.tables.specs.Lookup.{has_number, ticket_in, lookup, is_named, entry_in}
use Rattle.tables.specs.Chains.{end_of}
use Rattle.tables.specs.Sheets.{apart, inside}
use Rattle.tables.specs.Order.{every_ticket_of, every_ticket, some_ticket_of, some_ticket, every_entry, numbers_ok, t1, span_ok, t2, parent_ok, child_ok, t3, t4}
use Rattle.tables.specs.Order.{entry_names_ok, grant_ok, parent_entry_ok, entry_ok, roots_ok, t5, recall_parent_ok, is_child_of, far_target_ok, target_ok, recall_ok, t6, in_order}
use Rattle.tables.specs.Same.{said_by, said_entry}
use Rattle.image.specs.Image.{kind_of}
use Rattle.machine.specs.Refusal.{◌when◌else◌}
use Rattle.text.specs.Bytes.{bytes, line_end, same_bytes}
use Rattle.text.specs.Reading.{in_front, cut, lines, fields, is_digit, number_from, is_number, no_leading_zero, is_value, has_values, values_of}
use Rattle.text.specs.Names.{named, behind_names}
use Rattle.text.specs.Writing.{digits, places, decimal, behind, values_line}
use Rattle.saved.specs.Row.{column_names, is_last_row, is_ticket_row, is_entry_row, of_program, zero_unless, own_ok, other_ok, sheets_ok, row_ok, line_ok, key}
use Rattle.saved.specs.Save.{programs, last_row, ticket_row, ticket_rows, entry_row, rows_found, rows_of, text_of, saved}
use Rattle.saved.specs.Load.{above, last_of_program, ticket_of_program, has_room, may_follow, all_follow, is_ended, all_programs, form_ok}
use Rattle.saved.specs.Load.{ticket_from, entry_from, program_from, tables_with, tables_from, last_in, tables_in, load_refusal, load}

-- ---- texts
abbrev pub names : String
names = "kind pad program number own opad oprogram onumber first count rights"

-- the text of an emptied dock, by lines
unfoldable pub emptied : List String
emptied =
    names ∷
    "0 0 0 0 0 0 0 0 0 0 0" ∷ "0 0 1 0 0 0 0 0 0 0 0" ∷ "0 0 2 0 0 0 0 0 0 0 0" ∷ "0 0 3 0 0 0 0 0 0 0 0" ∷ "0 0 4 0 0 0 0 0 0 0 0" ∷
    "0 0 5 0 0 0 0 0 0 0 0" ∷ "0 0 6 0 0 0 0 0 0 0 0" ∷ "0 0 7 0 0 0 0 0 0 0 0" ∷ "0 1 0 0 0 0 0 0 0 0 0" ∷ "0 1 1 0 0 0 0 0 0 0 0" ∷
    "0 1 2 0 0 0 0 0 0 0 0" ∷ "0 1 3 0 0 0 0 0 0 0 0" ∷ "0 1 4 0 0 0 0 0 0 0 0" ∷ "0 1 5 0 0 0 0 0 0 0 0" ∷ "0 1 6 0 0 0 0 0 0 0 0" ∷
    "0 1 7 0 0 0 0 0 0 0 0" ∷ "0 2 0 0 0 0 0 0 0 0 0" ∷ "0 2 1 0 0 0 0 0 0 0 0" ∷ "0 2 2 0 0 0 0 0 0 0 0" ∷ "0 2 3 0 0 0 0 0 0 0 0" ∷
    "0 2 4 0 0 0 0 0 0 0 0" ∷ "0 2 5 0 0 0 0 0 0 0 0" ∷ "0 2 6 0 0 0 0 0 0 0 0" ∷ "0 2 7 0 0 0 0 0 0 0 0" ∷ "0 3 0 0 0 0 0 0 0 0 0" ∷
    "0 3 1 0 0 0 0 0 0 0 0" ∷ "0 3 2 0 0 0 0 0 0 0 0" ∷ "0 3 3 0 0 0 0 0 0 0 0" ∷ "0 3 4 0 0 0 0 0 0 0 0" ∷ "0 3 5 0 0 0 0 0 0 0 0" ∷
    "0 3 6 0 0 0 0 0 0 0 0" ∷ "0 3 7 0 0 0 0 0 0 0 0" ∷ []

-- the line that begins as this one does, with kind, pad and program; else this one
unfoldable pub renewed : List String → String → String
renewed [] line = line
renewed (new ∷ later) line = cond (same_bytes (take 5 (bytes new)) (take 5 (bytes line))) new (renewed later line)

-- an emptied dock's lines but for the last numbers given, and further lines
unfoldable pub lines_of : List String → List String → List String
lines_of lasts further = map (renewed lasts) emptied ++ further

-- the lines `new` in the place of the line `old`
unfoldable pub instead : String → List String → List String → List String
instead old new [] = []
instead old new (line ∷ later) = cond (same_bytes (bytes line) (bytes old)) (new ++ later) (line ∷ instead old new later)

-- lines, each ended by byte 10
unfoldable pub ended : List String → List ℕ
ended [] = []
ended (line ∷ later) = bytes line ++ line_end ∷ ended later

-- ---- a program that took four sheets, lent two of them to a child of its pad and one off the pad
abbrev pub last : String
last = "0 0 0 3 0 0 0 0 0 0 0"

abbrev pub taken : String
taken = "1 0 0 1 0 0 0 0 0 4 7"

abbrev pub received : String
received = "2 1 0 1 0 0 0 0 0 1 1"

abbrev pub child : String
child = "3 0 1 1 0 0 0 1 0 2 1"

abbrev pub recall : String
recall = "4 0 0 2 1 0 1 1 0 0 0"

abbrev pub far_recall : String
far_recall = "4 0 0 3 1 1 0 1 0 0 0"

abbrev pub root : String
root = "5 0 0 1 0 0 0 0 0 4 7"

abbrev pub entry : String
entry = "5 1 0 1 0 0 0 1 0 1 1"

unfoldable pub whole : List String
whole =
    lines_of (last ∷ "0 0 1 1 0 0 0 0 0 0 0" ∷ "0 1 0 1 0 0 0 0 0 0 0" ∷ [])
    (taken ∷ received ∷ child ∷ recall ∷ far_recall ∷ root ∷ entry ∷ [])

-- ---- further texts: a child of a child
unfoldable pub two_deep : List String
two_deep =
    lines_of ("0 0 0 2 0 0 0 0 0 0 0" ∷ "0 0 1 2 0 0 0 0 0 0 0" ∷ "0 0 2 1 0 0 0 0 0 0 0" ∷ [])
    ("1 0 0 1 0 0 0 0 0 4 7" ∷ "3 0 1 1 0 0 0 1 0 2 7" ∷ "3 0 2 1 0 0 1 1 0 1 7" ∷ "4 0 0 2 1 0 1 1 0 0 0" ∷ "4 0 1 2 1 0 2 1 0 0 0" ∷
    "5 0 0 1 0 0 0 0 0 4 7" ∷ [])

-- a program with eight tickets
abbrev pub eighth : String
eighth = "1 2 0 8 0 0 0 0 17 1 7"

unfoldable pub eight : List String
eight =
    lines_of (last ∷ "0 0 1 1 0 0 0 0 0 0 0" ∷ "0 1 0 1 0 0 0 0 0 0 0" ∷ "0 2 0 9 0 0 0 0 0 0 0" ∷ [])
    (taken ∷ "1 2 0 1 0 0 0 0 10 1 7" ∷ "1 2 0 2 0 0 0 0 11 1 7" ∷ "1 2 0 3 0 0 0 0 12 1 7" ∷ "1 2 0 4 0 0 0 0 13 1 7" ∷
    "1 2 0 5 0 0 0 0 14 1 7" ∷ "1 2 0 6 0 0 0 0 15 1 7" ∷ "1 2 0 7 0 0 0 0 16 1 7" ∷ eighth ∷ received ∷
    child ∷ recall ∷ far_recall ∷ root ∷ entry ∷
    "5 2 0 1 0 0 0 0 10 1 7" ∷ "5 2 0 2 0 0 0 0 11 1 7" ∷ "5 2 0 3 0 0 0 0 12 1 7" ∷ "5 2 0 4 0 0 0 0 13 1 7" ∷ "5 2 0 5 0 0 0 0 14 1 7" ∷
    "5 2 0 6 0 0 0 0 15 1 7" ∷ "5 2 0 7 0 0 0 0 16 1 7" ∷ "5 2 0 8 0 0 0 0 17 1 7" ∷ [])

-- loans to and fro between seven programs, after a random trace; a parent on pad 3
unfoldable pub loans : List String
loans =
    lines_of ("0 0 5 6 0 0 0 0 0 0 0" ∷ "0 1 2 7 0 0 0 0 0 0 0" ∷ "0 1 3 6 0 0 0 0 0 0 0" ∷ "0 1 7 5 0 0 0 0 0 0 0" ∷ "0 2 0 5 0 0 0 0 0 0 0" ∷
    "0 3 1 9 0 0 0 0 0 0 0" ∷ "0 3 4 11 0 0 0 0 0 0 0" ∷ [])
    ("1 0 5 5 0 0 0 0 18 1 4" ∷ "1 1 2 1 0 0 0 0 0 5 2" ∷ "1 1 2 6 0 0 0 0 19 1 7" ∷ "1 1 3 6 0 0 0 0 20 4 7" ∷ "1 1 7 1 0 0 0 0 5 2 3" ∷
    "1 2 0 2 0 0 0 0 8 5 3" ∷ "1 3 4 1 0 0 0 0 7 1 7" ∷ "1 3 4 9 0 0 0 0 13 5 4" ∷ "1 3 4 10 0 0 0 0 24 5 7" ∷ "2 0 5 1 0 0 0 0 7 1 4" ∷
    "2 0 5 2 0 0 0 0 7 1 4" ∷ "2 0 5 3 0 0 0 0 7 1 4" ∷ "2 0 5 6 0 0 0 0 19 1 7" ∷ "2 1 3 1 0 0 0 0 7 1 4" ∷ "2 1 7 2 0 0 0 0 7 1 4" ∷
    "2 2 0 1 0 0 0 0 7 1 4" ∷ "2 2 0 3 0 0 0 0 7 1 4" ∷ "2 2 0 4 0 0 0 0 7 1 4" ∷ "2 3 1 1 0 0 0 0 7 1 4" ∷ "2 3 1 5 0 0 0 0 7 1 4" ∷
    "2 3 4 3 0 0 0 0 7 1 4" ∷ "3 3 4 11 0 3 1 5 7 1 4" ∷ "4 1 2 7 6 0 5 6 0 0 0" ∷ "4 1 3 2 1 2 0 1 0 0 0" ∷ "4 1 3 3 1 3 1 1 0 0 0" ∷
    "4 1 3 4 1 3 4 3 0 0 0" ∷ "4 1 3 5 1 2 0 3 0 0 0" ∷ "4 1 7 3 2 0 5 1 0 0 0" ∷ "4 1 7 4 2 3 1 5 0 0 0" ∷ "4 3 1 2 1 1 7 2 0 0 0" ∷
    "4 3 1 3 1 0 5 2 0 0 0" ∷ "4 3 1 6 5 0 5 3 0 0 0" ∷ "4 3 1 9 5 3 4 11 0 0 0" ∷ "4 3 4 2 1 1 3 1 0 0 0" ∷ "4 3 4 8 3 2 0 4 0 0 0" ∷
    "5 0 5 1 0 1 7 2 7 1 4" ∷ "5 0 5 2 0 3 1 1 7 1 4" ∷ "5 0 5 3 0 3 1 5 7 1 4" ∷ "5 0 5 5 0 0 0 0 18 1 4" ∷ "5 0 5 6 0 1 2 6 19 1 7" ∷
    "5 1 2 1 0 0 0 0 0 5 2" ∷ "5 1 2 6 0 0 0 0 19 1 7" ∷ "5 1 3 1 0 3 4 1 7 1 4" ∷ "5 1 3 6 0 0 0 0 20 4 7" ∷ "5 1 7 1 0 0 0 0 5 2 3" ∷
    "5 1 7 2 0 3 1 1 7 1 4" ∷ "5 2 0 1 0 1 3 1 7 1 4" ∷ "5 2 0 2 0 0 0 0 8 5 3" ∷ "5 2 0 3 0 1 3 1 7 1 4" ∷ "5 2 0 4 0 3 4 3 7 1 4" ∷
    "5 3 1 1 0 1 3 1 7 1 4" ∷ "5 3 1 5 0 1 7 2 7 1 4" ∷ "5 3 4 1 0 0 0 0 7 1 7" ∷ "5 3 4 3 0 1 3 1 7 1 4" ∷ "5 3 4 9 0 0 0 0 13 5 4" ∷
    "5 3 4 10 0 0 0 0 24 5 7" ∷ [])

-- and between five, over all four pads
unfoldable pub rings : List String
rings =
    lines_of ("0 0 2 6 0 0 0 0 0 0 0" ∷ "0 1 2 5 0 0 0 0 0 0 0" ∷ "0 2 6 8 0 0 0 0 0 0 0" ∷ "0 3 0 9 0 0 0 0 0 0 0" ∷ "0 3 3 5 0 0 0 0 0 0 0" ∷ [])
    ("1 0 2 1 0 0 0 0 0 3 7" ∷ "1 1 2 1 0 0 0 0 3 1 7" ∷ "1 1 2 3 0 0 0 0 7 3 7" ∷ "1 3 0 1 0 0 0 0 10 3 7" ∷ "1 3 0 8 0 0 0 0 16 100 7" ∷
    "1 3 3 1 0 0 0 0 4 3 7" ∷ "1 3 3 2 0 0 0 0 13 3 7" ∷ "2 0 2 3 0 0 0 0 3 1 7" ∷ "2 0 2 4 0 0 0 0 3 1 7" ∷ "2 0 2 6 0 0 0 0 3 1 7" ∷
    "2 2 6 1 0 0 0 0 3 1 7" ∷ "2 2 6 3 0 0 0 0 3 1 7" ∷ "2 2 6 8 0 0 0 0 3 1 7" ∷ "2 3 0 2 0 0 0 0 3 1 7" ∷ "2 3 0 5 0 0 0 0 3 1 1" ∷
    "2 3 0 7 0 0 0 0 3 1 7" ∷ "2 3 3 3 0 0 0 0 3 1 6" ∷ "2 3 3 4 0 0 0 0 3 1 1" ∷ "2 3 3 5 0 0 0 0 3 1 7" ∷ "4 0 2 5 3 3 3 3 0 0 0" ∷
    "4 1 2 2 1 2 6 1 0 0 0" ∷ "4 1 2 4 1 3 3 5 0 0 0" ∷ "4 1 2 5 1 2 6 8 0 0 0" ∷ "4 2 6 2 1 3 0 2 0 0 0" ∷ "4 2 6 4 1 3 0 5 0 0 0" ∷
    "4 2 6 5 1 3 0 7 0 0 0" ∷ "4 2 6 6 3 0 2 6 0 0 0" ∷ "4 2 6 7 3 3 3 4 0 0 0" ∷ "4 3 0 3 2 2 6 3 0 0 0" ∷ "4 3 0 6 2 0 2 3 0 0 0" ∷
    "4 3 0 9 7 0 2 4 0 0 0" ∷ "5 0 2 1 0 0 0 0 0 3 7" ∷ "5 0 2 3 0 3 0 2 3 1 7" ∷ "5 0 2 4 0 3 0 7 3 1 7" ∷ "5 0 2 6 0 2 6 3 3 1 7" ∷
    "5 1 2 1 0 0 0 0 3 1 7" ∷ "5 1 2 3 0 0 0 0 7 3 7" ∷ "5 2 6 1 0 1 2 1 3 1 7" ∷ "5 2 6 3 0 3 0 2 3 1 7" ∷ "5 2 6 8 0 1 2 1 3 1 7" ∷
    "5 3 0 1 0 0 0 0 10 3 7" ∷ "5 3 0 2 0 2 6 1 3 1 7" ∷ "5 3 0 5 0 2 6 1 3 1 1" ∷ "5 3 0 7 0 2 6 1 3 1 7" ∷ "5 3 0 8 0 0 0 0 16 100 7" ∷
    "5 3 3 1 0 0 0 0 4 3 7" ∷ "5 3 3 2 0 0 0 0 13 3 7" ∷ "5 3 3 3 0 0 2 3 3 1 6" ∷ "5 3 3 4 0 2 6 3 3 1 1" ∷ "5 3 3 5 0 1 2 1 3 1 7" ∷ [])

-- children beside loans off the pad; a target of program 7
unfoldable pub children : List String
children =
    lines_of ("0 1 2 1 0 0 0 0 0 0 0" ∷ "0 1 7 2 0 0 0 0 0 0 0" ∷ "0 2 1 1 0 0 0 0 0 0 0" ∷ "0 3 1 4 0 0 0 0 0 0 0" ∷ "0 3 7 3 0 0 0 0 0 0 0" ∷ [])
    ("1 3 1 1 0 0 0 0 0 2 7" ∷ "2 1 7 1 0 0 0 0 0 2 7" ∷ "2 2 1 1 0 0 0 0 0 2 4" ∷ "3 1 2 1 0 1 7 1 0 1 7" ∷ "3 3 7 1 0 3 1 1 0 2 5" ∷
    "3 3 7 3 0 3 1 1 1 1 7" ∷ "4 1 7 2 1 1 2 1 0 0 0" ∷ "4 3 1 2 1 1 7 1 0 0 0" ∷ "4 3 1 3 1 3 7 1 0 0 0" ∷ "4 3 1 4 1 3 7 3 0 0 0" ∷
    "4 3 7 2 1 2 1 1 0 0 0" ∷ "5 1 7 1 0 3 1 1 0 2 7" ∷ "5 2 1 1 0 3 1 1 0 2 4" ∷ "5 3 1 1 0 0 0 0 0 2 7" ∷ [])

-- damaged: an entry below one that is not there
unfoldable pub orphan : List String
orphan =
    lines_of ("0 2 0 8 0 0 0 0 0 0 0" ∷ "0 3 5 9 0 0 0 0 0 0 0" ∷ [])
    ("1 2 0 6 0 0 0 0 1 1 7" ∷ "1 3 5 1 0 0 0 0 0 1 7" ∷ "1 3 5 9 0 0 0 0 2 1 7" ∷ "2 2 0 1 0 0 0 0 0 1 7" ∷ "2 2 0 4 0 0 0 0 0 1 4" ∷
    "2 2 0 5 0 0 0 0 0 1 7" ∷ "2 2 0 8 0 0 0 0 0 1 4" ∷ "2 3 5 3 0 0 0 0 0 1 4" ∷ "2 3 5 4 0 0 0 0 0 1 7" ∷ "2 3 5 7 0 0 0 0 0 1 4" ∷
    "4 2 0 2 1 3 5 3 0 0 0" ∷ "4 2 0 3 1 3 5 4 0 0 0" ∷ "4 2 0 7 4 3 5 7 0 0 0" ∷ "4 3 5 2 1 2 0 1 0 0 0" ∷ "4 3 5 6 4 2 0 5 0 0 0" ∷
    "4 3 5 8 7 2 0 8 0 0 0" ∷ "5 2 0 1 0 3 5 1 0 1 7" ∷ "5 2 0 5 0 3 5 4 0 1 7" ∷ "5 2 0 6 0 0 0 0 1 1 7" ∷ "5 3 5 1 0 0 0 0 0 1 7" ∷
    "5 3 5 3 0 2 0 1 0 1 4" ∷ "5 3 5 9 0 0 0 0 2 1 7" ∷ [])

-- damaged: a line of kind 3 behind those of kind 4
unfoldable pub mixed : List String
mixed =
    lines_of ("0 0 7 1 0 0 0 0 0 0 0" ∷ "0 1 0 1 0 0 0 0 0 0 0" ∷ "0 1 2 1 0 0 0 0 0 0 0" ∷ "0 2 2 4 0 0 0 0 0 0 0" ∷ "0 2 4 1 0 0 0 0 0 0 0" ∷
    "0 3 2 2 0 0 0 0 0 0 0" ∷ "0 3 7 1 0 0 0 0 0 0 0" ∷ [])
    ("1 0 7 1 0 0 0 0 9 36 7" ∷ "1 3 2 1 0 0 0 0 0 9 7" ∷ "1 3 7 1 0 0 0 0 45 210 7" ∷ "2 1 0 1 0 0 0 0 1 7 7" ∷ "2 1 2 1 0 0 0 0 0 9 7" ∷
    "2 2 2 1 0 0 0 0 0 9 7" ∷ "4 3 2 2 1 2 2 1 0 0 0" ∷ "4 2 2 2 1 1 0 1 0 0 0" ∷ "4 2 2 3 1 2 4 1 0 0 0" ∷ "4 2 2 4 1 1 2 1 0 0 0" ∷
    "3 2 4 1 0 2 2 1 0 4 7" ∷ "5 0 7 1 0 0 0 0 9 36 7" ∷ "5 1 0 1 0 2 2 1 1 7 7" ∷ "5 1 2 1 0 2 2 1 0 9 7" ∷ "5 2 2 1 0 3 2 1 0 9 7" ∷
    "5 3 2 1 0 0 0 0 0 9 7" ∷ "5 3 7 1 0 0 0 0 45 210 7" ∷ [])

-- damaged: two lines twice
unfoldable pub doubled : List String
doubled =
    lines_of ("0 0 3 8 0 0 0 0 0 0 0" ∷ "0 1 1 7 0 0 0 0 0 0 0" ∷ "0 1 4 6 0 0 0 0 0 0 0" ∷ [])
    ("1 0 3 3 0 0 0 0 3 1 4" ∷ "1 0 3 3 0 0 0 0 3 1 4" ∷ "1 0 3 5 0 0 0 0 4 1 7" ∷ "1 0 3 8 0 0 0 0 5 1 7" ∷ "1 1 1 1 0 0 0 0 1 1 1" ∷
    "1 1 1 2 0 0 0 0 0 1 7" ∷ "1 1 4 3 0 0 0 0 2 1 7" ∷ "1 1 4 6 0 0 0 0 6 1 7" ∷ "2 0 3 1 0 0 0 0 0 1 1" ∷ "2 0 3 2 0 0 0 0 0 1 5" ∷
    "2 0 3 6 0 0 0 0 0 1 1" ∷ "2 1 1 5 0 0 0 0 0 1 5" ∷ "2 1 1 7 0 0 0 0 0 1 5" ∷ "3 1 4 4 0 1 1 5 0 1 5" ∷ "4 0 3 4 2 1 1 5 0 0 0" ∷
    "4 0 3 7 2 1 1 7 0 0 0" ∷ "4 1 1 3 2 0 3 1 0 0 0" ∷ "4 1 1 4 2 0 3 2 0 0 0" ∷ "4 1 1 6 5 1 4 4 0 0 0" ∷ "4 1 1 6 5 1 4 4 0 0 0" ∷
    "4 1 4 5 4 0 3 6 0 0 0" ∷ "5 0 3 1 0 1 1 2 0 1 1" ∷ "5 0 3 2 0 1 1 2 0 1 5" ∷ "5 0 3 3 0 0 0 0 3 1 4" ∷ "5 0 3 5 0 0 0 0 4 1 7" ∷
    "5 0 3 6 0 1 1 5 0 1 1" ∷ "5 0 3 8 0 0 0 0 5 1 7" ∷ "5 1 1 1 0 0 0 0 1 1 1" ∷ "5 1 1 2 0 0 0 0 0 1 7" ∷ "5 1 1 5 0 0 3 2 0 1 5" ∷
    "5 1 1 7 0 0 3 2 0 1 5" ∷ "5 1 4 3 0 0 0 0 2 1 7" ∷ "5 1 4 6 0 0 0 0 6 1 7" ∷ [])

-- ---- results
-- the whole text with the lines `new` in the place of the line `old`
abbrev pub Edited : String → List String → ℕ → Type 0
Edited old new result = load_refusal (ended (instead old new whole)) ≡ result

-- a text that loads, and is saved as it was
abbrev pub Loads : List String → Type 0
Loads lines = (load_refusal (ended lines) ≡ 0) × (saved (load (ended lines)).tables ≡ ended lines)

pub record TextsRefused : Type 0 where
  -- 18: the names, the last byte 10, a line's form, values out of range, what a kind does not use
  pub nothing : load_refusal [] ≡ 18
  pub names_alone : load_refusal (bytes names) ≡ 18
  pub names_ended : load_refusal (ended (names ∷ [])) ≡ 18
  pub other_names : Edited names ("kind pad program number own opad oprogram onumber first count right" ∷ []) 18
  pub no_last_end : load_refusal (ended (instead entry [] whole) ++ bytes entry) ≡ 18
  pub empty_line : Edited entry (entry ∷ "" ∷ []) 18
  pub leading_zero : Edited taken ("1 0 0 01 0 0 0 0 0 4 7" ∷ []) 18
  pub ten_columns : Edited taken ("1 0 0 1 0 0 0 0 0 4" ∷ []) 18
  pub twelve_columns : Edited taken ("1 0 0 1 0 0 0 0 0 4 7 0" ∷ []) 18
  pub number_65536 : Edited last ("0 0 0 65536 0 0 0 0 0 0 0" ∷ []) 18
  pub kind_6 : Edited entry (entry ∷ "6 0 0 1 0 0 0 0 0 4 7" ∷ []) 18
  pub kind_6_zeros : Edited entry (entry ∷ "6 0 0 1 0 0 0 0 0 0 0" ∷ []) 18
  pub pad_4 : Edited entry (entry ∷ "5 4 0 1 0 0 0 0 0 4 7" ∷ []) 18
  pub program_8 : Edited entry (entry ∷ "5 3 8 1 0 0 0 0 0 4 7" ∷ []) 18
  pub opad_4 : Edited far_recall ("4 0 0 3 1 4 0 1 0 0 0" ∷ []) 18
  pub oprogram_8 : Edited far_recall ("4 0 0 3 1 1 8 1 0 0 0" ∷ []) 18
  pub own_of_a_grant : Edited taken ("1 0 0 1 1 0 0 0 0 4 7" ∷ []) 18
  pub parent_of_a_taken : Edited taken ("1 0 0 1 0 0 0 1 0 4 7" ∷ []) 18
  pub sheets_of_a_recall : Edited recall ("4 0 0 2 1 0 1 1 0 1 0" ∷ []) 18
  pub rights_of_a_last : Edited last ("0 0 0 3 0 0 0 0 0 0 1" ∷ []) 18
  -- 18: kind 0 lines missing or twice, keys that fall or are equal, a ninth ticket, though T2 is broken too
  pub no_last : Edited last [] 18
  pub two_lasts : Edited last (last ∷ "0 0 0 4 0 0 0 0 0 0 0" ∷ []) 18
  pub swapped : load_refusal (ended (instead taken (received ∷ []) (instead received (taken ∷ []) whole))) ≡ 18
  pub twice : Edited taken (taken ∷ taken ∷ []) 18
  pub ninth : load_refusal (ended (instead eighth (eighth ∷ "1 2 0 9 0 0 0 0 300 1 7" ∷ []) (eight ++ "5 2 0 9 0 0 0 0 18 1 7" ∷ []))) ≡ 18
  pub of_mixed : load_refusal (ended mixed) ≡ 18
  pub of_doubled : load_refusal (ended doubled) ≡ 18
  -- 14: values in form that no ticket or entry in order has
  pub number_0 : Edited taken ("1 0 0 0 0 0 0 0 0 4 7" ∷ taken ∷ []) 14
  pub above_last : Edited last ("0 0 0 2 0 0 0 0 0 0 0" ∷ []) 14
  pub shared_number : Edited child ("3 0 0 1 0 0 1 1 0 1 1" ∷ child ∷ []) 14
  pub no_sheets : Edited received ("2 1 0 1 0 0 0 0 0 0 1" ∷ []) 14
  pub rights_8 : Edited received ("2 1 0 1 0 0 0 0 0 1 8" ∷ []) 14
  pub child_of_pad_1 : Edited child ("3 0 1 1 0 1 0 1 0 2 1" ∷ []) 14
  pub child_of_0 : Edited child ("3 0 1 1 0 0 0 0 0 2 1" ∷ []) 14
  pub own_0 : Edited far_recall ("4 0 0 3 0 1 0 1 0 0 0" ∷ []) 14
  pub target_0 : Edited far_recall ("4 0 0 3 1 1 0 0 0 0 0" ∷ []) 14
  pub store_1_2_0 : Edited root ("5 0 0 1 0 1 2 0 0 4 7" ∷ []) 14
  pub store_0_1_0 : Edited root ("5 0 0 1 0 0 1 0 0 4 7" ∷ []) 14
  pub entry_0 : Edited root ("5 0 0 0 0 0 0 0 9 1 7" ∷ root ∷ []) 14
  pub no_entry_lem : Edited root [] 14
  pub no_recall : Edited recall [] 14
  pub no_far_recall : Edited far_recall [] 14
  pub of_orphan : load_refusal (ended orphan) ≡ 14

pub texts_refused : TextsRefused
unfolding implies between first_index all some keep count_of no_two all_at some_at filled tabulate within
    eq_name is_program same_program has_number ticket_in lookup is_named entry_in end_of apart inside
    every_ticket_of every_ticket some_ticket_of some_ticket every_entry numbers_ok t1 span_ok t2 parent_ok child_ok t3 t4
    entry_names_ok grant_ok parent_entry_ok entry_ok roots_ok t5 recall_parent_ok is_child_of far_target_ok target_ok recall_ok t6 in_order
    kind_of ◌when◌else◌ bytes same_bytes in_front cut lines fields is_digit number_from is_number no_leading_zero is_value has_values values_of named behind_names
    column_names is_last_row is_ticket_row is_entry_row of_program zero_unless own_ok other_ok sheets_ok row_ok line_ok key programs
    above last_of_program ticket_of_program has_room may_follow all_follow is_ended all_programs form_ok
    ticket_from entry_from program_from tables_with tables_from last_in tables_in load_refusal
    emptied renewed lines_of instead ended whole eight mixed doubled orphan
texts_refused = record {
  nothing = refl;
  names_alone = refl;
  names_ended = refl;
  other_names = refl;
  no_last_end = refl;
  empty_line = refl;
  leading_zero = refl;
  ten_columns = refl;
  twelve_columns = refl;
  number_65536 = refl;
  kind_6 = refl;
  kind_6_zeros = refl;
  pad_4 = refl;
  program_8 = refl;
  opad_4 = refl;
  oprogram_8 = refl;
  own_of_a_grant = refl;
  parent_of_a_taken = refl;
  sheets_of_a_recall = refl;
  rights_of_a_last = refl;
  no_last = refl;
  two_lasts = refl;
  swapped = refl;
  twice = refl;
  ninth = refl;
  of_mixed = refl;
  of_doubled = refl;
  number_0 = refl;
  above_last = refl;
  shared_number = refl;
  no_sheets = refl;
  rights_8 = refl;
  child_of_pad_1 = refl;
  child_of_0 = refl;
  own_0 = refl;
  target_0 = refl;
  store_1_2_0 = refl;
  store_0_1_0 = refl;
  entry_0 = refl;
  no_entry_lem = refl;
  no_recall = refl;
  no_far_recall = refl;
  of_orphan = refl;
}

pub record TextsLoad : Type 0 where
  pub of_empty : Loads emptied
  pub of_whole : Loads whole
  pub of_two_deep : Loads two_deep
  pub of_eight : Loads eight
  pub number_65535 : Loads (lines_of ("0 0 2 65535 0 0 0 0 0 0 0" ∷ []) [])
  pub of_children : Loads children
  pub of_loans : Loads loans
  pub of_rings : Loads rings

pub texts_load : TextsLoad
unfolding implies between first_index all some keep count_of no_two all_at some_at filled tabulate within
    eq_name is_program same_program has_number ticket_in lookup is_named entry_in end_of apart inside
    every_ticket_of every_ticket some_ticket_of some_ticket every_entry numbers_ok t1 span_ok t2 parent_ok child_ok t3 t4
    entry_names_ok grant_ok parent_entry_ok entry_ok roots_ok t5 recall_parent_ok is_child_of far_target_ok target_ok recall_ok t6 in_order
    kind_of ◌when◌else◌ bytes same_bytes in_front cut lines fields is_digit number_from is_number no_leading_zero is_value has_values values_of named behind_names
    column_names is_last_row is_ticket_row is_entry_row of_program zero_unless own_ok other_ok sheets_ok row_ok line_ok key programs
    above last_of_program ticket_of_program has_room may_follow all_follow is_ended all_programs form_ok
    ticket_from entry_from program_from tables_with tables_from last_in tables_in load_refusal
    emptied renewed lines_of instead ended whole
    said_by said_entry digits places decimal behind values_line flat_map put_into sorted_by
    last_row ticket_row ticket_rows entry_row rows_found rows_of text_of saved load two_deep eight children loans rings
texts_load = record {
  of_empty = (refl, refl);
  of_whole = (refl, refl);
  of_two_deep = (refl, refl);
  of_eight = (refl, refl);
  number_65535 = (refl, refl);
  of_children = (refl, refl);
  of_loans = (refl, refl);
  of_rings = (refl, refl);
}

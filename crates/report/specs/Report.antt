-- The ward report as a text.
use Rattle.std.specs.Prelude.{ℕ, ◌+◌, ◌*◌, cond, eqb}
use mathlib.Core.List.{List, [], ◌∷◌, ◌++◌, flat_map}
use Rattle.tables.specs.declared.{Tables.Tables}
use Rattle.tables.specs.Lookup.{lookup}
use Rattle.tables.specs.Sheets.{sheets_free}
use Rattle.text.specs.Bytes.{bytes, line_end}
use Rattle.text.specs.Writing.{values_line}
use Rattle.report.specs.Rows.{Row, rows}

-- "Columns are depth, pad, program, ticket, first, count, rights, under a line of names."
unfoldable pub report_names : List ℕ
report_names = bytes "depth pad program ticket first count rights"

unfoldable pub row_line : Tables → Row → List ℕ
row_line t r =
    let k = lookup t r.name in
    values_line (r.depth ∷ r.name.pad ∷ r.name.program ∷ r.name.number ∷ k.first ∷ k.count ∷ k.rights.bits ∷ [])

-- ---- "A last line gives two numbers with a space between, sheets taken and sheets free."
-- "The first is the sum of the counts of the depth 0 lines."
unfoldable pub taken_in : Tables → List Row → ℕ
taken_in t [] = 0
taken_in t (r ∷ rs) = cond (eqb r.depth 0) (lookup t r.name).count 0 + taken_in t rs

-- ---- the whole, "each line ended by byte 10"; "The second is counted sheet by sheet over all entries, and the two make 256."
unfoldable pub report : Tables → List ℕ
report t =
    let rs = rows t in
    report_names ++ line_end ∷ flat_map (row_line t) rs ++ values_line (taken_in t rs ∷ sheets_free t.entries ∷ [])

-- bytes that every report of tables in order fits into: the names, 24 for each of 256 places, the last line
abbrev pub line_room : ℕ
line_room = 24

abbrev pub report_room : ℕ
report_room = 44 + line_room * 256 + 8

-- No saved text is longer than `saved_room`, 18,309 bytes: 69 for the names, 26 for each program's last number, 34 for each ticket and entry.
use Prim.Native.Nat.{ℕ, ◌+◌, ◌*◌, ◌/◌, ◌%◌, ◌≤◌, ◌<◌}
use native.Mathlib.Omega.{arith}
use mathlib.Core.Path.{◌≡◌, refl, sym, ◌∙◌, subst}
use mathlib.Core.Logic.{◌⊎◌, inl, inr}
use mathlib.Core.Bool.{true, false, ◌||◌}
use mathlib.Core.List.{List, ◌∷◌, ◌++◌, flat_map}
use lib.Dec.{eqb}
use lib.ListN.{length, length-append, length-map}
use borrow.Author.Tests.{eqb-true}
use Rattle.lists.specs.Tests.{between}
use Rattle.lists.proofs.Tests.{Case, pass, fail, case, and_l, and_r}
use Rattle.lists.proofs.PartLaws.{length_tabulate}
use Rattle.lists.specs.Lists.{keep}
use Rattle.lists.proofs.Counts.{flat_joined, flat_most, sorted_flat, keep_most}
use Rattle.tables.specs.declared.{Tables.Tables}
use Rattle.tables.specs.Lookup.{last_of}
use Rattle.text.specs.Bytes.{bytes, line_end}
use Rattle.text.specs.Writing.{places, values_line}
use Rattle.text.proofs.WritingLaws.{places_1, places_short, places_most}
use Rattle.text.proofs.WritingSteps.{line_none, length_line}
use Rattle.saved.specs.declared.Row.{Row}
use Rattle.saved.specs.Row.{column_names, columns_of, zero_unless, own_ok, sheets_ok, row_ok, key}
use Rattle.saved.specs.Save.{programs, last_row, ticket_rows, entry_row, rows_found, rows_of, text_of, saved, saved_room}
use Rattle.saved.specs.Claims.{SavedShort}
use Rattle.saved.proofs.RowLaws.{ranges}
use Rattle.saved_laws.proofs.Assembly.{listed}
use Rattle.restoring.proofs.RowsFollow.{part_few}
use Rattle.restoring.proofs.RowsInForm.{InForm, other_ranges, Good, good_of, last_lines, ticket_lines, entry_lines, last_out, tickets_found, entries_found, line_form}

-- ---- a line
abbrev width : Row → ℕ
width r = length (values_line (columns_of r))

abbrev line_of : Row → List ℕ
line_of r = values_line (columns_of r)

-- what a kind does not use is 0: so a recall's own number and a grant's sheets are not both there
own_zero : (r : Row) → row_ok r ≡ true → eqb r.kind 4 ≡ false → r.own ≡ 0
unfolding row_ok own_ok zero_unless
own_zero r e k =
    let a : (eqb r.kind 4 || eqb r.own 0) ≡ true = search (and_l, and_r) depth 8 in
    eqb-true r.own 0 (rw k at a)

no_sheets : (k : ℕ) → eqb k 4 ≡ true → (between 1 3 k || eqb k 5) ≡ false
unfolding between
no_sheets k e = let h = eqb-true k 4 e in rw h

sheets_zero : (r : Row) → row_ok r ≡ true → eqb r.kind 4 ≡ true → (r.first ≡ 0) × (r.count ≡ 0)
unfolding row_ok sheets_ok zero_unless
sheets_zero r e k =
    let a : ((between 1 3 r.kind || eqb r.kind 5) || eqb r.first 0) ≡ true = search (and_l, and_r) depth 9 in
    let b : ((between 1 3 r.kind || eqb r.kind 5) || eqb r.count 0) ≡ true = search (and_l, and_r) depth 9 in
    let n = no_sheets r.kind k in
    (eqb-true r.first 0 (rw n at a), eqb-true r.count 0 (rw n at b))

own_or_sheets : (r : Row) → row_ok r ≡ true → (r.own ≡ 0) ⊎ ((r.first ≡ 0) × (r.count ≡ 0))
own_or_sheets r e = go (case (eqb r.kind 4))
  where
    go : Case (eqb r.kind 4) → (r.own ≡ 0) ⊎ ((r.first ≡ 0) × (r.count ≡ 0))
    go (fail k) = inl (own_zero r e k)
    go (pass k) = inr (sheets_zero r e k)

short_line : (r : Row) → InForm r → width r ≤ 34
short_line r f = go (own_or_sheets r f.ok)
  where
    long : width r ≡ places r.kind + places r.pad + places r.program + places r.number + places r.own + places r.other.pad
        + places r.other.program + places r.other.number + places r.first + places r.count + places r.rights + 11
    long = simp (length_line, line_none) (omega arith)

    small : places r.kind + places r.pad + places r.program + places r.other.pad + places r.other.program + places r.rights ≡ 6
    small =
        let a = ranges r f.ok in
        let b = other_ranges r f.ok in
        omega (
          arith,
          places_1 r.kind (omega (arith, a.kind)),
          places_1 r.pad (omega (arith, a.pad)),
          places_1 r.program (omega (arith, a.program)),
          places_1 r.other.pad (omega (arith, b.pad)),
          places_1 r.other.program (omega (arith, b.program)),
          places_1 r.rights (omega (arith, f.rights)),
        )

    go : (r.own ≡ 0) ⊎ ((r.first ≡ 0) × (r.count ≡ 0)) → width r ≤ 34
    go (inl e) =
        omega (
          arith,
          long,
          small,
          places_most r.number,
          places_most r.other.number,
          places_1 r.own (omega (arith, e)),
          places_short r.first (omega (arith, f.first)),
          places_short r.count (omega (arith, f.count)),
        )
    go (inr e) =
        omega (
          arith,
          long,
          small,
          places_most r.number,
          places_most r.other.number,
          places_most r.own,
          places_1 r.first (omega (arith, e.0)),
          places_1 r.count (omega (arith, e.1)),
        )

-- a program's last number
last_line_lem : (t : Tables) (i : ℕ) → i < 32 → width (last_row t i) ≤ 26
unfolding last_row
last_line_lem t i b =
    let n : ℕ = last_of t (i / 8) (i % 8) in
    let long : width (last_row t i) ≡ places 0 + places (i / 8) + places (i % 8) + places n + 7 * places 0 + 11 = simp (length_line, line_none) (omega arith) in
    omega (arith, long, places_1 0 (omega arith), places_1 (i / 8) (omega (arith, b)), places_1 (i % 8) (omega arith), places_most n)

names_long : length column_names ≡ 68
unfolding column_names bytes
names_long = refl

-- ---- all lines
programs_long : length programs ≡ 32
unfolding programs
programs_long = length_tabulate 32 (λ i. i)

module _ (t : Tables) (good : Good t) where
  lasts_long_lem : length (flat_map line_of (last_lines t)) ≤ 26 * 32
  lasts_long_lem =
      let n : length (last_lines t) ≡ 32 = length-map programs (last_row t) ∙ programs_long in
      omega (
        arith,
        n,
        flat_most line_of 26 (last_lines t)
            (λ x m. (let l = last_out t x m in subst (λ (r : Row). width r ≤ 26) (sym l.is) (last_line_lem t l.at l.low))),
      )

  tickets_long : length (flat_map line_of (ticket_lines t)) ≤ 34 * 256
  tickets_long =
      omega (
        arith,
        flat_most (ticket_rows t) 8 programs (λ i m. part_few t good i (listed i m)),
        programs_long,
        flat_most line_of 34 (ticket_lines t) (λ x m. short_line x (line_form t good x (tickets_found t x m))),
      )

  entries_long : length (flat_map line_of (entry_lines t)) ≤ 34 * 256
  entries_long =
      omega (
        arith,
        length-map (keep (λ e. e.live) t.entries) entry_row,
        keep_most (λ e. e.live) t.entries,
        good.order.shape.sized.entries,
        flat_most line_of 34 (entry_lines t) (λ x m. short_line x (line_form t good x (entries_found t x m))),
      )

  lines_long : length (flat_map line_of (rows_of t)) ≤ 26 * 32 + 34 * (256 + 256)
  unfolding rows_of rows_found
  lines_long =
      omega (
        arith,
        sorted_flat line_of key (rows_found t),
        flat_joined line_of (last_lines t ++ ticket_lines t) (entry_lines t),
        flat_joined line_of (last_lines t) (ticket_lines t),
        lasts_long_lem,
        tickets_long,
        entries_long,
      )

  pub saved_short_of : length (saved t) ≤ saved_room
  unfolding saved text_of
  saved_short_of = omega (arith, length-append column_names (line_end ∷ flat_map line_of (rows_of t)), names_long, lines_long)

pub saved_short : SavedShort
saved_short t z fit h = saved_short_of t (good_of t z fit h)

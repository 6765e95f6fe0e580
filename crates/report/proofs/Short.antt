-- How long the report is: a row's line has at most 24 bytes, and the walk with marks prints at most one for each place that it marks.
use Prim.Native.Nat.{ℕ, zero, suc, ◌+◌, ◌*◌, ◌≤◌, ◌<◌}
use native.Mathlib.Omega.{arith}
use mathlib.Core.Path.{◌≡◌, refl, ap}
use mathlib.Core.Bool.{Bool, true, false}
use mathlib.Core.List.{List, [], ◌∷◌, flat_map}
use lib.ListN.{length, length-append}
use Rattle.lists.specs.Members.{In, first, later}
use Rattle.lists.proofs.Tests.{Case, pass, fail, case}
use Rattle.tables.specs.declared.{Name.Name, Ticket.Ticket, Tables.Tables}
use Rattle.tables.specs.Lookup.{lookup, place_of}
use Rattle.tables.proofs.KindLaws.{live_grant}
use Rattle.tables.specs.Sheets.{sheets_free}
use Rattle.text.specs.Bytes.{bytes}
use Rattle.text.specs.Writing.{places, values_line}
use Rattle.text.proofs.WritingLaws.{places_1, places_short, places_most}
use Rattle.text.proofs.WritingSteps.{length_line, line_none}
use Rattle.text_marks.specs.Marks.{with_mark, unmarked}
use Rattle.text_marks.proofs.Laws.{one_less, unmarked_most}
use Rattle.preservation.specs.InOrder.{InOrder}
use Rattle.preservation.proofs.Places.{all_low}
use Rattle.report.specs.Rows.{row_of, is_listed, loans_of, taken_grants, rows}
use Rattle.report.specs.Complete.{ReportShort}
use Rattle.report.specs.Report.{report_names, row_line, taken_in, line_room, report_room, report}
use Rattle.report.specs.Marked.{Visit, visits, visit}
use Rattle.report.proofs.TakenGrants.{taken_is}
use Rattle.report.proofs.Lending.{loan_of}
use Rattle.report.proofs.Depth.{root, lent_listed, listed_grant}
use Rattle.report.proofs.AllSheets.{all_sheets}
use Rattle.report.proofs.Marked.{walk_report}

module _ (t : Tables) (now : InOrder t) where
  -- ---- a line
  module _ (depth : ℕ) (n : Name) (listed : is_listed t n ≡ true) (low : depth < 1000) where
    abbrev k : Ticket
    k = lookup t n

    row_long : length (row_line t (row_of depth n))
        ≡ places depth + places n.pad + places n.program + places n.number + places k.first + places k.count + places k.rights.bits + 7
    unfolding row_line
    row_long = simp (length_line, line_none) (omega arith)

    pub row_short : length (row_line t (row_of depth n)) ≤ line_room
    row_short =
        let grant = listed_grant t now n listed in
        let given = now.rules.named n (live_grant k.kind grant) in
        let span = now.rules.span n grant in
        omega (
          arith,
          row_long,
          places_short depth low,
          places_1 n.pad (omega (arith, given.pad)),
          places_1 n.program (omega (arith, given.program)),
          places_most n.number,
          places_short k.first (omega (arith, span.some, span.fits)),
          places_short k.count (omega (arith, span.fits)),
          places_1 k.rights.bits (omega (arith, span.rights)),
        )

  -- ---- the walk: what it prints has room in the places that it marks
  pub record Fitted (marks : ℕ → Bool) (v : Visit) : Type 0 where
    pub fewer : unmarked v.marks ≤ unmarked marks
    pub room : length v.text + line_room * unmarked v.marks ≤ line_room * unmarked marks

  nothing_fits : (marks : ℕ → Bool) → Fitted marks (record { text = []; marks = marks })
  nothing_fits marks = record { fewer = omega arith; room = omega arith }

  abbrev One : ℕ → ℕ → Type 0
  One left depth = (marks : ℕ → Bool) (n : Name) → is_listed t n ≡ true → depth + unmarked marks ≤ 256 → Fitted marks (visit t left depth marks n)

  module _ (left depth : ℕ) (one : One left depth) where
    pub all_fit : (qs : List Name) (marks : ℕ → Bool) → ((q : Name) → In q qs → is_listed t q ≡ true) → depth + unmarked marks ≤ 256
        → Fitted marks (visits (visit t left depth) marks qs)
    unfolding visits
    all_fit [] marks listed shallow = nothing_fits marks
    all_fit (q ∷ qs) marks listed shallow =
        let v = visit t left depth marks q in
        let rest = visits (visit t left depth) v.marks qs in
        let a = one marks q (listed q (first refl)) shallow in
        let b = all_fit qs v.marks (λ r i. listed r (later i)) (omega (arith, shallow, a.fewer)) in
        record {
          fewer = omega (arith, a.fewer, b.fewer);
          room = omega (arith, a.room, b.room, length-append v.text rest.text);
        }

  loans_listed : (n q : Name) → In q (loans_of t n) → is_listed t q ≡ true
  loans_listed n q i = (loan_of t now n q i).listed

  pub visit_fits : (left depth : ℕ) → One left depth
  unfolding visit
  visit_fits zero depth marks n listed shallow = nothing_fits marks
  visit_fits (suc left) depth marks n listed shallow = go (visit_fits left (depth + 1)) (case (marks (place_of t n)))
    where
      go : One left (depth + 1) → Case (marks (place_of t n)) → Fitted marks (visit t (suc left) depth marks n)
      go deeper (pass e) = rw e (nothing_fits marks)
      go deeper (fail e) =
          let marked = with_mark (place_of t n) marks in
          let line = row_line t (row_of depth n) in
          let rest = visits (visit t left (depth + 1)) marked (loans_of t n) in
          let less = one_less (place_of t n) marks e (all_low t now n (live_grant (lookup t n).kind (listed_grant t now n listed))) in
          let a = all_fit left (depth + 1) deeper (loans_of t n) marked (loans_listed n) (omega (arith, shallow, less)) in
          let short = row_short depth n listed (omega (arith, shallow, less)) in
          rw e
          (record {
            fewer = omega (arith, less, a.fewer);
            room = omega (arith, less, a.room, short, length-append line rest.text);
          })

  -- ---- the whole
  taken_listed_lem : (q : Name) → In q (taken_grants t) → is_listed t q ≡ true
  taken_listed_lem q i = lent_listed t now (root (taken_is t q i))

  rows_short : length (flat_map (row_line t) (rows t)) ≤ line_room * 256
  rows_short =
      let a = all_fit 256 0 (visit_fits 256 0) (taken_grants t) (λ p. false) taken_listed_lem (omega (arith, unmarked_most (λ p. false))) in
      omega (arith, a.room, unmarked_most (λ p. false), ap length (walk_report t now))

  names_long : length report_names ≡ 43
  unfolding report_names bytes
  names_long = refl

  abbrev taken : ℕ
  taken = taken_in t (rows t)

  abbrev free : ℕ
  free = sheets_free t.entries

  abbrev lines : List ℕ
  lines = flat_map (row_line t) (rows t)

  abbrev last_line : List ℕ
  last_line = values_line (taken ∷ free ∷ [])

  report_long : length (report t) ≡ length report_names + suc (length lines + length last_line)
  unfolding report
  report_long = simp length-append (omega arith)

  last_long : length last_line ≡ places taken + places free + 2
  last_long = simp (length_line, line_none) (omega arith)

  within_room : length (report t) ≤ report_room
  within_room =
      let both = all_sheets t now in
      omega (
        arith,
        report_long,
        names_long,
        rows_short,
        last_long,
        places_short taken (omega (arith, both)),
        places_short free (omega (arith, both)),
      )

pub report_short : ReportShort
report_short t now = within_room t now

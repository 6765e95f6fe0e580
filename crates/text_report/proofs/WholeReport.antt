-- The names, the taken grants with their loans and the last line, one behind the other, are the report; and there is room to count it.
use Prim.Native.Nat.{ℕ, ◌+◌, ◌≤◌}
use native.Mathlib.Omega.{arith}
use mathlib.Core.Path.{◌≡◌, refl, sym, ap, ◌∙◌}
use mathlib.Core.Bool.{Bool, true, false}
use mathlib.Core.List.{List, [], ◌∷◌, ◌++◌, flat_map, append_assoc}
use lib.ListN.{length, replicate, length-replicate}
use Rattle.lists.specs.Members.{In}
use Rattle.tables.specs.declared.{Name.Name, Tables.Tables}
use Rattle.tables.specs.Sheets.{sheets_free}
use Rattle.image.specs.Image.{decode}
use Rattle.image_read.specs.Places.{entries_in}
use Rattle.image_read.proofs.Places.{entries_decoded}
use Rattle.text.specs.Bytes.{bytes, line_end}
use Rattle.text.specs.Writing.{places, values_line}
use Rattle.text.specs.Appending.{Appends, Countable}
use Rattle.text.proofs.WritingLaws.{places_most}
use Rattle.text.proofs.WritingSteps.{length_line, line_none}
use Rattle.text.proofs.Appending.{append_as, append_both}
use Rattle.text_marks.specs.Marks.{mark_bytes, marked_in}
use Rattle.text_marks.proofs.Laws.{none_marked, unmarked_most}
use Rattle.report.specs.Rows.{is_listed, taken_grants, rows}
use Rattle.report.specs.Report.{report_names, row_line, taken_in, report_room, report}
use Rattle.report.specs.Marked.{visits, visit}
use Rattle.report.proofs.TakenGrants.{taken_is}
use Rattle.report.proofs.Depth.{root, lent_listed}
use Rattle.report.proofs.AllSheets.{taken_total}
use Rattle.report.proofs.Marked.{walk_report}
use Rattle.text_loans.specs.Walk.{Ordered}
use Rattle.text_loans.proofs.Steps.{room_left}
use Rattle.text_grants.specs.declared.Printing.{Printing}
use Rattle.text_grants.specs.Grants.{Ready, Puts}
use Rattle.text_grants.proofs.Programs.{started}

-- the first line, with its end
abbrev pub first_line : List ℕ
first_line = report_names ++ line_end ∷ []

first_long : length first_line ≡ 44
unfolding report_names bytes
first_long = refl

module _ (image : List ℕ) (o : Ordered image) (marks : List ℕ) (clear : marks ≡ replicate mark_bytes 0) where
  abbrev t : Tables
  t = decode image

  no_marks : marked_in marks ≡ (λ p. false)
  no_marks = λ i p. (ap (λ (m : List ℕ). marked_in m p) clear ∙ none_marked mark_bytes p) i

  module _ (out out₁ : List ℕ) (k : ℕ) (named : Appends first_line out out₁ 0 k) where
    pub start : Ready image marks k
    start = record {
      tables = o;
      scratch = ap length clear ∙ length-replicate {A = ℕ} mark_bytes 0;
      room = omega (arith, named.total, first_long, unmarked_most (marked_in marks));
    }

    module _ (marks' out₂ : List ℕ) (taken : Printing) (puts : Puts t (taken_grants t) marks marks' out₁ out₂ (started k) taken) where
      listed : (q : Name) → In q (taken_grants t) → is_listed t q ≡ true
      listed q i = lent_listed t o.order (root (taken_is t q i))

      end_low : taken.end ≤ report_room
      end_low =
          let left = room_left t 0 o.order (taken_grants t) listed marks marks' out₁ out₂ k taken.end puts.text
          (omega (arith, unmarked_most (marked_in marks))) start.room in
          omega (arith, left)

      pub last_fits : (free : ℕ) → Countable taken.end (values_line (taken.sheets ∷ free ∷ []))
      last_fits free =
          let long : length (values_line (taken.sheets ∷ free ∷ [])) ≡ places taken.sheets + places free + 2
          = simp (length_line, line_none) (omega arith) in
          omega (arith, long, places_most taken.sheets, places_most free, end_low)

      abbrev lines : List ℕ
      lines = flat_map (row_line t) (rows t)

      printed : Appends lines out₁ out₂ k taken.end
      printed =
          let p = puts.text 256 (unmarked_most (marked_in marks)) in
          let same : (visits (visit t 256 0) (marked_in marks) (taken_grants t)).text ≡ lines
          = ap (λ (m : ℕ → Bool). (visits (visit t 256 0) m (taken_grants t)).text) no_marks ∙ walk_report t o.order in
          append_as _ _ out₁ out₂ k taken.end same p.text

      sheets_are : taken.sheets ≡ taken_in t (rows t)
      sheets_are = omega (arith, puts.sheets, taken_total t)

      abbrev last_line : List ℕ
      last_line = values_line (taken_in t (rows t) ∷ sheets_free t.entries ∷ [])

      report_parts : report t ≡ first_line ++ (lines ++ last_line)
      unfolding report
      report_parts = append_assoc report_names (line_end ∷ lines) last_line ∙ sym (append_assoc report_names (line_end ∷ []) (lines ++ last_line))

      pub put_whole : (free : ℕ) → free ≡ sheets_free (entries_in image) → (out₃ : List ℕ) (r : ℕ)
          → Appends (values_line (taken.sheets ∷ free ∷ [])) out₂ out₃ taken.end r → Appends (report t) out out₃ 0 r
      put_whole free is out₃ r last =
          let free_is : free ≡ sheets_free t.entries = is ∙ ap sheets_free (entries_decoded image) in
          let last_is : values_line (taken.sheets ∷ free ∷ []) ≡ last_line = (λ i. values_line (sheets_are i ∷ free_is i ∷ [])) in
          append_as _ _ out out₃ 0 r (sym report_parts)
          (append_both _ _ _ _ _ _ _ _ named (append_both _ _ _ _ _ _ _ _ printed (append_as _ _ out₂ out₃ taken.end r last_is last)))

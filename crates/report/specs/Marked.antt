-- What the code prints, with its marks: a ticket whose place is marked is passed over, so that the walk ends whatever the tables are. No
-- reader needs this: in tables in order it is the report (proofs/Marked).
use Rattle.std.specs.Prelude.{ℕ, zero, suc, ◌+◌, Bool, cond, List, [], ◌∷◌, ◌++◌}
use Rattle.tables.specs.declared.{Name.Name, Tables.Tables}
use Rattle.tables.specs.Lookup.{place_of}
use Rattle.text_marks.specs.Marks.{with_mark}
use Rattle.report.specs.Rows.{row_of, loans_of}
use Rattle.report.specs.Report.{row_line}

-- a text, and the marks behind it
pub record Visit : Type 0 where
  pub text : List ℕ
  pub marks : ℕ → Bool

abbrev pub nothing : (ℕ → Bool) → Visit
nothing marks = record { text = []; marks = marks }

abbrev pub behind : List ℕ → Visit → Visit
behind text v = record { text = text ++ v.text; marks = v.marks }

-- one after the other, each with the marks that the one before it left
unfoldable pub visits : ((ℕ → Bool) → Name → Visit) → (ℕ → Bool) → List Name → Visit
visits one marks [] = nothing marks
visits one marks (q ∷ qs) = let v = one marks q in behind v.text (visits one v.marks qs)

unfoldable pub visit : Tables → ℕ → ℕ → (ℕ → Bool) → Name → Visit
visit t zero depth marks n = nothing marks
visit t (suc left) depth marks n =
    let rest = visits (visit t left (depth + 1)) (with_mark (place_of t n) marks) (loans_of t n) in
    cond (marks (place_of t n)) (nothing marks) (behind (row_line t (row_of depth n)) rest)

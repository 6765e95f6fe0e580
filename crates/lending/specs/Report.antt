-- The ward report of tables that a host lends, with a scratch for marks, into an output that it lends.
use Rattle.std.specs.Prelude.{ℕ, ◌≡◌, not, cond, List, leb, eqb, length, replicate}
use Rattle.machine.specs.Refusal.{◌when◌else◌}
use Rattle.image.specs.Layout.{image_size}
use Rattle.image.specs.Image.{decode}
use Rattle.text.specs.Writing.{written}
use Rattle.text_marks.specs.Marks.{mark_bytes}
use Rattle.report.specs.Report.{report}
use Rattle.lending.specs.Batch.{tables_ok}

pub record ReportBuffers : Type 0 where
  pub tables : List ℕ
  pub scratch : List ℕ
  pub output : List ℕ

-- 13 the tables have another length; "14 first as before; 16 the scratch has another length; 17 the output is too short for the whole report."
unfoldable pub report_refusal : ReportBuffers → ℕ
report_refusal b =
    let order = tables_ok b.tables in
    let fits = leb (length (report (decode b.tables))) (length b.output) in
    13 when not (eqb (length b.tables) image_size) else
    14 when not order else
    16 when not (eqb (length b.scratch) mark_bytes) else
    17 when not fits else
    0

-- ---- what it leaves; the tables are only read
pub record ReportLeft : Type 0 where
  pub result : ℕ
  pub scratch : List ℕ
  pub output : List ℕ
  pub size : ℕ

-- "After every answer, 14 and 16 included, each of its bytes is 0." "One written into a lent output changes only its own bytes; the answer
-- carries its length, 0 with a refusal, which leaves the output unchanged."
unfoldable pub report_lent : ReportBuffers → ReportLeft
report_lent b =
    let refusal = report_refusal b in
    let text = report (decode b.tables) in
    let zeros : List ℕ = replicate (length b.scratch) 0 in
    let served : ReportLeft = record { result = 0; scratch = zeros; output = written text b.output; size = length text } in
    let refused : ReportLeft = record { result = refusal; scratch = zeros; output = b.output; size = 0 } in
    cond (eqb refusal 0) served refused

-- ---- contracts
abbrev pub report_buffers : List ℕ → List ℕ → List ℕ → ReportBuffers
report_buffers tables scratch output = record { tables = tables; scratch = scratch; output = output }

-- what a call leaves, field by field
pub record ReportsLent (b : ReportBuffers) (result' : ℕ) (scratch' output' : List ℕ) (size' : ℕ) : Type 0 where
  pub result : result' ≡ (report_lent b).result
  pub scratch : scratch' ≡ (report_lent b).scratch
  pub output : output' ≡ (report_lent b).output
  pub size : size' ≡ (report_lent b).size

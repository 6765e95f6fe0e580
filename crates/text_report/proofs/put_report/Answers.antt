-- The names, the taken grants with their loans, the last line.
use Rattle.text.specs.Bytes.{bytes}
use Rattle.report.specs.Report.{report_names}
use Rattle.text_report.proofs.WholeReport.{start, last_fits, put_whole}
use Rattle.text_report.proofs.put_report.Goals as goal

pub put_taken-taken-requires : goal.put_taken-taken-requires
unfolding report_names bytes
put_taken-taken-requires c =
    start c.args.image.now c.requires.0 c.args.marks.now c.requires.1 _ _ _ c.append-at.ensures

pub append_values-requires : goal.append_values-requires
unfolding report_names bytes
append_values-requires c =
    last_fits c.args.image.now c.requires.0 c.args.marks.now c.requires.1 _ _ _ c.append-at.ensures _ _ _ c.put_taken-taken.ensures _

pub returns : goal.returns
unfolding report_names bytes
returns c =
    put_whole c.args.image.now c.requires.0 c.args.marks.now c.requires.1 _ _ _ c.append-at.ensures _ _ _
    c.put_taken-taken.ensures _ c.free_sheets.ensures _ _ c.append_values.ensures

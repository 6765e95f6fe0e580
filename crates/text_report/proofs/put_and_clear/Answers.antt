use Rattle.text_report.proofs.LentReport.{clear_scratch}
use Rattle.text_report.proofs.put_and_clear.Goals as goal

pub returns : goal.returns
returns c =
    record { appends = c.put_report-total.ensures; marks_after = clear_scratch _ _ c.put_report-total.array_long c.clear.ensures }

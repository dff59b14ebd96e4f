use Rattle.spl_report.proofs.OneReport.{one_report_of}
use Rattle.spl_report.proofs.report.one_report.Goals as goal

pub returns : goal.returns
returns c = one_report_of

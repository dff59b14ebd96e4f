use Rattle.std.proofs.Common.{◌≡◌, take, flat_map}
use Rattle.spl_report.specs.ReportText.{row_text}
use Rattle.spl_report.proofs.report.write_report.Given as goal

abbrev pub invariant-loop-row : goal.invariant-loop-row
invariant-loop-row l = l.out.items ≡ flat_map row_text (take l.row-index l.rows)

use Rattle.std.proofs.Common.{◌≡◌, take}
use Rattle.spl_message.specs.Fnv.{fnv_of}
use Rattle.spl_report.specs.ReportText.{report_text}
use Rattle.spl_load.proofs.digest.digest_of.Given as goal

abbrev pub invariant-loop-row : goal.invariant-loop-row
invariant-loop-row l = l.hash ≡ fnv_of (report_text (take l.row-index l.rows))

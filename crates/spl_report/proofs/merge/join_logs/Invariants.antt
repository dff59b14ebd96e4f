use Rattle.std.proofs.Common.{◌≡◌, map}
use Rattle.spl_report.specs.Merge.{rows_in}
use Rattle.spl_report.proofs.merge.join_logs.Given as goal

abbrev pub invariant-loop-log : goal.invariant-loop-log
invariant-loop-log l = l.rows.items ≡ rows_in (map (λ log. log.items) l.yielded)

use Rattle.std.proofs.Common.{◌≡◌, ◌++◌, take, flat_map, length, decimal}
use Rattle.spl_report.specs.ReportText.{pair_text}
use Rattle.spl_report.proofs.report.push_pairs.Given as goal

abbrev pub invariant-loop-key : goal.invariant-loop-key
invariant-loop-key l = l.out.items ≡ l.fn.out.items ++ decimal (length l.list) ++ flat_map pair_text (take l.key-index l.list)

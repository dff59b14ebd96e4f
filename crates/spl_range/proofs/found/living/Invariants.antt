use Rattle.std.proofs.Common.{◌≡◌, ◌++◌}
use Rattle.spl_range.proofs.Living.{living}
use Rattle.spl_range.proofs.found.living.Given as goal

abbrev pub invariant-loop-key : goal.invariant-loop-key
invariant-loop-key g l = l.pairs.items ++ living (g.L.MergeLaw.rule l.law) l.span l.key-iterator ≡ living (g.L.MergeLaw.rule l.law) l.span l.fn.found.entries

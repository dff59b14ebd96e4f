use Rattle.std.proofs.Common.{length}
use Rattle.spl_range.specs.Adding.{HasSame}
use Rattle.spl_range.proofs.found.drop_beyond.Given as goal

abbrev pub invariant-loop-last : goal.invariant-loop-last
invariant-loop-last l = HasSame l.span l.fn.found.entries l.found.entries

abbrev pub decreases-loop-last : goal.decreases-loop-last
decreases-loop-last l = length l.found.entries

use Rattle.std.proofs.Common.{◌≡◌, false}
use Rattle.spl_streams.proofs.tests.count.Given as goal

abbrev pub invariant-loop-given : goal.invariant-loop-given
invariant-loop-given g l = l.merged.failed ≡ false

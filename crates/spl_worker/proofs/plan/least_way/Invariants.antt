use Rattle.std.proofs.Common.{take}
use Rattle.spl_worker.specs.Plans.{IsLeast}
use Rattle.spl_worker.proofs.plan.least_way.Given as goal

abbrev pub invariant-loop-pivot : goal.invariant-loop-pivot
invariant-loop-pivot l = IsLeast (take l.pivot-index l.pivot-items) l.least

use Rattle.std.proofs.Common.{◌≡◌, None}
use Rattle.spl_build.specs.declared.stage.Stage.TheVariants.{Adding}
use Rattle.spl_streams.proofs.tests.branch.Given as goal

abbrev pub invariant-loop-number : goal.invariant-loop-number
invariant-loop-number g l = (l.builder.stage ≡ Adding) × (l.builder.stopped ≡ None)
    × (l.builder.last ≡ l.last)

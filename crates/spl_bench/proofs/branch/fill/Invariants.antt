use Rattle.std.proofs.Common.{◌≡◌, None}
use Rattle.spl_build.specs.declared.stage.Stage.TheVariants.{Adding}
use Rattle.spl_bench.proofs.branch.fill.Given as goal

abbrev pub invariant-loop-number : goal.invariant-loop-number
invariant-loop-number l = (l.builder.stopped ≡ None) × (l.builder.stage ≡ Adding) × (l.builder.last ≡ l.last)

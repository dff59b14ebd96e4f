use Rattle.std.proofs.Common.{◌≡◌, None, length}
use Rattle.spl_build.specs.declared.stage.Stage.TheVariants.{Adding}
use Rattle.spl_build.proofs.tests.builder_with.Given as goal

abbrev pub invariant-loop-extent : goal.invariant-loop-extent
invariant-loop-extent g l = (l.builder.stage ≡ Adding) × (l.builder.stopped ≡ None) × (l.builder.last ≡ None) × (length l.builder.extents ≡ l.extent)

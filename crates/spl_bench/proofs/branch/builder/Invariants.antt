use Rattle.std.proofs.Common.{◌≡◌, length, None}
use Rattle.spl_build.specs.declared.stage.Stage.TheVariants.{Adding}
use Rattle.spl_bench.proofs.branch.builder.Given as goal

abbrev pub invariant-loop-extent : goal.invariant-loop-extent
invariant-loop-extent l =
    (length l.builder.extents ≡ l.extent) × (l.builder.stopped ≡ None) × (l.builder.stage ≡ Adding) × (l.builder.last ≡ None)

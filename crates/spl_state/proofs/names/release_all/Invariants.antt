use Rattle.std.proofs.Common.{drop}
use Rattle.spl_state.proofs.LettingGo.{Freeing}
use Rattle.spl_state.proofs.names.release_all.Given as goal

abbrev pub invariant-loop-extent : goal.invariant-loop-extent
invariant-loop-extent l = Freeing l.initial.pool l.pool l.branch (drop l.extent-index l.extents)

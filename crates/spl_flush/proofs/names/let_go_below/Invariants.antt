use Rattle.spl_bundle.proofs.Live.{live_below}
use Rattle.spl_state.proofs.LettingGo.{LettingGo}
use Rattle.spl_flush.specs.Flushing.{names_below}
use Rattle.spl_flush.proofs.names.let_go_below.Given as goal

-- what the bundles from this one on name is still to be let go
abbrev pub invariant-loop-dropped : goal.invariant-loop-dropped
invariant-loop-dropped g l = LettingGo g.B.Content.extents
    (names_below l.lists l.number) l.initial.refs l.refs l.initial.pool l.pool
    (live_below l.lists l.dropped l.number)

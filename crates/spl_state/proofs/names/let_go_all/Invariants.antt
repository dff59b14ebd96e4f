use Rattle.std.proofs.Common.{drop}
use Rattle.spl_state.proofs.LettingGo.{LettingGo}
use Rattle.spl_state.proofs.names.let_go_all.Given as goal

abbrev pub invariant-loop-number : goal.invariant-loop-number
invariant-loop-number g l = LettingGo g.B.Content.extents l.numbers l.initial.refs l.refs l.initial.pool l.pool (drop l.number-index l.numbers)

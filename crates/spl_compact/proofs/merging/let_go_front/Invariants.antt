use Rattle.spl_compact.proofs.Accounting.{Fronts}
use Rattle.spl_compact.proofs.merging.let_go_front.Given as goal

abbrev pub invariant-loop-number : goal.invariant-loop-number
invariant-loop-number g l = Fronts g.B.Content.extents l.initial.refs l.refs l.initial.pool l.pool l.lists l.number l.end

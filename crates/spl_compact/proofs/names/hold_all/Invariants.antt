use Rattle.std.proofs.Common.{take}
use Rattle.spl_compact.proofs.Held.{HeldSo}
use Rattle.spl_compact.proofs.names.hold_all.Given as goal

abbrev pub invariant-loop-number : goal.invariant-loop-number
invariant-loop-number g l = HeldSo l.initial.refs l.refs (take l.number-index l.numbers)

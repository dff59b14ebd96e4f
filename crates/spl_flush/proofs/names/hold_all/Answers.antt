use Rattle.std.proofs.Common.{arith}
use Rattle.spl_flush.proofs.Holds.{this_stands}
use Rattle.spl_flush.proofs.names.hold_all.Goals as goal

pub hold-requires-clause-there : goal.hold-requires-clause-there
hold-requires-clause-there g c =
    this_stands c.args.refs.now c.loop-number.refs c.args.numbers.now c.loop-number.number-index
    (omega arith) c.loop-number.invariant.counts c.loop-number.invariant.branches c.requires.there

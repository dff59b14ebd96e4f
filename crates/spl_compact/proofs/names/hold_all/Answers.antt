use Rattle.std.proofs.Common.{arith}
use Rattle.spl_compact.proofs.Held.{none_held, stands_next, room_next, held_more}
use Rattle.spl_compact.proofs.names.hold_all.Goals as goal

pub loop-number-init : goal.loop-number-init
loop-number-init g c = none_held c.args.refs.now

pub hold-requires-clause-there : goal.hold-requires-clause-there
hold-requires-clause-there g c =
    stands_next c.args.refs.now c.loop-number.refs c.args.numbers.now c.loop-number.number-index (omega arith) c.loop-number.invariant c.requires.there

pub hold-requires-clause-limit : goal.hold-requires-clause-limit
hold-requires-clause-limit g c =
    room_next c.args.refs.now c.loop-number.refs c.args.numbers.now c.loop-number.number-index (omega arith) c.loop-number.invariant c.requires.limit

pub loop-number-preserved : goal.loop-number-preserved
loop-number-preserved g c =
    held_more c.args.refs.now c.loop-number.refs c.args.numbers.now c.loop-number.number-index (omega arith) c.loop-number.invariant c.hold.new.self c.hold.ensures.counts c.hold.ensures.branches

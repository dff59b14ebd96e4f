use Rattle.std.proofs.Common.{arith}
use Rattle.spl_split.proofs.Naming.{named_none, next_held, next_few, named_next, named_all}
use Rattle.spl_split.proofs.names.name_list.Goals as goal

pub loop-number-init : goal.loop-number-init
loop-number-init g c = named_none _

pub hold-requires-clause-there : goal.hold-requires-clause-there
hold-requires-clause-there g c =
    next_held c.args.refs.now c.loop-number.refs c.args.list.now c.loop-number.number-index
    (omega arith) c.loop-number.invariant c.requires.stand

pub hold-requires-clause-limit : goal.hold-requires-clause-limit
hold-requires-clause-limit g c =
    next_few c.args.refs.now c.loop-number.refs c.args.list.now c.loop-number.number-index
    (omega arith) c.loop-number.invariant c.requires.room

pub loop-number-preserved : goal.loop-number-preserved
loop-number-preserved g c =
    named_next c.args.refs.now c.loop-number.refs c.args.list.now c.loop-number.number-index
    (omega arith) c.loop-number.invariant c.hold.new.self c.hold.ensures.counts c.hold.ensures.branches

pub returns : goal.returns
returns g c = named_all c.args.refs.now c.loop-number.refs c.args.list.now c.loop-number.number-index
    (omega arith) c.loop-number.invariant

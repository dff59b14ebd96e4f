use Rattle.std.proofs.Common.{take}
use Rattle.spl_split.specs.Naming.{NamedMore}
use Rattle.spl_split.proofs.names.name_list.Given as goal

abbrev pub invariant-loop-number : goal.invariant-loop-number
invariant-loop-number g l = NamedMore l.initial.refs l.refs (take l.number-index l.list)

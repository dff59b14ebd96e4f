use Rattle.std.proofs.Common.{◌≡◌, ◌++◌}
use Rattle.spl_node.specs.Parts.{branches_from}
use Rattle.spl_compact.proofs.names.numbers_of.Given as goal

abbrev pub invariant-loop-number : goal.invariant-loop-number
invariant-loop-number l = l.numbers.items ++ branches_from l.lists l.number l.end ≡ branches_from l.lists l.first l.end

use Rattle.std.proofs.Common.{◌≡◌, ◌++◌}
use Rattle.spl_message.specs.Table.{part_of}
use Rattle.spl_memtable.proofs.memtable.Memtable.slice.Given as goal

abbrev pub invariant-loop-key : goal.invariant-loop-key
invariant-loop-key l = l.entries.items ++ l.key-iterator ≡ (part_of l.span l.self).messages

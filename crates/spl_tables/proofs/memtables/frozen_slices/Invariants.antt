use Rattle.std.proofs.Common.{◌≡◌, ◌+◌, ◌≤◌, length, map, take}
use Rattle.std.specs.Prelude.{vec_len, vec_capacity}
use Rattle.spl_message.specs.Table.{part_of}
use Rattle.spl_tables.specs.Memtables.{FrozenData}
use Rattle.spl_tables.proofs.memtables.frozen_slices.Given as goal

-- the parts of the tables so far, with room for the others and one more
abbrev pub invariant-loop-table : goal.invariant-loop-table
invariant-loop-table l = record {
  parts : l.slices.items ≡ map (λ (frozen : FrozenData). part_of l.span frozen.table) (take l.table-index l.tables);
  count : vec_len l.slices ≡ l.table-index;
  room : length l.tables + 1 ≤ vec_capacity l.slices;
}

-- What an actor that picks a frozen memtable is given.
use Rattle.std.specs.Prelude.{◌≡◌}
use Rattle.spl_tables.specs.declared.frozen_table.Picked.{Picked}
use Rattle.spl_tables.specs.Memtables.{FrozenData}

-- the number of the frozen memtable, and its whole table
pub record IsOf (picked : Picked) (frozen : FrozenData) : Type 0 where
  pub number : picked.number ≡ frozen.number
  pub table : picked.table ≡ frozen.table

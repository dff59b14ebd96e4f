-- What a store keeps its memtables in.
use Rattle.std.specs.Prelude.{ℕ, ◌≤◌, List}
use Rattle.spl_message.specs.Table.{Table}
use Rattle.spl_tables.specs.Memtables.{FrozenData, MemtableData, AreMemtables}

abbrev pub data_of : Table → List FrozenData → ℕ → MemtableData
data_of active frozen next = record { active = active; frozen = frozen; next = next }

-- the memtables are sound, and there is room for as many frozen ones as there may be
pub record IsSound (tables : MemtableData) (capacity : ℕ) : Type 0 where
  pub room : 4 ≤ capacity
  pub sound : AreMemtables tables

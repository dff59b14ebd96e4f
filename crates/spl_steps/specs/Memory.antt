-- What a put and a rotation make of the state.
use Rattle.std.specs.Prelude.{◌≡◌, ℕ, ◌+◌, nat_lt, ◌≤◌, if◌then◌else◌, List, length}
use Rattle.spl_message.specs.Table.{key_count}
use Rattle.spl_tables.specs.Memtables.{MemtableData, rotated}
use Rattle.spl_state.specs.declared.counters.Counters.{Counters}
use Rattle.spl_state.specs.Whole.{Whole}

-- one call more has a place
abbrev pub placed : Counters → Counters
placed counters = record counters { places = counters.places + 1 }

-- a put changes the active memtable, and takes the next place
pub record HasPut (old new : Whole) : Type 0 where
  pub all : new ≡ record old { tables = new.tables; counters = placed old.counters }
  pub frozen : new.tables.frozen ≡ old.tables.frozen
  pub next : new.tables.next ≡ old.tables.next

abbrev pub has_rotated : Whole → Whole
has_rotated whole = record whole { tables = rotated whole.tables }

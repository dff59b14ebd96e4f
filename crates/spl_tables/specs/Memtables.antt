-- The memtables of a store as plain data, and what each call makes of them.
use Rattle.std.specs.Prelude.{◌≡◌, ℕ, ◌+◌, ◌<◌, ◌≤◌, ◌==◌, if◌then◌else◌, List, [], ◌∷◌, ◌++◌, length, drop, map, Option, Some, None, is_none}
use Rattle.std.specs.Prelude.{All, AllPairs, slice_index_or, slice_set}
use Rattle.std.specs.List.{position}
use Rattle.spl_message.specs.Table.{Table, IsTable, as_table, key_count}

-- a frozen memtable: its number, its table, and the actor who picked it, where one did
pub record FrozenData : Type 0 where
  pub number : ℕ
  pub table : Table
  pub picked : Option ℕ

-- the memtable that takes writes, the frozen ones with the oldest first, and the number that the next
-- frozen one gets
pub record MemtableData : Type 0 where
  pub active : Table
  pub frozen : List FrozenData
  pub next : ℕ

-- the frozen tables, oldest first, and then the active one
abbrev pub tables_of : MemtableData → List Table
tables_of tables = map (λ frozen. frozen.table) tables.frozen ++ tables.active ∷ []

-- no key yet, and no frozen memtable
abbrev pub no_tables : MemtableData
no_tables = record { active = as_table []; frozen = []; next = 0 }

-- what always holds of memtables
pub record AreMemtables (tables : MemtableData) : Type 0 where
  pub few : length tables.frozen ≤ 4
  pub rising : AllPairs (λ earlier later. earlier.number < later.number) tables.frozen
  pub below_next : All (λ frozen. frozen.number < tables.next) tables.frozen
  pub full : All (λ frozen. key_count frozen.table ≡ 1024) tables.frozen
  pub in_order : All (λ frozen. IsTable frozen.table) tables.frozen
  pub active_limit : key_count tables.active ≤ 1024
  pub active_in_order : IsTable tables.active

-- the active memtable is the newest frozen one, which nobody picked, and a new one has no keys
abbrev pub rotated : MemtableData → MemtableData
rotated tables = record {
  active = as_table [];
  frozen = tables.frozen ++ record { number = tables.next; table = tables.active; picked = None } ∷ [];
  next = tables.next + 1;
}

-- the position of the oldest one that nobody picked
abbrev pub first_unpicked : List FrozenData → Option ℕ
first_unpicked frozen = position (λ one. is_none one.picked) frozen

-- the frozen memtable at a position
abbrev pub frozen_at : List FrozenData → ℕ → FrozenData
frozen_at frozen position =
    slice_index_or frozen position (record { number = 0; table = as_table []; picked = None })

-- picked by the actor, and else as it was
abbrev pub taken_by : ℕ → FrozenData → FrozenData
taken_by actor frozen = record frozen { picked = Some actor }

-- the frozen memtable at the position is picked by the actor, and all else is as it was
abbrev pub picked_by : MemtableData → ℕ → ℕ → MemtableData
picked_by tables position actor =
    record tables { frozen = slice_set tables.frozen position (taken_by actor (frozen_at tables.frozen position)) }

-- nobody, where it was this actor
abbrev pub other_than : ℕ → Option ℕ → Option ℕ
other_than actor None = None
other_than actor (Some by) = if by == actor then None else Some by

-- picked by nobody, where it was picked by the actor
abbrev pub released_by : ℕ → FrozenData → FrozenData
released_by actor frozen = record frozen { picked = other_than actor frozen.picked }

-- what the actor picked can be picked again
abbrev pub without_picks : MemtableData → ℕ → MemtableData
without_picks tables actor = record tables { frozen = map (released_by actor) tables.frozen }

-- the oldest frozen memtable is gone
abbrev pub without_oldest : MemtableData → MemtableData
without_oldest tables = record tables { frozen = drop 1 tables.frozen }

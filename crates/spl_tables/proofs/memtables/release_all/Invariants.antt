use Rattle.std.proofs.Common.{◌≡◌, ◌++◌, map, take, drop}
use Rattle.spl_tables.specs.Memtables.{released_by}
use Rattle.spl_tables.proofs.memtables.release_all.Given as goal

-- the tables so far are released, and the others are as they were
abbrev pub invariant-loop-table : goal.invariant-loop-table
invariant-loop-table l =
    l.tables ≡ map (released_by l.actor) (take l.table-index l.initial.tables) ++ drop l.table-index l.initial.tables

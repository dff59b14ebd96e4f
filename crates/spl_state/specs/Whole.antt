-- The state of a store as plain data.
use Rattle.std.specs.Prelude.{ℕ, List, [], Bool, Option, Some, None}
use Rattle.spl_message.specs.Table.{Table, as_table}
use Rattle.spl_node.specs.Node.{NodeData}
use Rattle.spl_extent.specs.declared.owner.Owner.{Owner}
use Rattle.spl_holds.specs.declared.grip.Grip.{Grip}
use Rattle.spl_refs.specs.Refs.{Published, branch_at, count_at}
use Rattle.spl_tables.specs.Memtables.{MemtableData}
use Rattle.spl_state.specs.declared.actor.Actor.{Actor}
use Rattle.spl_state.specs.declared.counters.Counters.{Counters}

-- a published branch; where devices tell nothing, no clause speaks of its table
pub record BranchData : Type 0 where
  pub extents : List ℕ
  pub entries : ℕ
  pub cuts : List (List ℕ)
  pub table : Table

pub record Whole : Type 0 where
  -- the trunk's nodes by their numbers
  pub nodes : List NodeData
  -- the branches that are named, by their numbers, each with how often it is
  pub refs : Published BranchData
  -- the owner of each extent
  pub owners : List Owner
  -- what each actor has of each node
  pub grips : List (List Grip)
  pub tables : MemtableData
  pub actors : List Actor
  pub counters : Counters

-- the table of the branch, where there is one
abbrev pub table_or : Option BranchData → Table
table_or None = as_table []
table_or (Some branch) = branch.table

-- the table of the branch with this number
abbrev pub table_in : (ℕ → Option BranchData) → ℕ → Table
table_in branch number = table_or (branch number)

-- the branch with this number
abbrev pub branches : Whole → ℕ → Option BranchData
branches whole = branch_at whole.refs

-- how often the branch with this number is named
abbrev pub counts : Whole → ℕ → ℕ
counts whole = count_at whole.refs

-- The invariant of the store's state: what every step finds, and leaves.
use Rattle.std.specs.Prelude.{◌≡◌, ℕ, ◌<◌, true, List, [], ◌∷◌, length, replicate, Some, None, All}
use Rattle.spl_base.specs.declared.TheConstants.{ACTORS}
use Rattle.spl_message.specs.Cell.{Cell}
use Rattle.spl_message.specs.Rule.{Rule}
use Rattle.spl_message.specs.Table.{as_table}
use Rattle.spl_extent.specs.declared.owner.Owner.TheVariants.{Free}
use Rattle.spl_holds.specs.Latch.{IsLatched, nobody}
use Rattle.spl_node.specs.Node.{bare}
use Rattle.spl_node.specs.Steps.{fresh}
use Rattle.spl_trunk.specs.Trunk.{node_at}
use Rattle.spl_trunk.specs.Tree.{IsShaped, means}
use Rattle.spl_tables.specs.Memtables.{AreMemtables, tables_of}
use Rattle.spl_state.specs.declared.job.Job.{Job}
use Rattle.spl_state.specs.Actor.{idle, actor_in}
use Rattle.spl_refs.specs.Refs.{held_at}
use Rattle.spl_state.specs.Whole.{Whole, branches, counts, table_in}
use Rattle.spl_state.specs.Extents.{mentioned, AccountsForExtents}
use Rattle.spl_state.specs.Runs.{AreInRuns}
use Rattle.spl_state.specs.Actors.{IsActor, JobsDiffer, ArePicked, HasTable}
use Rattle.spl_state.specs.Bounds.{AreBounded, HasAllEnds}

pub record IsSound (whole : Whole) : Type 0 where
  -- the trunk is a tree, with a latch for each node
  pub shaped : IsShaped whole.nodes
  pub latches : length whole.grips ≡ length whole.nodes
  pub latched : All IsLatched whole.grips
  -- what is named is counted, and holds its extents
  pub extents : AccountsForExtents (mentioned whole.nodes whole.actors) (counts whole) (branches whole) whole.owners
  pub memtables : AreMemtables whole.tables
  -- each actor descends or works, and no two do the same work
  pub count : length whole.actors ≡ ACTORS
  pub actors : (number : ℕ) → number < ACTORS → IsActor whole.nodes (branches whole) whole.owners whole.grips whole.tables.frozen whole.counters.places whole.counters.branches number (actor_in whole.actors number)
  pub apart : JobsDiffer whole.actors
  pub picked : ArePicked whole.tables.frozen whole.actors
  pub runs : AreInRuns whole.nodes whole.actors
  pub ends : HasAllEnds whole.nodes
  pub bounds : AreBounded whole.nodes (branches whole) whole.tables whole.counters

-- each branch that a job published has the table that the job asks for
abbrev pub AreDrafts : Rule → Whole → Type 0
AreDrafts rule whole = (number : ℕ) (job : Job) → (actor_in whole.actors number).job ≡ Some job → (actor_in whole.actors number).published ≡ true → HasTable rule (branches whole) whole.tables.frozen job

-- what the store has for a key
abbrev pub meaning : Rule → Whole → List ℕ → Cell
meaning rule whole key = means rule (table_in (branches whole)) (node_at whole.nodes) (tables_of whole.tables) key

-- the state of a store in which no call was made, with so many extents and callers
pub record IsEmpty (extents callers : ℕ) (whole : Whole) : Type 0 where
  pub nodes : whole.nodes ≡ fresh 0 bare ∷ []
  pub refs : (number : ℕ) → held_at whole.refs number ≡ None
  pub owners : whole.owners ≡ replicate extents Free
  pub grips : whole.grips ≡ nobody ∷ []
  pub tables : whole.tables ≡ record { active = as_table []; frozen = []; next = 0 }
  pub actors : whole.actors ≡ replicate ACTORS idle
  pub counters : whole.counters ≡ record { steps = 0; places = 0; branches = 0; running = callers }

-- What a book of grips keeps of its nodes, and of each actor.
use Rattle.std.specs.Prelude.{◌≡◌, ℕ, ◌<◌, ◌≤◌, List, length, slice_index_or, All}
use Rattle.spl_base.specs.declared.TheConstants.{ACTORS}
use Rattle.spl_numbers.specs.Numbers.{has}
use Rattle.spl_holds.specs.declared.grip.Grip.{Grip}
use Rattle.spl_holds.specs.declared.tally.Tally.{Tally}
use Rattle.spl_holds.specs.declared.holds.TheConstants.{NODES}
use Rattle.spl_holds.specs.Grip.{is_held}
use Rattle.spl_holds.specs.Latch.{IsLatched}
use Rattle.spl_holds.specs.Holds.{grip_of}
use Rattle.spl_holds.specs.Counts.{counts_of}

-- each node's latch keeps its rules, there is a root, and there is room for all nodes
pub record HasRoom (holds : List (List Grip)) (room : ℕ) : Type 0 where
  pub latched : All IsLatched holds
  pub root : 0 < length holds
  pub limit : length holds ≤ NODES
  pub room_for_all : NODES ≤ room

-- the tally has the actor's counts, and the nodes of which it has something
pub record IsTally (holds : List (List Grip)) (actor : ℕ) (tally : Tally) : Type 0 where
  pub counts : tally.counts ≡ counts_of holds actor
  pub limit : length tally.nodes ≡ NODES
  pub nodes : (node : ℕ) → has tally.nodes node ≡ is_held (grip_of holds actor node)

pub record IsKept (holds : List (List Grip)) (room : ℕ) (tallies : List Tally) : Type 0 where
  pub nodes : HasRoom holds room
  pub actors : length tallies ≡ ACTORS
  pub each : (actor : ℕ) (d : Tally) → actor < ACTORS → IsTally holds actor (slice_index_or tallies actor d)

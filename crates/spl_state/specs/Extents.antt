-- Which branches are named, how often, and who has which extent.
use Rattle.std.specs.Prelude.{◌≡◌, ℕ, ◌<◌, ◌==◌, ◌↔◌, Bool, true, false, if◌then◌else◌, List, [], ◌∷◌, ◌++◌, map, flat_map, Option, Some, None, IsSome, IfSome}
use Rattle.spl_numbers.specs.Numbers.{has, ListsEach}
use Rattle.spl_extent.specs.declared.owner.Owner.{Owner}
use Rattle.spl_extent.specs.declared.owner.Owner.TheVariants.{Free, Granted, Held}
use Rattle.spl_node.specs.Node.{NodeData}
use Rattle.spl_trunk.specs.Tree.{times, named}
use Rattle.spl_state.specs.declared.job.Job.{Job}
use Rattle.spl_state.specs.declared.job.Job.TheVariants.{Pack, Merge}
use Rattle.spl_state.specs.declared.actor.Actor.{Actor}
use Rattle.spl_state.specs.Whole.{BranchData}

-- the number of a job's branch
abbrev pub number_of : Job → ℕ
number_of (Pack number table) = number
number_of (Merge number run) = number

-- the branches that a job reads
abbrev pub inputs_of : Option Job → List ℕ
inputs_of None = []
inputs_of (Some (Pack number table)) = []
inputs_of (Some (Merge number run)) = run.inputs

-- the branch that the job made and published
abbrev pub draft_of : Option Job → Bool → List ℕ
draft_of None published = []
draft_of (Some job) published = if published then number_of job ∷ [] else []

-- what an actor's job names
abbrev pub named_by : Actor → List ℕ
named_by actor = inputs_of actor.job ++ draft_of actor.job actor.published

-- every branch that a bundle, a run or a draft names, as often as they name it
abbrev pub mentioned : List NodeData → List Actor → List ℕ
mentioned nodes actors = named nodes ++ flat_map named_by actors

abbrev pub is_held_by : ℕ → Owner → Bool
is_held_by number Free = false
is_held_by number (Granted actor) = false
is_held_by number (Held branch) = branch == number

-- which extents the branch holds: a list that says so of each, by the extents' numbers
abbrev pub held_by : List Owner → ℕ → List Bool
held_by owners number = map (is_held_by number) owners

-- A branch's count is how often it is named, and it stands where that is above 0. It holds exactly its own
-- extents, each once, and a branch that does not stand holds none: so what is named is neither free nor granted.
pub record AccountsForExtents (mentions : List ℕ) (count : ℕ → ℕ) (branch : ℕ → Option BranchData) (owners : List Owner) : Type 0 where
  pub counts : (number : ℕ) → count number ≡ times number mentions
  pub stands : (number : ℕ) → IsSome (branch number) ↔ (0 < count number)
  pub held : (number : ℕ) → IfSome (branch number) (λ (b : BranchData). ListsEach b.extents (held_by owners number))
  pub not_held : (number extent : ℕ) → branch number ≡ None → has (held_by owners number) extent ≡ false

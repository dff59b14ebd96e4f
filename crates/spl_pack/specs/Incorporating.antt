-- What an incorporation answers, and what it makes of the state.
use Rattle.std.specs.Prelude.{◌≡◌, ℕ, ◌==◌, nat_lt, Bool, true, false, if◌then◌else◌, List, [], ◌∷◌, Option, Some, None, length, slice_set}
use Rattle.spl_bundle.specs.declared.bundles.TheConstants.{MAX_LISTS}
use Rattle.spl_bundle.specs.Numbered.{pushed}
use Rattle.spl_holds.specs.Grip.{is_write}
use Rattle.spl_holds.specs.Holds.{grip_of}
use Rattle.spl_node.specs.Node.{NodeData}
use Rattle.spl_node.specs.Steps.{with_lists}
use Rattle.spl_trunk.specs.Trunk.{node_at, with_node}
use Rattle.spl_tables.specs.declared.memtables.Oldest.{Oldest}
use Rattle.spl_tables.specs.Memtables.{FrozenData, frozen_at, without_oldest}
use Rattle.spl_state.specs.declared.job.Job.{Job}
use Rattle.spl_state.specs.declared.job.Job.TheVariants.{Pack, Merge}
use Rattle.spl_state.specs.declared.reply.Reply.{Reply}
use Rattle.spl_state.specs.declared.reply.Reply.TheVariants.{Done, NotOldest, NeedsFlush, Unfit}
use Rattle.spl_state.specs.Actor.{actor_in, with_job}
use Rattle.spl_state.specs.Reply.{state_of}
use Rattle.spl_state.specs.Whole.{Whole}
use Rattle.spl_pack.specs.declared.draft.Packed.{Packed}

-- the job's branch and memtable, where the job packs and its branch is published
abbrev pub packed_by : Option Job → Bool → Option Packed
packed_by (Some (Pack number table)) true = Some (record { number = number; table = table })
packed_by (Some (Pack number table)) false = None
packed_by (Some (Merge number run)) published = None
packed_by None published = None

-- what the actor packed and published, where it writes the root
abbrev pub ready_in : Whole → ℕ → Option Packed
ready_in whole actor = if is_write (grip_of whole.grips actor 0) then packed_by (actor_in whole.actors actor).job (actor_in whole.actors actor).published else None

-- the oldest frozen memtable, where it is another than this one
abbrev pub older_than : List FrozenData → ℕ → Option Oldest
older_than frozen table = if (frozen_at frozen 0).number == table then None else Some (record { number = (frozen_at frozen 0).number; picked = (frozen_at frozen 0).picked })

module _ {B : Type 0} where
  abbrev pub unless_older : Whole → Option Oldest → Reply B
  unless_older whole (Some oldest) = NotOldest oldest.number oldest.picked
  unless_older whole None = if nat_lt (length (node_at whole.nodes 0).lists.bundles) MAX_LISTS then Done else NeedsFlush

  abbrev pub where_ready : Whole → ℕ → Option Packed → Reply B
  where_ready whole actor None = Unfit (state_of whole actor)
  where_ready whole actor (Some packed) = unless_older whole (older_than whole.tables.frozen packed.table)

  abbrev pub incorporate_answer : Whole → ℕ → Reply B
  incorporate_answer whole actor = where_ready whole actor (ready_in whole actor)

-- the root with the branch as its newest bundle
abbrev pub with_branch : NodeData → ℕ → NodeData
with_branch node number = with_lists node (pushed node.lists (number ∷ []))

-- the branch is the newest bundle of the root, the oldest frozen memtable is gone, and the actor's job has ended
abbrev pub incorporated : Whole → ℕ → ℕ → Whole
incorporated whole actor number = record whole {
  nodes = with_node whole.nodes 0 (with_branch (node_at whole.nodes 0) number);
  tables = without_oldest whole.tables;
  actors = slice_set whole.actors actor (with_job (actor_in whole.actors actor) None);
}

-- the branch that the actor packed hangs at the root
abbrev pub IsIncorporated : Whole → ℕ → Whole → Type 0
IsIncorporated old actor new = (packed : Packed) → ready_in old actor ≡ Some packed → new ≡ incorporated old actor packed.number

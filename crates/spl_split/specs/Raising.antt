-- What a raise answers, and what it makes of the state.
use Rattle.std.specs.Prelude.{◌≡◌, ℕ, ◌<◌, ◌==◌, not, if◌then◌else◌, [], ◌∷◌, ◌++◌, length, slice_set}
use Rattle.spl_holds.specs.declared.grip.Grip.TheVariants.{Write}
use Rattle.spl_holds.specs.Grip.{is_write}
use Rattle.spl_holds.specs.Holds.{grip_of}
use Rattle.spl_holds.specs.Latch.{nobody}
use Rattle.spl_trunk.specs.declared.trunk.TheConstants.{MAX_NODES}
use Rattle.spl_trunk.specs.Moves.{raised}
use Rattle.spl_state.specs.declared.reply.Reply.{Reply}
use Rattle.spl_state.specs.declared.reply.Reply.TheVariants as reply
use Rattle.spl_state.specs.Actor.{actor_in, told_of}
use Rattle.spl_state.specs.Reply.{state_of}
use Rattle.spl_state.specs.Whole.{Whole}

module _ {B : Type 0} where
  -- what a raise answers, where memory does not run out
  abbrev pub raise_answer : Whole → ℕ → Reply B
  raise_answer whole actor =
      if not (is_write (grip_of whole.grips actor 0)) then reply.Unfit (state_of whole actor)
      else if length whole.nodes == MAX_NODES then reply.Nodes MAX_NODES
      else reply.Done

-- the actor writes the root, and there is room for a node
pub record MayRaise (whole : Whole) (actor : ℕ) : Type 0 where
  pub writes : grip_of whole.grips actor 0 ≡ Write
  pub room : length whole.nodes < MAX_NODES

-- The root is raised over a new node that is what it was. Nobody has a grip on that node, and the actor is told
-- of it.
abbrev pub root_raised : Whole → ℕ → Whole
root_raised whole actor = record whole {
  nodes = raised whole.nodes;
  grips = whole.grips ++ nobody ∷ [];
  actors = slice_set whole.actors actor (told_of (actor_in whole.actors actor) (length whole.nodes));
}

-- What the latch steps answer, and what they make of the state.
use Rattle.std.specs.Prelude.{ℕ, nat_lt, ◌||◌, is_some, if◌then◌else◌, Option, Some, None, length}
use Rattle.spl_holds.specs.declared.grip.Grip.{Grip}
use Rattle.spl_holds.specs.Grip.{is_held, is_claim, may_write}
use Rattle.spl_holds.specs.Latch.{claimant_of, first_reader_of}
use Rattle.spl_holds.specs.Holds.{grip_of, grips_at, with_grip}
use Rattle.spl_state.specs.declared.reply.Reply.{Reply}
use Rattle.spl_state.specs.declared.reply.Reply.TheVariants.{Done, Unfit, NoNode, Again}
use Rattle.spl_state.specs.Actor.{actor_in}
use Rattle.spl_state.specs.Reply.{state_of}
use Rattle.spl_state.specs.Whole.{Whole}

module _ {B : Type 0} where
  -- refused by the actor whose grip forbids it, or done
  abbrev pub unless_held : ℕ → Option ℕ → Reply B
  unless_held node None = Done
  unless_held node (Some by) = Again node by

  -- an actor that descends, or has a grip on the node, can't claim it
  abbrev pub claim_answer : Whole → ℕ → ℕ → Reply B
  claim_answer whole actor node =
      if is_some (actor_in whole.actors actor).descent || is_held (grip_of whole.grips actor node) then Unfit (state_of whole actor)
      else if nat_lt node (length whole.nodes) then unless_held node (claimant_of (grips_at whole.grips node))
      else NoNode (length whole.nodes)

  -- a claim becomes a write where nobody reads the node
  abbrev pub lock_answer : Whole → ℕ → ℕ → Reply B
  lock_answer whole actor node =
      if is_claim (grip_of whole.grips actor node) then unless_held node (first_reader_of (grips_at whole.grips node))
      else Unfit (state_of whole actor)

  abbrev pub unlock_answer : Whole → ℕ → ℕ → Reply B
  unlock_answer whole actor node = if may_write (grip_of whole.grips actor node) then Done else Unfit (state_of whole actor)

-- the actor has this grip on the node
abbrev pub gripped : Whole → ℕ → ℕ → Grip → Whole
gripped whole actor node grip = record whole { grips = with_grip whole.grips actor node grip }

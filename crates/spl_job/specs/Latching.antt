-- How the steps that take a latch are answered.
use Rattle.std.specs.Prelude.{◌≡◌, ◌⊎◌, ℕ, Bool, true, false}
use Rattle.spl_state.specs.declared.reply.Reply.{Reply}
use Rattle.spl_state.specs.declared.reply.Reply.TheVariants as reply
use Rattle.spl_core.specs.declared.step.Step.TheVariants as step
use Rattle.spl_desk.specs.Turn.{Turn}

module _ {B : Type 0} where
  -- the latch is taken, or somebody is in the way
  abbrev pub IsLatchAnswer : Bool → Reply B → Type 0
  IsLatchAnswer true answer = answer ≡ reply.Done
  IsLatchAnswer false answer = (node : ℕ) × (by : ℕ) × (answer ≡ reply.Again node by)

  -- the turn in which the claim on the node was asked for
  abbrev pub IsClaimTurn : ℕ → Bool → Turn B → Type 0
  IsClaimTurn node taken turn = (turn.step ≡ step.Claim node) × IsLatchAnswer taken turn.reply

  -- the turn in which the claim on the node was to become a write
  abbrev pub IsLockTurn : ℕ → Bool → Turn B → Type 0
  IsLockTurn node taken turn = (turn.step ≡ step.Lock node) × IsLatchAnswer taken turn.reply

  -- in this turn somebody was in the way of the claim or of the write on the node
  abbrev pub IsRefusal : ℕ → Turn B → Type 0
  IsRefusal node turn = IsClaimTurn node false turn ⊎ IsLockTurn node false turn

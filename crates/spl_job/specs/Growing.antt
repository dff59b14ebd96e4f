-- What the steps by which the trunk grows are answered.
use Rattle.std.specs.Prelude.{◌≡◌, ℕ, List, Result, Ok, Err}
use Rattle.spl_base.specs.declared.NoMemory.{NoMemory}
use Rattle.spl_state.specs.declared.reply.Reply.{Reply}
use Rattle.spl_state.specs.declared.reply.Reply.TheVariants as reply
use Rattle.spl_core.specs.declared.step.Step.TheVariants as step
use Rattle.spl_desk.specs.Holder.{Holder}
use Rattle.spl_desk.specs.Turn.{Turn}
use Rattle.spl_job.specs.Merging.{split_in}
use Rattle.spl_job.specs.declared.growing.Raising.{Raising}
use Rattle.spl_job.specs.declared.growing.Raising.TheVariants as raising
use Rattle.spl_job.specs.declared.growing.Splitting.{Splitting}
use Rattle.spl_job.specs.declared.growing.Splitting.TheVariants as splitting

module _ {B : Type 0} where
  abbrev pub IsRaiseAnswer : Result Raising NoMemory → Reply B → Type 0
  IsRaiseAnswer (Ok raising.Done) answer = answer ≡ reply.Done
  IsRaiseAnswer (Ok raising.Nodes) answer = (nodes : ℕ) × (answer ≡ reply.Nodes nodes)
  IsRaiseAnswer (Err fault) answer = answer ≡ reply.NoMemory

  abbrev pub IsSplitAnswer : ℕ → Result Splitting NoMemory → Reply B → Type 0
  IsSplitAnswer child (Ok splitting.Done) answer = answer ≡ reply.Done
  IsSplitAnswer child (Ok splitting.Moved) answer = answer ≡ reply.Moved child
  IsSplitAnswer child (Ok splitting.Outside) answer = answer ≡ reply.Outside
  IsSplitAnswer child (Ok splitting.Pivots) answer = (pivots : ℕ) × (answer ≡ reply.Pivots pivots)
  IsSplitAnswer child (Ok splitting.Nodes) answer = (nodes : ℕ) × (answer ≡ reply.Nodes nodes)
  IsSplitAnswer child (Err fault) answer = answer ≡ reply.NoMemory

  -- the turn in which the root was to be raised; up to it others left the root's split key as the holder's step before had
  abbrev pub IsRaiseTurn : Holder → Result Raising NoMemory → Turn B → Type 0
  IsRaiseTurn old result turn = (turn.step ≡ step.Raise) × (split_in turn.before 0 ≡ split_in old.at 0) × IsRaiseAnswer result turn.reply

  -- the turn in which the child was to be split at the key; up to it others left the child's split key
  abbrev pub IsSplitTurn : Holder → ℕ → ℕ → List ℕ → Result Splitting NoMemory → Turn B → Type 0
  IsSplitTurn old parent child key result turn =
      (turn.step ≡ step.Split parent child key) × (split_in turn.before child ≡ split_in old.at child) × IsSplitAnswer child result turn.reply

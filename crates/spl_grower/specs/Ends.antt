-- The turns that say what came of letting the trunk grow.
use Rattle.std.specs.Prelude.{◌≡◌, ℕ, List, Some, None, IsSome}
use Rattle.spl_state.specs.declared.reply.Reply.TheVariants as reply
use Rattle.spl_state.specs.declared.view.View.{View}
use Rattle.spl_core.specs.declared.step.Step.TheVariants as step
use Rattle.spl_desk.specs.Turn.{Turn}
use Rattle.spl_job.specs.Merging.{split_in}
use Rattle.spl_job.specs.Latching.{IsRefusal}
use Rattle.spl_enter.specs.Both.{IsRefusalOf}
use Rattle.spl_grower.specs.declared.grown.Grown.{Grown}
use Rattle.spl_grower.specs.declared.grown.Grown.TheVariants.{Done, Unneeded, Full, Moved, Busy}

module _ {B : Type 0} where
  -- a survey in this turn showed that the node is not to be split
  abbrev pub ShowsNoSplit : ℕ → Turn B → Type 0
  ShowsNoSplit node turn = (turn.step ≡ step.Survey node) × ((view : View) × (turn.reply ≡ reply.View view) × (view.split ≡ None))

  -- in this turn the root was raised, which was to be split
  abbrev pub RaisesRoot : Turn B → Type 0
  RaisesRoot turn = (turn.step ≡ step.Raise) × IsSome (split_in turn.before 0) × (turn.reply ≡ reply.Done)

  -- in this turn the child was to be split, at the key at which a node like it is to be split
  abbrev pub AsksForSplit : ℕ → ℕ → Turn B → Type 0
  AsksForSplit parent child turn = (key : List ℕ) × (turn.step ≡ step.Split parent child key) × (split_in turn.before child ≡ Some key)

  -- what came of raising the root
  abbrev pub IsRootEnd : Grown → Turn B → Type 0
  IsRootEnd Done turn = RaisesRoot turn
  IsRootEnd Unneeded turn = ShowsNoSplit 0 turn
  IsRootEnd Busy turn = IsRefusal 0 turn
  IsRootEnd Full turn = ⊥
  IsRootEnd Moved turn = ⊥

  -- what came of splitting the child
  abbrev pub IsChildEnd : ℕ → ℕ → Grown → Turn B → Type 0
  IsChildEnd parent child Done turn = AsksForSplit parent child turn × (turn.reply ≡ reply.Done)
  IsChildEnd parent child Unneeded turn = ShowsNoSplit child turn
  IsChildEnd parent child Full turn = AsksForSplit parent child turn × ((pivots : ℕ) × (turn.reply ≡ reply.Pivots pivots))
  IsChildEnd parent child Moved turn = AsksForSplit parent child turn × (turn.reply ≡ reply.Moved child)
  IsChildEnd parent child Busy turn = IsRefusalOf parent child turn

-- The last step of a call that is stopped.
use Rattle.std.proofs.Common.{[], refl, ap}
use Rattle.spl_message.specs.History.{History}
use Rattle.spl_state.specs.declared.reply.Reply.{Reply}
use Rattle.spl_state.specs.Frame.{refused}
use Rattle.spl_core.specs.declared.step.Step.TheVariants.{Abandon}
use Rattle.spl_desk.specs.Calls.{HasNothing}
use Rattle.spl_desk.specs.Holder.{BranchKind, Holder}
use Rattle.spl_desk.specs.Turn.{MadeTurn}
use Rattle.spl_desk.proofs.Walks.{abandoned_nothing, step_made}
use Rattle.spl_down.specs.Arrivals.{CameTo, arrival_of}
use Rattle.spl_down.proofs.Answers.{came_by, few_of_one}

module _ {B : Type 0} (kind : BranchKind B) (old new : Holder) (history : History) (answer : Reply B) (Saw : History → Type 0) (turn : MadeTurn kind old new history Abandon answer Saw) where
  pub abandon_nothing : HasNothing new.at old.actor
  abandon_nothing = abandoned_nothing (refused turn.turn.before) new.at old.actor (step_made kind old new history Abandon answer Saw turn).1

  pub abandon_walk : CameTo kind old history new Saw 1 []
  abandon_walk =
      came_by kind old new history Abandon answer Saw refl turn 1 [] (few_of_one turn.turn)
      (ap (λ (r : Reply B). arrival_of r new.at) (step_made kind old new history Abandon answer Saw turn).0)

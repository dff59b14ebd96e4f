-- Of how many nodes an actor was told that has raised the root.
use Rattle.std.proofs.Common.{◌≡◌, ℕ, ◌+◌, ◌<◌, max, length, set, ap, ◌∙◌, arith}
use Rattle.std.proofs.lemmas.List.{get_or-set_same}
use Rattle.spl_base.specs.declared.TheConstants.{ACTORS}
use Rattle.spl_message.specs.History.{History}
use Rattle.spl_state.specs.declared.actor.Actor.{Actor}
use Rattle.spl_state.specs.declared.reply.Reply.{Reply}
use Rattle.spl_state.specs.declared.reply.Reply.TheVariants as reply
use Rattle.spl_state.specs.Actor.{actor_in, idle, told_of}
use Rattle.spl_state.specs.Frame.{refused}
use Rattle.spl_state.specs.Whole.{Whole}
use Rattle.spl_core.specs.declared.step.Step.TheVariants.{Raise}
use Rattle.spl_core.specs.Steps.{IsRaise}
use Rattle.spl_desk.specs.Holder.{BranchKind, Holder, IsSameHolder}
use Rattle.spl_desk.specs.Turn.{MadeTurn}
use Rattle.spl_desk.proofs.Walks.{step_made}
use Rattle.spl_job.specs.Holding.{told_by}
use Rattle.spl_job.proofs.Holds.{within_actors}

pub raised_told : {B : Type 0} (kind : BranchKind B) (old new : Holder) (history : History) (answer : Reply B) (Saw : History → Type 0) → IsSameHolder old new 1 → MadeTurn kind old new history Raise answer Saw → old.actor < ACTORS → answer ≡ reply.Done → 1 < told_by new
raised_told kind old new history answer Saw same turn known done =
    let was = refused turn.turn.before in
    let step : IsRaise was old.actor answer new.at = step_made kind old new history Raise answer Saw turn in
    let within = within_actors kind old new history Raise answer Saw turn known in
    let one : Actor = told_of (actor_in was.actors old.actor) (length was.nodes) in
    let mine : actor_in (set was.actors old.actor one) old.actor ≡ one = get_or-set_same was.actors old.actor one idle within in
    let told : told_by new ≡ max (actor_in was.actors old.actor).told (length was.nodes + 1) =
    ap (λ (n : ℕ). (actor_in new.at.actors n).told) same.actor
    ∙ ap (λ (w : Whole). (actor_in w.actors old.actor).told) (step.done done)
    ∙ ap (λ (a : Actor). a.told) mine in
    let some = turn.legal.sound.shaped.some in
    omega (arith, told, some)

-- What the steps of a merge make of what an actor has.
use Rattle.std.proofs.Common.{◌≡◌, ◌≢◌, inl, inr, ℕ, ◌+◌, ◌<◌, ◌≤◌, max, List, length, set, refl, sym, ap, subst, ◌∙◌, arith}
use Rattle.std.proofs.lemmas.List.{get_or-set_same}
use Rattle.spl_base.specs.declared.TheConstants.{ACTORS}
use Rattle.spl_message.specs.History.{History}
use Rattle.spl_bundle.specs.Numbered.{Bundle}
use Rattle.spl_state.specs.declared.actor.Actor.{Actor}
use Rattle.spl_state.specs.declared.reply.Reply.{Reply}
use Rattle.spl_state.specs.declared.reply.Reply.TheVariants as reply
use Rattle.spl_state.specs.declared.view.View.{View}
use Rattle.spl_state.specs.Actor.{actor_in, idle, told_of}
use Rattle.spl_state.specs.Frame.{refused}
use Rattle.spl_state.specs.Whole.{Whole}
use Rattle.spl_survey.specs.Surveys.{IfView, IsViewOf, OnView, greatest_named, surveyed, views_from}
use Rattle.spl_core.specs.declared.step.Step.{Step}
use Rattle.spl_core.specs.declared.step.Step.TheVariants.{Survey}
use Rattle.spl_core.specs.Steps.{IsSurvey}
use Rattle.spl_desk.specs.Holder.{BranchKind, Holder, IsSameHolder}
use Rattle.spl_desk.specs.Turn.{MadeTurn}
use Rattle.spl_desk.proofs.Walks.{step_made}
use Rattle.spl_job.specs.Holding.{HasHolding, Holding, Holds, IsKnown}
use Rattle.spl_job.specs.Merging.{IsHoldingOn, IsToldOf, with_told}
use Rattle.spl_job.proofs.Holds.{before_has, now_holding, stays_has, within_actors}

-- the actor is told of one more node
abbrev pub told_at : Whole → ℕ → ℕ → Whole
told_at whole actor node = record whole { actors = set whole.actors actor (told_of (actor_in whole.actors actor) node) }

pub told_holding : (whole : Whole) (actor node : ℕ) (p : Holding) → actor < length whole.actors → HasHolding whole actor p → HasHolding (told_at whole actor node) actor (with_told p (max p.told (node + 1)))
told_holding whole actor node p within has =
    let mine : actor_in (set whole.actors actor (told_of (actor_in whole.actors actor) node)) actor ≡ told_of (actor_in whole.actors actor) node = get_or-set_same whole.actors actor (told_of (actor_in whole.actors actor) node) idle within in
    record {
      descent = ap (λ (a : Actor). a.descent) mine ∙ has.descent;
      job = ap (λ (a : Actor). a.job) mine ∙ has.job;
      published = ap (λ (a : Actor). a.published) mine ∙ has.published;
      told = ap (λ (a : Actor). a.told) mine ∙ ap (λ (n : ℕ). max n (node + 1)) has.told;
      grips = has.grips;
      extents = has.extents;
      sources = has.sources;
    }

pub at_least : (a b : ℕ) → a ≤ max a b
at_least a b = omega arith

pub above : (a b : ℕ) → b < max a (b + 1)
above a b = omega arith

module _ {B : Type 0} (kind : BranchKind B) (old new : Holder) (history : History) (made : Step B) (answer : Reply B) (Saw : History → Type 0) (turn : MadeTurn kind old new history made answer Saw) where
  pub told_now : (node : ℕ) → new.actor ≡ old.actor → old.actor < ACTORS → new.at ≡ told_at (refused turn.turn.before) old.actor node → (p : Holding) → Holds old p → IsToldOf new p node
  told_now node same known at p holds =
      let was = refused turn.turn.before in
      let has = told_holding was old.actor node p (within_actors kind old new history made answer Saw turn known) (before_has kind old new history made answer Saw turn p holds) in
      let told = max p.told (node + 1) in
      (told, at_least p.told (node + 1), above p.told node, now_holding kind old new history made answer Saw turn (with_told p told) same (subst (λ (w : Whole). HasHolding w old.actor (with_told p told)) (sym at) has))

  pub exists_there : (node : ℕ) → old.actor < ACTORS → (p : Holding) → Holds old p → IsKnown p node → node < length turn.turn.before.nodes
  exists_there node known p holds (inl root) = let some = turn.legal.sound.shaped.some in omega (arith, root, some)
  exists_there node known p holds (inr below) =
      let most : (actor_in turn.turn.before.actors old.actor).told ≤ length turn.turn.before.nodes = (turn.legal.sound.actors old.actor known).told in
      let told : (actor_in turn.turn.before.actors old.actor).told ≡ p.told = (before_has kind old new history made answer Saw turn p holds).told in
      omega (arith, most, told, below)

on_of : (holder : Holder) (p : Holding) (node : ℕ) → IsToldOf holder p node → IsHoldingOn holder p
on_of holder p node told = (told.0, told.1, told.3)

module _ {B : Type 0} where
  other_view : (answer : Reply B) (P : View → Type 0) (Q : Type 0) → ((view : View) → answer ≢ reply.View view) → OnView answer P Q → Q
  other_view (reply.View view) P Q none on = absurd (none view refl)
  other_view answer P Q none on = on

module _ {B : Type 0} (kind : BranchKind B) (old new : Holder) (history : History) (answer : Reply B) (Saw : History → Type 0) (same : IsSameHolder old new 1) where
  module _ (node : ℕ) (turn : MadeTurn kind old new history (Survey node) answer Saw) where
    abbrev viewed : Whole
    viewed = refused turn.turn.before

    survey_step : IsSurvey viewed old.actor node answer new.at
    survey_step = step_made kind old new history (Survey node) answer Saw turn

    pub survey_answers : old.actor < ACTORS → ((p : Holding) × Holds old p × IsKnown p node) → answer ≢ reply.NoMemory → ((view : View) → answer ≢ reply.View view) → ⊥
    survey_answers known holds memory none =
        memory (other_view answer (λ view. Unit {0}) (answer ≡ reply.NoMemory) none (survey_step.answer (exists_there kind old new history (Survey node) answer Saw turn node known holds.0 holds.1 holds.2)))

    pub survey_shown : old.actor < ACTORS → (view : View) → answer ≡ reply.View view → (p : Holding) → Holds old p → IsHoldingOn new p
    survey_shown known view is p holds =
        let at : new.at ≡ surveyed viewed old.actor node = subst (λ (r : Reply B). OnView r (λ v. new.at ≡ surveyed viewed old.actor node) (new.at ≡ viewed)) is survey_step.state in
        let greatest = greatest_named viewed node in
        on_of new p greatest (told_now kind old new history (Survey node) answer Saw turn greatest same.actor known at p holds)

    pub survey_memory : answer ≡ reply.NoMemory → (p : Holding) → Holds old p → IsHoldingOn new p
    survey_memory is p holds =
        let at : new.at ≡ viewed = subst (λ (r : Reply B). OnView r (λ v. new.at ≡ surveyed viewed old.actor node) (new.at ≡ viewed)) is survey_step.state in
        (p.told, omega arith, stays_has kind old new history (Survey node) answer Saw turn p same.actor at holds)

    pub survey_numbered : (view : View) → answer ≡ reply.View view → (first : ℕ) × (list : List Bundle) × (view.bundles ≡ views_from first list)
    survey_numbered view is =
        let seen : IsViewOf viewed node view = subst (λ (r : Reply B). IfView r (IsViewOf viewed node)) is survey_step.view in
        (_, _, seen.bundles)

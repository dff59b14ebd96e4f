-- What an actor that has nothing has, and the step that gives all back.
use Rattle.std.specs.Prelude.{Contains}
use Rattle.std.proofs.Common.{set, ◌≡◌, ℕ, zero, suc, ◌<◌, Bool, true, false, List, [], ◌∷◌, None, refl, sym, ap, subst, ◌∙◌, arith}
use Rattle.spl_base.specs.declared.TheConstants.{ACTORS}
use Rattle.spl_message.specs.History.{History}
use Rattle.spl_numbers.specs.Numbers.{ListsEach, has, one_if}
use Rattle.spl_extent.specs.Pool.{granted_to}
use Rattle.spl_holds.specs.declared.grip.Grip.TheVariants.{Free}
use Rattle.spl_state.specs.declared.reply.Reply.{Reply}
use Rattle.spl_state.specs.declared.actor.Actor.{Actor}
use Rattle.spl_state.specs.Actor.{actor_in, cleared}
use Rattle.spl_state.specs.Frame.{refused}
use Rattle.spl_state.specs.Sound.{IsSound}
use Rattle.spl_state.specs.Whole.{Whole}
use Rattle.spl_core.specs.declared.step.Step.TheVariants.{Abandon}
use Rattle.spl_desk.specs.Calls.{HasNothing, MayCall}
use Rattle.spl_desk.specs.Holder.{BranchKind, Holder, IsSameHolder}
use Rattle.spl_desk.specs.Causes.{WasAnswered}
use Rattle.spl_desk.specs.Turn.{MadeTurn, Turn, history_after}
use Rattle.spl_desk.specs.Walk.{Walks, holder_at}
use Rattle.spl_desk.proofs.Walks.{abandoned_nothing, step_made}
use Rattle.spl_job.specs.Holding.{Holding, Holds, IsHolding}

none_if : (b : Bool) → 0 ≡ one_if b → b ≡ false
none_if true is = cc
none_if false is = refl

-- a set whose list is empty has no number
none_listed : (extents : List ℕ) (members : List Bool) → extents ≡ [] → ListsEach extents members → (n : ℕ) → has members n ≡ false
none_listed extents members empty lists n = none_if (has members n) (subst (λ (xs : List ℕ). ListsEach xs members) empty lists n)

pub held_nothing : (holder : Holder) (p : Holding) → IsHolding holder p → p.job ≡ None → p.extents ≡ [] → ((node : ℕ) → p.grips node ≡ Free) → MayCall holder
held_nothing holder p is no_job no_extents free = record {
  descent = is.has.descent;
  job = is.has.job ∙ no_job;
  latches = λ node. is.has.grips node ∙ free node;
  extents = none_listed p.extents (granted_to holder.at.owners holder.actor) no_extents is.has.extents;
}

-- what an actor has that has nothing
abbrev pub no_holding : Whole → ℕ → Holding
no_holding whole actor = record {
  job = None;
  tables = [];
  published = (actor_in whole.actors actor).published;
  extents = [];
  grips = λ node. Free;
  told = (actor_in whole.actors actor).told;
}

pub nothing_holds : (holder : Holder) → MayCall holder → Holds holder (no_holding holder.at holder.actor)
nothing_holds holder nothing = record {
  descent = nothing.descent;
  job = nothing.job;
  published = refl;
  told = refl;
  grips = λ node. nothing.latches node;
  extents = λ extent. rw (nothing.extents extent) refl;
  sources = refl;
}

pub nothing_held : (holder : Holder) → IsSound holder.at → MayCall holder → (p : Holding) × IsHolding holder p × (p.job ≡ None) × (p.extents ≡ []) × ((node : ℕ) → p.grips node ≡ Free)
nothing_held holder sound nothing = (
  no_holding holder.at holder.actor,
  record {
    sound = sound;
    has = nothing_holds holder nothing;
  },
  refl,
  refl,
  λ node. refl,
)

told_cleared : (actors : List Actor) (at : ℕ) → (actor_in (set actors at (cleared (actor_in actors at))) at).told ≡ (actor_in actors at).told
told_cleared [] at = refl
told_cleared (a ∷ actors) zero = refl
told_cleared (a ∷ actors) (suc at) = told_cleared actors at

-- every actor was told of the root
pub root_told : (holder : Holder) (p : Holding) → IsHolding holder p → holder.actor < ACTORS → 0 < p.told
root_told holder p is known =
    let root = (is.sound.actors holder.actor known).knows_root in
    let told = is.has.told in
    omega (arith, root, told)

module _ {B : Type 0} (kind : BranchKind B) (old new : Holder) (history : History) (answer : Reply B) (Saw : History → Type 0) (same : IsSameHolder old new 1) (turn : MadeTurn kind old new history Abandon answer Saw) where
  pub abandon_nothing : MayCall new
  abandon_nothing =
      subst (λ (n : ℕ). HasNothing new.at n) (sym same.actor)
      (abandoned_nothing (refused turn.turn.before) new.at old.actor (step_made kind old new history Abandon answer Saw turn).1)

  -- and of how many nodes it was told
  pub abandon_told : (actor_in new.at.actors new.actor).told ≡ (actor_in old.at.actors old.actor).told
  abandon_told =
      let abandoned = (step_made kind old new history Abandon answer Saw turn).1 in
      ap (λ (n : ℕ). (actor_in new.at.actors n).told) same.actor
      ∙ ap (λ (list : List Actor). (actor_in list old.actor).told) abandoned.actors
      ∙ told_cleared turn.turn.before.actors old.actor
      ∙ ap (λ (a : Actor). a.told) turn.legal.kept.actor

module _ {B : Type 0} (kind : BranchKind B) where
  -- what a turn leaves is sound
  walks_sound : (holder : Holder) (history : History) (turn : Turn B) (turns : List (Turn B)) (end : Whole) (seen : History) → Walks kind holder history (turn ∷ turns) end seen → IsSound end
  walks_sound holder history turn [] end seen walks = subst IsSound (sym walks.1.0) walks.0.after
  walks_sound holder history turn (next ∷ turns) end seen walks = walks_sound (holder_at holder turn.after) (history_after holder.actor history turn) next turns end seen walks.1

  some_sound : (holder : Holder) (history : History) (turns : List (Turn B)) (end : Whole) (seen : History) (one : Turn B) → Contains turns one → Walks kind holder history turns end seen → IsSound end
  some_sound holder history [] end seen one among walks = absurd (let below = among.1 in omega (arith, below))
  some_sound holder history (turn ∷ turns) end seen one among walks = walks_sound holder history turn turns end seen walks

  -- a holder with a step that was answered finds its core sound
  pub answered_sound : (old : Holder) (history : History) (new : Holder) (Saw : History → Type 0) (Is : Reply B → Type 0) → WasAnswered kind old history new Saw Is → IsSound new.at
  answered_sound old history new Saw Is went = some_sound old history went.turns new.at went.seen went.says.1.0 went.says.1.1 went.walks

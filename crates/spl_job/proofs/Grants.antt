-- What the step that grants an extent tells.
use Rattle.std.proofs.Common.{◌≡◌, ◌≢◌, ℕ, Bool, true, false, cond, eqb, refl, sym, subst}
use Rattle.spl_message.specs.History.{History}
use Rattle.spl_extent.specs.Pool.{free_count}
use Rattle.spl_state.specs.declared.reply.Reply.{Reply}
use Rattle.spl_state.specs.declared.reply.Reply.TheVariants as reply
use Rattle.spl_state.specs.Actor.{actor_in}
use Rattle.spl_state.specs.Frame.{refused}
use Rattle.spl_state.specs.Reply.{state_of}
use Rattle.spl_state.specs.Whole.{Whole}
use Rattle.spl_pack.specs.Granting.{extent_in, is_unfit}
use Rattle.spl_core.specs.declared.step.Step.TheVariants.{Grant}
use Rattle.spl_core.specs.Steps.{IsGrant}
use Rattle.spl_desk.specs.Holder.{BranchKind, Holder, IsSameHolder}
use Rattle.spl_desk.specs.Turn.{MadeTurn}
use Rattle.spl_desk.proofs.Walks.{step_made}
use Rattle.spl_job.specs.Holding.{Builds, HasHolding, Holding, IsHolding, with_extent}
use Rattle.spl_job.proofs.Granted.{lists_more}
use Rattle.spl_job.proofs.Holds.{before_holding, now_holding, stays_holding}

module _ {B : Type 0} (kind : BranchKind B) (old new : Holder) (history : History) (answer : Reply B) (Saw : History → Type 0) (same : IsSameHolder old new 1) (turn : MadeTurn kind old new history Grant answer Saw) where
  abbrev was : Whole
  was = refused turn.turn.before

  grant_step : IsGrant was old.actor answer new.at
  grant_step = step_made kind old new history Grant answer Saw turn

  fits : (p : Holding) → HasHolding was old.actor p → Builds p → is_unfit (actor_in was.actors old.actor) ≡ false
  fits p has builds = rw (has.job, builds.2, has.published, builds.0) refl

  grant_is : (p : Holding) → IsHolding old p → Builds p → answer ≡ cond (eqb (free_count was.owners) 0) reply.NoExtent (reply.Granted (extent_in answer))
  grant_is p is builds =
      subst (λ (b : Bool). answer ≡ cond b (reply.Unfit (state_of was old.actor)) (cond (eqb (free_count was.owners) 0) reply.NoExtent (reply.Granted (extent_in answer))))
      (fits p (before_holding kind old new history Grant answer Saw turn p is) builds) grant_step.answer

  pub grant_answers : ((p : Holding) × IsHolding old p × Builds p) → answer ≢ reply.NoExtent → ((extent : ℕ) → answer ≢ reply.Granted extent) → ⊥
  grant_answers holds no_extent none = by (eqb (free_count was.owners) 0) (grant_is holds.0 holds.1 holds.2)
    where
      by : (b : Bool) → answer ≡ cond b reply.NoExtent (reply.Granted (extent_in answer)) → ⊥
      by true given = no_extent given
      by false given = none (extent_in answer) given

  pub grant_holds : (extent : ℕ) → answer ≡ reply.Granted extent → (p : Holding) → IsHolding old p → IsHolding new (with_extent p extent)
  grant_holds extent is p holds =
      let has = before_holding kind old new history Grant answer Saw turn p holds in
      let grants = grant_step.done extent is in
      now_holding kind old new history Grant answer Saw turn (with_extent p extent) same.actor
      (subst (λ (w : Whole). HasHolding w old.actor (with_extent p extent)) (sym grants.granted) (record {
        descent = has.descent;
        job = has.job;
        published = has.published;
        told = has.told;
        grips = has.grips;
        extents = lists_more was.owners old.actor extent grants.was_free p.extents has.extents;
        sources = has.sources;
      }))

  pub grant_none : answer ≡ reply.NoExtent → (p : Holding) → IsHolding old p → IsHolding new p
  grant_none is p holds = stays_holding kind old new history Grant answer Saw turn p same.actor (grant_step.refused (λ extent other. not_granted answer extent is other)) holds
    where
      not_granted : (r : Reply B) (extent : ℕ) → r ≡ reply.NoExtent → r ≡ reply.Granted extent → ⊥
      not_granted r extent a b = cc

-- What the step that hangs a branch at the root tells.
use Rattle.std.proofs.Common.{◌≡◌, ◌≢◌, ℕ, ◌<◌, Bool, true, false, cond, Option, Some, None, refl, sym, ap, subst, ◌∙◌}
use Rattle.std.proofs.lemmas.List.{get_or-set_same}
use Rattle.spl_base.specs.declared.TheConstants.{ACTORS}
use Rattle.spl_message.specs.History.{History}
use Rattle.spl_holds.specs.declared.grip.Grip.TheVariants as grip
use Rattle.spl_tables.specs.declared.memtables.Oldest.{Oldest}
use Rattle.spl_state.specs.declared.actor.Actor.{Actor}
use Rattle.spl_state.specs.declared.job.Job.TheVariants.{Pack}
use Rattle.spl_state.specs.declared.reply.Reply.{Reply}
use Rattle.spl_state.specs.declared.reply.Reply.TheVariants as reply
use Rattle.spl_state.specs.Actor.{actor_in, idle, with_job}
use Rattle.spl_state.specs.Frame.{refused}
use Rattle.spl_state.specs.Whole.{Whole}
use Rattle.spl_pack.specs.Incorporating.{incorporated, older_than, ready_in, unless_older, where_ready}
use Rattle.spl_core.specs.declared.step.Step.TheVariants.{Incorporate}
use Rattle.spl_core.specs.Steps.{IsIncorporation}
use Rattle.spl_desk.specs.Holder.{BranchKind, Holder, IsSameHolder}
use Rattle.spl_desk.specs.Turn.{MadeTurn}
use Rattle.spl_desk.proofs.Walks.{step_made}
use Rattle.spl_job.specs.Holding.{HasHolding, Holding, IsHolding, without_job}
use Rattle.spl_job.proofs.Holds.{before_holding, now_holding, stays_holding, within_actors}

module _ {B : Type 0} (kind : BranchKind B) (old new : Holder) (history : History) (answer : Reply B) (Saw : History → Type 0) (same : IsSameHolder old new 1) (turn : MadeTurn kind old new history Incorporate answer Saw) where
  abbrev hung : Whole
  hung = refused turn.turn.before

  hang_step : IsIncorporation hung old.actor answer new.at
  hang_step = step_made kind old new history Incorporate answer Saw turn

  pub hang_kept : answer ≢ reply.Done → (p : Holding) → IsHolding old p → IsHolding new p
  hang_kept other p holds = stays_holding kind old new history Incorporate answer Saw turn p same.actor (hang_step.refused other) holds

  pub hang_older : (oldest : ℕ) (by : Option ℕ) → answer ≡ reply.NotOldest oldest by → (p : Holding) → IsHolding old p → IsHolding new p
  hang_older oldest by is = hang_kept (λ done. apart answer is done)
    where
      apart : (r : Reply B) → r ≡ reply.NotOldest oldest by → r ≡ reply.Done → ⊥
      apart r a b = cc

  pub hang_full : answer ≡ reply.NeedsFlush → (p : Holding) → IsHolding old p → IsHolding new p
  hang_full is = hang_kept (λ done. apart answer is done)
    where
      apart : (r : Reply B) → r ≡ reply.NeedsFlush → r ≡ reply.Done → ⊥
      apart r a b = cc

  module _ (packs : (p : Holding) × (number memtable : ℕ) × IsHolding old p × (p.job ≡ Some (Pack number memtable)) × (p.published ≡ true) × (p.grips 0 ≡ grip.Write)) where
    ready : ready_in hung old.actor ≡ Some (record { number = packs.1; table = packs.2 })
    ready =
        let has = before_holding kind old new history Incorporate answer Saw turn packs.0 packs.3 in
        rw (has.grips 0, packs.6, has.job, packs.4, has.published, packs.5) refl

    hang_is : answer ≡ unless_older hung (older_than hung.tables.frozen packs.2)
    hang_is = hang_step.answer ∙ ap (where_ready hung old.actor) ready

    pub hang_answers : answer ≢ reply.Done → ((oldest : ℕ) (by : Option ℕ) → answer ≢ reply.NotOldest oldest by) → answer ≢ reply.NeedsFlush → ⊥
    hang_answers done older full = by_older (older_than hung.tables.frozen packs.2) hang_is
      where
        by_room : (b : Bool) → answer ≡ cond b reply.Done reply.NeedsFlush → ⊥
        by_room true is = done is
        by_room false is = full is

        by_older : (o : Option Oldest) → answer ≡ unless_older hung o → ⊥
        by_older None is = by_room _ is
        by_older (Some oldest) is = older oldest.number oldest.picked is

    ended : old.actor < ACTORS → (p : Holding) → HasHolding hung old.actor p → HasHolding (incorporated hung old.actor packs.1) old.actor (without_job p)
    ended known p has =
        let within = within_actors kind old new history Incorporate answer Saw turn known in
        let mine : actor_in (incorporated hung old.actor packs.1).actors old.actor ≡ with_job (actor_in hung.actors old.actor) None = get_or-set_same hung.actors old.actor (with_job (actor_in hung.actors old.actor) None) idle within in
        record {
          descent = ap (λ (a : Actor). a.descent) mine ∙ has.descent;
          job = ap (λ (a : Actor). a.job) mine;
          published = ap (λ (a : Actor). a.published) mine;
          told = ap (λ (a : Actor). a.told) mine ∙ has.told;
          grips = has.grips;
          extents = has.extents;
          sources = refl;
        }

    pub hang_done : old.actor < ACTORS → answer ≡ reply.Done → (p : Holding) → IsHolding old p → IsHolding new (without_job p)
    hang_done known is p holds =
        let made : new.at ≡ incorporated hung old.actor packs.1 = hang_step.done is (record { number = packs.1; table = packs.2 }) ready in
        now_holding kind old new history Incorporate answer Saw turn (without_job p) same.actor
        (subst (λ (w : Whole). HasHolding w old.actor (without_job p)) (sym made)
        (ended known p (before_holding kind old new history Incorporate answer Saw turn p holds)))

-- What raising the root makes of what an actor has.
use Rattle.std.proofs.Common.{◌≡◌, ◌≢◌, ℕ, ◌+◌, ◌<◌, max, Bool, true, false, cond, length, sym, ap, subst, ◌∙◌, arith}
use Rattle.std.specs.Prelude.{◌==◌, not}
use Rattle.std.proofs.lemmas.Bool.{false≢true}
use Rattle.spl_base.specs.declared.TheConstants.{ACTORS}
use Rattle.spl_message.specs.History.{History}
use Rattle.spl_holds.specs.declared.grip.Grip.TheVariants.{Write}
use Rattle.spl_holds.specs.Grip.{is_write}
use Rattle.spl_holds.specs.Holds.{grip_of}
use Rattle.spl_holds.proofs.HoldsLemmas.{grip_of-added}
use Rattle.spl_trunk.specs.declared.trunk.TheConstants.{MAX_NODES}
use Rattle.spl_state.specs.declared.reply.Reply.{Reply}
use Rattle.spl_state.specs.declared.reply.Reply.TheVariants as reply
use Rattle.spl_state.specs.Frame.{refused}
use Rattle.spl_state.specs.Reply.{state_of}
use Rattle.spl_state.specs.Whole.{Whole}
use Rattle.spl_split.specs.Raising.{root_raised}
use Rattle.spl_core.specs.declared.step.Step.TheVariants.{Raise}
use Rattle.spl_core.specs.Steps.{IsRaise}
use Rattle.spl_desk.specs.Holder.{BranchKind, Holder, IsSameHolder}
use Rattle.spl_desk.specs.Turn.{MadeTurn}
use Rattle.spl_desk.proofs.Walks.{step_made}
use Rattle.spl_job.specs.Holding.{HasHolding, Holding, Holds}
use Rattle.spl_job.specs.Merging.{IsHoldingOn, split_in, with_told}
use Rattle.spl_job.proofs.Holds.{before_has, now_holding, stays_has, within_actors}
use Rattle.spl_job.proofs.Merges.{at_least, told_holding}

module _ {B : Type 0} (kind : BranchKind B) (old new : Holder) (history : History) (answer : Reply B) (Saw : History → Type 0) (same : IsSameHolder old new 1) (turn : MadeTurn kind old new history Raise answer Saw) where
  abbrev was : Whole
  was = refused turn.turn.before

  raise_step : IsRaise was old.actor answer new.at
  raise_step = step_made kind old new history Raise answer Saw turn

  -- nobody else changes where the root is to be split while the actor writes it
  pub raise_due : ((p : Holding) × Holds old p × (p.grips 0 ≡ Write)) → split_in turn.turn.before 0 ≡ split_in old.at 0
  raise_due holds = (turn.legal.kept.written 0 (holds.1.grips 0 ∙ holds.2)).split

  pub raise_answers : ((p : Holding) × Holds old p × (p.grips 0 ≡ Write)) → answer ≢ reply.Done → ((nodes : ℕ) → answer ≢ reply.Nodes nodes) → answer ≢ reply.NoMemory → ⊥
  raise_answers holds done nodes memory =
      let writes : is_write (grip_of was.grips old.actor 0) ≡ true =
      ap is_write ((before_has kind old new history Raise answer Saw turn holds.0 holds.1).grips 0 ∙ holds.2) in
      by (is_write (grip_of was.grips old.actor 0)) (length was.nodes == MAX_NODES) writes (raise_step.answer memory)
    where
      by : (writes full : Bool) → writes ≡ true → answer ≡ cond (not writes) (reply.Unfit (state_of was old.actor)) (cond full (reply.Nodes MAX_NODES) reply.Done) → ⊥
      by true true is given = nodes MAX_NODES given
      by true false is given = done given
      by false full is given = false≢true is

  abbrev told : Holding → ℕ
  told p = max p.told (length was.nodes + 1)

  raised_has : old.actor < ACTORS → (p : Holding) → Holds old p → HasHolding (root_raised was old.actor) old.actor (with_told p (told p))
  raised_has known p holds =
      let has = told_holding was old.actor (length was.nodes) p (within_actors kind old new history Raise answer Saw turn known) (before_has kind old new history Raise answer Saw turn p holds) in
      record {
        descent = has.descent;
        job = has.job;
        published = has.published;
        told = has.told;
        grips = λ node. grip_of-added was.grips old.actor node ∙ has.grips node;
        extents = has.extents;
        sources = has.sources;
      }

  pub raise_done : old.actor < ACTORS → answer ≡ reply.Done → (p : Holding) → Holds old p → IsHoldingOn new p
  raise_done known is p holds =
      let has = subst (λ (w : Whole). HasHolding w old.actor (with_told p (told p))) (sym (raise_step.done is)) (raised_has known p holds) in
      (told p, at_least p.told (length was.nodes + 1), now_holding kind old new history Raise answer Saw turn (with_told p (told p)) same.actor has)

  raise_kept : answer ≢ reply.Done → (p : Holding) → Holds old p → IsHoldingOn new p
  raise_kept not_done p holds = (p.told, omega arith, stays_has kind old new history Raise answer Saw turn p same.actor (raise_step.refused not_done) holds)

  pub raise_nodes : (nodes : ℕ) → answer ≡ reply.Nodes nodes → (p : Holding) → Holds old p → IsHoldingOn new p
  raise_nodes nodes is = raise_kept (λ done. apart answer is done)
    where
      apart : (r : Reply B) → r ≡ reply.Nodes nodes → r ≡ reply.Done → ⊥
      apart r a b = cc

  pub raise_memory : answer ≡ reply.NoMemory → (p : Holding) → Holds old p → IsHoldingOn new p
  raise_memory is = raise_kept (λ done. apart answer is done)
    where
      apart : (r : Reply B) → r ≡ reply.NoMemory → r ≡ reply.Done → ⊥
      apart r a b = cc

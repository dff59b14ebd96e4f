-- What the step that picks a memtable tells.
use Rattle.std.proofs.Common.{◌≡◌, ◌≢◌, ℕ, ◌<◌, Bool, false, cond, [], ◌∷◌, Option, Some, None, length, slice_get, refl, sym, ap, subst, ◌∙◌}
use Rattle.std.proofs.lemmas.List.{get_or-set_same}
use Rattle.std.proofs.lemmas.Option.{slice_get-get_or}
use Rattle.spl_base.specs.declared.TheConstants.{ACTORS}
use Rattle.spl_message.specs.History.{History}
use Rattle.spl_message.specs.Table.{Table}
use Rattle.spl_tables.specs.Memtables.{first_unpicked, frozen_at, taken_by}
use Rattle.spl_state.specs.declared.actor.Actor.{Actor}
use Rattle.spl_state.specs.declared.job.Job.TheVariants.{Pack}
use Rattle.spl_state.specs.declared.reply.Reply.{Reply}
use Rattle.spl_state.specs.declared.reply.Reply.TheVariants as reply
use Rattle.spl_state.specs.Actor.{actor_in, idle, with_job}
use Rattle.spl_state.specs.Frame.{refused}
use Rattle.spl_state.specs.Reply.{state_of}
use Rattle.spl_state.specs.Whole.{Whole}
use Rattle.spl_state.proofs.Replaced.{slice_get_at}
use Rattle.spl_pack.specs.Picking.{is_busy, pick_of, picked_at}
use Rattle.spl_pack.proofs.Picks.{stands_there}
use Rattle.spl_core.specs.declared.step.Step.TheVariants.{PickFrozen}
use Rattle.spl_core.specs.Steps.{IsPick}
use Rattle.spl_desk.specs.Calls.{HasNothing}
use Rattle.spl_desk.specs.Holder.{BranchKind, Holder, IsSameHolder}
use Rattle.spl_desk.specs.Turn.{MadeTurn}
use Rattle.spl_desk.proofs.Walks.{nothing_before, step_made}
use Rattle.spl_job.specs.Holding.{HasHolding, Holding, IsHolding, first_holding}
use Rattle.spl_job.proofs.Holds.{now_holding, within_actors}

pub idle_actor : (whole : Whole) (actor : ℕ) → HasNothing whole actor → is_busy (actor_in whole.actors actor) ≡ false
idle_actor whole actor nothing = rw (nothing.descent, nothing.job) refl

-- what the actor has of the memtable at the position that it picked
abbrev picked_holding : Whole → ℕ → ℕ → ℕ → Table → Holding
picked_holding whole actor position number table = first_holding (Pack number (frozen_at whole.tables.frozen position).number) (table ∷ []) (actor_in whole.actors actor).told

-- the actor packs what it picked
pub picks_it : (whole : Whole) (actor position : ℕ) → actor < length whole.actors → HasNothing whole actor → first_unpicked whole.tables.frozen ≡ Some position → HasHolding (picked_at whole actor position) actor (picked_holding whole actor position whole.counters.branches (frozen_at whole.tables.frozen position).table)
picks_it whole actor position within nothing first =
    let one = frozen_at whole.tables.frozen position in
    let mine : actor_in (picked_at whole actor position).actors actor ≡ with_job (actor_in whole.actors actor) (Some (Pack whole.counters.branches one.number)) =
    get_or-set_same whole.actors actor (with_job (actor_in whole.actors actor) (Some (Pack whole.counters.branches one.number))) idle within in
    let was_there : slice_get whole.tables.frozen position ≡ Some one = slice_get-get_or whole.tables.frozen position (frozen_at [] 0) (stands_there whole.tables.frozen position actor first) in
    record {
      descent = ap (λ (a : Actor). a.descent) mine ∙ nothing.descent;
      job = ap (λ (a : Actor). a.job) mine;
      published = ap (λ (a : Actor). a.published) mine;
      told = ap (λ (a : Actor). a.told) mine;
      grips = λ node. nothing.latches node;
      extents = λ number. rw (nothing.extents number) refl;
      sources = (
        one.table,
        record {
          place = position;
          source = taken_by actor one;
          at = slice_get_at whole.tables.frozen position one (taken_by actor one) was_there;
          number = refl;
          table_is = refl;
        },
        refl,
      );
    }

module _ {B : Type 0} (kind : BranchKind B) (old new : Holder) (history : History) (answer : Reply B) (Saw : History → Type 0) (same : IsSameHolder old new 1) (turn : MadeTurn kind old new history PickFrozen answer Saw) (known : old.actor < ACTORS) (nothing : HasNothing old.at old.actor) where
  abbrev was : Whole
  was = refused turn.turn.before

  pick_step : IsPick was old.actor answer new.at
  pick_step = step_made kind old new history PickFrozen answer Saw turn

  free : HasNothing was old.actor
  free = nothing_before kind old new history PickFrozen answer Saw turn nothing

  answered : answer ≢ reply.NoMemory → answer ≡ pick_of was (first_unpicked was.tables.frozen)
  answered given =
      subst (λ (b : Bool). answer ≡ cond b (reply.Unfit (state_of was old.actor)) (pick_of was (first_unpicked was.tables.frozen))) (idle_actor was old.actor free) (pick_step.answer given)

  pub pick_answers : answer ≢ reply.NoMemory → answer ≢ reply.Nothing → ((number : ℕ) (table : Table) → answer ≢ reply.Picked number table) → ⊥
  pick_answers given some none = by (first_unpicked was.tables.frozen) (answered given)
    where
      by : (o : Option ℕ) → answer ≡ pick_of was o → ⊥
      by None is = some is
      by (Some position) is = none was.counters.branches (frozen_at was.tables.frozen position).table is

  left : ((number : ℕ) (table : Table) → answer ≢ reply.Picked number table) → HasNothing new.at new.actor
  left none = subst (λ (n : ℕ). HasNothing new.at n) (sym same.actor) (subst (λ (w : Whole). HasNothing w old.actor) (sym (pick_step.refused none)) free)

  pub pick_nothing : answer ≡ reply.Nothing → HasNothing new.at new.actor
  pick_nothing is = left (λ number table other. not_picked answer number table is other)
    where
      not_picked : (r : Reply B) (number : ℕ) (table : Table) → r ≡ reply.Nothing → r ≡ reply.Picked number table → ⊥
      not_picked r number table a b = cc

  pub pick_memory : answer ≡ reply.NoMemory → HasNothing new.at new.actor
  pick_memory is = left (λ number table other. not_picked answer number table is other)
    where
      not_picked : (r : Reply B) (number : ℕ) (table : Table) → r ≡ reply.NoMemory → r ≡ reply.Picked number table → ⊥
      not_picked r number table a b = cc

  pub pick_holds : (number : ℕ) (table : Table) → answer ≡ reply.Picked number table → (memtable told : ℕ) × IsHolding new (first_holding (Pack number memtable) (table ∷ []) told)
  pick_holds number table is = by (first_unpicked was.tables.frozen) refl (answered (λ none. not_memory answer is none))
    where
      not_memory : (r : Reply B) → r ≡ reply.Picked number table → r ≡ reply.NoMemory → ⊥
      not_memory r a b = cc

      not_nothing : (r : Reply B) → r ≡ reply.Picked number table → r ≡ reply.Nothing → ⊥
      not_nothing r a b = cc

      same_number : (n : ℕ) (t : Table) (r : Reply B) → r ≡ reply.Picked number table → r ≡ reply.Picked n t → (n ≡ number) × (t ≡ table)
      same_number n t r a b = (cc, cc)

      within : old.actor < length was.actors
      within = within_actors kind old new history PickFrozen answer Saw turn known

      by : (o : Option ℕ) → first_unpicked was.tables.frozen ≡ o → answer ≡ pick_of was o → (memtable told : ℕ) × IsHolding new (first_holding (Pack number memtable) (table ∷ []) told)
      by None first given = absurd (not_nothing answer is given)
      by (Some position) first given =
          let equal = same_number was.counters.branches (frozen_at was.tables.frozen position).table answer is given in
          let has = picks_it was old.actor position within free first in
          let mine : HasHolding (picked_at was old.actor position) old.actor (picked_holding was old.actor position number table) =
          subst (λ (n : ℕ). HasHolding (picked_at was old.actor position) old.actor (picked_holding was old.actor position n table)) equal.0
          (subst (λ (t : Table). HasHolding (picked_at was old.actor position) old.actor (picked_holding was old.actor position was.counters.branches t)) equal.1 has) in
          let now : HasHolding new.at old.actor (picked_holding was old.actor position number table) =
          subst (λ (w : Whole). HasHolding w old.actor (picked_holding was old.actor position number table)) (sym (pick_step.done position number table first is)) mine in (
            (frozen_at was.tables.frozen position).number,
            (actor_in was.actors old.actor).told,
            now_holding kind old new history PickFrozen answer Saw turn (picked_holding was old.actor position number table) same.actor now,
          )

-- No step names a branch much more often.
use Rattle.std.proofs.Common.{◌≡◌, ◌≢◌, ℕ, ◌+◌, ◌≤◌, Bool, true, false, List, Option, Some, None, refl, ap, subst, ◌∙◌, ◌⊎◌, inl, inr, arith}
use Rattle.std.specs.Prelude.{if◌then◌else◌}
use Rattle.spl_message.specs.Table.{Table}
use Rattle.spl_refs.specs.Refs.{Published, count_at}
use Rattle.spl_tables.specs.Memtables.{first_unpicked}
use Rattle.spl_pack.specs.Incorporating.{ready_in, where_ready}
use Rattle.spl_pack.specs.Picking.{is_busy, pick_of}
use Rattle.spl_steps.specs.Retiring.{has_nothing, one_retired, after_retire}
use Rattle.spl_state.specs.declared.reply.ActorState.{ActorState}
use Rattle.spl_state.specs.declared.reply.Reply.{Reply}
use Rattle.spl_state.specs.declared.reply.Reply.TheVariants as reply
use Rattle.spl_state.specs.declared.reply.Reply.TheVariants.{Done, Picked, Granted}
use Rattle.spl_state.specs.Actor.{actor_in}
use Rattle.spl_state.specs.Frame.{refused}
use Rattle.spl_state.specs.Reply.{state_of}
use Rattle.spl_state.specs.Whole.{BranchData, Whole, counts}
use Rattle.spl_core.specs.Counting.{AreCounted}
use Rattle.spl_core.specs.Steps.{IsPick, IsGrant, IsIncorporation, IsSplit}

-- each branch is named at most 1,024 times more
abbrev pub GrowsFew : Whole → Whole → Type 0
GrowsFew old new = (number : ℕ) → counts new number ≤ counts old number + 1024

same_refs : (old new : Whole) → new.refs ≡ old.refs → GrowsFew old new
same_refs old new same number =
    let at : counts new number ≡ counts old number = ap (λ (r : Published BranchData). count_at r number) same in
    omega arith

same_whole : (old new : Whole) → new ≡ old → GrowsFew old new
same_whole old new same = same_refs old new (ap (λ (w : Whole). w.refs) same)

some_or_none : {A : Type 0} (o : Option A) → ((a : A) × (o ≡ Some a)) ⊎ (o ≡ None)
some_or_none None = inr refl
some_or_none (Some a) = inl (a, refl)

pub retire_few : (old new : Whole) (actor : ℕ) → new ≡ after_retire old actor → GrowsFew old new
retire_few old new actor is =
    same_refs old new (ap (λ (w : Whole). w.refs) is ∙ either (has_nothing (state_of old actor)))
  where
    either : (idle : Bool) → (if idle then record old { counters = one_retired old.counters } else old).refs ≡ old.refs
    either true = refl
    either false = refl

module _ {B : Type 0} (old new : Whole) where
  -- what a pick that finds nothing answers is no memtable
  no_pick : (busy : Bool) (state : ActorState) (number : ℕ) (table : Table) (answer : Reply B)
      → answer ≡ Picked number table → answer ≡ (if busy then reply.Unfit state else reply.Nothing) → ⊥
  no_pick true state number table answer is other = cc
  no_pick false state number table answer is other = cc

  picked_few : (actor number : ℕ) (table : Table) (answer : Reply B) → answer ≡ Picked number table
      → IsPick old actor answer new → GrowsFew old new
  picked_few actor number table answer is pick =
      elim (some_or_none (first_unpicked old.tables.frozen)) [
        | inl (position, first) ↦
            same_refs old new (ap (λ (w : Whole). w.refs) (pick.done position number table first is))
        | inr none ↦
            let busy = is_busy (actor_in old.actors actor) in
            let state = state_of old actor in
            absurd (no_pick busy state number table answer is (subst (λ (first : Option ℕ).
            answer ≡ (if busy then reply.Unfit state else pick_of old first)) none (pick.answer (λ other. cc))))
      ]

  pub pick_few : (actor : ℕ) (answer : Reply B) → IsPick old actor answer new → GrowsFew old new
  pick_few actor (Picked number table) pick = picked_few actor number table (Picked number table) refl pick
  pick_few actor answer pick =
      let never : (number : ℕ) (table : Table) → answer ≢ Picked number table = λ number table is. cc in
      same_whole old new (pick.refused never)

  pub grant_few : (actor : ℕ) (answer : Reply B) → IsGrant old actor answer new → GrowsFew old new
  grant_few actor (Granted extent) grant = same_refs old new (ap (λ (w : Whole). w.refs) (grant.done extent refl).granted)
  grant_few actor answer grant =
      let never : (extent : ℕ) → answer ≢ Granted extent = λ extent is. cc in
      same_whole old new (grant.refused never)

  hung_few : (actor : ℕ) (answer : Reply B) → answer ≡ Done → IsIncorporation old actor answer new → GrowsFew old new
  hung_few actor answer done is_hung =
      elim (some_or_none (ready_in old actor)) [
        | inl (packed, is) ↦ same_refs old new (ap (λ (w : Whole). w.refs) (is_hung.done done packed is))
        | inr is ↦
            let unfit = subst (λ ready. answer ≡ where_ready old actor ready) is is_hung.answer in
            absurd (not_done answer done unfit)
      ]
    where
      not_done : (answer : Reply B) → answer ≡ Done → answer ≡ reply.Unfit (state_of old actor) → ⊥
      not_done answer is other = cc

  pub incorporate_few : (actor : ℕ) (answer : Reply B) → IsIncorporation old actor answer new → GrowsFew old new
  incorporate_few actor Done is_hung = hung_few actor Done refl is_hung
  incorporate_few actor answer is_hung =
      let never : answer ≢ Done = λ is. cc in same_whole old new (is_hung.refused never)

  pub split_few : (actor parent child : ℕ) (key : List ℕ) (answer : Reply B)
      → IsSplit old actor parent child key answer new → GrowsFew old new
  split_few actor parent child key answer split number = let few = split.few number in omega arith

-- such a step leaves no count too high, once it was counted
pub more_counted : (before old new : Whole) → AreCounted before → old ≡ refused before → GrowsFew old new
    → new.counters.steps ≡ before.counters.steps + 1 → AreCounted new
more_counted before old new counted is_counted grows steps number =
    let few = grows number in
    let same : counts old number ≡ counts before number = ap (λ (w : Whole). counts w number) is_counted in
    let bound = counted number in
    omega arith

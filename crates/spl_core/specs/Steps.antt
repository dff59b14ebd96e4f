-- What each step answers, and what it makes of the state.
use Rattle.std.specs.Prelude.{◌≡◌, ◌≢◌, ℕ, ◌+◌, ◌<◌, ◌≤◌, ◌↔◌, ◌⊎◌, Bool, false, Option, List, [], map, length, Some, IfSome}
use Rattle.spl_memtable.specs.Memtable.{IsFull, Puts}
use Rattle.spl_message.specs.declared.message.Message.{Message}
use Rattle.spl_message.specs.Rule.{Rule}
use Rattle.spl_message.specs.declared.span.Span.{Span}
use Rattle.spl_message.specs.Table.{Table, key_count, part_of}
use Rattle.spl_holds.specs.declared.grip.Grip.TheVariants as grip
use Rattle.spl_state.specs.declared.reply.Reply.{Reply}
use Rattle.spl_state.specs.declared.reply.Reply.TheVariants.{Done, Placed, Rotated, Picked, Granted, MemFull, NotFull, FrozenFull, Unfit, NoNode, Elsewhere, NoMemory}
use Rattle.spl_tables.specs.Memtables.{first_unpicked, tables_of}
use Rattle.spl_state.specs.Actor.{actor_in}
use Rattle.spl_state.specs.Reply.{state_of}
use Rattle.spl_state.specs.Whole.{BranchData, Whole, counts}
use Rattle.spl_abandon.specs.Abandoning.{HasAbandoned}
use Rattle.spl_descent.specs.Descents.{first_descent, next_descent, begin_refusal, begun, move_refusal, moved_down, end_answer, ended}
use Rattle.spl_descent.specs.Sights.{IsSightOf, OnSight, IfSight, Answers}
use Rattle.spl_trunk.specs.Trunk.{node_at}
use Rattle.spl_flush.specs.Flushing.{flush_answer, pivot_to, IsFlushed}
use Rattle.spl_compact.specs.Starting.{start_refusal, run_at, Starts, IsTicketOf, OnTicket, IfTicket, AnswersTicket}
use Rattle.spl_compact.specs.Installing.{install_answer, carries, told_next, IsServed}
use Rattle.spl_state.specs.declared.reply.ActorState.{ActorState}
use Rattle.spl_split.specs.Raising.{raise_answer, MayRaise, root_raised}
use Rattle.spl_split.specs.Splitting as splits
use Rattle.spl_split.specs.Splitting.{split_answer, MaySplit, HasSplit, ShareBundles}
use Rattle.spl_survey.specs.Surveys.{IsViewOf, OnView, IfView, surveyed}
use Rattle.spl_pack.specs.Granting.{extent_in, grant_answer, Grants}
use Rattle.spl_pack.specs.Incorporating.{incorporate_answer, IsIncorporated}
use Rattle.spl_pack.specs.Picking.{pick_answer, MayPick, picked_at}
use Rattle.spl_pack.specs.Publishing.{MayPublish, Publishes}
use Rattle.spl_steps.specs.Latching.{claim_answer, lock_answer, unlock_answer, gripped}
use Rattle.spl_steps.specs.Memory.{HasPut, has_rotated}
use Rattle.spl_steps.specs.Retiring.{retire_answer, after_retire}
use Rattle.spl_core.specs.declared.step.Step.{Step}
use Rattle.spl_core.specs.declared.step.Step.TheVariants.{Put, Rotate, Begin, MoveDown, End, Claim, Lock, Unlock, PickFrozen, Grant, Publish, Incorporate, Flush, Start, Install, Raise, Split, Survey, Abandon, Retire}

module _ {B : Type 0} where
  pub record IsPut (rule : Rule) (old : Whole) (key : List ℕ) (message : Message) (reply : Reply B) (new : Whole) : Type 0 where
    pub full : (reply ≡ MemFull) ↔ IsFull old.tables.active key
    pub answer : ¬ (IsFull old.tables.active key) → (reply ≡ Placed old.counters.places) ⊎ (reply ≡ NoMemory)
    pub placed : (place : ℕ) → reply ≡ Placed place → HasPut old new × Puts rule old.tables.active new.tables.active key message
    pub refused : ((place : ℕ) → reply ≢ Placed place) → new ≡ old

  pub record IsRotation (old : Whole) (reply : Reply B) (new : Whole) : Type 0 where
    pub not_full : (reply ≡ NotFull) ↔ (key_count old.tables.active < 1024)
    pub frozen_full : (reply ≡ FrozenFull) ↔ ((key_count old.tables.active ≡ 1024) × (length old.tables.frozen ≡ 4))
    pub answer : 1024 ≤ key_count old.tables.active → length old.tables.frozen < 4 → (reply ≡ Rotated) ⊎ (reply ≡ NoMemory)
    pub rotated : reply ≡ Rotated → new ≡ has_rotated old
    pub refused : reply ≢ Rotated → new ≡ old

  -- this answer; where it is `Done`, this state, and else the state as it was
  pub record IsAnswered (old : Whole) (wanted : Reply B) (after : Whole) (reply : Reply B) (new : Whole) : Type 0 where
    pub answer : reply ≡ wanted
    pub done : reply ≡ Done → new ≡ after
    pub refused : reply ≢ Done → new ≡ old

  pub record IsPick (old : Whole) (actor : ℕ) (reply : Reply B) (new : Whole) : Type 0 where
    pub answer : reply ≢ NoMemory → reply ≡ pick_answer old actor
    pub memory : reply ≡ NoMemory → MayPick old actor
    pub done : (position number : ℕ) (table : Table) → first_unpicked old.tables.frozen ≡ Some position → reply ≡ Picked number table → new ≡ picked_at old actor position
    pub refused : ((number : ℕ) (table : Table) → reply ≢ Picked number table) → new ≡ old

  pub record IsGrant (old : Whole) (actor : ℕ) (reply : Reply B) (new : Whole) : Type 0 where
    pub answer : reply ≡ grant_answer old actor (extent_in reply)
    pub done : (extent : ℕ) → reply ≡ Granted extent → Grants old new actor extent
    pub refused : ((extent : ℕ) → reply ≢ Granted extent) → new ≡ old

  pub record IsPublication (branch : BranchData) (old : Whole) (actor number : ℕ) (reply : Reply B) (new : Whole) : Type 0 where
    pub unfit : (reply ≡ Unfit (state_of old actor)) ↔ ¬ (MayPublish old actor number branch.extents)
    pub answer : MayPublish old actor number branch.extents → reply ≢ NoMemory → reply ≡ Done
    pub done : reply ≡ Done → Publishes old new actor number branch
    pub refused : reply ≢ Done → new ≡ old

  pub record IsIncorporation (old : Whole) (actor : ℕ) (reply : Reply B) (new : Whole) : Type 0 where
    pub answer : reply ≡ incorporate_answer old actor
    pub done : reply ≡ Done → IsIncorporated old actor new
    pub refused : reply ≢ Done → new ≡ old

  pub record IsBeginning (number_of : B → ℕ) (data_of : B → BranchData) (old : Whole) (actor : ℕ) (span : Span) (reply : Reply B) (new : Whole) : Type 0 where
    pub answer : Answers (begin_refusal old actor) reply
    pub state : OnSight reply (λ sight. new ≡ begun old actor span) (new ≡ old)
    pub sight : IfSight reply (IsSightOf number_of data_of old (first_descent old span))
    pub tables : IfSight reply (λ sight. sight.tables ≡ map (part_of sight.span) (tables_of old.tables))

  pub record IsMove (number_of : B → ℕ) (data_of : B → BranchData) (old : Whole) (actor : ℕ) (reply : Reply B) (new : Whole) : Type 0 where
    pub answer : Answers (move_refusal old actor) reply
    pub state : OnSight reply (λ sight. new ≡ moved_down old actor) (new ≡ old)
    pub sight : IfSome (actor_in old.actors actor).descent (λ descent. IfSight reply (IsSightOf number_of data_of old (next_descent old descent)))
    pub tables : IfSight reply (λ sight. sight.tables ≡ [])

  pub record IsFlush (old : Whole) (actor parent child : ℕ) (reply : Reply B) (new : Whole) : Type 0 where
    pub answer : reply ≡ flush_answer old actor parent child
    pub done : (pivot : ℕ) → pivot_to (node_at old.nodes parent).pivots child ≡ Some pivot → reply ≡ Done → IsFlushed old new parent pivot child
    pub few : (number : ℕ) → counts new number ≤ counts old number + 32
    pub refused : reply ≢ Done → new ≡ old

  pub record IsStart (number_of : B → ℕ) (data_of : B → BranchData) (old : Whole) (actor node first last : ℕ) (reply : Reply B) (new : Whole) : Type 0 where
    pub answer : AnswersTicket (start_refusal old actor node first last) reply
    pub done : OnTicket reply (λ ticket. Starts old new actor node first last) (new ≡ old)
    pub few : (number : ℕ) → counts new number ≤ counts old number + 768
    pub ticket : IfTicket reply (IsTicketOf number_of data_of old (run_at old node first last))

  pub record IsInstall (old : Whole) (actor node : ℕ) (output : Bool) (reply : Reply B) (new : Whole) : Type 0 where
    pub answer : reply ≡ install_answer old actor node output
    pub served : IsServed old actor node output new
    pub elsewhere : (next : Option ℕ) → reply ≡ Elsewhere next → new ≡ told_next old actor next
    pub refused : (state : ActorState) → reply ≡ Unfit state → new ≡ old
    pub ended : reply ≡ Done → (number : ℕ) → carries actor (node_at new.nodes number) ≡ false
    pub few : (number : ℕ) → counts new number ≤ counts old number + 1

  pub record IsRaise (old : Whole) (actor : ℕ) (reply : Reply B) (new : Whole) : Type 0 where
    pub answer : reply ≢ NoMemory → reply ≡ raise_answer old actor
    pub memory : reply ≡ NoMemory → MayRaise old actor
    pub done : reply ≡ Done → new ≡ root_raised old actor
    pub refused : reply ≢ Done → new ≡ old

  pub record IsSplit (old : Whole) (actor parent child : ℕ) (key : List ℕ) (reply : Reply B) (new : Whole) : Type 0 where
    pub answer : reply ≢ NoMemory → reply ≡ split_answer old actor parent child key
    pub memory : reply ≡ NoMemory → MaySplit old actor parent child key
    pub done : (at : ℕ) → splits.pivot_to (node_at old.nodes parent).pivots child ≡ Some at → reply ≡ Done → HasSplit old new parent at child key
    pub marks : reply ≡ Done → ShareBundles old new child
    pub few : (number : ℕ) → counts new number ≤ counts old number + 768
    pub refused : reply ≢ Done → new ≡ old

  pub record IsSurvey (old : Whole) (actor node : ℕ) (reply : Reply B) (new : Whole) : Type 0 where
    pub unknown : length old.nodes ≤ node → reply ≡ NoNode (length old.nodes)
    pub answer : node < length old.nodes → OnView reply (λ view. Unit {0}) (reply ≡ NoMemory)
    pub view : IfView reply (IsViewOf old node)
    pub state : OnView reply (λ view. new ≡ surveyed old actor node) (new ≡ old)

  -- one step of the actor
  abbrev pub IsStep : (B → ℕ) → (B → BranchData) → Rule → Whole → ℕ → Step B → Reply B → Whole → Type 0
  IsStep number_of data_of rule old actor (Put key message) reply new = IsPut rule old key message reply new
  IsStep number_of data_of rule old actor Rotate reply new = IsRotation old reply new
  IsStep number_of data_of rule old actor (Begin span) reply new = IsBeginning number_of data_of old actor span reply new
  IsStep number_of data_of rule old actor MoveDown reply new = IsMove number_of data_of old actor reply new
  IsStep number_of data_of rule old actor End reply new = IsAnswered old (end_answer old actor) (ended old actor) reply new
  IsStep number_of data_of rule old actor (Claim node) reply new = IsAnswered old (claim_answer old actor node) (gripped old actor node grip.Claim) reply new
  IsStep number_of data_of rule old actor (Lock node) reply new = IsAnswered old (lock_answer old actor node) (gripped old actor node grip.Write) reply new
  IsStep number_of data_of rule old actor (Unlock node) reply new = IsAnswered old (unlock_answer old actor node) (gripped old actor node grip.Free) reply new
  IsStep number_of data_of rule old actor PickFrozen reply new = IsPick old actor reply new
  IsStep number_of data_of rule old actor Grant reply new = IsGrant old actor reply new
  IsStep number_of data_of rule old actor (Publish branch) reply new = IsPublication (data_of branch.value) old actor (number_of branch.value) reply new
  IsStep number_of data_of rule old actor Incorporate reply new = IsIncorporation old actor reply new
  IsStep number_of data_of rule old actor (Flush parent child) reply new = IsFlush old actor parent child reply new
  IsStep number_of data_of rule old actor (Start node first last) reply new = IsStart number_of data_of old actor node first last reply new
  IsStep number_of data_of rule old actor (Install node output) reply new = IsInstall old actor node output reply new
  IsStep number_of data_of rule old actor Raise reply new = IsRaise old actor reply new
  IsStep number_of data_of rule old actor (Split parent child key) reply new = IsSplit old actor parent child key reply new
  IsStep number_of data_of rule old actor (Survey node) reply new = IsSurvey old actor node reply new
  IsStep number_of data_of rule old actor Abandon reply new = (reply ≡ Done) × HasAbandoned old new actor
  IsStep number_of data_of rule old actor Retire reply new = (reply ≡ retire_answer old actor) × (new ≡ after_retire old actor)

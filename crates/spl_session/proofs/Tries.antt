-- What one turn of a put and of a rotation tells.
use Rattle.std.proofs.Common.{◌≡◌, ◌≢◌, ℕ, ◌≤◌, List, [], length, refl, sym, ap, subst, ◌∙◌, inl, inr, arith}
use Rattle.std.proofs.lemmas.Bool.{cases_lt}
use Rattle.spl_message.specs.declared.call.Call.TheVariants as call
use Rattle.spl_message.specs.declared.message.Message.{Message}
use Rattle.spl_message.specs.History.{History}
use Rattle.spl_message.specs.Table.{key_count}
use Rattle.spl_state.specs.declared.reply.Reply.{Reply}
use Rattle.spl_state.specs.declared.reply.Reply.TheVariants.{Placed, Rotated, MemFull, NotFull, FrozenFull, NoMemory}
use Rattle.spl_state.specs.Frame.{refused}
use Rattle.spl_state.specs.Whole.{Whole}
use Rattle.spl_steps.specs.Memory.{HasPut}
use Rattle.spl_memtable.specs.Memtable.{IsFull}
use Rattle.spl_core.specs.declared.step.Step.TheVariants.{Put, Rotate}
use Rattle.spl_core.specs.Standing.{called}
use Rattle.spl_core.specs.Steps.{IsPut, IsRotation}
use Rattle.spl_desk.specs.Calls.{HasNothing, MadeCall, MadeNoCall}
use Rattle.spl_desk.specs.Holder.{BranchKind, Holder}
use Rattle.spl_desk.specs.Turn.{MadeTurn}
use Rattle.spl_desk.proofs.Walks.{same_nothing, step_made, nothing_before, no_call, one_call}

module _ {B : Type 0} (kind : BranchKind B) (old new : Holder) (history : History) (answer : Reply B) (Saw : History → Type 0) where
  module _ (key : List ℕ) (message : Message) (turn : MadeTurn kind old new history (Put key message) answer Saw) where
    -- how the core was when the put was made, with the step counted
    abbrev was : Whole
    was = refused turn.turn.before

    put_step : IsPut old.rule was key message answer new.at
    put_step = step_made kind old new history (Put key message) answer Saw turn

    -- a put that has a place is no other answer, and its place is the next one
    placed_next : (place : ℕ) → answer ≡ Placed place → place ≡ was.counters.places
    placed_next place is =
        let room : ¬ (IsFull was.tables.active key) = λ full. not_full place answer is (put_step.full.1 full) in
        elim (put_step.answer room) [ inl next ↦ same_place place was.counters.places answer is next | inr none ↦ absurd (not_memory place answer is none) ]
      where
        not_full : (p : ℕ) (r : Reply B) → r ≡ Placed p → r ≡ MemFull → ⊥
        not_full p r is full = cc

        not_memory : (p : ℕ) (r : Reply B) → r ≡ Placed p → r ≡ NoMemory → ⊥
        not_memory p r is none = cc

        same_place : (p q : ℕ) (r : Reply B) → r ≡ Placed p → r ≡ Placed q → p ≡ q
        same_place p q r is next = cc

    pub put_call : (place : ℕ) → answer ≡ Placed place → MadeCall kind old history new Saw (call.Put key message) place
    put_call place is =
        one_call kind old new history (Put key message) answer Saw turn (call.Put key message) place
        (ap (λ (r : Reply B). called old.actor (Put key message) r) is) (placed_next place is)

    pub put_no_call : called old.actor (Put key message) answer ≡ [] → MadeNoCall kind old history new Saw
    put_no_call none = no_call kind old new history (Put key message) answer Saw turn none

    -- the only other answers
    pub put_answers : answer ≢ MemFull → answer ≢ NoMemory → ((place : ℕ) → answer ≢ Placed place) → ⊥
    put_answers not_full not_memory not_placed =
        elim (put_step.answer (λ full. not_full (put_step.full.1 full))) [ inl next ↦ not_placed was.counters.places next | inr none ↦ not_memory none ]

    has_put_nothing : HasPut was new.at → HasNothing was old.actor → HasNothing new.at old.actor
    has_put_nothing has nothing =
        same_nothing was new.at old.actor (ap (λ (w : Whole). w.actors) has.all) (ap (λ (w : Whole). w.grips) has.all) (ap (λ (w : Whole). w.owners) has.all) nothing

    pub put_nothing : HasNothing old.at old.actor → HasNothing new.at old.actor
    put_nothing nothing =
        let before = nothing_before kind old new history (Put key message) answer Saw turn nothing in
        by_answer before answer refl
      where
        by_answer : HasNothing was old.actor → (r : Reply B) → answer ≡ r → HasNothing new.at old.actor
        by_answer before (Placed place) is = has_put_nothing (put_step.placed place is).0 before
        by_answer before r is =
            subst (λ (w : Whole). HasNothing w old.actor) (sym (put_step.refused (λ place placed. never place (sym is ∙ placed)))) before
          where
            never : (place : ℕ) → r ≢ Placed place
            never place e = cc

  module _ (turn : MadeTurn kind old new history Rotate answer Saw) where
    abbrev was_rotated : Whole
    was_rotated = refused turn.turn.before

    rotate_step : IsRotation was_rotated answer new.at
    rotate_step = step_made kind old new history Rotate answer Saw turn

    pub rotate_no_call : MadeNoCall kind old history new Saw
    rotate_no_call = no_call kind old new history Rotate answer Saw turn refl

    pub rotate_nothing : HasNothing old.at old.actor → HasNothing new.at old.actor
    rotate_nothing nothing =
        let before = nothing_before kind old new history Rotate answer Saw turn nothing in
        by_answer before answer refl
      where
        by_answer : HasNothing was_rotated old.actor → (r : Reply B) → answer ≡ r → HasNothing new.at old.actor
        by_answer before Rotated is =
            let rotated = rotate_step.rotated is in
            same_nothing was_rotated new.at old.actor (ap (λ (w : Whole). w.actors) rotated) (ap (λ (w : Whole). w.grips) rotated) (ap (λ (w : Whole). w.owners) rotated) before
        by_answer before r is =
            subst (λ (w : Whole). HasNothing w old.actor) (sym (rotate_step.refused (λ rotated. never (sym is ∙ rotated)))) before
          where
            never : r ≢ Rotated
            never e = cc

    -- where it is refused since four are frozen, four are frozen
    pub rotate_frozen : answer ≡ FrozenFull → length new.at.tables.frozen ≡ 4
    rotate_frozen is =
        let stays = rotate_step.refused (λ rotated. not_rotated answer is rotated) in
        ap (λ (w : Whole). length w.tables.frozen) stays ∙ (rotate_step.frozen_full.0 is).1
      where
        not_rotated : (r : Reply B) → r ≡ FrozenFull → r ≡ Rotated → ⊥
        not_rotated r is rotated = cc

    -- the only other answers
    pub rotate_answers : answer ≢ Rotated → answer ≢ NotFull → answer ≢ FrozenFull → answer ≢ NoMemory → ⊥
    rotate_answers not_rotated room not_frozen not_memory =
        let count = key_count was_rotated.tables.active in
        let full : 1024 ≤ count = elim (cases_lt count 1024) [ inl below ↦ absurd (room (rotate_step.not_full.1 below)) | inr full ↦ full ] in
        elim (cases_lt (length was_rotated.tables.frozen) 4) [
          | inl few ↦ elim (rotate_step.answer full few) [ inl rotated ↦ not_rotated rotated | inr none ↦ not_memory none ]
          | inr many ↦ not_frozen (rotate_step.frozen_full.1 (exactly full, four many))
        ]
      where
        exactly : 1024 ≤ key_count was_rotated.tables.active → key_count was_rotated.tables.active ≡ 1024
        exactly full = let limit = turn.legal.sound.memtables.active_limit in omega (arith, limit, full)

        four : 4 ≤ length was_rotated.tables.frozen → length was_rotated.tables.frozen ≡ 4
        four many = let few = turn.legal.sound.memtables.few in omega (arith, few, many)

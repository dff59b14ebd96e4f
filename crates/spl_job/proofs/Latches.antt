-- What the steps that take, raise and end a latch tell.
use Rattle.std.proofs.Common.{◌≡◌, ◌≢◌, ℕ, ◌<◌, Bool, true, false, cond, nat_eq, List, [], Option, Some, None, length, refl, sym, ap, subst, ◌∙◌, ⊎_elim, arith}
use Rattle.std.specs.Prelude.{All, is_some, nat_lt, ◌||◌}
use Rattle.std.proofs.lemmas.Bool.{cases_eq, cases_lt, false≢true}
use Rattle.std.proofs.lemmas.Bool.Decides.{nat_tests}
use Rattle.std.proofs.lemmas.List.{get_or_past}
use Rattle.spl_base.specs.declared.TheConstants.{ACTORS}
use Rattle.spl_message.specs.History.{History}
use Rattle.spl_holds.specs.declared.grip.Grip.{Grip}
use Rattle.spl_holds.specs.declared.grip.Grip.TheVariants as grip
use Rattle.spl_holds.specs.Grip.{may_write, is_claim, is_held}
use Rattle.spl_holds.specs.Holds.{grip_of, grips_at}
use Rattle.spl_holds.specs.Latch.{IsLatched, claimant_of, first_reader_of, grip_in}
use Rattle.spl_holds.proofs.HoldsLemmas.{grip_of-with_grip, grip_of-with_grip_elsewhere}
use Rattle.spl_state.specs.declared.reply.Reply.{Reply}
use Rattle.spl_state.specs.declared.reply.Reply.TheVariants as reply
use Rattle.spl_state.specs.Actor.{actor_in}
use Rattle.spl_state.specs.Frame.{refused}
use Rattle.spl_state.specs.Reply.{state_of}
use Rattle.spl_state.specs.Whole.{Whole}
use Rattle.spl_steps.specs.Latching.{claim_answer, lock_answer, unlock_answer, unless_held, gripped}
use Rattle.spl_core.specs.declared.step.Step.{Step}
use Rattle.spl_core.specs.declared.step.Step.TheVariants.{Claim, Lock, Unlock}
use Rattle.spl_core.specs.Steps.{IsAnswered}
use Rattle.spl_desk.specs.Holder.{BranchKind, Holder, IsSameHolder}
use Rattle.spl_desk.specs.Turn.{MadeTurn}
use Rattle.spl_desk.proofs.Walks.{step_made}
use Rattle.spl_job.specs.Holding.{HasHolding, Holding, Holds, IsHolding, with_grip}
use Rattle.spl_job.proofs.Holds.{before_has, before_holding, now_holding, stays_has}

same_numbers : (a b : ℕ) → a ≡ b → nat_eq a b ≡ true
same_numbers a b same = grind (arith, nat_tests)

other_numbers : (a b : ℕ) → a ≢ b → nat_eq a b ≡ false
other_numbers a b apart = grind (arith, nat_tests)

not_free : (g : Grip) → may_write g ≡ true → g ≢ grip.Free
not_free g may free = false≢true (subst (λ (h : Grip). may_write h ≡ true) free may)

-- only a node that is there is held
held_within : (holds : List (List Grip)) (actor node : ℕ) → grip_of holds actor node ≢ grip.Free → node < length holds
held_within holds actor node held =
    ⊎_elim
    (λ (within : node < length holds). within)
    (λ past. absurd (held (ap (λ (grips : List Grip). grip_in grips actor) (get_or_past holds node [] past))))
    (cases_lt node (length holds))

-- another grip on one node
pub gripped_holding : (whole : Whole) (actor node : ℕ) (p : Holding) (now : Grip) → All IsLatched whole.grips → node < length whole.grips → actor < ACTORS → HasHolding whole actor p → HasHolding (gripped whole actor node now) actor (with_grip p node now)
gripped_holding whole actor node p now latched within known has = record {
  descent = has.descent;
  job = has.job;
  published = has.published;
  told = has.told;
  grips = regripped;
  extents = has.extents;
  sources = has.sources;
}
  where
    regripped : (other : ℕ) → grip_of (gripped whole actor node now).grips actor other ≡ cond (nat_eq other node) now (p.grips other)
    regripped other =
        ⊎_elim
        (λ (here : other ≡ node).
        ap (λ (n : ℕ). grip_of (gripped whole actor node now).grips actor n) here
        ∙ grip_of-with_grip whole.grips actor node now latched known within
        ∙ sym (ap (λ (b : Bool). cond b now (p.grips other)) (same_numbers other node here)))
        (λ (away : other ≢ node).
        grip_of-with_grip_elsewhere whole.grips actor node actor other now away
        ∙ has.grips other
        ∙ sym (ap (λ (b : Bool). cond b now (p.grips other)) (other_numbers other node away)))
        (cases_eq other node)

module _ {B : Type 0} (kind : BranchKind B) (old new : Holder) (history : History) (answer : Reply B) (Saw : History → Type 0) (same : IsSameHolder old new 1) (node : ℕ) where
  held_answers : (by : Option ℕ) → answer ≡ unless_held node by → answer ≢ reply.Done → ((n b : ℕ) → answer ≢ reply.Again n b) → ⊥
  held_answers None is done again = done is
  held_answers (Some by) is done again = again node by is

  not_both : (n by : ℕ) (r : Reply B) → r ≡ reply.Again n by → r ≡ reply.Done → ⊥
  not_both n by r a b = cc

  -- a latch step that is made again leaves what the actor has, and one that is done changes the grip on the node
  module _ (made : Step B) (turn : MadeTurn kind old new history made answer Saw) (wanted : Reply B) (now : Grip) (is : IsAnswered (refused turn.turn.before) wanted (gripped (refused turn.turn.before) old.actor node now) answer new.at) where
    latch_done : old.actor < ACTORS → node < length turn.turn.before.grips → answer ≡ reply.Done → (p : Holding) → Holds old p → IsHolding new (with_grip p node now)
    latch_done known within done p holds =
        now_holding kind old new history made answer Saw turn (with_grip p node now) same.actor
        (subst (λ (w : Whole). HasHolding w old.actor (with_grip p node now)) (sym (is.done done))
        (gripped_holding (refused turn.turn.before) old.actor node p now turn.legal.sound.latched within known (before_has kind old new history made answer Saw turn p holds)))

    latch_again : (n by : ℕ) → answer ≡ reply.Again n by → (p : Holding) → Holds old p → IsHolding new p
    latch_again n by again p holds =
        stays_has kind old new history made answer Saw turn p same.actor (is.refused (λ done. not_both n by answer again done)) holds

    -- the node that the actor holds is there
    latch_within : (p : Holding) → IsHolding old p → may_write (p.grips node) ≡ true → node < length turn.turn.before.grips
    latch_within p holds may =
        let has = before_holding kind old new history made answer Saw turn p holds in
        held_within turn.turn.before.grips old.actor node (λ free. not_free (p.grips node) may (sym (has.grips node) ∙ free))

  module _ (turn : MadeTurn kind old new history (Claim node) answer Saw) (known : old.actor < ACTORS) (claims : (p : Holding) × Holds old p × (p.grips node ≡ grip.Free) × (node < p.told)) where
    claim_step : IsAnswered (refused turn.turn.before) (claim_answer (refused turn.turn.before) old.actor node) (gripped (refused turn.turn.before) old.actor node grip.Claim) answer new.at
    claim_step = step_made kind old new history (Claim node) answer Saw turn

    claim_has : HasHolding (refused turn.turn.before) old.actor claims.0
    claim_has = before_has kind old new history (Claim node) answer Saw turn claims.0 claims.1

    -- the actor was told of no node that is not there
    claim_exists : node < length turn.turn.before.nodes
    claim_exists =
        let told = (turn.legal.sound.actors old.actor known).told in
        let is = claim_has.told in
        let below = claims.3 in
        omega (arith, told, is, below)

    claim_within : node < length turn.turn.before.grips
    claim_within =
        let count = turn.legal.sound.latches in
        let exists = claim_exists in
        omega (arith, count, exists)

    claim_is : answer ≡ unless_held node (claimant_of (grips_at turn.turn.before.grips node))
    claim_is =
        let w = refused turn.turn.before in
        let there : nat_lt node (length w.nodes) ≡ true = let exists = claim_exists in grind (arith, nat_tests) in
        let idle : (is_some (actor_in w.actors old.actor).descent || is_held (grip_of w.grips old.actor node)) ≡ false = rw (claim_has.descent, claim_has.grips node, claims.2) refl in
        let rest : Reply B = unless_held node (claimant_of (grips_at w.grips node)) in
        claim_step.answer
        ∙ ap (λ (b : Bool). cond b (reply.Unfit (state_of w old.actor)) (cond (nat_lt node (length w.nodes)) rest (reply.NoNode (length w.nodes)))) idle
        ∙ ap (λ (b : Bool). cond b rest (reply.NoNode (length w.nodes))) there

    pub claim_answers : answer ≢ reply.Done → ((n b : ℕ) → answer ≢ reply.Again n b) → ⊥
    claim_answers = held_answers (claimant_of (grips_at turn.turn.before.grips node)) claim_is

    pub claim_done : answer ≡ reply.Done → (p : Holding) → Holds old p → IsHolding new (with_grip p node grip.Claim)
    claim_done = latch_done (Claim node) turn (claim_answer (refused turn.turn.before) old.actor node) grip.Claim claim_step known claim_within

    pub claim_again : (n by : ℕ) → answer ≡ reply.Again n by → (p : Holding) → Holds old p → IsHolding new p
    claim_again = latch_again (Claim node) turn (claim_answer (refused turn.turn.before) old.actor node) grip.Claim claim_step

  module _ (turn : MadeTurn kind old new history (Lock node) answer Saw) (known : old.actor < ACTORS) (claimed : (p : Holding) × IsHolding old p × (p.grips node ≡ grip.Claim)) where
    lock_step : IsAnswered (refused turn.turn.before) (lock_answer (refused turn.turn.before) old.actor node) (gripped (refused turn.turn.before) old.actor node grip.Write) answer new.at
    lock_step = step_made kind old new history (Lock node) answer Saw turn

    lock_is : answer ≡ unless_held node (first_reader_of (grips_at turn.turn.before.grips node))
    lock_is =
        let has = before_holding kind old new history (Lock node) answer Saw turn claimed.0 claimed.1 in
        let w = refused turn.turn.before in
        let mine : is_claim (grip_of w.grips old.actor node) ≡ true = ap is_claim (has.grips node ∙ claimed.2) in
        lock_step.answer
        ∙ ap (λ (b : Bool). cond b (unless_held node (first_reader_of (grips_at w.grips node))) (reply.Unfit (state_of w old.actor))) mine

    pub lock_answers : answer ≢ reply.Done → ((n b : ℕ) → answer ≢ reply.Again n b) → ⊥
    lock_answers = held_answers (first_reader_of (grips_at turn.turn.before.grips node)) lock_is

    pub lock_done : answer ≡ reply.Done → (p : Holding) → IsHolding old p → IsHolding new (with_grip p node grip.Write)
    lock_done done p is =
        latch_done (Lock node) turn (lock_answer (refused turn.turn.before) old.actor node) grip.Write lock_step known
        (latch_within (Lock node) turn (lock_answer (refused turn.turn.before) old.actor node) grip.Write lock_step claimed.0 claimed.1 (ap may_write claimed.2))
        done p is.has

    pub lock_again : (n by : ℕ) → answer ≡ reply.Again n by → (p : Holding) → IsHolding old p → IsHolding new p
    lock_again n by again p is = latch_again (Lock node) turn (lock_answer (refused turn.turn.before) old.actor node) grip.Write lock_step n by again p is.has

  module _ (turn : MadeTurn kind old new history (Unlock node) answer Saw) (known : old.actor < ACTORS) (held : (p : Holding) × IsHolding old p × (may_write (p.grips node) ≡ true)) where
    unlock_step : IsAnswered (refused turn.turn.before) (unlock_answer (refused turn.turn.before) old.actor node) (gripped (refused turn.turn.before) old.actor node grip.Free) answer new.at
    unlock_step = step_made kind old new history (Unlock node) answer Saw turn

    pub unlock_answers : answer ≡ reply.Done
    unlock_answers =
        let has = before_holding kind old new history (Unlock node) answer Saw turn held.0 held.1 in
        let w = refused turn.turn.before in
        let mine : may_write (grip_of w.grips old.actor node) ≡ true = ap may_write (has.grips node) ∙ held.2 in
        unlock_step.answer ∙ ap (λ (b : Bool). cond b reply.Done (reply.Unfit (state_of w old.actor))) mine

    pub unlock_done : answer ≡ reply.Done → (p : Holding) → IsHolding old p → IsHolding new (with_grip p node grip.Free)
    unlock_done done p is =
        latch_done (Unlock node) turn (unlock_answer (refused turn.turn.before) old.actor node) grip.Free unlock_step known
        (latch_within (Unlock node) turn (unlock_answer (refused turn.turn.before) old.actor node) grip.Free unlock_step held.0 held.1 held.2)
        done p is.has

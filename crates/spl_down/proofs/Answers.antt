-- The turns of a descent by their answers: one turn, no turn, and one list of turns behind another.
use Rattle.std.proofs.Common.{◌≡◌, ℕ, ◌+◌, ◌≤◌, Bool, true, false, not, cond, List, [], ◌∷◌, ◌++◌, Option, Some, None, Result, Ok, Err, refl, ap, ap₂, subst, ◌∙◌, append-nil, arith}
use Rattle.std.specs.Prelude.{sum_by}
use Rattle.std.proofs.lemmas.Bool.{false≢true}
use Rattle.std.proofs.lemmas.Grind.{flat_map-append}
use Rattle.std.proofs.lemmas.List.Sums.{sum_by-append}
use Rattle.spl_base.specs.declared.NoMemory.{NoMemory}
use Rattle.spl_message.specs.History.{History}
use Rattle.spl_state.specs.declared.reply.Reply.{Reply}
use Rattle.spl_state.specs.declared.reply.Reply.TheVariants as reply
use Rattle.spl_state.specs.declared.sight.Sight.{Sight}
use Rattle.spl_state.specs.Whole.{Whole}
use Rattle.spl_core.specs.declared.step.Step.{Step}
use Rattle.spl_core.specs.Standing.{called}
use Rattle.spl_desk.specs.Calls.{MadeNoCall}
use Rattle.spl_desk.specs.Holder.{BranchKind, Holder}
use Rattle.spl_desk.specs.Turn.{MadeTurn, Turn}
use Rattle.spl_desk.specs.Walk.{calls_in}
use Rattle.spl_desk.proofs.Walks.{IsAlike, calls_made, went_none, went_on, went_turn}
use Rattle.spl_down.specs.Arrivals.{AreTurns, Arrival, CameTo, IsAnswer, OnTry, arrival_in, arrival_of, arrivals_in, is_again, others_than_again, reach_at, reach_in}

one_other : (b : Bool) → 0 + cond (not b) 1 0 ≤ 1
one_other true = omega arith
one_other false = omega arith

module _ {B : Type 0} where
  pub others_on : (first more : List (Turn B)) → others_than_again (first ++ more) ≡ others_than_again first + others_than_again more
  others_on first more = sum_by-append (λ (turn : Turn B). cond (not (is_again turn.reply)) 1 0) first more

  pub arrivals_on : (first more : List (Turn B)) → arrivals_in (first ++ more) ≡ arrivals_in first ++ arrivals_in more
  arrivals_on first more = flat_map-append (λ (turn : Turn B). arrival_of turn.reply turn.after) first more

  pub reach_on : (reach : B → List ℕ → ℕ) (key : List ℕ) (first more : List (Turn B)) → reach_in reach key (first ++ more) ≡ reach_in reach key first + reach_in reach key more
  reach_on reach key first more =
      let each : Arrival B → ℕ = λ (arrival : Arrival B). reach_at reach key arrival.sight in
      ap (sum_by each) (arrivals_on first more) ∙ sum_by-append each (arrivals_in first) (arrivals_in more)

  -- one turn is at most one that was not answered `Again`
  pub few_of_one : (turn : Turn B) → others_than_again (turn ∷ []) ≤ 1
  few_of_one turn = one_other (is_again turn.reply)

  none_of_again : (turn : Turn B) → is_again turn.reply ≡ true → others_than_again (turn ∷ []) ≤ 0
  none_of_again turn again = let none : 0 + cond (not (is_again turn.reply)) 1 0 ≡ 0 = ap (λ (b : Bool). 0 + cond (not b) 1 0) again in omega (arith, none)

  again_came_nowhere : (answer : Reply B) (whole : Whole) → is_again answer ≡ true → arrival_of answer whole ≡ []
  again_came_nowhere (reply.Sight sight) whole again = absurd (false≢true again)
  again_came_nowhere answer whole again = refl

  -- where a turn came to
  pub arrivals_of_one : (turn : Turn B) (answer : Reply B) (whole : Whole) (arrivals : List (Arrival B)) → turn.reply ≡ answer → turn.after ≡ whole → arrival_of answer whole ≡ arrivals → arrivals_in (turn ∷ []) ≡ arrivals
  arrivals_of_one turn answer whole arrivals is_answer is_whole are =
      append-nil (arrival_of turn.reply turn.after) ∙ ap₂ arrival_of is_answer is_whole ∙ are

  pub turns_on : (actor : ℕ) (calls later : History) (most more_most : ℕ) (arrivals more_arrivals : List (Arrival B)) (first more : List (Turn B)) → AreTurns actor calls most arrivals first → AreTurns actor later more_most more_arrivals more → AreTurns actor (calls ++ later) (most + more_most) (arrivals ++ more_arrivals) (first ++ more)
  turns_on actor calls later most more_most arrivals more_arrivals first more one two = record {
    calls = calls_on_of actor first more ∙ ap₂ (λ (a b : History). a ++ b) one.calls two.calls;
    few = let sum = others_on first more in let a = one.few in let b = two.few in omega (arith, sum, a, b);
    arrivals = arrivals_on first more ∙ ap₂ (λ (a b : List (Arrival B)). a ++ b) one.arrivals two.arrivals;
  }
    where
      calls_on_of : (actor : ℕ) (first more : List (Turn B)) → calls_in actor (first ++ more) ≡ calls_in actor first ++ calls_in actor more
      calls_on_of actor first more = flat_map-append (λ (turn : Turn B). called actor turn.step turn.reply) first more

module _ {B : Type 0} (kind : BranchKind B) where
  -- no turn
  pub came_nowhere : (old : Holder) (history : History) (Saw : History → Type 0) → Saw history → CameTo kind old history old Saw 0 []
  came_nowhere old history Saw saw =
      went_none kind old history old Saw (λ turns seen. AreTurns old.actor [] 0 [] turns) refl saw (record { calls = refl; few = omega arith; arrivals = refl })

  -- some turns, and then more
  pub came_on : (old : Holder) (history : History) (mid new : Holder) (Before Saw : History → Type 0) (most more_most : ℕ) (arrivals more_arrivals : List (Arrival B)) → IsAlike old mid → CameTo kind old history mid Before most arrivals → ((seen : History) → Before seen → CameTo kind mid seen new Saw more_most more_arrivals) → CameTo kind old history new Saw (most + more_most) (arrivals ++ more_arrivals)
  came_on old history mid new Before Saw most more_most arrivals more_arrivals alike one two =
      went_on kind old history mid new Before Saw (λ turns seen. AreTurns old.actor [] most arrivals turns) (λ turns seen. AreTurns mid.actor [] more_most more_arrivals turns) (λ turns seen. AreTurns old.actor [] (most + more_most) (arrivals ++ more_arrivals) turns)
      alike one (two one.seen one.saw)
      (λ more seen walks says.
      let mine : AreTurns old.actor [] more_most more_arrivals more = subst (λ (n : ℕ). AreTurns n [] more_most more_arrivals more) alike.actor says in
      turns_on old.actor [] [] most more_most arrivals more_arrivals one.turns more one.says mine)

  -- turns that came nowhere, and then more
  pub came_later : (old : Holder) (history : History) (mid new : Holder) (Before Saw : History → Type 0) (most : ℕ) (arrivals : List (Arrival B)) → IsAlike old mid → CameTo kind old history mid Before 0 [] → ((seen : History) → Before seen → CameTo kind mid seen new Saw most arrivals) → CameTo kind old history new Saw most arrivals
  came_later old history mid new Before Saw most arrivals alike one two =
      let all = came_on old history mid new Before Saw 0 most [] arrivals alike one two in
      let same : 0 + most ≡ most = omega arith in
      subst (λ (n : ℕ). CameTo kind old history new Saw n arrivals) same all

  pub came_fewer : (old : Holder) (history : History) (new : Holder) (Saw : History → Type 0) (few most : ℕ) (arrivals : List (Arrival B)) → few ≤ most → CameTo kind old history new Saw few arrivals → CameTo kind old history new Saw most arrivals
  came_fewer old history new Saw few most arrivals below came = record {
    turns = came.turns;
    seen = came.seen;
    walks = came.walks;
    saw = came.saw;
    says = record { calls = came.says.calls; few = let made = came.says.few in omega (arith, made, below); arrivals = came.says.arrivals };
  }

  pub came_without_call : (old : Holder) (history : History) (new : Holder) (Saw : History → Type 0) (most : ℕ) (arrivals : List (Arrival B)) → CameTo kind old history new Saw most arrivals → MadeNoCall kind old history new Saw
  came_without_call old history new Saw most arrivals came = record { turns = came.turns; seen = came.seen; walks = came.walks; saw = came.saw; says = came.says.calls }

  module _ (old new : Holder) (history : History) (made : Step B) (answer : Reply B) (Saw : History → Type 0) (none : called old.actor made answer ≡ []) (turn : MadeTurn kind old new history made answer Saw) where
    -- one turn that is no call
    pub came_by : (most : ℕ) (arrivals : List (Arrival B)) → others_than_again (turn.turn ∷ []) ≤ most → arrival_of answer new.at ≡ arrivals → CameTo kind old history new Saw most arrivals
    came_by most arrivals few are =
        went_turn kind old history new made answer Saw (λ turns seen. AreTurns old.actor [] most arrivals turns) turn (record {
          calls = calls_made kind old new history made answer Saw turn ∙ none;
          few = few;
          arrivals = arrivals_of_one turn.turn answer new.at arrivals turn.reply turn.after are;
        })

    -- and the same by what was read in its answer
    pub came_by_try : (tried : Result (Option (Sight B)) NoMemory) → IsAnswer answer tried → OnTry tried (λ sight. CameTo kind old history new Saw 1 (arrival_in new.at sight ∷ [])) (CameTo kind old history new Saw 0 []) (CameTo kind old history new Saw 1 [])
    came_by_try (Ok (Some sight)) is =
        came_by 1 (arrival_in new.at sight ∷ []) (few_of_one turn.turn) (ap (λ (r : Reply B). arrival_of r new.at) is)
    came_by_try (Ok None) is =
        came_by 0 [] (none_of_again turn.turn (ap is_again turn.reply ∙ is)) (again_came_nowhere answer new.at is)
    came_by_try (Err fault) is = came_by 1 [] (few_of_one turn.turn) (ap (λ (r : Reply B). arrival_of r new.at) is)

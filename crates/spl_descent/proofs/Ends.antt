-- What an actor that leaves the node of its descent keeps.
use Rattle.std.proofs.Common.{◌≡◌, ◌≢◌, ℕ, ◌<◌, List, Option, Some, None, length, refl, sym, subst, ◌∙◌, inl, inr, arith}
use Rattle.std.specs.Prelude.{All}
use Rattle.std.proofs.lemmas.Bool.{cases_eq}
use Rattle.spl_base.specs.declared.TheConstants.{ACTORS}
use Rattle.spl_holds.specs.declared.grip.Grip.{Grip}
use Rattle.spl_holds.specs.declared.grip.Grip.TheVariants.{Free, Read}
use Rattle.spl_holds.specs.Latch.{IsLatched}
use Rattle.spl_holds.specs.Holds.{grip_of, with_grip}
use Rattle.spl_holds.proofs.HoldsLemmas.{length-with_grip, grip_of-with_grip, grip_of-with_grip_elsewhere, grip_of-with_grip_others}
use Rattle.spl_state.specs.declared.descent.Descent.{Descent}
use Rattle.spl_state.specs.declared.actor.Actor.{Actor}
use Rattle.spl_state.specs.Actor.{actor_in, with_descent}
use Rattle.spl_state.specs.Whole.{Whole}
use Rattle.spl_state.specs.Actors.{IsOnWay, IsDescending}
use Rattle.spl_state.specs.Sound.{IsSound}
use Rattle.spl_descent.proofs.Moves.{IsMove}

-- what holds of a descent that the actor has
pub descending : (old : Whole) (actor : ℕ) (descent : Descent) → IsSound old → actor < ACTORS → (actor_in old.actors actor).descent ≡ Some descent → IsDescending old.nodes old.grips old.counters.places actor (actor_in old.actors actor) descent
descending old actor descent sound known is =
    subst (λ (d : Option Descent). IsOnWay old.nodes old.grips old.counters.places actor (actor_in old.actors actor) d) is (sound.actors actor known).descent

module _ (old : Whole) (actor : ℕ) (descent : Descent) (sound : IsSound old) (known : actor < ACTORS) (is : (actor_in old.actors actor).descent ≡ Some descent) where
  abbrev pub mine : Actor
  mine = with_descent (actor_in old.actors actor) None

  abbrev pub left : List (List Grip)
  left = with_grip old.grips actor descent.node Free

  reads_none : (n : ℕ) → grip_of left actor n ≢ Read
  reads_none n read =
      let way = descending old actor descent sound known is in
      let exists : descent.node < length old.grips = let nodes = sound.latches in let there = way.exists in omega arith in
      elim (cases_eq n descent.node) [
        | inl same ↦
            let free = grip_of-with_grip old.grips actor descent.node Free sound.latched known exists in
            let here : grip_of left actor descent.node ≡ Read = subst (λ (m : ℕ). grip_of left actor m ≡ Read) same read in
            let apart : Free ≡ Read = sym free ∙ here in
            cc
        | inr other ↦
            let free = grip_of-with_grip_elsewhere old.grips actor descent.node actor n Free other in
            let apart : Free ≡ Read = sym (way.alone n other) ∙ sym free ∙ read in
            cc
      ]

  pub ended_move : All IsLatched left → IsMove old actor mine left old.counters.places
  ended_move latched = record {
    known = known;
    job = refl;
    published = refl;
    others = λ other n apart. grip_of-with_grip_others old.grips actor descent.node other n Free apart;
    nodes = length-with_grip old.grips actor descent.node Free;
    latched = latched;
    told = (sound.actors actor known).told;
    knows_root = (sound.actors actor known).knows_root;
    way = reads_none;
    more = omega arith;
    few = sound.bounds.places;
  }

-- An actor that is told of a node keeps the invariant, and what everybody relies on.
use Rattle.std.proofs.Common.{◌≡◌, ℕ, ◌<◌, List, Bool, true, Option, Some, None, length, set, refl, arith}
use Rattle.spl_base.specs.declared.TheConstants.{ACTORS}
use Rattle.spl_holds.specs.declared.grip.Grip.{Grip}
use Rattle.spl_message.specs.Rule.{Rule}
use Rattle.spl_node.specs.Node.{NodeData}
use Rattle.spl_state.specs.declared.descent.Descent.{Descent}
use Rattle.spl_state.specs.declared.actor.Actor.{Actor}
use Rattle.spl_state.specs.Actor.{actor_in, told_of}
use Rattle.spl_state.specs.Actors.{IsOnWay}
use Rattle.spl_state.specs.Frame.{IsFramed}
use Rattle.spl_state.specs.Sound.{IsSound, AreDrafts}
use Rattle.spl_state.specs.Whole.{Whole}
use Rattle.spl_state.proofs.Frames.{unchanged_framed}
use Rattle.spl_descent.proofs.Moves.{IsMove, sound_where, framed_where}
use Rattle.spl_compact.specs.Installing.{told_next}

-- a way stays one where more nodes are told of
told_way : (nodes : List NodeData) (grips : List (List Grip)) (places number node : ℕ) (actor : Actor) (descent : Option Descent) → IsOnWay nodes grips places number actor descent → IsOnWay nodes grips places number (told_of actor node) descent
told_way nodes grips places number node actor None way = way
told_way nodes grips places number node actor (Some descent) way = record {
  exists = way.exists;
  told = let told = way.told in omega arith;
  reads = way.reads;
  alone = way.alone;
  no_job = way.no_job;
  place = way.place;
  lies = way.lies;
}

module _ (old : Whole) (sound : IsSound old) (actor : ℕ) (known : actor < ACTORS) where
  told_move : (next : ℕ) → next < length old.nodes → IsMove old actor (told_of (actor_in old.actors actor) next) old.grips old.counters.places
  told_move next exists =
      let is = sound.actors actor known in
      let below = is.told in
      let root = is.knows_root in
      record {
        known = known;
        job = refl;
        published = refl;
        others = λ other n apart. refl;
        nodes = refl;
        latched = sound.latched;
        told = omega arith;
        knows_root = omega arith;
        way = told_way old.nodes old.grips old.counters.places actor next (actor_in old.actors actor) (actor_in old.actors actor).descent is.descent;
        more = omega arith;
        few = sound.bounds.places;
      }

  pub told_sound : (next : Option ℕ) → ((n : ℕ) → next ≡ Some n → n < length old.nodes) → IsSound (told_next old actor next)
  told_sound None exists = sound
  told_sound (Some next) exists =
      sound_where old sound actor (told_of (actor_in old.actors actor) next) old.grips old.grips old.counters.places (set old.actors actor (told_of (actor_in old.actors actor) next)) old.counters (told_move next (exists next refl)) refl refl refl

  pub told_framed : (next : Option ℕ) → ((n : ℕ) → next ≡ Some n → n < length old.nodes) → (rule : Rule) (tells : Bool) → (tells ≡ true → AreDrafts rule old) → IsFramed rule tells old (told_next old actor next) actor
  told_framed None exists rule tells drafts = unchanged_framed rule tells old drafts actor
  told_framed (Some next) exists rule tells drafts =
      framed_where old sound actor (told_of (actor_in old.actors actor) next) old.grips old.grips old.counters.places (set old.actors actor (told_of (actor_in old.actors actor) next)) old.counters (told_move next (exists next refl)) refl refl refl old refl rule tells drafts

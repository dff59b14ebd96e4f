-- A survey keeps the invariant, and what everybody relies on.
use Rattle.std.proofs.Common.{◌≡◌, ℕ, suc, ◌<◌, max, fold, List, [], ◌∷◌, ◌++◌, Bool, true, Option, Some, None, length, set, refl, sym, ap, ◌∙◌, arith}
use Rattle.std.specs.Option.{option_to_list}
use Rattle.spl_base.specs.declared.TheConstants.{ACTORS}
use Rattle.spl_holds.specs.declared.grip.Grip.{Grip}
use Rattle.spl_message.specs.Rule.{Rule}
use Rattle.spl_node.specs.declared.pivot.Pivot.{Pivot}
use Rattle.spl_node.specs.Node.{NodeData, pivot_at}
use Rattle.spl_trunk.specs.Trunk.{node_at}
use Rattle.spl_state.specs.declared.descent.Descent.{Descent}
use Rattle.spl_state.specs.declared.actor.Actor.{Actor}
use Rattle.spl_state.specs.Actor.{actor_in, told_of}
use Rattle.spl_state.specs.Actors.{IsOnWay}
use Rattle.spl_state.specs.declared.view.View.{View}
use Rattle.spl_state.specs.Frame.{IsFramed}
use Rattle.spl_state.specs.Sound.{IsSound, AreDrafts}
use Rattle.spl_state.specs.Whole.{Whole}
use Rattle.spl_descent.proofs.Moves.{IsMove, sound_where, framed_where}
use Rattle.spl_survey.specs.Surveys.{IsViewOf, children_of, greatest_named}

-- where each child is below a bound, so is the greatest of them
fold_below : (bound : ℕ) (pivots : List Pivot) (greatest : ℕ) → greatest < bound → ((i child : ℕ) → i < length pivots → (pivot_at pivots i).child ≡ Some child → child < bound) → fold max greatest (children_of pivots) < bound
fold_below bound [] greatest within each = within
fold_below bound (pivot ∷ pivots) greatest within each =
    by pivot.child refl (λ other below. fold_below bound pivots other below (λ i child inside is. each (suc i) child (omega arith) is))
  where
    by : (o : Option ℕ) → pivot.child ≡ o → ((other : ℕ) → other < bound → fold max other (children_of pivots) < bound) → fold max greatest (option_to_list o ++ children_of pivots) < bound
    by None is later = later greatest within
    by (Some child) is later =
        let here = each 0 child (omega arith) is in
        later (max greatest child) (omega arith)

-- a way stays one where more nodes are told of
told_way : (nodes : List NodeData) (grips : List (List Grip)) (places number node : ℕ) (actor : Actor) (descent : Option Descent) → IsOnWay nodes grips places number actor descent → IsOnWay nodes grips places number (told_of actor node) descent
told_way nodes grips places number node actor None way = way
told_way nodes grips places number node actor (Some descent) way = record {
  exists = way.exists;
  told = let told = way.told in omega arith;
  reads = way.reads;
  alone = way.alone;
  no_job = way.no_job;
  place = way.place;
  lies = way.lies;
}

module _ (old : Whole) (actor node : ℕ) (sound : IsSound old) (known : actor < ACTORS) (exists : node < length old.nodes) where
  pub named_exists : greatest_named old node < length old.nodes
  named_exists =
      fold_below (length old.nodes) (node_at old.nodes node).pivots node exists (λ i child within is. (sound.shaped.children node i child exists within is).exists)

  pub told_move : IsMove old actor (told_of (actor_in old.actors actor) (greatest_named old node)) old.grips old.counters.places
  told_move =
      let is = sound.actors actor known in
      let below = is.told in
      let root = is.knows_root in
      let named = named_exists in
      record {
        known = known;
        job = refl;
        published = refl;
        others = λ other n apart. refl;
        nodes = refl;
        latched = sound.latched;
        told = omega arith;
        knows_root = omega arith;
        way = told_way old.nodes old.grips old.counters.places actor (greatest_named old node) (actor_in old.actors actor) (actor_in old.actors actor).descent is.descent;
        more = omega arith;
        few = sound.bounds.places;
      }

  -- the same, as the calls leave the parts
  module _ (greatest : ℕ) (is_greatest : greatest ≡ greatest_named old node) (actors : List Actor) (are_set : actors ≡ set old.actors actor (told_of (actor_in old.actors actor) greatest)) where
    are_told : actors ≡ set old.actors actor (told_of (actor_in old.actors actor) (greatest_named old node))
    are_told = are_set ∙ ap (λ (n : ℕ). set old.actors actor (told_of (actor_in old.actors actor) n)) is_greatest

    pub told_sound : IsSound (record old { actors = actors })
    told_sound =
        sound_where old sound actor (told_of (actor_in old.actors actor) (greatest_named old node)) old.grips old.grips old.counters.places actors old.counters told_move refl are_told refl

    pub told_framed : (before : Whole) → before ≡ old → (rule : Rule) (tells : Bool) → (tells ≡ true → AreDrafts rule before) → IsFramed rule tells before (record old { actors = actors }) actor
    told_framed =
        framed_where old sound actor (told_of (actor_in old.actors actor) (greatest_named old node)) old.grips old.grips old.counters.places actors old.counters told_move refl are_told refl

-- the greatest node that a view of the state names
pub greatest_where : (whole before : Whole) → whole ≡ before → (node greatest : ℕ) (view : View) (pivots : List Pivot) → IsViewOf before node view → pivots ≡ view.pivots → greatest ≡ fold max node (children_of pivots) → greatest ≡ greatest_named whole node
greatest_where whole before is_whole node greatest view pivots shown are is =
    is ∙ ap (λ (ps : List Pivot). fold max node (children_of ps)) (are ∙ shown.pivots) ∙ ap (λ (w : Whole). greatest_named w node) (sym is_whole)

-- What a step keeps that changes little: a refused one, and one that changes a grip.
use Rattle.std.proofs.Common.{◌≡◌, ◌≢◌, ℕ, zero, suc, ◌+◌, ◌<◌, ◌≤◌, ◌^◌, Bool, true, false, List, [], ◌∷◌, Option, Some, None, length, map, refl, sym, ap, subst, ◌∙◌, inl, inr, arith, rules}
use Rattle.std.specs.Prelude.{IsSome, IfSome, All, slice_get}
use Rattle.std.proofs.lemmas.Bool.{cases_eq}
use Rattle.std.proofs.lemmas.List.Elements.{All-weaker}
use Rattle.spl_base.specs.declared.TheConstants.{ACTORS}
use Rattle.spl_message.specs.Rule.{Rule}
use Rattle.spl_bundle.specs.Numbered.{next_of}
use Rattle.spl_holds.specs.declared.grip.Grip.{Grip}
use Rattle.spl_holds.specs.declared.grip.Grip.TheVariants.{Free, Read}
use Rattle.spl_holds.specs.Latch.{IsLatched}
use Rattle.spl_holds.specs.Holds.{grip_of, with_grip}
use Rattle.spl_holds.proofs.HoldsLemmas.{length-with_grip, grip_of-with_grip, grip_of-with_grip_elsewhere, grip_of-with_grip_others}
use Rattle.spl_extent.specs.Pool.{granted_to}
use Rattle.spl_node.specs.Node.{NodeData}
use Rattle.spl_refs.specs.Refs.{Published, branch_at}
use Rattle.spl_tables.specs.Memtables.{FrozenData}
use Rattle.spl_state.specs.declared.descent.Descent.{Descent}
use Rattle.spl_state.specs.declared.job.Job.{Job}
use Rattle.spl_state.specs.declared.job.Job.TheVariants.{Pack, Merge}
use Rattle.spl_state.specs.declared.actor.Actor.{Actor}
use Rattle.spl_state.specs.declared.counters.Counters.{Counters}
use Rattle.spl_state.specs.Actor.{actor_in}
use Rattle.spl_state.specs.Whole.{BranchData, Whole, branches}
use Rattle.spl_state.specs.Actors.{IsActor, IsOnWay, IsDescending}
use Rattle.spl_state.specs.Bounds.{AreBounded}
use Rattle.spl_state.specs.Sight.{KeepsSight, SeesNode, SeesSource, KeepsNode}
use Rattle.spl_state.specs.Sound.{IsSound, AreDrafts, meaning}
use Rattle.spl_state.specs.Frame.{IsFramed, counted, refused}

-- one step more leaves all numbers below the count of steps
counted_bounds : (nodes : List NodeData) (branch : ℕ → Option BranchData) (tables : _) (counters : Counters) → counters.steps < 2 ^ 46 → AreBounded nodes branch tables counters → AreBounded nodes branch tables (counted counters)
counted_bounds nodes branch tables counters few bounds = record {
  steps = omega arith;
  places = omega (arith, bounds.places);
  branches = omega (arith, bounds.branches);
  memtables = omega (arith, bounds.memtables);
  lists = All-weaker (λ (node : NodeData). next_of node.lists ≤ counters.steps) (λ (node : NodeData). next_of node.lists ≤ counters.steps + 1) (λ node below. omega arith) nodes bounds.lists;
  generations = All-weaker (λ (node : NodeData). node.generation ≤ counters.steps) (λ (node : NodeData). node.generation ≤ counters.steps + 1) (λ node below. omega arith) nodes bounds.generations;
  height = bounds.height;
  numbers = bounds.numbers;
}

same_source : (old new : Whole) → new.tables ≡ old.tables → new.refs ≡ old.refs → (job : Job) → SeesSource old new job
same_source old new tables refs (Pack number table) = λ i f at is. (i, ap (λ (t : _). slice_get t.frozen i) tables ∙ at)
same_source old new tables refs (Merge number run) = λ n among. ap (λ (r : Published BranchData). branch_at r n) refs

module _ (old : Whole) (sound : IsSound old) where
  -- a refused step keeps the invariant
  pub refused_sound : old.counters.steps < 2 ^ 46 → IsSound (refused old)
  refused_sound few = record {
    shaped = sound.shaped;
    latches = sound.latches;
    latched = sound.latched;
    extents = sound.extents;
    memtables = sound.memtables;
    count = sound.count;
    actors = sound.actors;
    apart = sound.apart;
    picked = sound.picked;
    runs = sound.runs;
    ends = sound.ends;
    bounds = counted_bounds old.nodes (branches old) old.tables old.counters few sound.bounds;
  }

  -- An actor without a descent changes its grip on a node, but not to a read.
  module _ (actor node : ℕ) (grip : Grip) (known : actor < ACTORS) (exists : node < length old.grips) (no_read : grip ≢ Read) (no_descent : (actor_in old.actors actor).descent ≡ None) where
    abbrev gripped : Whole
    gripped = record old { grips = with_grip old.grips actor node grip }

    still_reads_none : (n : ℕ) → grip_of gripped.grips actor n ≢ Read
    still_reads_none n read =
        let before : IsOnWay old.nodes old.grips old.counters.places actor (actor_in old.actors actor) None = subst (λ (d : Option Descent). IsOnWay old.nodes old.grips old.counters.places actor (actor_in old.actors actor) d) no_descent (sound.actors actor known).descent in
        elim (cases_eq n node) [
          | inl same ↦ no_read (sym (grip_of-with_grip old.grips actor node grip sound.latched known exists) ∙ subst (λ (m : ℕ). grip_of gripped.grips actor m ≡ Read) same read)
          | inr other ↦ before n (sym (grip_of-with_grip_elsewhere old.grips actor node actor n grip other) ∙ read)
        ]

    others_way : (other : ℕ) (d : Option Descent) (a : Actor) → other ≢ actor → IsOnWay old.nodes old.grips old.counters.places other a d → IsOnWay old.nodes gripped.grips old.counters.places other a d
    others_way other None a apart way = λ n read. way n (sym (grip_of-with_grip_others old.grips actor node other n grip apart) ∙ read)
    others_way other (Some descent) a apart way = record {
      exists = way.exists;
      told = way.told;
      reads = grip_of-with_grip_others old.grips actor node other descent.node grip apart ∙ way.reads;
      alone = λ n away. grip_of-with_grip_others old.grips actor node other n grip apart ∙ way.alone n away;
      no_job = way.no_job;
      place = way.place;
      lies = way.lies;
    }

    way_of : (number : ℕ) → number < ACTORS → IsOnWay old.nodes gripped.grips old.counters.places number (actor_in old.actors number) (actor_in old.actors number).descent
    way_of number below =
        elim (cases_eq number actor) [
          | inl same ↦ subst (λ (m : ℕ). IsOnWay old.nodes gripped.grips old.counters.places m (actor_in old.actors m) (actor_in old.actors m).descent) (sym same) (subst (λ (d : Option Descent). IsOnWay old.nodes gripped.grips old.counters.places actor (actor_in old.actors actor) d) (sym no_descent) still_reads_none)
          | inr apart ↦ others_way number (actor_in old.actors number).descent (actor_in old.actors number) apart (sound.actors number below).descent
        ]

    pub gripped_sound : All IsLatched (with_grip old.grips actor node grip) → IsSound gripped
    gripped_sound latched = record {
      shaped = sound.shaped;
      latches = length-with_grip old.grips actor node grip ∙ sound.latches;
      latched = latched;
      extents = sound.extents;
      memtables = sound.memtables;
      count = sound.count;
      actors = λ number below. record {
        told = (sound.actors number below).told;
        knows_root = (sound.actors number below).knows_root;
        descent = way_of number below;
        job = (sound.actors number below).job;
      };
      apart = sound.apart;
      picked = sound.picked;
      runs = sound.runs;
      ends = sound.ends;
      bounds = sound.bounds;
    }

-- what an actor sees does not move where the trunk, the branches, the extents, its own state, its grips and what it works on stay
pub still_with : (rule : Rule) (tells : Bool) (old new : Whole) (number : ℕ) → new.nodes ≡ old.nodes → new.refs ≡ old.refs → ((job : Job) → (actor_in old.actors number).job ≡ Some job → SeesSource old new job) → new.owners ≡ old.owners → actor_in new.actors number ≡ actor_in old.actors number → ((node : ℕ) → grip_of new.grips number node ≡ grip_of old.grips number node) → KeepsSight rule tells old new number
still_with rule tells old new number nodes refs source owners actor grips =
    let sees : (n : List NodeData) (r : Published BranchData) → n ≡ old.nodes → r ≡ old.refs → (descent : Descent) → SeesNode rule tells old (record new { nodes = n; refs = r }) descent = λ n r is_n is_r descent. rw (is_n, is_r) (record { height = refl; pivots = refl; tables = refl; rest = λ told key within. refl }) in
    let keeps : (n : List NodeData) (r : Published BranchData) → n ≡ old.nodes → r ≡ old.refs → (node : ℕ) → KeepsNode old (record new { nodes = n; refs = r }) node = λ n r is_n is_r node. rw (is_n, is_r) (record { pivots = refl; bundles = refl; split = refl }) in
    record {
      actor = actor;
      grips = grips;
      extents = ap (λ (o : _). granted_to o number) owners;
      descent = λ descent is. sees new.nodes new.refs nodes refs descent;
      job = source;
      written = λ node writes. keeps new.nodes new.refs nodes refs node;
    }

pub still : (rule : Rule) (tells : Bool) (old new : Whole) (number : ℕ) → new.nodes ≡ old.nodes → new.refs ≡ old.refs → new.tables ≡ old.tables → new.owners ≡ old.owners → actor_in new.actors number ≡ actor_in old.actors number → ((node : ℕ) → grip_of new.grips number node ≡ grip_of old.grips number node) → KeepsSight rule tells old new number
still rule tells old new number nodes refs tables owners actor grips = still_with rule tells old new number nodes refs (λ job is. same_source old new tables refs job) owners actor grips

module _ (rule : Rule) (tells : Bool) (old : Whole) (drafts : tells ≡ true → AreDrafts rule old) where
  -- a state that stays leaves all that anyone relies on
  pub unchanged_framed : (actor : ℕ) → IsFramed rule tells old old actor
  unchanged_framed actor = record {
    drafts = drafts;
    means = λ told key. refl;
    others = λ other below apart. still rule tells old old other refl refl refl refl refl (λ node. refl);
  }

  -- and so does a step more
  pub refused_framed : (actor : ℕ) → IsFramed rule tells old (refused old) actor
  refused_framed actor = record {
    drafts = drafts;
    means = λ told key. refl;
    others = λ other below apart. still rule tells old (refused old) other refl refl refl refl refl (λ node. refl);
  }

  -- and so does one that changes a grip of the actor's
  pub gripped_framed : (actor node : ℕ) (grip : Grip) → IsFramed rule tells old (record old { grips = with_grip old.grips actor node grip }) actor
  gripped_framed actor node grip = record {
    drafts = drafts;
    means = λ told key. refl;
    others = λ other below apart. still rule tells old (record old { grips = with_grip old.grips actor node grip }) other refl refl refl refl refl (λ n. grip_of-with_grip_others old.grips actor node other n grip apart);
  }

-- A step that changes one actor's descent: it keeps the invariant, and what everybody else relies on.
use Rattle.std.proofs.Common.{◌≡◌, ◌≢◌, ℕ, zero, suc, ◌<◌, ◌≤◌, ◌++◌, Bool, true, List, [], ◌∷◌, Option, Some, None, length, flat_map, get_or, set, refl, sym, ap, subst, ◌∙◌, inl, inr, arith}
use Rattle.std.specs.Prelude.{All, slice_get}
use Rattle.std.proofs.lemmas.List.{length-set, get_or-set_same, get_or-set_other}
use Rattle.std.proofs.lemmas.Bool.{cases_eq}
use Rattle.spl_base.specs.declared.TheConstants.{ACTORS}
use Rattle.spl_message.specs.Rule.{Rule}
use Rattle.spl_holds.specs.declared.grip.Grip.{Grip}
use Rattle.spl_holds.specs.Latch.{IsLatched}
use Rattle.spl_holds.specs.Holds.{grip_of}
use Rattle.spl_node.specs.Node.{NodeData}
use Rattle.spl_state.specs.declared.descent.Descent.{Descent}
use Rattle.spl_state.specs.declared.job.Job.{Job}
use Rattle.spl_state.specs.declared.job.Job.TheVariants.{Pack, Merge}
use Rattle.spl_state.specs.declared.actor.Actor.{Actor}
use Rattle.spl_state.specs.declared.counters.Counters.{Counters}
use Rattle.spl_state.specs.Actor.{idle, actor_in}
use Rattle.spl_trunk.specs.Trunk.{node_at}
use Rattle.spl_trunk.specs.Tree.{named}
use Rattle.spl_state.specs.Whole.{Whole, branches, counts}
use Rattle.spl_state.specs.Extents.{mentioned, named_by, AccountsForExtents}
use Rattle.spl_state.specs.Runs.{IsInRun}
use Rattle.spl_state.specs.Actors.{IsActor, IsOnWay, IsAtWork, Packs}
use Rattle.spl_state.specs.Frame.{IsFramed}
use Rattle.spl_state.specs.Sight.{SeesSource}
use Rattle.spl_state.specs.Sound.{IsSound, AreDrafts}

-- an element that names the same takes the place of another
flat_map_set : {A : Type 0} (f : A → List ℕ) (xs : List A) (i : ℕ) (x d : A) → f x ≡ f (get_or xs i d) → flat_map f (set xs i x) ≡ flat_map f xs
flat_map_set f [] i x d same = refl
flat_map_set f (y ∷ xs) zero x d same = ap (λ (ns : List ℕ). ns ++ flat_map f xs) same
flat_map_set f (y ∷ xs) (suc i) x d same = ap (λ (ns : List ℕ). f y ++ ns) (flat_map_set f xs i x d same)

-- who keeps its grips stays on its way, also where more places are given
way_stays : (nodes : List NodeData) (old new : List (List Grip)) (before after number : ℕ) (actor : Actor) (descent : Option Descent) → before ≤ after → ((n : ℕ) → grip_of new number n ≡ grip_of old number n) → IsOnWay nodes old before number actor descent → IsOnWay nodes new after number actor descent
way_stays nodes old new before after number actor None more same way = λ n read. way n (sym (same n) ∙ read)
way_stays nodes old new before after number actor (Some descent) more same way = record {
  exists = way.exists;
  told = way.told;
  reads = same descent.node ∙ way.reads;
  alone = λ n away. same n ∙ way.alone n away;
  no_job = way.no_job;
  place = let place = way.place in omega arith;
  lies = way.lies;
}

-- the actor is on another way, with the same job, and nobody else's grips change
pub record IsMove (old : Whole) (actor : ℕ) (mine : Actor) (grips : List (List Grip)) (places : ℕ) : Type 0 where
  pub known : actor < ACTORS
  pub job : mine.job ≡ (actor_in old.actors actor).job
  pub published : mine.published ≡ (actor_in old.actors actor).published
  pub others : (other node : ℕ) → other ≢ actor → grip_of grips other node ≡ grip_of old.grips other node
  pub nodes : length grips ≡ length old.grips
  pub latched : All IsLatched grips
  pub told : mine.told ≤ length old.nodes
  pub knows_root : 0 < mine.told
  pub way : IsOnWay old.nodes grips places actor mine mine.descent
  pub more : old.counters.places ≤ places
  pub few : places ≤ old.counters.steps

same_source : (old new : Whole) → new.tables ≡ old.tables → new.refs ≡ old.refs → (job : Job) → SeesSource old new job
same_source old new tables refs (Pack number table) = λ i f at is. (i, ap (λ (t : _). slice_get t.frozen i) tables ∙ at)
same_source old new tables refs (Merge number run) = λ n among. ap (λ (r : _). branches (record new { refs = r }) n) refs

module _ (old : Whole) (sound : IsSound old) (actor : ℕ) (mine : Actor) (grips : List (List Grip)) (places : ℕ) (move : IsMove old actor mine grips places) where
  abbrev moved : Whole
  moved = record old { grips = grips; actors = set old.actors actor mine; counters = record old.counters { places = places } }

  mine_now : actor_in moved.actors actor ≡ mine
  mine_now =
      let known = move.known in
      let count = sound.count in
      get_or-set_same old.actors actor mine idle (omega arith)

  other_now : (other : ℕ) → other ≢ actor → actor_in moved.actors other ≡ actor_in old.actors other
  other_now other apart = get_or-set_other old.actors actor other mine idle apart

  jobs : (n : ℕ) → (actor_in moved.actors n).job ≡ (actor_in old.actors n).job
  jobs n = elim (cases_eq n actor) [
    | inl same ↦ ap (λ (m : ℕ). (actor_in moved.actors m).job) same ∙ ap (λ (a : Actor). a.job) mine_now ∙ move.job ∙ ap (λ (m : ℕ). (actor_in old.actors m).job) (sym same)
    | inr apart ↦ ap (λ (a : Actor). a.job) (other_now n apart)
  ]

  drafts_now : (n : ℕ) → (actor_in moved.actors n).published ≡ (actor_in old.actors n).published
  drafts_now n = elim (cases_eq n actor) [
    | inl same ↦ ap (λ (m : ℕ). (actor_in moved.actors m).published) same ∙ ap (λ (a : Actor). a.published) mine_now ∙ move.published ∙ ap (λ (m : ℕ). (actor_in old.actors m).published) (sym same)
    | inr apart ↦ ap (λ (a : Actor). a.published) (other_now n apart)
  ]

  abbrev IsThere : ℕ → Actor → Type 0
  IsThere number a = IsActor old.nodes (branches old) old.owners grips old.tables.frozen places old.counters.branches number a

  mine_is : IsThere actor mine
  mine_is =
      let was = (sound.actors actor move.known).job in
      let P : Option Job → Type 0 = λ job. IsAtWork old.nodes (branches old) old.owners old.tables.frozen old.counters.branches actor job (actor_in old.actors actor).published in
      let Q : Bool → Type 0 = λ published. IsAtWork old.nodes (branches old) old.owners old.tables.frozen old.counters.branches actor mine.job published in
      record {
        told = move.told;
        knows_root = move.knows_root;
        descent = move.way;
        job = subst Q (sym move.published) (subst P (sym move.job) was);
      }

  other_is : (number : ℕ) → number < ACTORS → number ≢ actor → IsThere number (actor_in old.actors number)
  other_is number below apart = record {
    told = (sound.actors number below).told;
    knows_root = (sound.actors number below).knows_root;
    descent = way_stays old.nodes old.grips grips old.counters.places places number (actor_in old.actors number) (actor_in old.actors number).descent move.more (λ n. move.others number n apart) (sound.actors number below).descent;
    job = (sound.actors number below).job;
  }

  each_is : (number : ℕ) → number < ACTORS → IsThere number (actor_in moved.actors number)
  each_is number below = elim (cases_eq number actor) [
    | inl same ↦
        let P : ℕ → Type 0 = λ m. IsThere m (actor_in moved.actors m) in
        let Q : Actor → Type 0 = λ a. IsThere actor a in
        subst P (sym same) (subst Q (sym mine_now) mine_is)
    | inr apart ↦
        let Q : Actor → Type 0 = λ a. IsThere number a in
        subst Q (sym (other_now number apart)) (other_is number below apart)
  ]

  names : (a b : Actor) → a.job ≡ b.job → a.published ≡ b.published → named_by a ≡ named_by b
  names a b job published = rw (job, published) refl

  moved_sound : IsSound moved
  moved_sound = record {
    shaped = sound.shaped;
    latches = move.nodes ∙ sound.latches;
    latched = move.latched;
    extents =
        let same : mentioned old.nodes moved.actors ≡ mentioned old.nodes old.actors = ap (λ (ns : List ℕ). named old.nodes ++ ns) (flat_map_set named_by old.actors actor mine idle (names mine (actor_in old.actors actor) move.job move.published)) in
        subst (λ (ns : List ℕ). AccountsForExtents ns (counts old) (branches old) old.owners) (sym same) sound.extents;
    memtables = sound.memtables;
    count = length-set old.actors actor mine ∙ sound.count;
    actors = each_is;
    apart = λ a b job other different has_a has_b. sound.apart a b job other different (sym (jobs a) ∙ has_a) (sym (jobs b) ∙ has_b);
    picked = λ i a f at picked.
        let was = sound.picked i a f at picked in
        (was.0, subst (λ (job : Option Job). Packs job f.number) (sym (jobs a)) was.1);
    runs = λ n number a below stands owner.
        let was = sound.runs n number a below stands owner in
        (was.0, subst (λ (job : Option Job). IsInRun (node_at old.nodes n) number a job) (sym (jobs a)) was.1);
    ends = sound.ends;
    bounds = record {
      steps = sound.bounds.steps;
      places = move.few;
      branches = sound.bounds.branches;
      memtables = sound.bounds.memtables;
      lists = sound.bounds.lists;
      generations = sound.bounds.generations;
      height = sound.bounds.height;
      numbers = sound.bounds.numbers;
    };
  }

  moved_framed : (rule : Rule) (tells : Bool) → (tells ≡ true → AreDrafts rule old) → IsFramed rule tells old moved actor
  moved_framed rule tells drafts = record {
    drafts = λ told number job has published. drafts told number job (sym (jobs number) ∙ has) (sym (drafts_now number) ∙ published);
    means = λ told key. refl;
    others = λ other below apart. record {
      actor = other_now other apart;
      grips = λ node. move.others other node apart;
      extents = refl;
      descent = λ descent is. record { height = refl; pivots = refl; tables = refl; rest = λ told key within. refl };
      job = λ job is. same_source old moved refl refl job;
      written = λ node writes. record { pivots = refl; bundles = refl; split = refl };
    };
  }

-- the same, as the calls that make the step leave the parts
module _ (old : Whole) (sound : IsSound old) (actor : ℕ) (mine : Actor) (left grips : List (List Grip)) (places : ℕ) (actors : List Actor) (counters : Counters) (move : IsMove old actor mine left places) (are_left : grips ≡ left) (are_set : actors ≡ set old.actors actor mine) (are_counted : counters ≡ record old.counters { places = places }) where
  pub sound_where : IsSound (record old { grips = grips; actors = actors; counters = counters })
  sound_where =
      let whole = moved_sound old sound actor mine left places move in
      let with_counters = subst (λ (c : Counters). IsSound (record old { grips = left; actors = set old.actors actor mine; counters = c })) (sym are_counted) whole in
      let with_actors = subst (λ (a : List Actor). IsSound (record old { grips = left; actors = a; counters = counters })) (sym are_set) with_counters in
      subst (λ (g : List (List Grip)). IsSound (record old { grips = g; actors = actors; counters = counters })) (sym are_left) with_actors

  pub framed_where : (before : Whole) → before ≡ old → (rule : Rule) (tells : Bool) → (tells ≡ true → AreDrafts rule before) → IsFramed rule tells before (record old { grips = grips; actors = actors; counters = counters }) actor
  framed_where before is_old rule tells drafts =
      let known_drafts : tells ≡ true → AreDrafts rule old = λ told. subst (λ (w : Whole). AreDrafts rule w) is_old (drafts told) in
      let whole = moved_framed old sound actor mine left places move rule tells known_drafts in
      let with_counters = subst (λ (c : Counters). IsFramed rule tells old (record old { grips = left; actors = set old.actors actor mine; counters = c }) actor) (sym are_counted) whole in
      let with_actors = subst (λ (a : List Actor). IsFramed rule tells old (record old { grips = left; actors = a; counters = counters }) actor) (sym are_set) with_counters in
      let with_grips = subst (λ (g : List (List Grip)). IsFramed rule tells old (record old { grips = g; actors = actors; counters = counters }) actor) (sym are_left) with_actors in
      subst (λ (w : Whole). IsFramed rule tells w (record old { grips = grips; actors = actors; counters = counters }) actor) (sym is_old) with_grips

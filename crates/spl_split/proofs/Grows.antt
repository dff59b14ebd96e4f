-- A step that adds a node, and changes only nodes that its actor writes: what it leaves of the invariant, and of
-- what everybody relies on.
use Rattle.std.proofs.Common.{◌≡◌, ◌≢◌, ℕ, ◌+◌, ◌<◌, ◌≤◌, Bool, true, List, [], ◌∷◌, ◌++◌, Option, Some, None, length, refl, sym, ap, subst, ◌∙◌, inl, inr, arith}
use Rattle.std.specs.Prelude.{◌⊎◌}
use Rattle.std.proofs.lemmas.Bool.{cases_eq, cases_lt}
use Rattle.std.proofs.lemmas.List.{get_or_past}
use Rattle.std.proofs.lemmas.List.Elements.{All-get_or}
use Rattle.spl_base.specs.declared.TheConstants.{ACTORS}
use Rattle.spl_message.specs.Cell.{Cell}
use Rattle.spl_message.specs.Rule.{Rule}
use Rattle.spl_message.specs.Span.{InSpan}
use Rattle.spl_holds.specs.declared.grip.Grip.{Grip}
use Rattle.spl_holds.specs.declared.grip.Grip.TheVariants.{Free, Read, Write}
use Rattle.spl_holds.specs.Latch.{IsLatched, nobody, grip_in}
use Rattle.spl_holds.specs.Holds.{grip_of}
use Rattle.spl_holds.proofs.HoldsLemmas.{grip_of-added}
use Rattle.spl_bundle.specs.Numbered.{Numbered, bundle_at}
use Rattle.spl_node.specs.Node.{NodeData}
use Rattle.spl_refs.specs.Refs.{Published, branch_at}
use Rattle.spl_trunk.specs.Trunk.{node_at}
use Rattle.spl_trunk.specs.Tree.{means, sub}
use Rattle.spl_tables.specs.Memtables.{tables_of}
use Rattle.spl_state.specs.declared.descent.Descent.{Descent}
use Rattle.spl_state.specs.declared.job.Job.{Job}
use Rattle.spl_state.specs.declared.job.Job.TheVariants.{Pack, Merge}
use Rattle.spl_state.specs.declared.actor.Actor.{Actor}
use Rattle.spl_state.specs.Actor.{actor_in}
use Rattle.spl_state.specs.Actors.{IsActor, IsOnWay, LiesUnder, IsOf, IsAtWork, JobsDiffer, Packs, ArePicked, HasTable}
use Rattle.spl_state.specs.Frame.{IsFramed}
use Rattle.spl_state.specs.Runs.{Stands, IsInRun, AreInRuns}
use Rattle.spl_state.specs.Sight.{SeesNode, SeesSource, KeepsNode, KeepsSight, tables_under, split_key}
use Rattle.spl_state.specs.Sound.{IsSound, AreDrafts, meaning}
use Rattle.spl_state.specs.Whole.{BranchData, Whole, branches, table_in}
use Rattle.spl_split.proofs.Heirs.{Inherits, in_run_still}

-- the actors, where the one with this number may have been told of one node more
pub record AreActors (old new : List Actor) (actor nodes : ℕ) : Type 0 where
  pub count : length new ≡ length old
  pub others : (other : ℕ) → other ≢ actor → actor_in new other ≡ actor_in old other
  pub descent : (number : ℕ) → (actor_in new number).descent ≡ (actor_in old number).descent
  pub job : (number : ℕ) → (actor_in new number).job ≡ (actor_in old number).job
  pub published : (number : ℕ) → (actor_in new number).published ≡ (actor_in old number).published
  pub told : (number : ℕ) → (actor_in old number).told ≤ (actor_in new number).told
  pub most : (number : ℕ) → number < ACTORS → (actor_in new number).told ≤ nodes

read_no_write : Read ≡ Write → ⊥
read_no_write is = cc

free_no_read : Free ≡ Read → ⊥
free_no_read is = cc

free_no_write : Free ≡ Write → ⊥
free_no_write is = cc

grip_past : (grips : List (List Grip)) (who n : ℕ) → length grips ≤ n → grip_of grips who n ≡ Free
grip_past grips who n past = ap (λ (g : List Grip). grip_in g who) (get_or_past grips n [] past)

module _ (old : Whole) (sound : IsSound old) (actor : ℕ) (nodes : List NodeData) (refs : Published BranchData)
    (actors : List Actor) (count : length nodes ≡ length old.nodes + 1)
    (kept : (n : ℕ) → n < length old.nodes → grip_of old.grips actor n ≢ Write
    → node_at nodes n ≡ node_at old.nodes n) (same_branch : branch_at refs ≡ branches old)
    (are : AreActors old.actors actors actor (length nodes)) where
  abbrev pub after : Whole
  after = record old { nodes = nodes; refs = refs; grips = old.grips ++ nobody ∷ []; actors = actors }

  same_grip : (who n : ℕ) → grip_of after.grips who n ≡ grip_of old.grips who n
  same_grip who n = grip_of-added old.grips who n

  -- a node that somebody has a grip on exists
  exists_of : (who n : ℕ) → grip_of old.grips who n ≢ Free → n < length old.nodes
  exists_of who n held = elim (cases_lt n (length old.grips)) [
    | inl within ↦ let same = sound.latches in omega arith
    | inr past ↦ absurd (held (grip_past old.grips who n past))
  ]

  free_of : (other n : ℕ) → other ≢ actor → grip_of old.grips actor n ≡ Write
      → grip_of old.grips other n ≡ Free
  free_of other n apart writes =
      let within = exists_of actor n (λ free. free_no_write (sym free ∙ writes)) in
      let latch = All-get_or IsLatched old.grips n []
      (let same = sound.latches in omega arith) sound.latched in
      latch.write_alone actor other (λ same. apart (sym same)) writes

  -- a node that somebody reads stays, and so does one that another actor writes
  read_stays : (who n : ℕ) → grip_of old.grips who n ≡ Read → grip_of old.grips actor n ≢ Write
  read_stays who n reads writes = elim (cases_eq who actor) [
    | inl same ↦ read_no_write (sym reads ∙ ap (λ (m : ℕ). grip_of old.grips m n) same ∙ writes)
    | inr apart ↦ free_no_read (sym (free_of who n apart writes) ∙ reads)
  ]

  other_stays : (other n : ℕ) → other ≢ actor → grip_of old.grips other n ≡ Write
      → grip_of old.grips actor n ≢ Write
  other_stays other n apart held writes = free_no_write (sym (free_of other n apart writes) ∙ held)

  -- an actor's descent, before and now
  abbrev WasOnWay : ℕ → Option Descent → Type 0
  WasOnWay who d = IsOnWay old.nodes old.grips old.counters.places who (actor_in old.actors who) d

  abbrev OnWay : ℕ → Option Descent → Type 0
  OnWay who d = IsOnWay after.nodes after.grips after.counters.places who (actor_in after.actors who) d

  way_still : (who : ℕ) (d : Option Descent) → WasOnWay who d → OnWay who d
  way_still who None way = λ n reads. way n (sym (same_grip who n) ∙ reads)
  way_still who (Some d) way =
      let more = are.told who in
      let same = kept d.node way.exists (read_stays who d.node way.reads) in
      record {
        exists = omega (arith, way.exists);
        told = omega (arith, way.told);
        reads = same_grip who d.node ∙ way.reads;
        alone = λ n away. same_grip who n ∙ way.alone n away;
        no_job = are.job who ∙ way.no_job;
        place = way.place;
        lies = subst (λ (node : NodeData). LiesUnder node d.span) (sym same) way.lies;
      }

  -- and its job, where these branches stand
  abbrev WasAtWork : ℕ → Option Job → Bool → Type 0
  WasAtWork who j p = IsAtWork old.nodes
      (branches old) old.owners old.tables.frozen old.counters.branches who j p

  abbrev AtWork : (ℕ → Option BranchData) → ℕ → Option Job → Bool → Type 0
  AtWork b who j p = IsAtWork after.nodes b after.owners after.tables.frozen after.counters.branches who j p

  source_still : (who : ℕ) (j : Job)
      → IsOf old.nodes old.tables.frozen who j → IsOf after.nodes after.tables.frozen who j
  source_still who (Pack n t) of = of
  source_still who (Merge n run) of = (of.0, omega (arith, of.1))

  work_still : (who : ℕ) (j : Option Job) (p : Bool) → WasAtWork who j p → AtWork (branches old) who j p
  work_still who None p work = work
  work_still who (Some j) p work = record {
    number = work.number;
    source = source_still who j work.source;
    unpublished = work.unpublished;
    draft = work.draft;
    nothing = work.nothing;
  }

  abbrev was : ℕ → Actor
  was who = actor_in old.actors who

  abbrev now : ℕ → Actor
  now who = actor_in after.actors who

  work_now : (who : ℕ) → who < ACTORS → AtWork (branches after) who (now who).job (now who).published
  work_now who below =
      let here = work_still who (was who).job (was who).published (sound.actors who below).job in
      let branch = subst (λ (b : ℕ → Option BranchData). AtWork b who (was who).job (was who).published)
      (sym same_branch) here in
      let job = subst (λ (j : Option Job). AtWork (branches after) who j (was who).published)
      (sym (are.job who)) branch in
      subst (λ (p : Bool). AtWork (branches after) who (now who).job p) (sym (are.published who)) job

  pub all_actors : (who : ℕ) → who < ACTORS → IsActor after.nodes
      (branches after) after.owners after.grips after.tables.frozen after.counters.places
      after.counters.branches who (actor_in after.actors who)
  all_actors who below =
      let before = sound.actors who below in
      let more = are.told who in
      record {
        told = are.most who below;
        knows_root = omega (arith, before.knows_root);
        descent = subst (λ (d : Option Descent). OnWay who d) (sym (are.descent who))
            (way_still who (was who).descent before.descent);
        job = work_now who below;
      }

  pub all_apart : JobsDiffer after.actors
  all_apart a b j k apart is_j is_k = sound.apart a b j k apart (sym (are.job a) ∙ is_j)
      (sym (are.job b) ∙ is_k)

  pub all_picked : ArePicked after.tables.frozen after.actors
  all_picked i who f at by =
      let before = sound.picked i who f at by in
      (before.0, subst (λ (j : Option Job). Packs j f.number) (sym (are.job who)) before.1)

  -- the node has the bundles of one that was, or none
  abbrev pub HasHeir : ℕ → Type 0
  HasHeir n =
      ((m : ℕ) × (m < length old.nodes) × Inherits (node_at old.nodes m) (node_at nodes n))
      ⊎ ((number : ℕ) → Stands (node_at nodes n).lists number → ⊥)

  -- where that is so of each, each mark is still that of a run
  pub all_runs : ((n : ℕ) → n < length nodes → HasHeir n) → AreInRuns after.nodes after.actors
  all_runs from n number who below stands owned = elim (from n below) [
    | inl heir ↦
        let old_node = node_at old.nodes heir.0 in
        let stood = subst (λ (q : Numbered). Stands q number) heir.2.lists stands in
        let marked = sym (ap (λ (q : Numbered). (bundle_at q number).owner) heir.2.lists) ∙ owned in
        let before = sound.runs heir.0 number who heir.1 stood marked in
        let here = in_run_still old_node (node_at nodes n) heir.2 number who (was who).job before.1 in (
          before.0,
          subst (λ (j : Option Job). IsInRun (node_at nodes n) number who j)
              (sym (are.job who)) here,
        )
    | inr none ↦ absurd (none number stands)
  ]

  drafts_kept : (rule : Rule) → AreDrafts rule old → AreDrafts rule after
  drafts_kept rule drafts who j is done =
      let had = drafts who j (sym (are.job who) ∙ is) (sym (are.published who) ∙ done) in
      subst (λ (b : ℕ → Option BranchData). HasTable rule b old.tables.frozen j) (sym same_branch) had

  source_kept : (j : Job) → SeesSource old after j
  source_kept (Pack n t) = λ i f at named. (i, at)
  source_kept (Merge n run) = λ m among. ap (λ (b : ℕ → Option BranchData). b m) same_branch

  keeps : (n : ℕ) → n < length old.nodes → grip_of old.grips actor n ≢ Write → KeepsNode old after n
  keeps n exists stays =
      let same = kept n exists stays in
      record {
        pivots = ap (λ (node : NodeData). length node.pivots) same;
        bundles = ap (λ (node : NodeData). length node.lists.bundles) same;
        split =
            ap (λ (b : ℕ → Option BranchData). split_key b (node_at nodes n)) same_branch
            ∙ ap (λ (node : NodeData). split_key (branches old) node) same;
      }

  module _ (rule : Rule) where
    -- what a node, and the nodes below it, make of a key, with the branches that were
    abbrev pub sub_was : (ℕ → NodeData) → ℕ → List ℕ → Cell
    sub_was all n key = sub rule (table_in (branches old)) all (node_at old.nodes n).height n key

    -- a node that the actor does not write means what it meant
    abbrev pub SubsKept : Type 0
    SubsKept =
        (n : ℕ) (key : List ℕ) → n < length old.nodes → grip_of old.grips actor n ≢ Write
        → InSpan (node_at old.nodes n).range key
        → sub_was (node_at nodes) n key ≡ sub_was (node_at old.nodes) n key

    abbrev pub meaning_was : (ℕ → NodeData) → List ℕ → Cell
    meaning_was all key = means rule (table_in (branches old)) all (tables_of old.tables) key

    module _ (tells : Bool) (subs : tells ≡ true → SubsKept) where
      sees : (d : Descent) → d.node < length old.nodes → grip_of old.grips actor d.node ≢ Write
          → LiesUnder (node_at old.nodes d.node) d.span → SeesNode rule tells old after d
      sees d exists stays lies =
          let same = kept d.node exists stays in
          record {
            height = ap (λ (node : NodeData). node.height) same;
            pivots = ap (λ (node : NodeData). node.pivots) same;
            tables =
                ap (λ (b : ℕ → Option BranchData). tables_under b (node_at nodes d.node) d.span) same_branch
                ∙ ap (λ (node : NodeData). tables_under (branches old) node d.span) same;
            rest = λ told key within.
                ap (λ (b : ℕ → Option BranchData). sub rule (table_in b) (node_at nodes)
                (node_at nodes d.node).height d.node key) same_branch
                ∙ ap (λ (node : NodeData). sub rule (table_in (branches old))
                (node_at nodes) node.height d.node key) same
                ∙ subs told d.node key exists stays (lies.within key within);
          }

      sees_of : (who : ℕ) (o : Option Descent) (d : Descent) → o ≡ Some d → WasOnWay who o
          → SeesNode rule tells old after d
      sees_of who o d is on =
          let way = subst (λ (p : Option Descent). WasOnWay who p) is on in
          sees d way.exists (read_stays who d.node way.reads) way.lies

      writer_exists : (other n : ℕ) → grip_of old.grips other n ≡ Write → n < length old.nodes
      writer_exists other n held = exists_of other n (λ free. free_no_write (sym free ∙ held))

      sight : (other : ℕ) → other < ACTORS → other ≢ actor → KeepsSight rule tells old after other
      sight other below apart = record {
        actor = are.others other apart;
        grips = λ n. same_grip other n;
        extents = refl;
        descent = λ d is. sees_of other (was other).descent d is (sound.actors other below).descent;
        job = λ j is. source_kept j;
        written = λ n held. keeps n (writer_exists other n held) (other_stays other n apart held);
      }

      pub grows_framed : (tells ≡ true → AreDrafts rule old)
          → (tells ≡ true → (key : List ℕ) → meaning_was (node_at nodes) key ≡ meaning rule old key)
          → IsFramed rule tells old after actor
      grows_framed drafts same = record {
        drafts = λ told. drafts_kept rule (drafts told);
        means = λ told key.
            ap (λ (b : ℕ → Option BranchData). means rule (table_in b) (node_at nodes)
            (tables_of old.tables) key) same_branch
            ∙ same told key;
        others = λ other below apart. sight other below apart;
      }

-- A flush leaves the state sound, and what everybody else relies on.
use Rattle.std.proofs.Common.{◌≡◌, ◌≢◌, ℕ, zero, suc, ◌<◌, ◌≤◌, Bool, true, List, [], ◌∷◌, ◌++◌, Option, Some, None, map, flat_map, length, refl, sym, ap, subst, ◌∙◌, inl, inr, arith}
use Rattle.std.specs.Prelude.{IsSome, ◌↔◌}
use Rattle.std.proofs.lemmas.Bool.{cases_eq, cases_lt}
use Rattle.std.proofs.lemmas.List.{length-map}
use Rattle.std.proofs.lemmas.List.Elements.{All-get_or}
use Rattle.spl_base.specs.declared.TheConstants.{ACTORS}
use Rattle.spl_message.specs.Cell.{Cell}
use Rattle.spl_message.specs.Message.{act_all}
use Rattle.spl_message.specs.Rule.{Rule}
use Rattle.spl_message.specs.Span.{InSpan}
use Rattle.spl_message.specs.Table.{Table, IsMerged, chain, part_of}
use Rattle.spl_numbers.specs.Numbers.{has}
use Rattle.spl_extent.specs.declared.owner.Owner.{Owner}
use Rattle.spl_extent.specs.Pool.{granted_to, is_granted}
use Rattle.spl_holds.specs.declared.grip.Grip.{Grip}
use Rattle.spl_holds.specs.declared.grip.Grip.TheVariants.{Free, Read, Write}
use Rattle.spl_holds.specs.Holds.{grip_of}
use Rattle.spl_holds.specs.Latch.{IsLatched}
use Rattle.spl_node.specs.Node.{NodeData, pivot_at, live_at}
use Rattle.spl_refs.specs.Refs.{Published, branch_at, count_at}
use Rattle.spl_trunk.specs.Trunk.{node_at}
use Rattle.spl_trunk.specs.Tree.{sub, times, named, IsShaped}
use Rattle.spl_trunk.proofs.Counts.{times-append, times-joined, times_itself}
use Rattle.spl_trunk.proofs.Means.{means_but_child}
use Rattle.spl_trunk.proofs.Steps.{flush_kept}
use Rattle.spl_tables.specs.Memtables.{tables_of}
use Rattle.spl_state.specs.declared.actor.Actor.{Actor}
use Rattle.spl_state.specs.declared.descent.Descent.{Descent}
use Rattle.spl_state.specs.declared.job.Job.{Job}
use Rattle.spl_state.specs.declared.job.Job.TheVariants.{Pack, Merge}
use Rattle.spl_state.specs.Actor.{actor_in}
use Rattle.spl_state.specs.Actors.{IsActor, IsAtWork, IsOf, IsOnWay, LiesUnder, HasTable, pivot_from}
use Rattle.spl_state.specs.Bounds.{AreBelow, AreBounded}
use Rattle.spl_state.specs.Extents.{AccountsForExtents, draft_of, inputs_of, mentioned, named_by, number_of}
use Rattle.spl_state.specs.Frame.{IsFramed}
use Rattle.spl_state.specs.Sight.{KeepsNode, SeesNode, SeesSource, split_key, tables_under}
use Rattle.spl_state.specs.Sound.{IsSound, AreDrafts, meaning}
use Rattle.spl_state.specs.Whole.{BranchData, Whole, branches, table_in, table_or}
use Rattle.spl_state.proofs.Named.{node_named, same_live, same_map, same_split, stands_in, sub_agrees}
use Rattle.spl_flush.specs.Flushing.{dead_names, flushed, IsFlushed}
use Rattle.spl_flush.proofs.Leads.{IsReady}
use Rattle.spl_flush.proofs.Nodes.{long, there, parent_is, child_is, other_is, same_height, named_now, still_runs, still_ends, next_numbers, generations}

-- an actor names what all actors name
actor_named : (n : ℕ) (actors : List Actor) (i : ℕ)
    → times n (named_by (actor_in actors i)) ≤ times n (flat_map named_by actors)
actor_named n [] i = omega arith
actor_named n (actor ∷ actors) zero = let all = times-joined named_by n actor actors in omega arith
actor_named n (actor ∷ actors) (suc i) =
    let all = times-joined named_by n actor actors in
    let rest = actor_named n actors i in
    omega arith

draft_named : (j : Option Job) (published : Bool) (job : Job) → j ≡ Some job → published ≡ true
    → 0 < times (number_of job) (inputs_of j ++ draft_of j published)
draft_named j published job is done =
    rw (is, done) (
    let all = times-append (number_of job) (inputs_of (Some job)) (number_of job ∷ []) in
    let one = times_itself (number_of job) in
    omega arith)

inputs_named : (n : ℕ) (j : Option Job) (published : Bool) (job : Job) → j ≡ Some job
    → 0 < times n (inputs_of (Some job)) → 0 < times n (inputs_of j ++ draft_of j published)
inputs_named n j published job is some =
    rw is (let all = times-append n (inputs_of (Some job)) (draft_of (Some job) published) in omega arith)

none_left : {A : Type 0} (o : Option A) (count : ℕ) → IsSome o ↔ (0 < count) → count ≤ 0 → o ≡ None
none_left None count stands none = refl
none_left (Some branch) count stands none = absurd (omega (arith, stands.0 refl))

not_both : (grip : Grip) → grip ≡ Write → grip ≡ Read → ⊥
not_both grip write read = cc

free_no_read : (grip : Grip) → grip ≡ Free → grip ≡ Read → ⊥
free_no_read grip free read = cc

free_no_write : (grip : Grip) → grip ≡ Free → grip ≡ Write → ⊥
free_no_write grip free write = cc

-- The state in which the parent's live bundles are the child's, with these branches and owners of extents.
abbrev pub handed : Whole → ℕ → ℕ → ℕ → Published BranchData → List Owner → Whole
handed old parent pivot child refs owners = record old {
  nodes = flushed old.nodes parent pivot child;
  refs = refs;
  owners = owners;
}

module _ (old : Whole) (sound : IsSound old) (actor parent pivot child : ℕ)
    (ready : IsReady old actor parent pivot child) where
  -- what is named once the flush is made
  abbrev pub left : List ℕ
  left = mentioned (flushed old.nodes parent pivot child) old.actors

  abbrev live : List ℕ
  live = live_at (node_at old.nodes parent) pivot

  abbrev dead : List ℕ
  dead = dead_names (node_at old.nodes parent) pivot

  -- what was named and what the child names more is what is named and what the parent names no more
  pub as_often : (n : ℕ) → times n (live ++ mentioned old.nodes old.actors) ≡ times n (dead ++ left)
  as_often n =
      let change = named_now old.nodes sound.shaped parent pivot child ready.led n in
      let more = times-append n live (mentioned old.nodes old.actors) in
      let less = times-append n dead left in
      let before = times-append n (named old.nodes) (flat_map named_by old.actors) in
      let now = times-append n (named (flushed old.nodes parent pivot child))
      (flat_map named_by old.actors) in
      omega arith

  -- only the actor has a grip on either node
  alone_at : (other n : ℕ) → other ≢ actor → n < length old.nodes → grip_of old.grips actor n ≡ Write
      → grip_of old.grips other n ≡ Free
  alone_at other n apart below writes =
      let latch = All-get_or IsLatched old.grips n []
      (let same = sound.latches in omega arith) sound.latched in
      latch.write_alone actor other (λ same. apart (sym same)) writes

  not_read_at : (who n m : ℕ) → m < length old.nodes → grip_of old.grips actor m ≡ Write
      → grip_of old.grips who n ≡ Read → n ≢ m
  not_read_at who n m below writes reads same =
      let here = subst (λ (k : ℕ). grip_of old.grips who k ≡ Read) same reads in
      elim (cases_eq who actor) [
        | inl mine ↦
            let own = subst (λ (k : ℕ). grip_of old.grips k m ≡ Read) mine here in
            not_both (grip_of old.grips actor m) writes own
        | inr other ↦ free_no_read (grip_of old.grips who m) (alone_at who m other below writes) here
      ]

  not_written_at : (other n m : ℕ) → other ≢ actor → m < length old.nodes → grip_of old.grips actor m ≡ Write
      → grip_of old.grips other n ≡ Write → n ≢ m
  not_written_at other n m apart below writes theirs same =
      free_no_write (grip_of old.grips other m) (alone_at other m apart below writes)
      (subst (λ (k : ℕ). grip_of old.grips other k ≡ Write) same theirs)

  child_there : child < length old.nodes
  child_there = there old.nodes sound.shaped parent pivot child ready.led

  -- the other nodes stay
  others_stay : (n : ℕ) → n ≢ parent → n ≢ child
      → node_at (flushed old.nodes parent pivot child) n ≡ node_at old.nodes n
  others_stay = other_is old.nodes sound.shaped parent pivot child ready.led

  read_stays : (who n : ℕ) → grip_of old.grips who n ≡ Read
      → node_at (flushed old.nodes parent pivot child) n ≡ node_at old.nodes n
  read_stays who n reads = others_stay n (not_read_at who n parent ready.led.exists ready.writes_parent reads)
      (not_read_at who n child child_there ready.writes_child reads)

  module _ (refs : Published BranchData) (owners : List Owner)
      (accounts : AccountsForExtents left (count_at refs) (branch_at refs) owners)
      (stays : (n : ℕ) → 0 < count_at refs n → branch_at refs n ≡ branches old n)
      (granted : (other : ℕ) → granted_to owners other ≡ granted_to old.owners other) where
    abbrev new : Whole
    new = handed old parent pivot child refs owners

    same_length : length new.nodes ≡ length old.nodes
    same_length = long old.nodes sound.shaped parent pivot child ready.led

    -- a branch that is still named is the one that it was
    still_named : (n : ℕ) → 0 < times n left → branches new n ≡ branches old n
    still_named n some = stays n (subst (λ (count : ℕ). 0 < count) (sym (accounts.counts n)) some)

    in_trunk : (n : ℕ) → 0 < times n (named new.nodes) → branches new n ≡ branches old n
    in_trunk n some = still_named n (let parts = times-append n (named new.nodes)
        (flat_map named_by old.actors) in omega arith)

    by_actor : (who n : ℕ) → 0 < times n (named_by (actor_in old.actors who))
        → branches new n ≡ branches old n
    by_actor who n some =
        still_named n (
        let all = actor_named n old.actors who in
        let parts = times-append n (named new.nodes) (flat_map named_by old.actors) in
        omega arith)

    draft_stays : (who : ℕ) (job : Job) → (actor_in old.actors who).job ≡ Some job
        → (actor_in old.actors who).published ≡ true
        → branches new (number_of job) ≡ branches old (number_of job)
    draft_stays who job is done = by_actor who (number_of job)
        (draft_named (actor_in old.actors who).job (actor_in old.actors who).published job is done)

    gone : (n : ℕ) → branches old n ≡ None → branches new n ≡ None
    gone n none = elim (cases_lt 0 (count_at refs n)) [
      | inl some ↦ stays n some ∙ none
      | inr past ↦ none_left (branch_at refs n) (count_at refs n) (accounts.stands n) past
    ]

    way_still : (who : ℕ) (a : Actor) (d : Option Descent)
        → IsOnWay old.nodes old.grips old.counters.places who a d
        → IsOnWay new.nodes new.grips new.counters.places who a d
    way_still who a None way = way
    way_still who a (Some d) way = record {
      exists = subst (λ (count : ℕ). d.node < count) (sym same_length) way.exists;
      told = way.told;
      reads = way.reads;
      alone = way.alone;
      no_job = way.no_job;
      place = way.place;
      lies = subst (λ (node : NodeData). LiesUnder node d.span)
          (sym (read_stays who d.node way.reads)) way.lies;
    }

    source_still : (who : ℕ) (job : Job) → IsOf old.nodes old.tables.frozen who job
        → IsOf new.nodes new.tables.frozen who job
    source_still who (Pack n t) of = of
    source_still who (Merge n run) of = (of.0, subst (λ (count : ℕ). run.node < count) (sym same_length) of.1)

    work_still : (who : ℕ) (job : Option Job) (published : Bool) → (actor_in old.actors who).job ≡ job
        → (actor_in old.actors who).published ≡ published
        → IsAtWork old.nodes (branches old) old.owners old.tables.frozen old.counters.branches who job
        published → IsAtWork new.nodes
        (branches new) new.owners new.tables.frozen new.counters.branches who job published
    work_still who None published is was work = work
    work_still who (Some job) published is was work = record {
      number = work.number;
      source = source_still who job work.source;
      unpublished = λ not_yet. gone (number_of job) (work.unpublished not_yet);
      draft = λ done. subst (λ (o : Option BranchData). IsSome o) (sym (draft_stays who job is (was ∙ done)))
          (work.draft done);
      nothing = λ done extent. ap (λ (members : List Bool). has members extent) (granted who)
          ∙ work.nothing done extent;
    }

    actors_stand : (n : ℕ) → n < ACTORS
        → IsActor new.nodes (branches new) new.owners new.grips new.tables.frozen new.counters.places
        new.counters.branches n (actor_in new.actors n)
    actors_stand n below =
        let before = sound.actors n below in
        let a = actor_in old.actors n in
        record {
          told = subst (λ (count : ℕ). a.told ≤ count) (sym same_length) before.told;
          knows_root = before.knows_root;
          descent = way_still n a a.descent before.descent;
          job = work_still n a.job a.published refl refl before.job;
        }

    bounded : AreBelow old.nodes old.tables old.counters
        → AreBounded new.nodes (branches new) new.tables new.counters
    bounded fresh = record {
      steps = sound.bounds.steps;
      places = sound.bounds.places;
      branches = sound.bounds.branches;
      memtables = sound.bounds.memtables;
      lists = next_numbers old.nodes sound.shaped parent pivot child ready.led old.counters.steps
          sound.bounds.lists fresh.lists;
      generations = generations old.nodes sound.shaped parent pivot child ready.led old.counters.steps
          sound.bounds.generations;
      height = subst (λ (count : ℕ). (node_at new.nodes 0).height < count) (sym same_length)
          (subst (λ (height : ℕ). height < length old.nodes)
          (sym (same_height old.nodes sound.shaped parent pivot child ready.led 0)) sound.bounds.height);
      numbers = λ n some. sound.bounds.numbers n
          (subst (λ (o : Option BranchData). IsSome o) (stays n ((accounts.stands n).0 some)) some);
    }

    pub handed_sound : AreBelow old.nodes old.tables old.counters → IsShaped new.nodes
        → IsSound (handed old parent pivot child refs owners)
    handed_sound fresh shaped = record {
      shaped = shaped;
      latches = sound.latches ∙ sym same_length;
      latched = sound.latched;
      extents = accounts;
      memtables = sound.memtables;
      count = sound.count;
      actors = actors_stand;
      apart = sound.apart;
      picked = sound.picked;
      runs = still_runs old.nodes sound.shaped parent pivot child ready.led old.actors sound.runs;
      ends = still_ends old.nodes sound.shaped parent pivot child ready.led sound.ends;
      bounds = bounded fresh;
    }

    same_table : (n : ℕ) → branches new n ≡ branches old n
        → table_in (branches new) n ≡ table_in (branches old) n
    same_table n same = ap table_or same

    -- every draft has the table that its job asks for
    table_still : (rule : Rule) (who : ℕ) (job : Job) → (actor_in old.actors who).job ≡ Some job
        → (actor_in old.actors who).published ≡ true → HasTable rule (branches old) old.tables.frozen job
        → HasTable rule (branches new) new.tables.frozen job
    table_still rule who (Pack n t) is done had = λ i f at named_so. same_table n
        (draft_stays who (Pack n t) is done) ∙ had i f at named_so
    table_still rule who (Merge n run) is done had =
        let tables = same_map (table_in (branches new)) (table_in (branches old)) run.inputs
        (λ m some. same_table m (by_actor who m
        (inputs_named m (actor_in old.actors who).job (actor_in old.actors who).published
        (Merge n run) is some))) in
        let own = same_table n (draft_stays who (Merge n run) is done) in
        subst (λ (list : List Table). IsMerged rule list run.span run.bottom (table_in (branches new) n))
        (sym tables)
        (subst (λ (table : Table). IsMerged rule (map
        (table_in (branches old)) run.inputs) run.span run.bottom table) (sym own) had)

    trunk_tables : (n : ℕ) → 0 < times n (named new.nodes)
        → table_in (branches new) n ≡ table_in (branches old) n
    trunk_tables n some = same_table n (in_trunk n some)

    -- every node but the child means what it meant
    kept : (rule : Rule) (height n : ℕ) (key : List ℕ) → n < length old.nodes → n ≢ child
        → (node_at old.nodes n).height ≡ height → InSpan (node_at old.nodes n).range key
        → sub rule (table_in (branches old)) (node_at new.nodes) height n key ≡ sub rule
        (table_in (branches old)) (node_at old.nodes) height n key
    kept rule =
        flush_kept old.nodes sound.shaped rule (table_in (branches old))
        (node_at new.nodes) parent pivot child ready.led.exists ready.led.within ready.led.leads
        (λ n below away off. others_stay n away off)
        (parent_is old.nodes sound.shaped parent pivot child ready.led)
        (child_is old.nodes sound.shaped parent pivot child ready.led)

    now_as_before : (rule : Rule) (height n : ℕ) (key : List ℕ)
        → sub rule (table_in (branches new)) (node_at new.nodes) height n key ≡ sub rule
        (table_in (branches old)) (node_at new.nodes) height n key
    now_as_before rule = sub_agrees rule new.nodes (table_in (branches old))
        (table_in (branches new)) trunk_tables

    same_meaning : (rule : Rule) (key : List ℕ) → meaning rule new key ≡ meaning rule old key
    same_meaning rule key =
        ap (λ (cell : Cell). act_all rule key cell (chain (tables_of old.tables) key))
        (now_as_before rule (node_at new.nodes 0).height 0 key)
        ∙ means_but_child old.nodes sound.shaped rule (table_in (branches old))
        (node_at new.nodes) parent pivot child ready.led.exists ready.led.within ready.led.leads
        (λ n below away off. others_stay n away off)
        (same_height old.nodes sound.shaped parent pivot child ready.led parent) (kept rule)
        (tables_of old.tables) key

    sees : (rule : Rule) (tells : Bool) (other : ℕ) (d : Descent)
        → IsOnWay old.nodes old.grips old.counters.places other (actor_in old.actors other) (Some d)
        → SeesNode rule tells old new d
    sees rule tells other d way =
        let node = node_at old.nodes d.node in
        let same = read_stays other d.node way.reads in
        let mark = (pivot_at node.pivots (pivot_from node.pivots d.span.from)).mark in
        let part : (ℕ → Option BranchData) → ℕ → Table = λ branch number. part_of d.span
        (table_in branch number) in
        record {
          height = ap (λ (n : NodeData). n.height) same;
          pivots = ap (λ (n : NodeData). n.pivots) same;
          tables = same_live new.nodes (part (branches old)) (part (branches new))
              (λ n some. ap (part_of d.span) (trunk_tables n some)) d.node
              (pivot_at (node_at new.nodes d.node).pivots
              (pivot_from (node_at new.nodes d.node).pivots d.span.from)).mark
              ∙ ap (λ (n : NodeData). tables_under (branches old) n d.span) same;
          rest = λ told key inside.
              now_as_before rule (node_at new.nodes d.node).height d.node key
              ∙ ap (λ (height : ℕ). sub rule (table_in (branches old)) (node_at new.nodes) height d.node key)
              (ap (λ (n : NodeData). n.height) same)
              ∙ kept rule node.height d.node key way.exists
              (not_read_at other d.node child child_there ready.writes_child way.reads) refl
              (way.lies.within key inside);
        }

    source_kept : (other : ℕ) (job : Job) → (actor_in old.actors other).job ≡ Some job
        → SeesSource old new job
    source_kept other (Pack n t) is = λ i f at named_so. (i, at)
    source_kept other (Merge n run) is = λ m among.
        by_actor other m (inputs_named m (actor_in old.actors other).job (actor_in old.actors other).published
        (Merge n run) is (stands_in m run.inputs among.0 among.1 among.2))

    keeps : (other n : ℕ) → other ≢ actor → grip_of old.grips other n ≡ Write → KeepsNode old new n
    keeps other n apart theirs =
        let same = others_stay n (not_written_at other n parent apart ready.led.exists ready.writes_parent
        theirs) (not_written_at other n child apart child_there ready.writes_child theirs) in
        record {
          pivots = ap (λ (node : NodeData). length node.pivots) same;
          bundles = ap (λ (node : NodeData). length node.lists.bundles) same;
          split = same_split (branches old) (branches new) (node_at new.nodes n)
              (λ m some. in_trunk m (let all = node_named m new.nodes n in omega arith))
              ∙ ap (λ (node : NodeData). split_key (branches old) node) same;
        }

    pub handed_framed : (rule : Rule) (tells : Bool) → (tells ≡ true → AreDrafts rule old)
        → IsFramed rule tells old (handed old parent pivot child refs owners) actor
    handed_framed rule tells drafts = record {
      drafts = λ told n job is done. table_still rule n job is done (drafts told n job is done);
      means = λ told key. same_meaning rule key;
      others = λ other below apart. record {
        actor = refl;
        grips = λ node. refl;
        extents = granted other;
        descent = λ d is. sees rule tells other d
            (subst (λ (o : Option Descent). IsOnWay old.nodes old.grips old.counters.places other
            (actor_in old.actors other) o) is (sound.actors other below).descent);
        job = λ job is. source_kept other job is;
        written = λ n theirs. keeps other n apart theirs;
      };
    }

    same_extents : length new.owners ≡ length old.owners
    same_extents =
        sym (length-map owners (is_granted actor))
        ∙ ap (λ (members : List Bool). length members) (granted actor)
        ∙ length-map old.owners (is_granted actor)

    pub is_flushed : IsFlushed old (handed old parent pivot child refs owners) parent pivot child
    is_flushed = record {
      nodes = refl;
      names = λ n.
          let now = accounts.counts n in
          let before = sound.extents.counts n in
          let often = as_often n in
          let more = times-append n live (mentioned old.nodes old.actors) in
          let less = times-append n dead left in
          omega arith;
      still = stays;
      extents = same_extents;
      granted = granted;
      grips = refl;
      tables = refl;
      actors = refl;
      counters = refl;
    }

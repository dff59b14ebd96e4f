-- An actor that gives back all that it had leaves the state sound, and what everybody else relies on.
use Rattle.std.proofs.Common.{◌≡◌, ◌≢◌, ℕ, zero, suc, ◌<◌, ◌≤◌, Bool, true, List, [], ◌∷◌, ◌++◌, Option, Some, None, map, flat_map, length, set, slice_get, refl, sym, ap, subst, ◌∙◌, inl, inr, arith}
use Rattle.std.specs.Prelude.{All, IsSome, IfSome, ◌↔◌}
use Rattle.std.proofs.lemmas.Bool.{cases_lt, false≢true}
use Rattle.std.proofs.lemmas.List.{length-map, length-set}
use Rattle.std.proofs.lemmas.List.Elements.{All-map, All-weaker}
use Rattle.std.proofs.lemmas.Option.{same_Some}
use Rattle.spl_base.specs.declared.TheConstants.{ACTORS}
use Rattle.spl_message.specs.declared.span.Span.{Span}
use Rattle.spl_message.specs.Cell.{Cell}
use Rattle.spl_message.specs.Message.{act_all}
use Rattle.spl_message.specs.Rule.{Rule}
use Rattle.spl_message.specs.Table.{Table, IsMerged, chain, part_of}
use Rattle.spl_numbers.specs.Numbers.{has, ListsEach}
use Rattle.spl_extent.specs.declared.owner.Owner.{Owner}
use Rattle.spl_extent.specs.Pool.{granted_to, is_granted, without_grants}
use Rattle.spl_holds.specs.declared.grip.Grip.{Grip}
use Rattle.spl_holds.specs.declared.grip.Grip.TheVariants.{Free, Read}
use Rattle.spl_holds.specs.Holds.{grip_of, without_actor}
use Rattle.spl_holds.specs.Latch.{IsLatched}
use Rattle.spl_holds.proofs.HoldsLemmas.{grip_of-without_actor, grip_of-without_actor_others}
use Rattle.spl_bundle.specs.Numbered.{Bundle, next_of, without_mark}
use Rattle.spl_bundle.proofs.Changes.{live-released}
use Rattle.spl_node.specs.Node.{NodeData, pivot_at}
use Rattle.spl_refs.specs.Refs.{Published, branch_at, count_at}
use Rattle.spl_trunk.specs.Trunk.{node_at, released_node, all_released}
use Rattle.spl_trunk.specs.Tree.{sub, times, named}
use Rattle.spl_trunk.proofs.Counts.{times-append, times-joined, times_itself}
use Rattle.spl_trunk.proofs.Released.{released_at, named_released, shaped_all_released, sub_released}
use Rattle.spl_tables.specs.Memtables.{FrozenData, tables_of, without_picks}
use Rattle.spl_tables.proofs.Kept.{AreMemtables-released}
use Rattle.spl_state.specs.declared.actor.Actor.{Actor}
use Rattle.spl_state.specs.declared.descent.Descent.{Descent}
use Rattle.spl_state.specs.declared.job.Job.{Job}
use Rattle.spl_state.specs.declared.job.Job.TheVariants.{Pack, Merge}
use Rattle.spl_state.specs.Actor.{actor_in, cleared}
use Rattle.spl_state.specs.Actors.{IsActor, IsAtWork, IsOf, IsOnWay, JobsDiffer, LiesUnder, ArePicked, Packs, HasTable, pivot_from}
use Rattle.spl_state.specs.Bounds.{AreBounded}
use Rattle.spl_state.specs.Extents.{AccountsForExtents, draft_of, inputs_of, mentioned, named_by, number_of}
use Rattle.spl_state.specs.Frame.{IsFramed}
use Rattle.spl_state.specs.Sight.{KeepsNode, SeesNode, SeesSource, leaf_split, split_key, split_key_at, tables_under}
use Rattle.spl_state.specs.Sound.{IsSound, AreDrafts, meaning}
use Rattle.spl_state.specs.Whole.{BranchData, Whole, branches, counts, table_in, table_or}
use Rattle.spl_state.proofs.Named.{node_named, same_live, same_map, same_split, stands_in, sub_agrees}
use Rattle.spl_state.proofs.Replaced.{each_actor, job_of, one_number, other_actor, times-actor, working}
use Rattle.spl_abandon.specs.Abandoning.{HasAbandoned}
use Rattle.spl_abandon.proofs.Frozen.{is_frozen, others_pick, pick_left, same_tables, was_frozen}
use Rattle.spl_abandon.proofs.Marks.{ends_stay, next_released, runs_stay}
use Rattle.spl_abandon.proofs.Owners.{extents_stay, granted_stays, held_stays, nothing_granted}

-- an actor names what all actors name
actor_named : (n : ℕ) (actors : List Actor) (i : ℕ) → times n (named_by (actor_in actors i)) ≤ times n (flat_map named_by actors)
actor_named n [] i = omega arith
actor_named n (actor ∷ actors) zero = let all = times-joined named_by n actor actors in omega arith
actor_named n (actor ∷ actors) (suc i) =
    let all = times-joined named_by n actor actors in
    let rest = actor_named n actors i in
    omega arith

draft_named : (j : Option Job) (published : Bool) (job : Job) → j ≡ Some job → published ≡ true → 0 < times (number_of job) (inputs_of j ++ draft_of j published)
draft_named j published job is done =
    rw (is, done) (
    let all = times-append (number_of job) (inputs_of (Some job)) (number_of job ∷ []) in
    let one = times_itself (number_of job) in
    omega arith)

inputs_named : (n : ℕ) (j : Option Job) (published : Bool) (job : Job) → j ≡ Some job → 0 < times n (inputs_of (Some job)) → 0 < times n (inputs_of j ++ draft_of j published)
inputs_named n j published job is some =
    rw is (let all = times-append n (inputs_of (Some job)) (draft_of (Some job) published) in omega arith)

none_left : {A : Type 0} (o : Option A) (count : ℕ) → IsSome o ↔ (0 < count) → count ≤ 0 → o ≡ None
none_left None count stands none = refl
none_left (Some branch) count stands none = absurd (omega (arith, stands.0 refl))

no_job : (job : Job) → None ≡ Some job → ⊥
no_job job is = cc

free_is_no_read : (grip : Grip) → grip ≡ Free → grip ≢ Read
free_is_no_read grip free read = cc

-- who marked a node's bundles is no matter to where it is to be split
split_released : (actor : ℕ) (branch : ℕ → Option BranchData) (node : NodeData) → split_key branch (released_node actor node) ≡ split_key branch node
split_released actor branch node = by node.height
  where
    leaf : (bundles : List Bundle) → leaf_split node.range branch (map (without_mark actor) bundles) ≡ leaf_split node.range branch bundles
    leaf [] = refl
    leaf (bundle ∷ []) = refl
    leaf (bundle ∷ other ∷ bundles) = refl

    by : (height : ℕ) → split_key_at branch (released_node actor node) height ≡ split_key_at branch node height
    by zero = leaf node.lists.bundles
    by (suc height) = refl

-- The state in which the actor has nothing, with these branches, and these owners of extents before its grants are given back.
abbrev pub abandoned : Whole → ℕ → Published BranchData → List Owner → Whole
abandoned old actor refs owners = record {
  nodes = all_released old.nodes actor;
  refs = refs;
  owners = without_grants owners actor;
  grips = without_actor old.grips actor;
  tables = without_picks old.tables actor;
  actors = set old.actors actor (cleared (actor_in old.actors actor));
  counters = old.counters;
}

module _ (old : Whole) (sound : IsSound old) (actor : ℕ) (known : actor < ACTORS) where
  abbrev nobody : Actor
  nobody = cleared (actor_in old.actors actor)

  -- what is still named once the actor's job names nothing
  abbrev pub left : List ℕ
  left = mentioned (all_released old.nodes actor) (set old.actors actor nobody)

  same_left : left ≡ mentioned old.nodes (set old.actors actor nobody)
  same_left = ap (λ (names : List ℕ). names ++ flat_map named_by (set old.actors actor nobody)) (named_released actor old.nodes)

  pub as_often : (n : ℕ) → times n (mentioned old.nodes old.actors) ≡ times n (named_by (actor_in old.actors actor) ++ left)
  as_often n =
      let change = times-actor old.actors sound.count actor known nobody old.nodes n in
      let same = ap (times n) same_left in
      let parts = times-append n (named_by (actor_in old.actors actor)) left in
      omega arith

  module _ (refs : Published BranchData) (owners : List Owner) (accounts : AccountsForExtents left (count_at refs) (branch_at refs) owners) (stays : (n : ℕ) → 0 < count_at refs n → branch_at refs n ≡ branches old n) (granted : (other : ℕ) → granted_to owners other ≡ granted_to old.owners other) where
    abbrev new : Whole
    new = abandoned old actor refs owners

    node_is : (n : ℕ) → node_at new.nodes n ≡ released_node actor (node_at old.nodes n)
    node_is n = released_at actor old.nodes n

    same_length : length new.nodes ≡ length old.nodes
    same_length = length-map old.nodes (released_node actor)

    other_is : (other : ℕ) → other ≢ actor → actor_in new.actors other ≡ actor_in old.actors other
    other_is other apart = other_actor old.actors sound.count actor known nobody other apart

    grips_stay : (other n : ℕ) → other ≢ actor → grip_of new.grips other n ≡ grip_of old.grips other n
    grips_stay other n apart = grip_of-without_actor_others old.grips actor other n apart

    grants_stay : (other : ℕ) → other ≢ actor → granted_to new.owners other ≡ granted_to old.owners other
    grants_stay other apart = granted_stays actor owners other apart ∙ granted other

    -- a branch that is still named is the one that it was
    still_named : (n : ℕ) → 0 < times n left → branches new n ≡ branches old n
    still_named n some = stays n (subst (λ (count : ℕ). 0 < count) (sym (accounts.counts n)) some)

    in_trunk : (n : ℕ) → 0 < times n (named old.nodes) → branches new n ≡ branches old n
    in_trunk n some =
        still_named n (
        let same = ap (times n) same_left in
        let parts = times-append n (named old.nodes) (flat_map named_by new.actors) in
        omega arith)

    by_other : (other n : ℕ) → other ≢ actor → 0 < times n (named_by (actor_in old.actors other)) → branches new n ≡ branches old n
    by_other other n apart some =
        still_named n (
        let same = ap (λ (a : Actor). times n (named_by a)) (other_is other apart) in
        let all = actor_named n new.actors other in
        let parts = times-append n (named new.nodes) (flat_map named_by new.actors) in
        omega arith)

    draft_stays : (other : ℕ) (job : Job) → other ≢ actor → (actor_in old.actors other).job ≡ Some job → (actor_in old.actors other).published ≡ true → branches new (number_of job) ≡ branches old (number_of job)
    draft_stays other job apart is done = by_other other (number_of job) apart (draft_named (actor_in old.actors other).job (actor_in old.actors other).published job is done)

    gone : (n : ℕ) → branches old n ≡ None → branches new n ≡ None
    gone n none = elim (cases_lt 0 (count_at refs n)) [
      | inl some ↦ stays n some ∙ none
      | inr past ↦ none_left (branch_at refs n) (count_at refs n) (accounts.stands n) past
    ]

    accounts_now : AccountsForExtents left (counts new) (branches new) new.owners
    accounts_now = record {
      counts = accounts.counts;
      stands = accounts.stands;
      held = λ n. subst (λ (members : List Bool). IfSome (branch_at refs n) (λ (b : BranchData). ListsEach b.extents members)) (sym (held_stays actor owners n)) (accounts.held n);
      not_held = λ n extent none. ap (λ (members : List Bool). has members extent) (held_stays actor owners n) ∙ accounts.not_held n extent none;
    }

    lies_still : (span : Span) (n : ℕ) → LiesUnder (node_at old.nodes n) span → LiesUnder (node_at new.nodes n) span
    lies_still span n lies = subst (λ (node : NodeData). LiesUnder node span) (sym (node_is n)) (record { start = lies.start; within = lies.within; pivot = lies.pivot })

    way_still : (other : ℕ) (a : Actor) (d : Option Descent) → other ≢ actor → IsOnWay old.nodes old.grips old.counters.places other a d → IsOnWay new.nodes new.grips new.counters.places other a d
    way_still other a None apart way = λ n read. way n (sym (grips_stay other n apart) ∙ read)
    way_still other a (Some d) apart way = record {
      exists = subst (λ (count : ℕ). d.node < count) (sym same_length) way.exists;
      told = way.told;
      reads = grips_stay other d.node apart ∙ way.reads;
      alone = λ n away. grips_stay other n apart ∙ way.alone n away;
      no_job = way.no_job;
      place = way.place;
      lies = lies_still d.span d.node way.lies;
    }

    source_still : (other : ℕ) (job : Job) → other ≢ actor → IsOf old.nodes old.tables.frozen other job → IsOf new.nodes new.tables.frozen other job
    source_still other (Pack n t) apart of =
        let mine : FrozenData = record { number = t; table = of.1; picked = Some other } in
        (of.0, of.1, is_frozen actor old.tables.frozen of.0 mine of.2 ∙ ap (λ (f : FrozenData). Some f) (others_pick actor mine other apart refl))
    source_still other (Merge n run) apart of = (of.0, subst (λ (count : ℕ). run.node < count) (sym same_length) of.1)

    work_still : (other : ℕ) (job : Option Job) (published : Bool) → other ≢ actor → (actor_in old.actors other).job ≡ job → (actor_in old.actors other).published ≡ published → IsAtWork old.nodes (branches old) old.owners old.tables.frozen old.counters.branches other job published → IsAtWork new.nodes (branches new) new.owners new.tables.frozen new.counters.branches other job published
    work_still other None published apart is was work = work
    work_still other (Some job) published apart is was work = record {
      number = work.number;
      source = source_still other job apart work.source;
      unpublished = λ not_yet. gone (number_of job) (work.unpublished not_yet);
      draft = λ done. subst (λ (o : Option BranchData). IsSome o) (sym (draft_stays other job apart is (was ∙ done))) (work.draft done);
      nothing = λ done extent. ap (λ (members : List Bool). has members extent) (grants_stay other apart) ∙ work.nothing done extent;
    }

    abbrev IsOne : ℕ → Actor → Type 0
    IsOne n a = n < ACTORS → IsActor new.nodes (branches new) new.owners new.grips new.tables.frozen new.counters.places new.counters.branches n a

    actors_stand : (n : ℕ) → IsOne n (actor_in new.actors n)
    actors_stand = each_actor old.actors sound.count actor known nobody IsOne
        (λ below.
        let before = sound.actors actor known in
        record {
          told = subst (λ (count : ℕ). (actor_in old.actors actor).told ≤ count) (sym same_length) before.told;
          knows_root = before.knows_root;
          descent = λ n. free_is_no_read (grip_of new.grips actor n) (grip_of-without_actor old.grips actor n);
          job = refl;
        })
        (λ other apart below.
        let before = sound.actors other below in
        record {
          told = subst (λ (count : ℕ). (actor_in old.actors other).told ≤ count) (sym same_length) before.told;
          knows_root = before.knows_root;
          descent = way_still other (actor_in old.actors other) (actor_in old.actors other).descent apart before.descent;
          job = work_still other (actor_in old.actors other).job (actor_in old.actors other).published apart refl refl before.job;
        })

    jobs_differ : JobsDiffer new.actors
    jobs_differ a b job other apart is_a is_b same =
        elim (job_of old.actors sound.count actor known nobody job a is_a) [
          | inl mine ↦ absurd (no_job job mine.1)
          | inr one ↦
              elim (job_of old.actors sound.count actor known nobody other b is_b) [
                | inl mine ↦ absurd (no_job other mine.1)
                | inr two ↦ absurd (sound.apart a b job other apart one.1 two.1 same)
              ]
        ]

    all_picked : ArePicked new.tables.frozen new.actors
    all_picked i who f at by =
        let was = was_frozen actor old.tables.frozen i f at in
        let pick = pick_left actor was.0.picked who (sym (ap (λ (g : FrozenData). g.picked) was.2) ∙ by) in
        let before = sound.picked i who was.0 was.1 pick.1 in
        (before.0, subst (λ (n : ℕ). Packs (actor_in new.actors who).job n) (sym (ap (λ (g : FrozenData). g.number) was.2)) (subst (λ (a : Actor). Packs a.job was.0.number) (sym (other_is who pick.0)) before.1))

    bounded : AreBounded new.nodes (branches new) new.tables new.counters
    bounded =
        let steps = old.counters.steps in
        record {
          steps = sound.bounds.steps;
          places = sound.bounds.places;
          branches = sound.bounds.branches;
          memtables = sound.bounds.memtables;
          lists = All-map (λ (node : NodeData). next_of node.lists ≤ steps) (released_node actor) old.nodes
              (All-weaker (λ (node : NodeData). next_of node.lists ≤ steps) (λ (node : NodeData). next_of (released_node actor node).lists ≤ steps) (λ node below. subst (λ (n : ℕ). n ≤ steps) (sym (next_released actor node.lists)) below) old.nodes sound.bounds.lists);
          generations = All-map (λ (node : NodeData). node.generation ≤ steps) (released_node actor) old.nodes sound.bounds.generations;
          height = subst (λ (count : ℕ). (node_at new.nodes 0).height < count) (sym same_length) (subst (λ (node : NodeData). node.height < length old.nodes) (sym (node_is 0)) sound.bounds.height);
          numbers = λ n some. sound.bounds.numbers n (subst (λ (o : Option BranchData). IsSome o) (stays n ((accounts.stands n).0 some)) some);
        }

    pub abandoned_sound : All IsLatched (without_actor old.grips actor) → IsSound (abandoned old actor refs owners)
    abandoned_sound latched = record {
      shaped = shaped_all_released actor old.nodes sound.shaped;
      latches = length-map old.grips (λ (grips : List Grip). set grips actor Free) ∙ sound.latches ∙ sym same_length;
      latched = latched;
      extents = accounts_now;
      memtables = AreMemtables-released old.tables actor sound.memtables;
      count = length-set old.actors actor nobody ∙ sound.count;
      actors = actors_stand;
      apart = jobs_differ;
      picked = all_picked;
      runs = runs_stay actor old.nodes old.actors nobody sound.count known sound.runs;
      ends = ends_stay actor old.nodes sound.ends;
      bounds = bounded;
    }

    -- every other draft has the table that its job asks for
    same_table : (n : ℕ) → branches new n ≡ branches old n → table_in (branches new) n ≡ table_in (branches old) n
    same_table n same = ap table_or same

    table_still : (rule : Rule) (other : ℕ) (job : Job) → other ≢ actor → (actor_in old.actors other).job ≡ Some job → (actor_in old.actors other).published ≡ true → HasTable rule (branches old) old.tables.frozen job → HasTable rule (branches new) new.tables.frozen job
    table_still rule other (Pack n t) apart is done had = λ i f at named_so.
        let was = was_frozen actor old.tables.frozen i f at in
        same_table n (draft_stays other (Pack n t) apart is done)
        ∙ had i was.0 was.1 (sym (ap (λ (g : FrozenData). g.number) was.2) ∙ named_so)
        ∙ sym (ap (λ (g : FrozenData). g.table) was.2)
    table_still rule other (Merge n run) apart is done had =
        let tables = same_map (table_in (branches new)) (table_in (branches old)) run.inputs (λ m some. same_table m (by_other other m apart (inputs_named m (actor_in old.actors other).job (actor_in old.actors other).published (Merge n run) is some))) in
        let own = same_table n (draft_stays other (Merge n run) apart is done) in
        subst (λ (list : List Table). IsMerged rule list run.span run.bottom (table_in (branches new) n)) (sym tables)
        (subst (λ (table : Table). IsMerged rule (map (table_in (branches old)) run.inputs) run.span run.bottom table) (sym own) had)

    drafts_kept : (rule : Rule) → AreDrafts rule old → AreDrafts rule new
    drafts_kept rule drafts n job =
        each_actor old.actors sound.count actor known nobody
        (λ (m : ℕ) (a : Actor). a.job ≡ Some job → a.published ≡ true → HasTable rule (branches new) new.tables.frozen job)
        (λ is done. absurd (false≢true done))
        (λ other apart is done. table_still rule other job apart is done (drafts other job is done))
        n

    trunk_tables : (n : ℕ) → 0 < times n (named old.nodes) → table_in (branches new) n ≡ table_in (branches old) n
    trunk_tables n some = same_table n (in_trunk n some)

    sub_still : (rule : Rule) (n : ℕ) (key : List ℕ) → sub rule (table_in (branches new)) (node_at new.nodes) (node_at new.nodes n).height n key ≡ sub rule (table_in (branches old)) (node_at old.nodes) (node_at old.nodes n).height n key
    sub_still rule n key =
        let height = (node_at old.nodes n).height in
        ap (λ (node : NodeData). sub rule (table_in (branches new)) (node_at new.nodes) node.height n key) (node_is n)
        ∙ sub_released actor rule (table_in (branches new)) old.nodes height n key
        ∙ sub_agrees rule old.nodes (table_in (branches old)) (table_in (branches new)) trunk_tables height n key

    same_meaning : (rule : Rule) (key : List ℕ) → meaning rule new key ≡ meaning rule old key
    same_meaning rule key =
        ap (λ (tables : List Table). act_all rule key (sub rule (table_in (branches new)) (node_at new.nodes) (node_at new.nodes 0).height 0 key) (chain tables key)) (same_tables actor old.tables)
        ∙ ap (λ (cell : Cell). act_all rule key cell (chain (tables_of old.tables) key)) (sub_still rule 0 key)

    sees : (rule : Rule) (tells : Bool) (d : Descent) → SeesNode rule tells old new d
    sees rule tells d =
        let node = node_at old.nodes d.node in
        let mark = (pivot_at node.pivots (pivot_from node.pivots d.span.from)).mark in
        let part : (ℕ → Option BranchData) → ℕ → Table = λ branch number. part_of d.span (table_in branch number) in
        record {
          height = ap (λ (n : NodeData). n.height) (node_is d.node);
          pivots = ap (λ (n : NodeData). n.pivots) (node_is d.node);
          tables = ap (λ (n : NodeData). tables_under (branches new) n d.span) (node_is d.node)
              ∙ ap (λ (numbers : List ℕ). map (part (branches new)) numbers) (live-released node.lists mark actor)
              ∙ same_live old.nodes (part (branches old)) (part (branches new)) (λ n some. ap (part_of d.span) (trunk_tables n some)) d.node mark;
          rest = λ told key within. sub_still rule d.node key;
        }

    later : (other n t i : ℕ) (f : FrozenData) → other ≢ actor → (actor_in old.actors other).job ≡ Some (Pack n t) → slice_get old.tables.frozen i ≡ Some f → f.number ≡ t → slice_get new.tables.frozen i ≡ Some f
    later other n t i f apart is at named_so =
        let theirs = (working old sound other (Pack n t) is).source in
        let mine : FrozenData = record { number = t; table = theirs.1; picked = Some other } in
        let here = one_number old.tables sound.memtables i theirs.0 f mine at theirs.2 named_so in
        let equal = same_Some f mine (sym at ∙ ap (slice_get old.tables.frozen) here ∙ theirs.2) in
        is_frozen actor old.tables.frozen i f at ∙ ap (λ (g : FrozenData). Some g) (others_pick actor f other apart (ap (λ (g : FrozenData). g.picked) equal))

    source_kept : (other : ℕ) (job : Job) → other ≢ actor → (actor_in old.actors other).job ≡ Some job → SeesSource old new job
    source_kept other (Pack n t) apart is = λ i f at named_so. (i, later other n t i f apart is at named_so)
    source_kept other (Merge n run) apart is = λ m among.
        by_other other m apart (inputs_named m (actor_in old.actors other).job (actor_in old.actors other).published (Merge n run) is (stands_in m run.inputs among.0 among.1 among.2))

    keeps : (n : ℕ) → KeepsNode old new n
    keeps n = record {
      pivots = ap (λ (node : NodeData). length node.pivots) (node_is n);
      bundles = ap (λ (node : NodeData). length node.lists.bundles) (node_is n) ∙ length-map (node_at old.nodes n).lists.bundles (without_mark actor);
      split = ap (λ (node : NodeData). split_key (branches new) node) (node_is n)
          ∙ split_released actor (branches new) (node_at old.nodes n)
          ∙ same_split (branches old) (branches new) (node_at old.nodes n) (λ m some. in_trunk m (let all = node_named m old.nodes n in omega arith));
    }

    pub abandoned_framed : (rule : Rule) (tells : Bool) → (tells ≡ true → AreDrafts rule old) → IsFramed rule tells old (abandoned old actor refs owners) actor
    abandoned_framed rule tells drafts = record {
      drafts = λ told. drafts_kept rule (drafts told);
      means = λ told key. same_meaning rule key;
      others = λ other below apart. record {
        actor = other_is other apart;
        grips = λ node. grips_stay other node apart;
        extents = grants_stay other apart;
        descent = λ d is. sees rule tells d;
        job = λ job is. source_kept other job apart is;
        written = λ n has. keeps n;
      };
    }

    same_extents : length new.owners ≡ length old.owners
    same_extents =
        extents_stay actor owners
        ∙ sym (length-map owners (is_granted actor))
        ∙ ap (λ (members : List Bool). length members) (granted actor)
        ∙ length-map old.owners (is_granted actor)

    pub has_abandoned : HasAbandoned old (abandoned old actor refs owners) actor
    has_abandoned = record {
      nodes = refl;
      fewer = λ n.
          let now = accounts.counts n in
          let before = sound.extents.counts n in
          let often = as_often n in
          let parts = times-append n (named_by (actor_in old.actors actor)) left in
          omega arith;
      still = stays;
      extents = same_extents;
      nothing = nothing_granted actor owners;
      granted = grants_stay;
      grips = refl;
      tables = refl;
      actors = refl;
      counters = refl;
    }

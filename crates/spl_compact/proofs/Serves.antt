-- The end of a merge in a node keeps the invariant, and what everybody relies on.
use Rattle.std.proofs.Common.{◌≡◌, ◌≢◌, ℕ, zero, suc, ◌+◌, ◌-◌, ◌<◌, ◌≤◌, Bool, true, false, List, [], ◌∷◌, ◌++◌, Option, Some, None, map, flat_map, length, get_or, set, refl, sym, ap, subst, ◌∙◌, inl, inr, arith}
use Rattle.std.specs.Prelude.{All, IsSome, ◌↔◌}
use Rattle.std.proofs.lemmas.Bool.{cases_eq, cases_lt, false≢true}
use Rattle.std.proofs.lemmas.List.{length-set, length-map}
use Rattle.std.proofs.lemmas.List.Elements.{All-set, All-get_or}
use Rattle.std.proofs.lemmas.List.Quantifiers.{position-Some}
use Rattle.spl_base.specs.declared.TheConstants.{ACTORS}
use Rattle.spl_message.specs.Cell.{Cell}
use Rattle.spl_message.specs.Message.{act_all}
use Rattle.spl_message.specs.Rule.{Rule}
use Rattle.spl_message.specs.Span.{InSpan}
use Rattle.spl_message.specs.Table.{Table, chain, part_of, IsMerged}
use Rattle.spl_numbers.specs.Numbers.{has}
use Rattle.spl_bundle.specs.Numbered.{Bundle, unmarked, bundle_at, names, next_of}
use Rattle.spl_extent.specs.declared.owner.Owner.{Owner}
use Rattle.spl_extent.specs.Pool.{granted_to, is_granted}
use Rattle.spl_holds.specs.declared.grip.Grip.{Grip}
use Rattle.spl_holds.specs.declared.grip.Grip.TheVariants.{Free, Read, Write}
use Rattle.spl_holds.specs.Latch.{IsLatched}
use Rattle.spl_holds.specs.Holds.{grip_of}
use Rattle.spl_node.specs.Node.{NodeData, bare, pivot_at, IsNode}
use Rattle.spl_node.specs.Parts.{branches_from}
use Rattle.spl_node.specs.Steps.{fresh}
use Rattle.spl_refs.specs.Refs.{Published, branch_at, count_at}
use Rattle.spl_trunk.specs.Moves.{compacted, output_table}
use Rattle.spl_trunk.specs.Trunk.{node_at}
use Rattle.spl_trunk.specs.Tree.{sub, times, named, IsShaped}
use Rattle.spl_trunk.proofs.Counts.{times-append, times-joined, times_itself}
use Rattle.spl_trunk.proofs.Means.{means_kept}
use Rattle.spl_trunk.proofs.Steps.{compact_kept}
use Rattle.spl_tables.specs.Memtables.{tables_of}
use Rattle.spl_state.specs.declared.actor.Actor.{Actor}
use Rattle.spl_state.specs.declared.descent.Descent.{Descent}
use Rattle.spl_state.specs.declared.job.Job.{Job}
use Rattle.spl_state.specs.declared.job.Job.TheVariants.{Pack, Merge}
use Rattle.spl_state.specs.declared.job.Run.{Run}
use Rattle.spl_state.specs.Actor.{actor_in}
use Rattle.spl_state.specs.Actors.{IsActor, IsOnWay, IsAtWork, IsOf, LiesUnder, JobsDiffer, Packs, ArePicked, HasTable, pivot_from}
use Rattle.spl_state.specs.Bounds.{AreBounded, HasEnds, HasAllEnds}
use Rattle.spl_state.specs.Extents.{number_of, named_by, inputs_of, draft_of, mentioned, AccountsForExtents}
use Rattle.spl_state.specs.Frame.{IsFramed}
use Rattle.spl_state.specs.Runs.{Stands, HoldsRun, IsInRun, AreInRuns}
use Rattle.spl_state.specs.Sight.{KeepsNode, SeesNode, SeesSource, split_key, tables_under}
use Rattle.spl_state.specs.Sound.{IsSound, AreDrafts, meaning}
use Rattle.spl_state.specs.Whole.{BranchData, Whole, branches, table_in, table_or}
use Rattle.spl_state.proofs.Named.{node_named, same_live, same_map, same_split, stands_in, sub_agrees}
use Rattle.spl_state.proofs.Replaced.{each_actor, known_of, other_actor, this_actor, working}
use Rattle.spl_compact.specs.Installing.{carries, first_heir, goes_on}
use Rattle.spl_compact.proofs.Compacted.{carried_at, some_carried, none_carried, first_to, next_to, ends_to, few_to, no_mark, mark_left, holds_to}
use Rattle.spl_compact.proofs.OneNode.{long, this_node, other_node, each_node, same_part}
use Rattle.spl_compact.proofs.Positions.{none_passes}

no_some : {A : Type 0} (o : Option A) (x : A) → o ≡ None → o ≡ Some x → ⊥
no_some o x none some = cc

-- an actor names what all actors name
actor_named : (n : ℕ) (actors : List Actor) (i : ℕ) → times n (named_by (actor_in actors i)) ≤ times n (flat_map named_by actors)
actor_named n [] i = omega arith
actor_named n (actor ∷ actors) zero = let all = times-joined named_by n actor actors in omega arith
actor_named n (actor ∷ actors) (suc i) =
    let all = times-joined named_by n actor actors in
    let rest = actor_named n actors i in
    omega arith

draft_named : (j : Option Job) (published : Bool) (job : Job) → j ≡ Some job → published ≡ true → 0 < times (number_of job) (inputs_of j ++ draft_of j published)
draft_named j published job is done =
    rw (is, done) (
    let all = times-append (number_of job) (inputs_of (Some job)) (number_of job ∷ []) in
    let one = times_itself (number_of job) in
    omega arith)

inputs_named : (n : ℕ) (j : Option Job) (published : Bool) (job : Job) → j ≡ Some job → 0 < times n (inputs_of (Some job)) → 0 < times n (inputs_of j ++ draft_of j published)
inputs_named n j published job is some =
    rw is (let all = times-append n (inputs_of (Some job)) (draft_of (Some job) published) in omega arith)

none_left : {A : Type 0} (o : Option A) (count : ℕ) → IsSome o ↔ (0 < count) → count ≤ 0 → o ≡ None
none_left None count stands none = refl
none_left (Some branch) count stands none = absurd (omega (arith, stands.0 refl))

not_read : (a b : Grip) → a ≡ Free → b ≡ Read → a ≡ b → ⊥
not_read a b free read same = cc

module _ (old : Whole) (sound : IsSound old) (actor node number : ℕ) (run : Run) (has_job : (actor_in old.actors actor).job ≡ Some (Merge number run)) (writes : grip_of old.grips actor node ≡ Write) (exists : node < length old.nodes) (carried : carries actor (node_at old.nodes node) ≡ true) (output : Option ℕ) where
  abbrev pub job : Job
  job = Merge number run

  abbrev pub from : NodeData
  from = node_at old.nodes node

  abbrev pub to : NodeData
  to = compacted from run.first run.last output

  abbrev pub nodes_now : List NodeData
  nodes_now = set old.nodes node to

  pub known : actor < ACTORS
  known = known_of old sound actor job has_job

  pub order : run.first ≤ run.last
  order = (working old sound actor job has_job).source.0

  in_run : (n k : ℕ) → n < length old.nodes → Stands (node_at old.nodes n).lists k → (bundle_at (node_at old.nodes n).lists k).owner ≡ Some actor → (run.first ≤ k) × (k ≤ run.last) × HoldsRun (node_at old.nodes n) actor run
  in_run n k there stands owned = subst (λ (j : Option Job). IsInRun (node_at old.nodes n) k actor j) has_job (sound.runs n k actor there stands owned).1

  -- the node holds the run
  pub holds : HoldsRun from actor run
  holds =
      let found = carried_at actor from.lists.bundles carried in
      let k = from.lists.first + found.0 in
      let same : k - from.lists.first ≡ found.0 = omega arith in
      let owned : (bundle_at from.lists k).owner ≡ Some actor = ap (λ (i : ℕ). (get_or from.lists.bundles i (unmarked [])).owner) same ∙ found.2 in
      (in_run node k exists (omega arith, omega (arith, found.1)) owned).2

  own : (k : ℕ) → run.first ≤ k → k ≤ run.last → from.lists.first ≤ k → (bundle_at from.lists k).owner ≡ Some actor
  own k low high there = holds.marks k low high there

  no_mark_now : (k : ℕ) → Stands to.lists k → (bundle_at to.lists k).owner ≡ Some actor → ⊥
  no_mark_now = no_mark from run.first run.last output order holds.stands.0 holds.stands.1 actor own (λ k stands owned. let is = in_run node k exists stands owned in (is.0, is.1))

  pub same_count : length nodes_now ≡ length old.nodes
  same_count = long old.nodes node exists to

  -- none of its bundles carries the mark any more
  pub cleared : carries actor (node_at nodes_now node) ≡ false
  cleared =
      ap (carries actor) (this_node old.nodes node exists to)
      ∙ none_carried actor to.lists.bundles (λ i within owned.
      let k = to.lists.first + i in
      let same : k - to.lists.first ≡ i = omega arith in
      no_mark_now k (omega arith, omega arith) (ap (λ (j : ℕ). (get_or to.lists.bundles j (unmarked [])).owner) same ∙ owned))

  in_run_to : (k who : ℕ) (j : Option Job) → who ≢ actor → Stands to.lists k → IsInRun from k who j → IsInRun to k who j
  in_run_to k who None apart stands is = is
  in_run_to k who (Some (Pack n t)) apart stands is = is
  in_run_to k who (Some (Merge n r)) apart stands is =
      let at = first_to from run.first run.last output order holds.stands.0 holds.stands.1 in
      (is.0, is.1, holds_to from run.first run.last output order holds.stands.0 holds.stands.1 actor own who apart r is.2 k is.0 is.1 (omega (arith, stands.0)))

  -- the runs of all actors stand, while the actor's job goes on
  pub runs_now : AreInRuns nodes_now old.actors
  runs_now n k who below =
      each_node old.nodes node exists to (λ (m : ℕ) (a : NodeData). m < length old.nodes → Stands a.lists k → (bundle_at a.lists k).owner ≡ Some who → (who < ACTORS) × IsInRun a k who (actor_in old.actors who).job)
      (λ there stands owned. elim (cases_eq who actor) [
        | inl same ↦ absurd (no_mark_now k stands (owned ∙ ap (λ (m : ℕ). Some m) same))
        | inr apart ↦
            let was = mark_left from run.first run.last output order holds.stands.0 holds.stands.1 who k stands owned in
            let before = sound.runs node k who there was.0 was.1 in
            (before.0, in_run_to k who (actor_in old.actors who).job apart stands before.1)
      ])
      (λ m apart there stands owned. sound.runs m k who there stands owned)
      n (subst (λ (c : ℕ). n < c) same_count below)

  abbrev pub heir : Option ℕ
  heir = first_heir nodes_now actor

  abbrev pub worker : Actor
  worker = goes_on (actor_in old.actors actor) heir

  abbrev pub actors_now : List Actor
  actors_now = set old.actors actor worker

  was_job : (n : ℕ) (j : Job) → (actor_in actors_now n).job ≡ Some j → (actor_in old.actors n).job ≡ Some j
  was_job n j = each_actor old.actors sound.count actor known worker (λ (m : ℕ) (a : Actor). a.job ≡ Some j → (actor_in old.actors m).job ≡ Some j) (by heir) (λ other apart is. is) n
    where
      by : (h : Option ℕ) → (goes_on (actor_in old.actors actor) h).job ≡ Some j → (actor_in old.actors actor).job ≡ Some j
      by None is = absurd (no_some {A = Job} None j refl is)
      by (Some next) is = is

  module _ (refs : Published BranchData) (owners : List Owner) (accounts : AccountsForExtents (mentioned nodes_now actors_now) (count_at refs) (branch_at refs) owners) (stays : (n : ℕ) → 0 < count_at refs n → branch_at refs n ≡ branches old n) (granted : (other : ℕ) → granted_to owners other ≡ granted_to old.owners other) where
    abbrev pub new : Whole
    new = record old { nodes = nodes_now; refs = refs; owners = owners; actors = actors_now }

    -- a branch that is named is the one that it was
    still_named : (n : ℕ) → 0 < times n (mentioned nodes_now actors_now) → branches new n ≡ branches old n
    still_named n some = stays n (subst (λ (count : ℕ). 0 < count) (sym (accounts.counts n)) some)

    in_trunk : (n : ℕ) → 0 < times n (named nodes_now) → branches new n ≡ branches old n
    in_trunk n some = still_named n (let parts = times-append n (named nodes_now) (flat_map named_by actors_now) in omega arith)

    by_any : (i n : ℕ) → 0 < times n (named_by (actor_in actors_now i)) → branches new n ≡ branches old n
    by_any i n some =
        still_named n (
        let all = actor_named n actors_now i in
        let parts = times-append n (named nodes_now) (flat_map named_by actors_now) in
        omega arith)

    gone : (n : ℕ) → branches old n ≡ None → branches new n ≡ None
    gone n none = elim (cases_lt 0 (count_at refs n)) [
      | inl some ↦ stays n some ∙ none
      | inr past ↦ none_left (branch_at refs n) (count_at refs n) (accounts.stands n) past
    ]

    draft_stays : (i : ℕ) (j : Job) → (actor_in actors_now i).job ≡ Some j → (actor_in actors_now i).published ≡ true → branches new (number_of j) ≡ branches old (number_of j)
    draft_stays i j is done = by_any i (number_of j) (draft_named (actor_in actors_now i).job (actor_in actors_now i).published j is done)

    -- nobody else reads or writes the node
    not_there : (other n : ℕ) → other ≢ actor → grip_of old.grips other n ≢ Free → n ≢ node
    not_there other n apart held same =
        let latch = All-get_or IsLatched old.grips node [] (subst (λ (c : ℕ). node < c) (sym sound.latches) exists) sound.latched in
        held (ap (grip_of old.grips other) same ∙ latch.write_alone actor other (λ is. apart (sym is)) writes)

    reads_elsewhere : (other n : ℕ) → other ≢ actor → grip_of old.grips other n ≡ Read → n ≢ node
    reads_elsewhere other n apart read = not_there other n apart (λ free. not_read (grip_of old.grips other n) (grip_of old.grips other n) free read refl)

    writes_elsewhere : (other n : ℕ) → other ≢ actor → grip_of old.grips other n ≡ Write → n ≢ node
    writes_elsewhere other n apart write = not_there other n apart (λ free. no_write (grip_of old.grips other n) free write)
      where
        no_write : (g : Grip) → g ≡ Free → g ≡ Write → ⊥
        no_write g free write = cc

    way_still : (other : ℕ) (a : Actor) (d : Option Descent) → other ≢ actor → IsOnWay old.nodes old.grips old.counters.places other a d → IsOnWay new.nodes new.grips new.counters.places other a d
    way_still other a None apart way = way
    way_still other a (Some d) apart way = record {
      exists = subst (λ (c : ℕ). d.node < c) (sym same_count) way.exists;
      told = way.told;
      reads = way.reads;
      alone = way.alone;
      no_job = way.no_job;
      place = way.place;
      lies = subst (λ (a : NodeData). LiesUnder a d.span) (sym (other_node old.nodes node exists to d.node (reads_elsewhere other d.node apart way.reads))) way.lies;
    }

    own_way : (b : Actor) (d : Option Descent) → IsOnWay old.nodes old.grips old.counters.places actor (actor_in old.actors actor) d → IsOnWay new.nodes new.grips new.counters.places actor b d
    own_way b None way = way
    own_way b (Some d) way = absurd (no_some (actor_in old.actors actor).job job way.no_job has_job)

    source_still : (other : ℕ) (j : Job) → IsOf old.nodes old.tables.frozen other j → IsOf new.nodes new.tables.frozen other j
    source_still other (Pack n t) of = of
    source_still other (Merge n r) of = (of.0, subst (λ (c : ℕ). r.node < c) (sym same_count) of.1)

    work_still : (other : ℕ) (j : Option Job) (published : Bool) → (actor_in actors_now other).job ≡ j → (actor_in actors_now other).published ≡ published → IsAtWork old.nodes (branches old) old.owners old.tables.frozen old.counters.branches other j published → IsAtWork new.nodes (branches new) new.owners new.tables.frozen new.counters.branches other j published
    work_still other None published is was work = work
    work_still other (Some j) published is was work = record {
      number = work.number;
      source = source_still other j work.source;
      unpublished = λ not_yet. gone (number_of j) (work.unpublished not_yet);
      draft = λ done. subst (λ (o : Option BranchData). IsSome o) (sym (draft_stays other j is (was ∙ done))) (work.draft done);
      nothing = λ done extent. ap (λ (members : List Bool). has members extent) (granted other) ∙ work.nothing done extent;
    }

    abbrev IsOne : ℕ → Actor → Type 0
    IsOne n a = n < ACTORS → IsActor new.nodes (branches new) new.owners new.grips new.tables.frozen new.counters.places new.counters.branches n a

    worker_is : actor_in actors_now actor ≡ worker
    worker_is = this_actor old.actors sound.count actor known worker

    own_stands : (h : Option ℕ) → h ≡ heir → IsOne actor (goes_on (actor_in old.actors actor) h)
    own_stands None is below =
        let before = sound.actors actor known in
        record {
          told = subst (λ (c : ℕ). (actor_in old.actors actor).told ≤ c) (sym same_count) before.told;
          knows_root = before.knows_root;
          descent = own_way (goes_on (actor_in old.actors actor) None) (actor_in old.actors actor).descent before.descent;
          job = refl;
        }
    own_stands (Some next) is below =
        let before = sound.actors actor known in
        let told = before.told in
        let count = same_count in
        let there = (position-Some (carries actor) nodes_now next (fresh 0 bare) (sym is)).0 in
        let mine = worker_is ∙ ap (goes_on (actor_in old.actors actor)) (sym is) in
        record {
          told = omega arith;
          knows_root = omega arith;
          descent = own_way (goes_on (actor_in old.actors actor) (Some next)) (actor_in old.actors actor).descent before.descent;
          job = work_still actor (actor_in old.actors actor).job (actor_in old.actors actor).published (ap (λ (a : Actor). a.job) mine) (ap (λ (a : Actor). a.published) mine) before.job;
        }

    other_is : (other : ℕ) → other ≢ actor → actor_in actors_now other ≡ actor_in old.actors other
    other_is other apart = other_actor old.actors sound.count actor known worker other apart

    actors_stand : (n : ℕ) → IsOne n (actor_in new.actors n)
    actors_stand = each_actor old.actors sound.count actor known worker IsOne (own_stands heir refl)
        (λ other apart below.
        let before = sound.actors other below in
        record {
          told = subst (λ (c : ℕ). (actor_in old.actors other).told ≤ c) (sym same_count) before.told;
          knows_root = before.knows_root;
          descent = way_still other (actor_in old.actors other) (actor_in old.actors other).descent apart before.descent;
          job = work_still other (actor_in old.actors other).job (actor_in old.actors other).published (ap (λ (a : Actor). a.job) (other_is other apart)) (ap (λ (a : Actor). a.published) (other_is other apart)) before.job;
        })

    jobs_differ : JobsDiffer new.actors
    jobs_differ a b j k apart is_j is_k = sound.apart a b j k apart (was_job a j is_j) (was_job b k is_k)

    all_picked : ArePicked new.tables.frozen new.actors
    all_picked i who f at by =
        let before = sound.picked i who f at by in (
          before.0,
          elim (cases_eq who actor) [
            | inl same ↦ absurd (subst (λ (j : Option Job). Packs j f.number) (ap (λ (n : ℕ). (actor_in old.actors n).job) same ∙ has_job) before.1)
            | inr apart ↦ subst (λ (a : Actor). Packs a.job f.number) (sym (other_is who apart)) before.1
          ],
        )

    own_run : (h : Option ℕ) → h ≡ heir → (n k : ℕ) → n < length nodes_now → Stands (node_at nodes_now n).lists k → (bundle_at (node_at nodes_now n).lists k).owner ≡ Some actor → IsInRun (node_at nodes_now n) k actor (actor_in old.actors actor).job → IsInRun (node_at nodes_now n) k actor (goes_on (actor_in old.actors actor) h).job
    own_run None is n k below stands owned was =
        let none = none_passes (carries actor) (fresh 0 bare) nodes_now (sym is) n below in
        let some = some_carried actor (node_at nodes_now n).lists.bundles (k - (node_at nodes_now n).lists.first) (omega (arith, stands.0, stands.1)) owned in
        absurd (false≢true (sym none ∙ some))
    own_run (Some next) is n k below stands owned was = was

    runs : AreInRuns new.nodes new.actors
    runs n k who below stands owned =
        let before = runs_now n k who below stands owned in (
          before.0,
          elim (cases_eq who actor) [
            | inl same ↦
                let owned_here = owned ∙ ap (λ (m : ℕ). Some m) same in
                let was = subst (λ (m : ℕ). IsInRun (node_at nodes_now n) k m (actor_in old.actors m).job) same before.1 in
                let mine = own_run heir refl n k below stands owned_here was in
                subst (λ (m : ℕ). IsInRun (node_at nodes_now n) k m (actor_in actors_now m).job) (sym same) (subst (λ (a : Actor). IsInRun (node_at nodes_now n) k actor a.job) (sym worker_is) mine)
            | inr apart ↦ subst (λ (a : Actor). IsInRun (node_at nodes_now n) k who a.job) (sym (other_is who apart)) before.1
          ],
        )

    ends : HasAllEnds new.nodes
    ends =
        let is = All-get_or IsNode old.nodes node (fresh 0 bare) exists sound.shaped.each in
        let here = All-get_or HasEnds old.nodes node (fresh 0 bare) exists sound.ends.each in
        let Few : NodeData → Type 0 = λ a. All (λ (bundle : Bundle). length bundle.branches ≤ 1) a.lists.bundles in
        record {
          each = All-set HasEnds old.nodes node to (ends_to from run.first run.last output order holds.stands.0 holds.stands.1 here is) sound.ends.each;
          root = each_node old.nodes node exists to (λ (n : ℕ) (a : NodeData). n ≡ 0 → Few a)
              (λ at. few_to from run.first run.last output order holds.stands.0 holds.stands.1 (subst (λ (n : ℕ). Few (node_at old.nodes n)) (sym at) sound.ends.root))
              (λ n apart at. subst (λ (m : ℕ). Few (node_at old.nodes m)) (sym at) sound.ends.root)
              0 refl;
        }

    bounded : AreBounded new.nodes (branches new) new.tables new.counters
    bounded =
        let steps = old.counters.steps in
        record {
          steps = sound.bounds.steps;
          places = sound.bounds.places;
          branches = sound.bounds.branches;
          memtables = sound.bounds.memtables;
          lists = All-set (λ (a : NodeData). next_of a.lists ≤ steps) old.nodes node to (subst (λ (n : ℕ). n ≤ steps) (sym (next_to from run.first run.last output order holds.stands.0 holds.stands.1)) (All-get_or (λ (a : NodeData). next_of a.lists ≤ steps) old.nodes node (fresh 0 bare) exists sound.bounds.lists)) sound.bounds.lists;
          generations = All-set (λ (a : NodeData). a.generation ≤ steps) old.nodes node to (All-get_or (λ (a : NodeData). a.generation ≤ steps) old.nodes node (fresh 0 bare) exists sound.bounds.generations) sound.bounds.generations;
          height = subst (λ (c : ℕ). (node_at new.nodes 0).height < c) (sym same_count) (subst (λ (h : ℕ). h < length old.nodes) (sym (same_part old.nodes node exists to (λ (a : NodeData). a.height) refl 0)) sound.bounds.height);
          numbers = λ n some. sound.bounds.numbers n (subst (λ (o : Option BranchData). IsSome o) (stays n ((accounts.stands n).0 some)) some);
        }

    pub served_sound : IsShaped nodes_now → IsSound new
    served_sound shaped = record {
      shaped = shaped;
      latches = sound.latches ∙ sym same_count;
      latched = sound.latched;
      extents = accounts;
      memtables = sound.memtables;
      count = length-set old.actors actor worker ∙ sound.count;
      actors = actors_stand;
      apart = jobs_differ;
      picked = all_picked;
      runs = runs;
      ends = ends;
      bounds = bounded;
    }

    same_table : (n : ℕ) → branches new n ≡ branches old n → table_in (branches new) n ≡ table_in (branches old) n
    same_table n same = ap table_or same

    -- every draft has the table that its job asks for
    table_still : (rule : Rule) (i : ℕ) (j : Job) → (actor_in actors_now i).job ≡ Some j → (actor_in actors_now i).published ≡ true → HasTable rule (branches old) old.tables.frozen j → HasTable rule (branches new) new.tables.frozen j
    table_still rule i (Pack n t) is done had = λ k f at named_so. same_table n (draft_stays i (Pack n t) is done) ∙ had k f at named_so
    table_still rule i (Merge n r) is done had =
        let tables = same_map (table_in (branches new)) (table_in (branches old)) r.inputs (λ m some. same_table m (by_any i m (inputs_named m (actor_in actors_now i).job (actor_in actors_now i).published (Merge n r) is some))) in
        let mine = same_table n (draft_stays i (Merge n r) is done) in
        subst (λ (list : List Table). IsMerged rule list r.span r.bottom (table_in (branches new) n)) (sym tables)
        (subst (λ (table : Table). IsMerged rule (map (table_in (branches old)) r.inputs) r.span r.bottom table) (sym mine) had)

    was_published : (n : ℕ) (j : Job) → (actor_in actors_now n).job ≡ Some j → (actor_in actors_now n).published ≡ true → (actor_in old.actors n).published ≡ true
    was_published n j = each_actor old.actors sound.count actor known worker (λ (m : ℕ) (a : Actor). a.job ≡ Some j → a.published ≡ true → (actor_in old.actors m).published ≡ true) (by heir) (λ other apart is done. done) n
      where
        by : (h : Option ℕ) → (goes_on (actor_in old.actors actor) h).job ≡ Some j → (goes_on (actor_in old.actors actor) h).published ≡ true → (actor_in old.actors actor).published ≡ true
        by None is done = absurd (false≢true done)
        by (Some next) is done = done

    drafts_kept : (rule : Rule) → AreDrafts rule old → AreDrafts rule new
    drafts_kept rule drafts n j is done = table_still rule n j is done (drafts n j (was_job n j is) (was_published n j is done))

    trunk_tables : (n : ℕ) → 0 < times n (named nodes_now) → table_in (branches new) n ≡ table_in (branches old) n
    trunk_tables n some = same_table n (in_trunk n some)

    -- what a merge knows of its output
    module _ (rule : Rule) (is_merged : IsMerged rule (map (table_in (branches old)) run.inputs) run.span run.bottom (output_table (table_in (branches old)) output)) where
      merged_here : IsMerged rule (map (table_in (branches old)) (branches_from from.lists run.first (run.last + 1))) run.span run.bottom (output_table (table_in (branches old)) output)
      merged_here = subst (λ (ns : List ℕ). IsMerged rule (map (table_in (branches old)) ns) run.span run.bottom (output_table (table_in (branches old)) output)) (sym holds.inputs) is_merged

      kept_sub : (height n : ℕ) (key : List ℕ) → n < length old.nodes → (node_at old.nodes n).height ≡ height → InSpan (node_at old.nodes n).range key → sub rule (table_in (branches old)) (node_at nodes_now) height n key ≡ sub rule (table_in (branches old)) (node_at old.nodes) height n key
      kept_sub = compact_kept old.nodes sound.shaped rule (table_in (branches old)) (node_at nodes_now) node exists (λ m there apart. other_node old.nodes node exists to m apart) run.first run.last output run.span run.bottom order holds.stands.0 holds.stands.1 holds.whole (λ is. (holds.leaf is, holds.oldest is)) holds.within merged_here (this_node old.nodes node exists to)

      pub same_meaning : (key : List ℕ) → meaning rule new key ≡ meaning rule old key
      same_meaning key =
          ap (λ (cell : Cell). act_all rule key cell (chain (tables_of old.tables) key)) (sub_agrees rule nodes_now (table_in (branches old)) (table_in (branches new)) trunk_tables (node_at nodes_now 0).height 0 key)
          ∙ means_kept old.nodes sound.shaped rule (table_in (branches old)) (node_at nodes_now) (same_part old.nodes node exists to (λ (a : NodeData). a.height) refl 0) kept_sub (tables_of old.tables) key

      pub sub_still : (n : ℕ) (key : List ℕ) → n < length old.nodes → InSpan (node_at old.nodes n).range key → sub rule (table_in (branches new)) (node_at nodes_now) (node_at nodes_now n).height n key ≡ sub rule (table_in (branches old)) (node_at old.nodes) (node_at old.nodes n).height n key
      sub_still n key there inside =
          ap (λ (h : ℕ). sub rule (table_in (branches new)) (node_at nodes_now) h n key) (same_part old.nodes node exists to (λ (a : NodeData). a.height) refl n)
          ∙ sub_agrees rule nodes_now (table_in (branches old)) (table_in (branches new)) trunk_tables (node_at old.nodes n).height n key
          ∙ kept_sub (node_at old.nodes n).height n key there refl inside

    source_kept : (other : ℕ) (j : Job) → other ≢ actor → (actor_in old.actors other).job ≡ Some j → SeesSource old new j
    source_kept other (Pack n t) apart is = λ i f at named_so. (i, at)
    source_kept other (Merge n r) apart is = λ m among.
        by_any other m (inputs_named m (actor_in actors_now other).job (actor_in actors_now other).published (Merge n r) (ap (λ (a : Actor). a.job) (other_is other apart) ∙ is) (stands_in m r.inputs among.0 among.1 among.2))

    node_tables : (n m : ℕ) → 0 < times m (names (node_at nodes_now n).lists) → branches new m ≡ branches old m
    node_tables n m some = in_trunk m (let all = node_named m nodes_now n in omega arith)

    keeps : (n : ℕ) → n ≢ node → KeepsNode old new n
    keeps n apart =
        let is = other_node old.nodes node exists to n apart in
        record {
          pivots = ap (λ (a : NodeData). length a.pivots) is;
          bundles = ap (λ (a : NodeData). length a.lists.bundles) is;
          split = same_split (branches old) (branches new) (node_at nodes_now n) (node_tables n) ∙ ap (split_key (branches old)) is;
        }

    sees : (rule : Rule) (tells : Bool) (other : ℕ) (d : Descent) → other < ACTORS → other ≢ actor → (actor_in old.actors other).descent ≡ Some d → (tells ≡ true → IsMerged rule (map (table_in (branches old)) run.inputs) run.span run.bottom (output_table (table_in (branches old)) output)) → SeesNode rule tells old new d
    sees rule tells other d below apart is known_table =
        let way = subst (λ (o : Option Descent). IsOnWay old.nodes old.grips old.counters.places other (actor_in old.actors other) o) is (sound.actors other below).descent in
        let away = reads_elsewhere other d.node apart way.reads in
        let same = other_node old.nodes node exists to d.node away in
        let part : (ℕ → Option BranchData) → ℕ → Table = λ branch n. part_of d.span (table_in branch n) in
        record {
          height = ap (λ (a : NodeData). a.height) same;
          pivots = ap (λ (a : NodeData). a.pivots) same;
          tables = same_live nodes_now (part (branches old)) (part (branches new)) (λ n some. ap (part_of d.span) (trunk_tables n some)) d.node (pivot_at (node_at nodes_now d.node).pivots (pivot_from (node_at nodes_now d.node).pivots d.span.from)).mark
              ∙ ap (λ (a : NodeData). tables_under (branches old) a d.span) same;
          rest = λ told key inside. sub_still rule (known_table told) d.node key way.exists (way.lies.within key inside);
        }

    pub served_framed : (rule : Rule) (tells : Bool) → (tells ≡ true → AreDrafts rule old) → (tells ≡ true → IsMerged rule (map (table_in (branches old)) run.inputs) run.span run.bottom (output_table (table_in (branches old)) output)) → IsFramed rule tells old new actor
    served_framed rule tells drafts known_table = record {
      drafts = λ told. drafts_kept rule (drafts told);
      means = λ told key. same_meaning rule (known_table told) key;
      others = λ other below apart. record {
        actor = other_is other apart;
        grips = λ n. refl;
        extents = granted other;
        descent = λ d is. sees rule tells other d below apart is known_table;
        job = λ j is. source_kept other j apart is;
        written = λ n has. keeps n (writes_elsewhere other n apart has);
      };
    }

    pub same_extents : length owners ≡ length old.owners
    same_extents =
        sym (length-map owners (is_granted actor))
        ∙ ap (λ (members : List Bool). length members) (granted actor)
        ∙ length-map old.owners (is_granted actor)

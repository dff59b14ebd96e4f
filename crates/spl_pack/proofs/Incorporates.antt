-- An incorporation keeps the invariant, and what everybody relies on.
use Rattle.std.proofs.Common.{◌≡◌, ◌≢◌, ℕ, zero, suc, ◌<◌, ◌≤◌, Bool, true, false, cond, List, [], ◌∷◌, ◌++◌, Option, Some, None, length, map, flat_map, drop, set, slice_get, refl, sym, ap, subst, ◌∙◌, inl, inr, arith}
use Rattle.std.specs.Prelude.{All, AllPairs, Result, Ok, Err, is_err, IsOk, ◌↔◌, nat_eq, nat_lt}
use Rattle.std.proofs.lemmas.Bool.{cases_eq, cases_lt, false≢true, eqb-true}
use Rattle.std.proofs.lemmas.Bool.Decides.{nat_tests}
use Rattle.std.proofs.lemmas.List.{length-set}
use Rattle.std.proofs.lemmas.List.Elements.{All-set, All-get_or}
use Rattle.std.proofs.lemmas.Option.{slice_get-get_or, slice_get_within, same_Some}
use Rattle.spl_base.specs.declared.TheConstants.{ACTORS}
use Rattle.spl_message.specs.Rule.{Rule}
use Rattle.spl_message.specs.Table.{Table, IsTable, key_count}
use Rattle.spl_message.specs.declared.span.Span.{Span}
use Rattle.spl_holds.specs.declared.grip.Grip.{Grip}
use Rattle.spl_holds.specs.declared.grip.Grip.TheVariants.{Free, Read, Claim, Write}
use Rattle.spl_holds.specs.Grip.{is_write}
use Rattle.spl_holds.specs.Latch.{IsLatched}
use Rattle.spl_holds.specs.Holds.{grip_of}
use Rattle.spl_node.specs.Node.{NodeData}
use Rattle.spl_node.specs.Steps.{fresh}
use Rattle.spl_trunk.specs.Trunk.{node_at}
use Rattle.spl_trunk.specs.Tree.{means, sub, times, named, IsShaped}
use Rattle.spl_trunk.proofs.Counts.{times-append}
use Rattle.spl_trunk.proofs.Moves.{sub_but_root}
use Rattle.spl_trunk.proofs.Means.{means_incorporated}
use Rattle.spl_tables.specs.Memtables.{FrozenData, MemtableData, AreMemtables, frozen_at, without_oldest, tables_of}
use Rattle.spl_state.specs.declared.descent.Descent.{Descent}
use Rattle.spl_state.specs.declared.job.Job.{Job}
use Rattle.spl_state.specs.declared.job.Job.TheVariants.{Pack, Merge}
use Rattle.spl_state.specs.declared.actor.Actor.{Actor}
use Rattle.spl_state.specs.Actor.{actor_in, with_job}
use Rattle.spl_state.specs.Actors.{IsActor, IsOnWay, IsDescending, LiesUnder, IsOf, IsPicked, IsAtWork, JobsDiffer, Packs, ArePicked, HasTable}
use Rattle.spl_state.specs.Bounds.{AreBelow, AreBounded}
use Rattle.spl_state.specs.Extents.{named_by, inputs_of, draft_of, mentioned, AccountsForExtents}
use Rattle.spl_state.specs.Frame.{IsFramed}
use Rattle.spl_state.specs.Runs.{IsInRun}
use Rattle.spl_state.specs.Sight.{SeesSource, SeesNode, KeepsNode, tables_under, split_key}
use Rattle.spl_state.specs.Sound.{IsSound, AreDrafts, meaning}
use Rattle.spl_state.specs.Whole.{Whole, branches, counts, table_in}
use Rattle.spl_state.specs.declared.reply.Reply.{Reply}
use Rattle.spl_state.specs.declared.reply.Reply.TheVariants as reply
use Rattle.spl_state.proofs.Frames.{unchanged_framed}
use Rattle.spl_bundle.specs.declared.limit.Limit.{Limit}
use Rattle.spl_tables.specs.declared.memtables.Oldest.{Oldest}
use Rattle.spl_pack.specs.declared.draft.Packed.{Packed}
use Rattle.spl_pack.specs.Incorporating.{packed_by, ready_in, older_than, unless_older, where_ready, incorporate_answer, with_branch, incorporated}
use Rattle.spl_state.proofs.Replaced.{one_number, other_actor, each_actor, times-actor, runs_kept, job_of, working, known_of}
use Rattle.spl_pack.proofs.Roots.{grown, long, root_is, other_is, each_node, same_part, named_now, still_runs, still_ends, next_numbers}

module _ {A : Type 0} where
  pub slice_get_rest : (xs : List A) (i : ℕ) → slice_get (drop 1 xs) i ≡ slice_get xs (suc i)
  slice_get_rest [] i = refl
  slice_get_rest (x ∷ xs) i = refl

  all_rest : (P : A → Type 0) (xs : List A) → All P xs → All P (drop 1 xs)
  all_rest P [] all = all
  all_rest P (x ∷ xs) all = λ k d within. all (suc k) d (omega (arith, within))

  pairs_rest : (P : A → A → Type 0) (xs : List A) → AllPairs P xs → AllPairs P (drop 1 xs)
  pairs_rest P [] all = all
  pairs_rest P (x ∷ xs) all = λ i j d order within. all (suc i) (suc j) d (omega (arith, order)) (omega (arith, within))

  rest_shorter : (xs : List A) → length (drop 1 xs) ≤ length xs
  rest_shorter [] = omega arith
  rest_shorter (x ∷ xs) = omega arith

pub rest_memtables : (tables : MemtableData) → AreMemtables tables → AreMemtables (without_oldest tables)
rest_memtables tables are = record {
  few = let shorter = rest_shorter tables.frozen in omega (arith, are.few);
  rising = pairs_rest (λ (earlier later : FrozenData). earlier.number < later.number) tables.frozen are.rising;
  below_next = all_rest (λ (f : FrozenData). f.number < tables.next) tables.frozen are.below_next;
  full = all_rest (λ (f : FrozenData). key_count f.table ≡ 1024) tables.frozen are.full;
  in_order = all_rest (λ (f : FrozenData). IsTable f.table) tables.frozen are.in_order;
  active_limit = are.active_limit;
  active_in_order = are.active_in_order;
}

no_some : {A : Type 0} (o : Option A) (x : A) → o ≡ None → o ≡ Some x → ⊥
no_some o x none some = cc

-- the oldest memtable is the first of all tables
oldest_first : (first : Table) (frozen : List FrozenData) (active : Table) (f : FrozenData) → slice_get frozen 0 ≡ Some f → first ≡ f.table → first ∷ (map (λ (g : FrozenData). g.table) (drop 1 frozen) ++ active ∷ []) ≡ map (λ (g : FrozenData). g.table) frozen ++ active ∷ []
oldest_first first [] active f at is = cc
oldest_first first (g ∷ frozen) active f at is =
    ap (λ (t : Table). t ∷ (map (λ (h : FrozenData). h.table) frozen ++ active ∷ [])) (is ∙ sym (ap (λ (h : FrozenData). h.table) (same_Some g f at)))

module _ (old : Whole) (sound : IsSound old) (actor number table : ℕ) (has_job : (actor_in old.actors actor).job ≡ Some (Pack number table)) (published : (actor_in old.actors actor).published ≡ true) (writes : grip_of old.grips actor 0 ≡ Write) (oldest : (frozen_at old.tables.frozen 0).number ≡ table) where
  abbrev new : Whole
  new = incorporated old actor number

  abbrev worker : Actor
  worker = with_job (actor_in old.actors actor) None

  abbrev job : Job
  job = Pack number table

  known : actor < ACTORS
  known = known_of old sound actor job has_job

  source : IsPicked old.tables.frozen table actor
  source = (working old sound actor job has_job).source

  abbrev mine : FrozenData
  mine = record { number = table; table = source.1; picked = Some actor }

  -- the oldest memtable is the actor's
  mine_first : slice_get old.tables.frozen 0 ≡ Some mine
  mine_first =
      let within = slice_get_within old.tables.frozen source.0 mine source.2 in
      let first = slice_get-get_or old.tables.frozen 0 (frozen_at [] 0) (omega arith) in
      let here = one_number old.tables sound.memtables 0 source.0 (frozen_at old.tables.frozen 0) mine first source.2 oldest in
      ap (slice_get old.tables.frozen) here ∙ source.2

  -- and no other actor's
  not_others : (other n t : ℕ) → other ≢ actor → (actor_in old.actors other).job ≡ Some (Pack n t) → t ≢ table
  not_others other n t apart is same =
      let theirs = (working old sound other (Pack n t) is).source in
      let g : FrozenData = record { number = t; table = theirs.1; picked = Some other } in
      let here = one_number old.tables sound.memtables 0 theirs.0 mine g mine_first theirs.2 (sym same) in
      let equal = same_Some mine g (sym mine_first ∙ ap (slice_get old.tables.frozen) here ∙ theirs.2) in
      apart (sym (same_Some actor other (ap (λ (f : FrozenData). f.picked) equal)))

  -- what is named is named as often: as a bundle in the place of a draft
  same_named : (n : ℕ) → times n (mentioned new.nodes new.actors) ≡ times n (mentioned old.nodes old.actors)
  same_named n =
      let change = times-actor old.actors sound.count actor known worker old.nodes n in
      let had = by (actor_in old.actors actor).job (actor_in old.actors actor).published has_job published in
      let more = named_now old.nodes sound.shaped.some number n in
      let now = times-append n (named new.nodes) (flat_map named_by new.actors) in
      let before = times-append n (named old.nodes) (flat_map named_by new.actors) in
      omega arith
    where
      by : (j : Option Job) (p : Bool) → j ≡ Some job → p ≡ true → times n (inputs_of j ++ draft_of j p) ≡ times n (number ∷ [])
      by j p is was = rw (is, was) refl

  accounts : AccountsForExtents (mentioned new.nodes new.actors) (counts new) (branches new) new.owners
  accounts = record {
    counts = λ n. sound.extents.counts n ∙ sym (same_named n);
    stands = sound.extents.stands;
    held = sound.extents.held;
    not_held = sound.extents.not_held;
  }

  lies_still : (span : Span) (n : ℕ) → LiesUnder (node_at old.nodes n) span → LiesUnder (node_at new.nodes n) span
  lies_still span = each_node old.nodes sound.shaped.some number (λ (n : ℕ) (node : NodeData). LiesUnder (node_at old.nodes n) span → LiesUnder node span)
      (λ lies. record { start = lies.start; within = lies.within; pivot = lies.pivot })
      (λ n apart lies. lies)

  same_length : length new.nodes ≡ length old.nodes
  same_length = long old.nodes sound.shaped.some number

  way_still : (who : ℕ) (a : Actor) (d : Option Descent) → IsOnWay old.nodes old.grips old.counters.places who a d → IsOnWay new.nodes new.grips new.counters.places who a d
  way_still who a None way = way
  way_still who a (Some d) way = record {
    exists = subst (λ (k : ℕ). d.node < k) (sym same_length) way.exists;
    told = way.told;
    reads = way.reads;
    alone = way.alone;
    no_job = way.no_job;
    place = way.place;
    lies = lies_still d.span d.node way.lies;
  }

  own_way : (d : Option Descent) → IsOnWay old.nodes old.grips old.counters.places actor (actor_in old.actors actor) d → IsOnWay new.nodes new.grips new.counters.places actor worker d
  own_way None way = way
  own_way (Some d) way = absurd (no_some (actor_in old.actors actor).job job way.no_job has_job)

  picked_still : (other n t i : ℕ) (found : Table) → other ≢ actor → (actor_in old.actors other).job ≡ Some (Pack n t) → slice_get old.tables.frozen i ≡ Some (record { number = t; table = found; picked = Some other }) → IsPicked new.tables.frozen t other
  picked_still other n t zero found apart is at =
      absurd (not_others other n t apart is (sym (ap (λ (f : FrozenData). f.number) (same_Some mine (record { number = t; table = found; picked = Some other }) (sym mine_first ∙ at)))))
  picked_still other n t (suc i) found apart is at = (i, found, slice_get_rest old.tables.frozen i ∙ at)

  source_still : (other : ℕ) (j : Job) → other ≢ actor → (actor_in old.actors other).job ≡ Some j → IsOf old.nodes old.tables.frozen other j → IsOf new.nodes new.tables.frozen other j
  source_still other (Pack n t) apart is of = picked_still other n t of.0 of.1 apart is of.2
  source_still other (Merge n run) apart is of = (of.0, subst (λ (k : ℕ). run.node < k) (sym same_length) of.1)

  work_still : (other : ℕ) (j : Option Job) (p : Bool) → other ≢ actor → (actor_in old.actors other).job ≡ j → IsAtWork old.nodes (branches old) old.owners old.tables.frozen old.counters.branches other j p → IsAtWork new.nodes (branches new) new.owners new.tables.frozen new.counters.branches other j p
  work_still other None p apart is work = work
  work_still other (Some j) p apart is work = record {
    number = work.number;
    source = source_still other j apart is work.source;
    unpublished = work.unpublished;
    draft = work.draft;
    nothing = work.nothing;
  }

  abbrev IsOne : ℕ → Actor → Type 0
  IsOne n a = n < ACTORS → IsActor new.nodes (branches new) new.owners new.grips new.tables.frozen new.counters.places new.counters.branches n a

  actors_stand : (n : ℕ) → IsOne n (actor_in new.actors n)
  actors_stand = each_actor old.actors sound.count actor known worker IsOne
      (λ below.
      let before = sound.actors actor known in
      record {
        told = subst (λ (k : ℕ). (actor_in old.actors actor).told ≤ k) (sym same_length) before.told;
        knows_root = before.knows_root;
        descent = own_way (actor_in old.actors actor).descent before.descent;
        job = refl;
      })
      (λ other apart below.
      let before = sound.actors other below in
      record {
        told = subst (λ (k : ℕ). (actor_in old.actors other).told ≤ k) (sym same_length) before.told;
        knows_root = before.knows_root;
        descent = way_still other (actor_in old.actors other) (actor_in old.actors other).descent before.descent;
        job = work_still other (actor_in old.actors other).job (actor_in old.actors other).published apart refl before.job;
      })

  jobs_differ : JobsDiffer new.actors
  jobs_differ a b j k apart is_j is_k same =
      elim (job_of old.actors sound.count actor known worker j a is_j) [
        | inl one ↦ absurd (no_some worker.job j refl one.1)
        | inr one ↦
            elim (job_of old.actors sound.count actor known worker k b is_k) [
              | inl two ↦ absurd (no_some worker.job k refl two.1)
              | inr two ↦ absurd (sound.apart a b j k apart one.1 two.1 same)
            ]
      ]

  all_picked : ArePicked new.tables.frozen new.actors
  all_picked i who f at by =
      let there = sym (slice_get_rest old.tables.frozen i) ∙ at in
      let before = sound.picked (suc i) who f there by in (
        before.0,
        elim (cases_eq who actor) [
          | inl same ↦
              let packs : table ≡ f.number = subst (λ (j : Option Job). Packs j f.number) has_job (subst (λ (n : ℕ). Packs (actor_in old.actors n).job f.number) same before.1) in
              let here = one_number old.tables sound.memtables 0 (suc i) mine f mine_first there packs in
              absurd (omega arith)
          | inr apart ↦ subst (λ (a : Actor). Packs a.job f.number) (sym (other_actor old.actors sound.count actor known worker who apart)) before.1
        ],
      )

  no_run : (node : NodeData) (bundle : ℕ) → IsInRun node bundle actor (actor_in old.actors actor).job → ⊥
  no_run node bundle has = subst (λ (j : Option Job). IsInRun node bundle actor j) has_job has

  bounded : AreBelow old.nodes old.tables old.counters → AreBounded new.nodes (branches new) new.tables new.counters
  bounded fresh = record {
    steps = sound.bounds.steps;
    places = sound.bounds.places;
    branches = sound.bounds.branches;
    memtables = sound.bounds.memtables;
    lists = next_numbers old.nodes sound.shaped.some number old.counters.steps sound.bounds.lists fresh.lists;
    generations = All-set (λ (node : NodeData). node.generation ≤ old.counters.steps) old.nodes 0 (grown old.nodes sound.shaped.some number) (All-get_or (λ (node : NodeData). node.generation ≤ old.counters.steps) old.nodes 0 (node_at [] 0) sound.shaped.some sound.bounds.generations) sound.bounds.generations;
    height = subst (λ (k : ℕ). (node_at new.nodes 0).height < k) (sym same_length) (subst (λ (h : ℕ). h < length old.nodes) (sym (same_part old.nodes sound.shaped.some number (λ (node : NodeData). node.height) refl 0)) sound.bounds.height);
    numbers = sound.bounds.numbers;
  }

  pub incorporated_sound : AreBelow old.nodes old.tables old.counters → IsShaped new.nodes → IsSound new
  incorporated_sound fresh shaped = record {
    shaped = shaped;
    latches = sound.latches ∙ sym same_length;
    latched = sound.latched;
    extents = accounts;
    memtables = rest_memtables old.tables sound.memtables;
    count = length-set old.actors actor worker ∙ sound.count;
    actors = actors_stand;
    apart = jobs_differ;
    picked = all_picked;
    runs = runs_kept old.actors sound.count actor known worker new.nodes no_run (still_runs old.nodes sound.shaped.some number old.actors sound.runs);
    ends = still_ends old.nodes sound.shaped.some number sound.ends;
    bounds = bounded fresh;
  }

  table_still : (rule : Rule) (j : Job) → HasTable rule (branches old) old.tables.frozen j → HasTable rule (branches new) new.tables.frozen j
  table_still rule (Merge n run) had = had
  table_still rule (Pack n t) had = λ i f at is. had (suc i) f (sym (slice_get_rest old.tables.frozen i) ∙ at) is

  drafts_kept : (rule : Rule) → AreDrafts rule old → AreDrafts rule new
  drafts_kept rule drafts n j =
      each_actor old.actors sound.count actor known worker
      (λ (m : ℕ) (a : Actor). a.job ≡ Some j → a.published ≡ true → HasTable rule (branches new) new.tables.frozen j)
      (λ is done. absurd (false≢true done))
      (λ other apart is done. table_still rule j (drafts other j is done))
      n

  others_stay : (n : ℕ) → n < length old.nodes → n ≢ 0 → node_at new.nodes n ≡ node_at old.nodes n
  others_stay n there apart = other_is old.nodes sound.shaped.some number n apart

  same_meaning : (rule : Rule) → AreDrafts rule old → (key : List ℕ) → meaning rule new key ≡ meaning rule old key
  same_meaning rule drafts key =
      let has : table_in (branches old) number ≡ source.1 = drafts actor job has_job published 0 mine mine_first refl in
      means_incorporated old.nodes sound.shaped rule (table_in (branches old)) (node_at new.nodes) others_stay number (root_is old.nodes sound.shaped.some number) (tables_of new.tables) key
      ∙ ap (λ (tables : List Table). means rule (table_in (branches old)) (node_at old.nodes) tables key) (oldest_first (table_in (branches old) number) old.tables.frozen old.tables.active mine mine_first has)

  -- nobody else has a grip on the root
  root_alone : (other : ℕ) → other ≢ actor → grip_of old.grips other 0 ≡ Free
  root_alone other apart =
      let latch = All-get_or IsLatched old.grips 0 [] (let some = sound.shaped.some in let same = sound.latches in omega arith) sound.latched in
      latch.write_alone actor other (λ same. apart (sym same)) writes

  not_root : (other n : ℕ) (grip : Grip) → other ≢ actor → grip_of old.grips other n ≡ grip → grip ≢ Free → n ≢ 0
  not_root other n grip apart has held same = held (sym has ∙ ap (λ (m : ℕ). grip_of old.grips other m) same ∙ root_alone other apart)

  read_is_held : Read ≢ Free
  read_is_held is = cc

  write_is_held : Write ≢ Free
  write_is_held is = cc

  sees : (rule : Rule) (tells : Bool) (other : ℕ) (d : Descent) → other ≢ actor → IsDescending old.nodes old.grips old.counters.places other (actor_in old.actors other) d → SeesNode rule tells old new d
  sees rule tells other d apart way =
      let away = not_root other d.node Read apart way.reads read_is_held in
      let same = other_is old.nodes sound.shaped.some number d.node away in
      record {
        height = ap (λ (node : NodeData). node.height) same;
        pivots = ap (λ (node : NodeData). node.pivots) same;
        tables = ap (λ (node : NodeData). tables_under (branches old) node d.span) same;
        rest = λ told key within.
            ap (λ (node : NodeData). sub rule (table_in (branches old)) (node_at new.nodes) node.height d.node key) same
            ∙ sub_but_root old.nodes sound.shaped rule (table_in (branches old)) (node_at new.nodes) others_stay (node_at old.nodes d.node).height d.node key way.exists away refl (way.lies.within key within);
      }

  sees_node : (rule : Rule) (tells : Bool) (other : ℕ) → other < ACTORS → other ≢ actor → (d : Descent) → (actor_in old.actors other).descent ≡ Some d → SeesNode rule tells old new d
  sees_node rule tells other below apart d is =
      sees rule tells other d apart (subst (λ (o : Option Descent). IsOnWay old.nodes old.grips old.counters.places other (actor_in old.actors other) o) is (sound.actors other below).descent)

  later : (other n t i : ℕ) (f : FrozenData) → other ≢ actor → (actor_in old.actors other).job ≡ Some (Pack n t) → slice_get old.tables.frozen i ≡ Some f → f.number ≡ t → (k : ℕ) × (slice_get new.tables.frozen k ≡ Some f)
  later other n t zero f apart is at named = absurd (not_others other n t apart is (sym named ∙ sym (ap (λ (g : FrozenData). g.number) (same_Some mine f (sym mine_first ∙ at)))))
  later other n t (suc i) f apart is at named = (i, slice_get_rest old.tables.frozen i ∙ at)

  source_kept : (other : ℕ) (j : Job) → other ≢ actor → (actor_in old.actors other).job ≡ Some j → SeesSource old new j
  source_kept other (Pack n t) apart is = λ i f at named. later other n t i f apart is at named
  source_kept other (Merge n run) apart is = λ m among. refl

  keeps : (other n : ℕ) → other ≢ actor → grip_of old.grips other n ≡ Write → KeepsNode old new n
  keeps other n apart has =
      let same = other_is old.nodes sound.shaped.some number n (not_root other n Write apart has write_is_held) in
      record {
        pivots = ap (λ (node : NodeData). length node.pivots) same;
        bundles = ap (λ (node : NodeData). length node.lists.bundles) same;
        split = ap (λ (node : NodeData). split_key (branches old) node) same;
      }

  pub incorporated_framed : (rule : Rule) (tells : Bool) → (tells ≡ true → AreDrafts rule old) → IsFramed rule tells old new actor
  incorporated_framed rule tells drafts = record {
    drafts = λ told. drafts_kept rule (drafts told);
    means = λ told key. same_meaning rule (drafts told) key;
    others = λ other below apart. record {
      actor = other_actor old.actors sound.count actor known worker other apart;
      grips = λ node. refl;
      extents = refl;
      descent = λ d is. sees_node rule tells other below apart d is;
      job = λ j is. source_kept other j apart is;
      written = λ n has. keeps other n apart has;
    };
  }

-- what the answer's tests tell
pub record IsReady (whole : Whole) (actor : ℕ) (packed : Packed) : Type 0 where
  pub job : (actor_in whole.actors actor).job ≡ Some (Pack packed.number packed.table)
  pub published : (actor_in whole.actors actor).published ≡ true
  pub writes : grip_of whole.grips actor 0 ≡ Write

is_writing : (grip : Grip) → is_write grip ≡ true → grip ≡ Write
is_writing Write is = refl
is_writing Free is = absurd (false≢true is)
is_writing Read is = absurd (false≢true is)
is_writing Claim is = absurd (false≢true is)

packs : (j : Option Job) (p : Bool) (packed : Packed) → packed_by j p ≡ Some packed → (j ≡ Some (Pack packed.number packed.table)) × (p ≡ true)
packs None p packed is = absurd (no_some (packed_by None p) packed refl is)
packs (Some (Merge n run)) p packed is = absurd (no_some (packed_by (Some (Merge n run)) p) packed refl is)
packs (Some (Pack n t)) false packed is = absurd (no_some (packed_by (Some (Pack n t)) false) packed refl is)
packs (Some (Pack n t)) true packed is =
    let same = same_Some (record { number = n; table = t }) packed is in
    (ap (λ (q : Packed). Some (Pack q.number q.table)) same, refl)

pub is_ready : (whole : Whole) (actor : ℕ) (packed : Packed) → ready_in whole actor ≡ Some packed → IsReady whole actor packed
is_ready whole actor packed is = by (is_write (grip_of whole.grips actor 0)) refl is
  where
    by : (b : Bool) → is_write (grip_of whole.grips actor 0) ≡ b → cond {A = Option Packed} b (packed_by (actor_in whole.actors actor).job (actor_in whole.actors actor).published) None ≡ Some packed → IsReady whole actor packed
    by false test none = absurd (no_some None packed refl none)
    by true test some =
        let parts = packs (actor_in whole.actors actor).job (actor_in whole.actors actor).published packed some in
        record { job = parts.0; published = parts.1; writes = is_writing (grip_of whole.grips actor 0) test }

pub is_oldest : (frozen : List FrozenData) (table : ℕ) → older_than frozen table ≡ None → (frozen_at frozen 0).number ≡ table
is_oldest frozen table none = by (nat_eq (frozen_at frozen 0).number table) refl none
  where
    by : (b : Bool) → nat_eq (frozen_at frozen 0).number table ≡ b → cond {A = Option Oldest} b None (Some (record { number = (frozen_at frozen 0).number; picked = (frozen_at frozen 0).picked })) ≡ None → (frozen_at frozen 0).number ≡ table
    by true test is = eqb-true (frozen_at frozen 0).number table test
    by false test is = cc

-- a list that is not taken is one too many
pub is_full : (result : Result ℕ Limit) (n : ℕ) → is_err result ≡ true → IsOk result ↔ ((n < 24) × (1 ≤ 32)) → nat_lt n 24 ≡ false
is_full (Ok number) n err taken = absurd (false≢true err)
is_full (Err limit) n err taken = elim (cases_lt n 24) [
  | inl below ↦ absurd (false≢true (taken.1 (below, omega arith)))
  | inr above ↦ grind (arith, nat_tests)
]

module _ {B : Type 0} (old : Whole) (actor : ℕ) (packed : Packed) where
  abbrev room_or : Bool → Reply B
  room_or b = cond b reply.Done reply.NeedsFlush

  abbrev no_room : Reply B
  no_room = reply.NeedsFlush

  pub flush_answers : ready_in old actor ≡ Some packed → older_than old.tables.frozen packed.table ≡ None → nat_lt (length (node_at old.nodes 0).lists.bundles) 24 ≡ false → no_room ≡ incorporate_answer old actor
  flush_answers ready older full =
      sym (ap (λ (o : Option Packed). where_ready old actor o) ready
      ∙ ap (λ (o : Option Oldest). unless_older old o) older
      ∙ ap room_or full)

-- the same, where the state is seen through its parts
module _ (whole : Whole) (sound : IsSound whole) (actor : ℕ) (packed : Packed) (ready : ready_in whole actor ≡ Some packed) (older : older_than whole.tables.frozen packed.table ≡ None) (nodes : List NodeData) (tables : MemtableData) (actors : List Actor) (nodes_are : nodes ≡ set whole.nodes 0 (with_branch (node_at whole.nodes 0) packed.number)) (tables_are : tables ≡ without_oldest whole.tables) (actors_are : actors ≡ set whole.actors actor (with_job (actor_in whole.actors actor) None)) where
  abbrev made : Whole
  made = record whole { nodes = nodes; tables = tables; actors = actors }

  made_is : made ≡ incorporated whole actor packed.number
  made_is =
      ap (λ (n : List NodeData). record whole { nodes = n; tables = tables; actors = actors }) nodes_are
      ∙ ap (λ (t : MemtableData). record whole { nodes = set whole.nodes 0 (with_branch (node_at whole.nodes 0) packed.number); tables = t; actors = actors }) tables_are
      ∙ ap (λ (a : List Actor). record whole { nodes = set whole.nodes 0 (with_branch (node_at whole.nodes 0) packed.number); tables = without_oldest whole.tables; actors = a }) actors_are

  is : IsReady whole actor packed
  is = is_ready whole actor packed ready

  first : (frozen_at whole.tables.frozen 0).number ≡ packed.table
  first = is_oldest whole.tables.frozen packed.table older

  pub incorporate_sound : AreBelow whole.nodes whole.tables whole.counters → IsShaped nodes → IsSound made
  incorporate_sound fresh shaped =
      let shaped_now = subst (λ (n : List NodeData). IsShaped n) nodes_are shaped in
      subst (λ (w : Whole). IsSound w) (sym made_is) (incorporated_sound whole sound actor packed.number packed.table is.job is.published is.writes first fresh shaped_now)

  pub incorporate_framed : (old : Whole) → whole ≡ old → (rule : Rule) (tells : Bool) → (tells ≡ true → AreDrafts rule old) → IsFramed rule tells old made actor
  incorporate_framed old view_is rule tells drafts =
      let drafts_here : tells ≡ true → AreDrafts rule whole = λ told. subst (λ (w : Whole). AreDrafts rule w) (sym view_is) (drafts told) in
      let framed = incorporated_framed whole sound actor packed.number packed.table is.job is.published is.writes first rule tells drafts_here in
      subst (λ (w : Whole). IsFramed rule tells w made actor) view_is (subst (λ (w : Whole). IsFramed rule tells whole w actor) (sym made_is) framed)

pub no_push_framed : (whole old : Whole) (view_is : whole ≡ old) (nodes : List NodeData) (actor : ℕ) (rule : Rule) (tells : Bool) → (tells ≡ true → AreDrafts rule old) → nodes ≡ whole.nodes → IsFramed rule tells old (record whole { nodes = nodes }) actor
no_push_framed whole old view_is nodes actor rule tells drafts is =
    let framed = unchanged_framed rule tells old drafts actor in
    let here : IsFramed rule tells old whole actor = subst (λ (w : Whole). IsFramed rule tells old w actor) (sym view_is) framed in
    subst (λ (n : List NodeData). IsFramed rule tells old (record whole { nodes = n }) actor) (sym is) here

-- A publication keeps the invariant, and what everybody relies on.
use Rattle.std.proofs.Common.{◌≡◌, ◌≢◌, ℕ, zero, suc, ◌+◌, ◌<◌, Bool, true, false, List, [], ◌∷◌, ◌++◌, Option, Some, None, map, flat_map, set, refl, sym, ap, subst, ◌∙◌, inl, inr, arith}
use Rattle.std.specs.Prelude.{IsSome, IfSome, unwrap_or, ◌↔◌}
use Rattle.std.specs.Option.{option_map}
use Rattle.std.proofs.lemmas.Bool.{cases_eq, false≢true}
use Rattle.std.proofs.lemmas.Bool.Decides.{nat_tests}
use Rattle.std.proofs.lemmas.List.{length-set}
use Rattle.std.proofs.lemmas.Option.{same_Some}
use Rattle.spl_base.specs.declared.TheConstants.{ACTORS}
use Rattle.spl_message.specs.Cell.{Cell}
use Rattle.spl_message.specs.Message.{act_all}
use Rattle.spl_message.specs.Rule.{Rule}
use Rattle.spl_message.specs.Table.{Table, chain, part_of, IsMerged}
use Rattle.spl_numbers.specs.Numbers.{has, ListsEach}
use Rattle.spl_extent.specs.declared.owner.Owner.{Owner}
use Rattle.spl_extent.specs.Pool.{granted_to}
use Rattle.spl_node.specs.Node.{pivot_at}
use Rattle.spl_trunk.specs.Trunk.{node_at}
use Rattle.spl_trunk.specs.Tree.{times, named}
use Rattle.spl_trunk.proofs.Counts.{times-append, times_one, times_itself}
use Rattle.spl_refs.specs.Refs.{Published, held_at, branch_at, SetsAt}
use Rattle.spl_tables.specs.Memtables.{tables_of}
use Rattle.spl_state.specs.declared.descent.Descent.{Descent}
use Rattle.spl_state.specs.declared.job.Job.{Job}
use Rattle.spl_state.specs.declared.job.Job.TheVariants.{Pack, Merge}
use Rattle.spl_state.specs.declared.job.Run.{Run}
use Rattle.spl_state.specs.declared.actor.Actor.{Actor}
use Rattle.spl_state.specs.Actor.{idle, actor_in, with_draft}
use Rattle.spl_state.specs.Actors.{IsActor, IsOnWay, IsAtWork, IsWorking, JobsDiffer, Packs, ArePicked, HasTable, pivot_from}
use Rattle.spl_state.specs.Bounds.{AreBounded}
use Rattle.spl_state.specs.Extents.{number_of, inputs_of, draft_of, named_by, mentioned, held_by, AccountsForExtents}
use Rattle.spl_state.specs.Frame.{IsFramed}
use Rattle.spl_state.specs.Runs.{AreInRuns, IsInRun}
use Rattle.spl_state.specs.Sight.{SeesSource, SeesNode, KeepsNode}
use Rattle.spl_state.specs.Sound.{IsSound, AreDrafts}
use Rattle.spl_state.specs.Whole.{BranchData, Whole, branches, counts, table_in, table_or}
use Rattle.spl_pack.specs.Publishing.{MayPublish, Publishes, held_all, job_number, IsAskedFor, AsksFor}
use Rattle.spl_state.proofs.Frames.{unchanged_framed}
use Rattle.spl_state.proofs.Views.{seen, all_seen, held_seen}
use Rattle.spl_state.proofs.Replaced.{other_actor, each_actor, times-actor, working, known_of}
use Rattle.spl_pack.proofs.Owners.{others_granted, none_granted, branch_holds, others_hold}
use Rattle.spl_state.proofs.Named.{same_map, same_live, sub_agrees, node_named, stands_in, same_split}

no_some : {A : Type 0} (o : Option A) (x : A) → o ≡ None → o ≡ Some x → ⊥
no_some o x none some = cc

none_of : {A : Type 0} (o : Option A) (count : ℕ) → o ≡ None → IsSome o ↔ (0 < count) → count ≡ 0
none_of None zero none is = refl
none_of None (suc count) none is = absurd (false≢true (is.1 (omega arith)))
none_of (Some x) count none is = cc

apart_once : (n number : ℕ) → n ≢ number → times n (number ∷ []) ≡ 0
apart_once n number apart = grind (arith, nat_tests)

module _ (old : Whole) (sound : IsSound old) (actor : ℕ) (job : Job) (has_job : (actor_in old.actors actor).job ≡ Some job) (unpublished : (actor_in old.actors actor).published ≡ false) (content : BranchData) (lists : ListsEach content.extents (granted_to old.owners actor)) (refs : Published BranchData) (sets : SetsAt old.refs refs (number_of job) (Some (1, content))) where
  abbrev worker : Actor
  worker = with_draft (actor_in old.actors actor)

  abbrev number : ℕ
  number = number_of job

  abbrev new : Whole
  new = record old { refs = refs; owners = held_all old.owners actor number; actors = set old.actors actor worker }

  known : actor < ACTORS
  known = known_of old sound actor job has_job

  none_yet : branches old number ≡ None
  none_yet = (working old sound actor job has_job).unpublished unpublished

  here : branches new number ≡ Some content
  here = ap (λ (held : Option (ℕ × BranchData)). option_map (λ h. h.1) held) sets.this_number

  there : (n : ℕ) → n ≢ number → branches new n ≡ branches old n
  there n apart = ap (λ (held : Option (ℕ × BranchData)). option_map (λ h. h.1) held) (sets.other_numbers n apart)

  count_here : counts new number ≡ 1
  count_here = ap (λ (held : Option (ℕ × BranchData)). unwrap_or (option_map (λ h. h.0) held) 0) sets.this_number

  count_there : (n : ℕ) → n ≢ number → counts new n ≡ counts old n
  count_there n apart = ap (λ (held : Option (ℕ × BranchData)). unwrap_or (option_map (λ h. h.0) held) 0) (sets.other_numbers n apart)

  -- what is named stood before
  stood : (n : ℕ) → 0 < times n (mentioned old.nodes old.actors) → n ≢ number
  stood n some same =
      let none = none_of (branches old number) (counts old number) none_yet (sound.extents.stands number) in
      let is = sound.extents.counts number in
      let mentions = ap (λ (m : ℕ). times m (mentioned old.nodes old.actors)) same in
      omega arith

  same_there : (n : ℕ) → 0 < times n (mentioned old.nodes old.actors) → branches new n ≡ branches old n
  same_there n some = there n (stood n some)

  named_twice : (n : ℕ) → times n (named_by worker) ≡ times n (named_by (actor_in old.actors actor)) + times n (number ∷ [])
  named_twice n = by (actor_in old.actors actor).job (actor_in old.actors actor).published has_job unpublished
    where
      by : (j : Option Job) (published : Bool) → j ≡ Some job → published ≡ false → times n (inputs_of j ++ draft_of j true) ≡ times n (inputs_of j ++ draft_of j published) + times n (number ∷ [])
      by None published is none = cc
      by (Some j) true is none = cc
      by (Some j) false is none =
          let same = ap number_of (same_Some j job is) in
          let first = times-append n (inputs_of (Some j)) (number_of j ∷ []) in
          let second = times-append n (inputs_of (Some j)) [] in
          let equal = ap (λ (m : ℕ). times n (m ∷ [])) same in
          omega arith

  mentions_now : (n : ℕ) → times n (mentioned new.nodes new.actors) ≡ times n (mentioned old.nodes old.actors) + times n (number ∷ [])
  mentions_now n =
      let change = times-actor old.actors sound.count actor known worker old.nodes n in
      let part = named_twice n in
      omega arith

  abbrev Accounted : ℕ → Type 0
  Accounted n = (counts new n ≡ times n (mentioned new.nodes new.actors)) × (IsSome (branches new n) ↔ (0 < counts new n)) × IfSome (branches new n) (λ (b : BranchData). ListsEach b.extents (held_by new.owners n)) × ((extent : ℕ) → branches new n ≡ None → has (held_by new.owners n) extent ≡ false)

  accounted_here : Accounted number
  accounted_here =
      let none = none_of (branches old number) (counts old number) none_yet (sound.extents.stands number) in
      let is = sound.extents.counts number in
      let more = mentions_now number in
      let one = times_itself number in
      let counted = count_here in
      let holds = branch_holds actor number old.owners (λ extent. sound.extents.not_held number extent none_yet) in
      let each : ListsEach content.extents (held_by new.owners number) = subst (λ (held : List Bool). ListsEach content.extents held) (sym holds) lists in (
        omega arith,
        ((λ some. omega arith), (λ some. subst (λ (o : Option BranchData). IsSome o) (sym here) refl)),
        subst (λ (o : Option BranchData). IfSome o (λ (b : BranchData). ListsEach b.extents (held_by new.owners number))) (sym here) each,
        λ extent nothing. absurd (no_some (branches new number) content nothing here),
      )

  accounted_there : (n : ℕ) → n ≢ number → Accounted n
  accounted_there n apart =
      let is = sound.extents.counts n in
      let more = mentions_now n in
      let none = apart_once n number apart in
      let counted = count_there n apart in
      let stands = sound.extents.stands n in
      let holds = others_hold actor number old.owners n apart in
      let each : IfSome (branches new n) (λ (b : BranchData). ListsEach b.extents (held_by old.owners n)) = subst (λ (o : Option BranchData). IfSome o (λ (b : BranchData). ListsEach b.extents (held_by old.owners n))) (sym (there n apart)) (sound.extents.held n) in (
        omega arith,
        subst (λ (o : Option BranchData). IsSome o ↔ (0 < counts new n)) (sym (there n apart)) (subst (λ (c : ℕ). IsSome (branches old n) ↔ (0 < c)) (sym counted) stands),
        subst (λ (held : List Bool). IfSome (branches new n) (λ (b : BranchData). ListsEach b.extents held)) (sym holds) each,
        λ extent nothing. subst (λ (held : List Bool). has held extent ≡ false) (sym holds) (sound.extents.not_held n extent (sym (there n apart) ∙ nothing)),
      )

  accounted : (n : ℕ) → Accounted n
  accounted n = elim (cases_eq n number) [
    | inl same ↦ subst (λ (m : ℕ). Accounted m) (sym same) accounted_here
    | inr apart ↦ accounted_there n apart
  ]

  accounts : AccountsForExtents (mentioned new.nodes new.actors) (counts new) (branches new) new.owners
  accounts = record {
    counts = λ n. (accounted n).0;
    stands = λ n. (accounted n).1;
    held = λ n. (accounted n).2;
    not_held = λ n extent. (accounted n).3 extent;
  }

  -- the actor's job goes on, with a draft
  goes_on : IsWorking new.nodes (branches new) new.owners new.tables.frozen new.counters.branches actor job true
  goes_on =
      let before = working old sound actor job has_job in
      record {
        number = before.number;
        source = before.source;
        unpublished = λ is. absurd (false≢true (sym is));
        draft = λ is. subst (λ (o : Option BranchData). IsSome o) (sym here) refl;
        nothing = λ is extent. none_granted actor number old.owners extent;
      }

  works_here : (j : Option Job) → j ≡ Some job → IsAtWork new.nodes (branches new) new.owners new.tables.frozen new.counters.branches actor j true
  works_here j is = subst (λ (o : Option Job). IsAtWork new.nodes (branches new) new.owners new.tables.frozen new.counters.branches actor o true) (sym is) goes_on

  works_there : (other : ℕ) (j : Option Job) (published : Bool) → other ≢ actor → (actor_in old.actors other).job ≡ j → IsAtWork old.nodes (branches old) old.owners old.tables.frozen old.counters.branches other j published → IsAtWork new.nodes (branches new) new.owners new.tables.frozen new.counters.branches other j published
  works_there other None published apart is work = work
  works_there other (Some j) published apart is work =
      let still = there (number_of j) (sound.apart other actor j job apart is has_job) in
      record {
        number = work.number;
        source = work.source;
        unpublished = λ no. still ∙ work.unpublished no;
        draft = λ yes. subst (λ (o : Option BranchData). IsSome o) (sym still) (work.draft yes);
        nothing = λ yes extent. subst (λ (granted : List Bool). has granted extent ≡ false) (sym (others_granted actor number old.owners other apart)) (work.nothing yes extent);
      }

  same_way : (d : Option Descent) → IsOnWay old.nodes old.grips old.counters.places actor (actor_in old.actors actor) d → IsOnWay old.nodes old.grips old.counters.places actor worker d
  same_way None way = way
  same_way (Some d) way = absurd (no_some (actor_in old.actors actor).job job way.no_job has_job)

  abbrev IsOne : ℕ → Actor → Type 0
  IsOne n a = n < ACTORS → IsActor new.nodes (branches new) new.owners new.grips new.tables.frozen new.counters.places new.counters.branches n a

  actors_stand : (n : ℕ) → IsOne n (actor_in new.actors n)
  actors_stand = each_actor old.actors sound.count actor known worker IsOne
      (λ below.
      let before = sound.actors actor known in
      record {
        told = before.told;
        knows_root = before.knows_root;
        descent = same_way (actor_in old.actors actor).descent before.descent;
        job = works_here (actor_in old.actors actor).job has_job;
      })
      (λ other apart below.
      let before = sound.actors other below in
      record {
        told = before.told;
        knows_root = before.knows_root;
        descent = before.descent;
        job = works_there other (actor_in old.actors other).job (actor_in old.actors other).published apart refl before.job;
      })

  same_job : (n : ℕ) → (actor_in new.actors n).job ≡ (actor_in old.actors n).job
  same_job = each_actor old.actors sound.count actor known worker (λ (n : ℕ) (a : Actor). a.job ≡ (actor_in old.actors n).job) refl (λ other apart. refl)

  jobs_differ : JobsDiffer new.actors
  jobs_differ a b j k apart is_j is_k = sound.apart a b j k apart (sym (same_job a) ∙ is_j) (sym (same_job b) ∙ is_k)

  all_picked : ArePicked new.tables.frozen new.actors
  all_picked i who f at by =
      let before = sound.picked i who f at by in
      (before.0, subst (λ (j : Option Job). Packs j f.number) (sym (same_job who)) before.1)

  all_runs : AreInRuns new.nodes new.actors
  all_runs n bundle who below stands owned =
      let before = sound.runs n bundle who below stands owned in
      (before.0, subst (λ (j : Option Job). IsInRun (node_at old.nodes n) bundle who j) (sym (same_job who)) before.1)

  given : (n : ℕ) → IsSome (branches new n) → n < new.counters.branches
  given n some = elim (cases_eq n number) [
    | inl same ↦ let below = (working old sound actor job has_job).number in omega arith
    | inr apart ↦ sound.bounds.numbers n (subst (λ (o : Option BranchData). IsSome o) (there n apart) some)
  ]

  bounded : AreBounded new.nodes (branches new) new.tables new.counters
  bounded = record {
    steps = sound.bounds.steps;
    places = sound.bounds.places;
    branches = sound.bounds.branches;
    memtables = sound.bounds.memtables;
    lists = sound.bounds.lists;
    generations = sound.bounds.generations;
    height = sound.bounds.height;
    numbers = given;
  }

  pub published_sound : IsSound new
  published_sound = record {
    shaped = sound.shaped;
    latches = sound.latches;
    latched = sound.latched;
    extents = accounts;
    memtables = sound.memtables;
    count = length-set old.actors actor worker ∙ sound.count;
    actors = actors_stand;
    apart = jobs_differ;
    picked = all_picked;
    runs = all_runs;
    ends = sound.ends;
    bounds = bounded;
  }

  table_here : table_in (branches new) number ≡ content.table
  table_here = ap table_or here

  table_there : (n : ℕ) → n ≢ number → table_in (branches new) n ≡ table_in (branches old) n
  table_there n apart = ap table_or (there n apart)

  -- what the trunk names is named
  trunk_named : (n : ℕ) → 0 < times n (named old.nodes) → 0 < times n (mentioned old.nodes old.actors)
  trunk_named n some = let all = times-append n (named old.nodes) (flat_map named_by old.actors) in omega arith

  -- and so are the inputs of a job
  inputs_named : (who : ℕ) (j : Job) → (actor_in old.actors who).job ≡ Some j → (n : ℕ) → 0 < times n (inputs_of (Some j)) → 0 < times n (mentioned old.nodes old.actors)
  inputs_named who j is n some =
      let below = known_of old sound who j is in
      let a = actor_in old.actors who in
      let one = times_one named_by n old.actors who idle (omega (arith, sound.count)) in
      let parts = times-append n (inputs_of a.job) (draft_of a.job a.published) in
      let all = times-append n (named old.nodes) (flat_map named_by old.actors) in
      let same = ap (λ (o : Option Job). times n (inputs_of o)) is in
      omega arith

  tables_agree : (n : ℕ) → 0 < times n (named old.nodes) → table_in (branches new) n ≡ table_in (branches old) n
  tables_agree n some = ap table_or (same_there n (trunk_named n some))

  same_inputs : (who n : ℕ) (run : Run) → (actor_in old.actors who).job ≡ Some (Merge n run) → map (table_in (branches new)) run.inputs ≡ map (table_in (branches old)) run.inputs
  same_inputs who n run is = same_map (table_in (branches new)) (table_in (branches old)) run.inputs (λ m some. ap table_or (same_there m (inputs_named who (Merge n run) is m some)))

  merged_still : (rule : Rule) (who n : ℕ) (run : Run) (table : Table) → (actor_in old.actors who).job ≡ Some (Merge n run) → IsMerged rule (map (table_in (branches old)) run.inputs) run.span run.bottom table → IsMerged rule (map (table_in (branches new)) run.inputs) run.span run.bottom table
  merged_still rule who n run table is had = subst (λ (tables : List Table). IsMerged rule tables run.span run.bottom table) (sym (same_inputs who n run is)) had

  asked : (rule : Rule) (j : Job) → (actor_in old.actors actor).job ≡ Some j → number_of j ≡ number → IsAskedFor rule (branches old) old.tables.frozen content.table j → HasTable rule (branches new) new.tables.frozen j
  asked rule (Pack n table) has is ask = λ i f at named. ap (λ (m : ℕ). table_in (branches new) m) is ∙ table_here ∙ ask i f at named
  asked rule (Merge n run) has is ask =
      let table = ap (λ (m : ℕ). table_in (branches new) m) is ∙ table_here in
      subst (λ (t : Table). IsMerged rule (map (table_in (branches new)) run.inputs) run.span run.bottom t) (sym table) (merged_still rule actor n run content.table has ask)

  draft_still : (rule : Rule) (other : ℕ) (j : Job) → other ≢ actor → (actor_in old.actors other).job ≡ Some j → HasTable rule (branches old) old.tables.frozen j → HasTable rule (branches new) new.tables.frozen j
  draft_still rule other (Pack n table) apart is had = λ i f at named. table_there n (sound.apart other actor (Pack n table) job apart is has_job) ∙ had i f at named
  draft_still rule other (Merge n run) apart is had =
      let table = table_there n (sound.apart other actor (Merge n run) job apart is has_job) in
      subst (λ (t : Table). IsMerged rule (map (table_in (branches new)) run.inputs) run.span run.bottom t) (sym table) (merged_still rule other n run (table_in (branches old) n) is had)

  drafts_kept : (rule : Rule) → AsksFor rule old actor content.table → AreDrafts rule old → AreDrafts rule new
  drafts_kept rule asks drafts n j =
      each_actor old.actors sound.count actor known worker
      (λ (m : ℕ) (a : Actor). a.job ≡ Some j → a.published ≡ true → HasTable rule (branches new) new.tables.frozen j)
      (λ is published. asked rule j is (ap number_of (same_Some j job (sym is ∙ has_job))) (asks j is))
      (λ other apart is published. draft_still rule other j apart is (drafts other j is published))
      n

  source_kept : (other : ℕ) (j : Job) → (actor_in old.actors other).job ≡ Some j → SeesSource old new j
  source_kept other (Pack n table) is = λ i f at named. (i, at)
  source_kept other (Merge n run) is = λ m among. same_there m (inputs_named other (Merge n run) is m (stands_in m run.inputs among.0 among.1 among.2))

  sees : (rule : Rule) (tells : Bool) (descent : Descent) → SeesNode rule tells old new descent
  sees rule tells descent = record {
    height = refl;
    pivots = refl;
    tables = same_live old.nodes (λ (n : ℕ). part_of descent.span (table_in (branches old) n)) (λ (n : ℕ). part_of descent.span (table_in (branches new) n)) (λ n some. ap (part_of descent.span) (tables_agree n some)) descent.node
        (pivot_at (node_at old.nodes descent.node).pivots (pivot_from (node_at old.nodes descent.node).pivots descent.span.from)).mark;
    rest = λ told key within. sub_agrees rule old.nodes (table_in (branches old)) (table_in (branches new)) tables_agree (node_at old.nodes descent.node).height descent.node key;
  }

  keeps : (node : ℕ) → KeepsNode old new node
  keeps node = record {
    pivots = refl;
    bundles = refl;
    split = same_split (branches old) (branches new) (node_at old.nodes node) (λ n some. same_there n (trunk_named n (let up = node_named n old.nodes node in omega arith)));
  }

  pub published_framed : (rule : Rule) (tells : Bool) → (tells ≡ true → AreDrafts rule old) → (tells ≡ true → AsksFor rule old actor content.table) → IsFramed rule tells old new actor
  published_framed rule tells drafts asks = record {
    drafts = λ told. drafts_kept rule (asks told) (drafts told);
    means = λ told key. ap (λ (cell : Cell). act_all rule key cell (chain (tables_of old.tables) key)) (sub_agrees rule old.nodes (table_in (branches old)) (table_in (branches new)) tables_agree (node_at old.nodes 0).height 0 key);
    others = λ other below apart. record {
      actor = other_actor old.actors sound.count actor known worker other apart;
      grips = λ node. refl;
      extents = others_granted actor number old.owners other apart;
      descent = λ descent is. sees rule tells descent;
      job = λ j is. source_kept other j is;
      written = λ node writes. keeps node;
    };
  }

pub job_with : (o : Option Job) (n : ℕ) → job_number o ≡ Some n → (j : Job) × (o ≡ Some j) × (number_of j ≡ n)
job_with None n is = absurd (no_some None n refl is)
job_with (Some j) n is = (j, refl, same_Some (number_of j) n is)

-- a branch that is set is set where branches are seen as plain data
pub sets_seen : {B : Type 0} (data_of : B → BranchData) (before now : Published B) (n : ℕ) (branch : B) → SetsAt before now n (Some (1, branch)) → SetsAt (all_seen data_of before) (all_seen data_of now) n (Some (1, data_of branch))
sets_seen {B = B} data_of before now n branch sets = record {
  this_number = held_seen data_of now n ∙ ap (λ (held : Option (ℕ × B)). option_map (seen data_of) held) sets.this_number;
  other_numbers = λ other apart. held_seen data_of now other ∙ ap (λ (held : Option (ℕ × B)). option_map (seen data_of) held) (sets.other_numbers other apart) ∙ sym (held_seen data_of before other);
}

-- the same, where the state is seen through its parts
module _ (whole : Whole) (sound : IsSound whole) (actor n : ℕ) (content : BranchData) (may : MayPublish whole actor n content.extents) (refs : Published BranchData) (pool : List Owner) (actors : List Actor) (sets : SetsAt whole.refs refs n (Some (1, content))) (pool_is : pool ≡ held_all whole.owners actor n) (actors_are : actors ≡ set whole.actors actor (with_draft (actor_in whole.actors actor))) where
  abbrev made : Whole
  made = record whole { refs = refs; owners = pool; actors = actors }

  with_number : (j : Job) × ((actor_in whole.actors actor).job ≡ Some j) × (number_of j ≡ n)
  with_number = job_with (actor_in whole.actors actor).job n may.numbered

  abbrev done : Whole
  done = record whole { refs = refs; owners = held_all whole.owners actor (number_of with_number.0); actors = set whole.actors actor (with_draft (actor_in whole.actors actor)) }

  made_is : made ≡ done
  made_is =
      ap (λ (o : List Owner). record whole { refs = refs; owners = o; actors = actors }) (pool_is ∙ ap (λ (m : ℕ). held_all whole.owners actor m) (sym with_number.2))
      ∙ ap (λ (a : List Actor). record whole { refs = refs; owners = held_all whole.owners actor (number_of with_number.0); actors = a }) actors_are

  sets_here : SetsAt whole.refs refs (number_of with_number.0) (Some (1, content))
  sets_here = subst (λ (m : ℕ). SetsAt whole.refs refs m (Some (1, content))) (sym with_number.2) sets

  pub publish_sound : IsSound made
  publish_sound = subst (λ (w : Whole). IsSound w) (sym made_is) (published_sound whole sound actor with_number.0 with_number.1 may.unpublished content may.granted refs sets_here)

  pub publish_framed : (old : Whole) → whole ≡ old → (rule : Rule) (tells : Bool) → (tells ≡ true → AreDrafts rule old) → (tells ≡ true → AsksFor rule old actor content.table) → IsFramed rule tells old made actor
  publish_framed old view_is rule tells drafts asks =
      let drafts_here : tells ≡ true → AreDrafts rule whole = λ told. subst (λ (w : Whole). AreDrafts rule w) (sym view_is) (drafts told) in
      let asks_here : tells ≡ true → AsksFor rule whole actor content.table = λ told. subst (λ (w : Whole). AsksFor rule w actor content.table) (sym view_is) (asks told) in
      let framed = published_framed whole sound actor with_number.0 with_number.1 may.unpublished content may.granted refs sets_here rule tells drafts_here asks_here in
      subst (λ (w : Whole). IsFramed rule tells w made actor) view_is (subst (λ (w : Whole). IsFramed rule tells whole w actor) (sym made_is) framed)

  pub publish_done : (old : Whole) → whole ≡ old → Publishes old made actor n content
  publish_done old view_is = subst (λ (w : Whole). Publishes w made actor n content) view_is (record {
    stands = sets;
    all = ap (λ (o : List Owner). record whole { refs = refs; owners = o; actors = actors }) pool_is
        ∙ ap (λ (a : List Actor). record whole { refs = refs; owners = held_all whole.owners actor n; actors = a }) actors_are;
  })

pub no_publish_framed : (whole old : Whole) (view_is : whole ≡ old) (refs : Published BranchData) (actor : ℕ) (rule : Rule) (tells : Bool) → (tells ≡ true → AreDrafts rule old) → refs ≡ whole.refs → IsFramed rule tells old (record whole { refs = refs }) actor
no_publish_framed whole old view_is refs actor rule tells drafts is =
    let framed = unchanged_framed rule tells old drafts actor in
    let here : IsFramed rule tells old whole actor = subst (λ (w : Whole). IsFramed rule tells old w actor) (sym view_is) framed in
    subst (λ (r : Published BranchData). IsFramed rule tells old (record whole { refs = r }) actor) (sym is) here

-- when an actor may publish, by the tests
pub may_if : (whole old : Whole) (view_is : whole ≡ old) (actor n : ℕ) (extents : List ℕ) (j : Job) → (actor_in whole.actors actor).job ≡ Some j → number_of j ≡ n → (actor_in whole.actors actor).published ≡ false → ListsEach extents (granted_to whole.owners actor) → MayPublish old actor n extents
may_if whole old view_is actor n extents j has is unpublished lists =
    subst (λ (w : Whole). MayPublish w actor n extents) view_is (record {
      numbered = ap job_number has ∙ ap (λ (m : ℕ). Some m) is;
      unpublished = unpublished;
      granted = lists;
    })

-- a branch stands at no number that is still to be published
pub none_held : {B : Type 0} (data_of : B → BranchData) (refs : Published B) (n : ℕ) → branch_at (all_seen data_of refs) n ≡ None → held_at refs n ≡ None
none_held {B = B} data_of refs n none = by (held_at refs n) (sym (ap (λ (held : Option (ℕ × BranchData)). option_map (λ h. h.1) held) (held_seen data_of refs n)) ∙ none)
  where
    by : (held : Option (ℕ × B)) → option_map (λ (h : ℕ × BranchData). h.1) (option_map (seen data_of) held) ≡ None → held ≡ None
    by None is = refl
    by (Some h) is = cc

-- nothing stands at the number of an unpublished job
pub is_new : (whole : Whole) → IsSound whole → (actor n : ℕ) (extents : List ℕ) → MayPublish whole actor n extents → branches whole n ≡ None
is_new whole sound actor n extents may =
    let j = job_with (actor_in whole.actors actor).job n may.numbered in
    subst (λ (m : ℕ). branches whole m ≡ None) j.2 ((working whole sound actor j.0 j.1).unpublished may.unpublished)

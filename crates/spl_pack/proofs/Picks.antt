-- A pick keeps the invariant, and what everybody relies on.
use Rattle.std.proofs.Common.{◌≡◌, ℕ, ◌+◌, ◌<◌, ◌≤◌, Bool, true, false, cond, List, [], ◌∷◌, ◌++◌, Option, Some, None, length, map, set, get_or, slice_get, refl, sym, ap, subst, ◌∙◌, inl, inr, arith}
use Rattle.std.specs.Prelude.{All, IsSome, IsNone, IfSome, is_none, is_some, ◌||◌, ◌↔◌}
use Rattle.std.proofs.lemmas.Bool.{cases_eq, cases_lt, false≢true}
use Rattle.std.proofs.lemmas.List.{length-set, get_or-set_same, get_or-set_other, get_or_default}
use Rattle.std.proofs.lemmas.List.Quantifiers.{position-Some}
use Rattle.std.proofs.lemmas.Option.{get_or_from_slice_get, slice_get-get_or, slice_get_within, same_Some}
use Rattle.std.proofs.Math.Seq.{map-set_same}
use Rattle.spl_base.specs.declared.TheConstants.{ACTORS}
use Rattle.spl_message.specs.Rule.{Rule}
use Rattle.spl_message.specs.Table.{Table, IsTable, key_count}
use Rattle.spl_tables.specs.Memtables.{FrozenData, MemtableData, AreMemtables, first_unpicked, frozen_at, taken_by, picked_by}
use Rattle.spl_node.specs.Node.{NodeData}
use Rattle.spl_trunk.specs.Trunk.{node_at}
use Rattle.spl_trunk.specs.Tree.{means, times}
use Rattle.spl_state.specs.declared.descent.Descent.{Descent}
use Rattle.spl_state.specs.declared.job.Job.{Job}
use Rattle.spl_state.specs.declared.job.Job.TheVariants.{Pack, Merge}
use Rattle.spl_state.specs.declared.actor.Actor.{Actor}
use Rattle.spl_state.specs.declared.counters.Counters.{Counters}
use Rattle.spl_state.specs.Actor.{actor_in, with_job}
use Rattle.spl_state.specs.Actors.{IsActor, IsOnWay, IsAtWork, JobsDiffer, Packs, ArePicked, HasTable}
use Rattle.spl_state.specs.Bounds.{AreBelow, AreBounded}
use Rattle.spl_state.specs.Extents.{number_of, named_by, mentioned, AccountsForExtents}
use Rattle.spl_state.specs.Frame.{IsFramed}
use Rattle.spl_state.specs.Runs.{IsInRun}
use Rattle.spl_state.specs.Sight.{SeesSource}
use Rattle.spl_state.specs.Sound.{IsSound, AreDrafts}
use Rattle.spl_state.specs.Whole.{BranchData, Whole, branches, counts, table_in}
use Rattle.spl_state.specs.declared.reply.Reply.{Reply}
use Rattle.spl_state.specs.declared.reply.Reply.TheVariants as reply
use Rattle.spl_state.specs.Reply.{state_of}
use Rattle.spl_state.proofs.Frames.{unchanged_framed}
use Rattle.spl_tables.specs.declared.frozen_table.Picked.{Picked}
use Rattle.spl_tables.specs.Picked.{IsOf}
use Rattle.spl_pack.specs.Picking.{is_busy, pick_of, pick_answer, picked_at}
use Rattle.spl_state.proofs.Replaced.{one_number, slice_get_at, slice_get_off, other_actor, this_actor, each_actor, times-actor, runs_kept, job_of, working}

no_descent : (a : Actor) → is_busy a ≡ false → a.descent ≡ None
no_descent a none = by a.descent none
  where
    by : (d : Option Descent) → is_busy (record a { descent = d }) ≡ false → d ≡ None
    by None none = refl
    by (Some d) none = absurd (false≢true (sym none))

no_job : (a : Actor) → is_busy a ≡ false → a.job ≡ None
no_job a none = by a.descent a.job none
  where
    by : (d : Option Descent) (j : Option Job) → is_busy (record a { descent = d; job = j }) ≡ false → j ≡ None
    by d None none = refl
    by None (Some j) none = absurd (false≢true (sym none))
    by (Some d) (Some j) none = absurd (false≢true (sym none))

is_unpicked : (picked : Option ℕ) → is_none picked ≡ true → picked ≡ None
is_unpicked None is = refl
is_unpicked (Some by) is = absurd (false≢true is)

-- an actor that is not on its way reads nothing, whatever else it has
same_way : (nodes : _) (grips : _) (places number : ℕ) (a b : Actor) (d : Option Descent) → d ≡ None → IsOnWay nodes grips places number a d → IsOnWay nodes grips places number b d
same_way nodes grips places number a b None none way = way
same_way nodes grips places number a b (Some d) none way = cc

no_branch : (branch : ℕ → Option BranchData) (next : ℕ) → ((number : ℕ) → IsSome (branch number) → number < next) → branch next ≡ None
no_branch branch next below = by (branch next) refl
  where
    by : (found : Option BranchData) → branch next ≡ found → found ≡ None
    by None is = refl
    by (Some b) is = absurd (omega (arith, below next (subst (λ (o : Option BranchData). IsSome o) (sym is) refl)))

module _ (frozen : List FrozenData) (position actor : ℕ) (first : first_unpicked frozen ≡ Some position) where
  abbrev one : FrozenData
  one = frozen_at frozen position

  abbrev after : List FrozenData
  after = set frozen position (taken_by actor one)

  pub stands_there : position < length frozen
  stands_there = (position-Some (λ (f : FrozenData). is_none f.picked) frozen position (frozen_at [] 0) first).0

  was_there : slice_get frozen position ≡ Some one
  was_there = slice_get-get_or frozen position (frozen_at [] 0) stands_there

  nobody_had : one.picked ≡ None
  nobody_had = is_unpicked one.picked (position-Some (λ (f : FrozenData). is_none f.picked) frozen position (frozen_at [] 0) first).1

  is_there : slice_get after position ≡ Some (taken_by actor one)
  is_there = slice_get_at frozen position one (taken_by actor one) was_there

  -- what does not ask who picked a memtable stays
  module _ {X : Type 0} (f : FrozenData → X) (same : f (taken_by actor one) ≡ f one) where
    stays : (i : ℕ) (d : FrozenData) → f (get_or after i d) ≡ f (get_or frozen i d)
    stays i d = elim (cases_eq i position) [
      | inl here ↦ subst (λ (n : ℕ). f (get_or after n d) ≡ f (get_or frozen n d)) (sym here)
          (ap f (get_or-set_same frozen position (taken_by actor one) d stands_there) ∙ same ∙ ap f (get_or_default frozen position (frozen_at [] 0) d stands_there))
      | inr there ↦ ap f (get_or-set_other frozen position i (taken_by actor one) d there)
    ]

    all_stay : map f after ≡ map f frozen
    all_stay = map-set_same f frozen position (taken_by actor one) (frozen_at [] 0) same

  still_all : (P : FrozenData → Type 0) → (P one → P (taken_by actor one)) → All P frozen → All P after
  still_all P here all i d within =
      let inside : i < length frozen = subst (λ (n : ℕ). i < n) (length-set frozen position (taken_by actor one)) within in
      elim (cases_eq i position) [
        | inl same ↦ subst (λ (f : FrozenData). P f) (sym (ap (λ (n : ℕ). get_or after n d) same ∙ get_or-set_same frozen position (taken_by actor one) d stands_there)) (here (all position (frozen_at [] 0) stands_there))
        | inr there ↦ subst (λ (f : FrozenData). P f) (sym (get_or-set_other frozen position i (taken_by actor one) d there)) (all i d inside)
      ]

  pub still_memtables : (tables : MemtableData) → tables.frozen ≡ frozen → AreMemtables tables → AreMemtables (record tables { frozen = after })
  still_memtables tables is are =
      let before = subst (λ (f : List FrozenData). AreMemtables (record tables { frozen = f })) is are in
      record {
        few = subst (λ (n : ℕ). n ≤ 4) (sym (length-set frozen position (taken_by actor one))) before.few;
        rising = λ i j d order within.
            let inside : j < length frozen = subst (λ (n : ℕ). j < n) (length-set frozen position (taken_by actor one)) within in
            let number : FrozenData → ℕ = λ f. f.number in
            let at_i = stays number refl i d in
            let at_j = stays number refl j d in
            let below = before.rising i j d order inside in
            omega arith;
        below_next = still_all (λ (f : FrozenData). f.number < tables.next) (λ below. below) before.below_next;
        full = still_all (λ (f : FrozenData). key_count f.table ≡ 1024) (λ is_full. is_full) before.full;
        in_order = still_all (λ (f : FrozenData). IsTable f.table) (λ ordered. ordered) before.in_order;
        active_limit = before.active_limit;
        active_in_order = before.active_in_order;
      }

  -- a memtable that somebody had picked stands where it stood
  had_stays : (i by : ℕ) (f : FrozenData) → f.picked ≡ Some by → slice_get frozen i ≡ Some f → slice_get after i ≡ Some f
  had_stays i by f picked at = elim (cases_eq i position) [
    | inl here ↦ absurd (had_none (ap (λ (g : FrozenData). g.picked) (same_Some f one (sym at ∙ ap (slice_get frozen) here ∙ was_there))))
    | inr there ↦ slice_get_off frozen position i (taken_by actor one) there ∙ at
  ]
    where
      had_none : f.picked ≡ one.picked → ⊥
      had_none is = cc (is, nobody_had, picked)

  -- and each that stands now is the one that was picked, or was there
  there_before : (i : ℕ) (f : FrozenData) → slice_get after i ≡ Some f → (k : ℕ) × (g : FrozenData) × (slice_get frozen k ≡ Some g) × (g.number ≡ f.number) × (g.table ≡ f.table)
  there_before i f at = elim (cases_eq i position) [
    | inl here ↦
        let is = same_Some (taken_by actor one) f (sym is_there ∙ ap (slice_get after) (sym here) ∙ at) in
        (position, one, was_there, ap (λ (g : FrozenData). g.number) is, ap (λ (g : FrozenData). g.table) is)
    | inr there ↦ (i, f, sym (slice_get_off frozen position i (taken_by actor one) there) ∙ at, refl, refl)
  ]

module _ (old : Whole) (sound : IsSound old) (actor position : ℕ) (known : actor < ACTORS) (is_idle : is_busy (actor_in old.actors actor) ≡ false) (first : first_unpicked old.tables.frozen ≡ Some position) where
  abbrev new : Whole
  new = picked_at old actor position

  abbrev taken : FrozenData
  taken = frozen_at old.tables.frozen position

  abbrev job : Job
  job = Pack old.counters.branches taken.number

  abbrev worker : Actor
  worker = with_job (actor_in old.actors actor) (Some job)

  none_yet : (actor_in old.actors actor).job ≡ None
  none_yet = no_job (actor_in old.actors actor) is_idle

  -- all that is named is named as often
  same_named : (n : ℕ) → times n (mentioned new.nodes new.actors) ≡ times n (mentioned old.nodes old.actors)
  same_named n =
      let change = times-actor old.actors sound.count actor known worker old.nodes n in
      let nothing : times n (named_by (actor_in old.actors actor)) ≡ 0 = by (actor_in old.actors actor).job (actor_in old.actors actor).published none_yet in
      omega arith
    where
      by : (j : Option Job) (published : Bool) → j ≡ None → times n (named_by (record worker { job = j; published = published })) ≡ 0
      by None published none = refl
      by (Some j) published none = cc

  accounts : AccountsForExtents (mentioned new.nodes new.actors) (counts new) (branches new) new.owners
  accounts = record {
    counts = λ number. sound.extents.counts number ∙ sym (same_named number);
    stands = sound.extents.stands;
    held = sound.extents.held;
    not_held = sound.extents.not_held;
  }

  work_goes_on : (number : ℕ) (j : Option Job) (published : Bool) → IsAtWork old.nodes (branches old) old.owners old.tables.frozen old.counters.branches number j published → IsAtWork new.nodes (branches new) new.owners new.tables.frozen new.counters.branches number j published
  work_goes_on number None published work = work
  work_goes_on number (Some (Merge n run)) published work = record {
    number = omega (arith, work.number);
    source = work.source;
    unpublished = work.unpublished;
    draft = work.draft;
    nothing = work.nothing;
  }
  work_goes_on number (Some (Pack n table)) published work = record {
    number = omega (arith, work.number);
    source = (work.source.0, work.source.1, had_stays old.tables.frozen position actor first work.source.0 number (record { number = table; table = work.source.1; picked = Some number }) refl work.source.2);
    unpublished = work.unpublished;
    draft = work.draft;
    nothing = work.nothing;
  }

  begins : IsAtWork new.nodes (branches new) new.owners new.tables.frozen new.counters.branches actor (Some job) false
  begins = record {
    number = omega arith;
    source = (position, taken.table, is_there old.tables.frozen position actor first);
    unpublished = λ is. no_branch (branches old) old.counters.branches sound.bounds.numbers;
    draft = λ is. absurd (false≢true is);
    nothing = λ is extent. absurd (false≢true is);
  }

  abbrev IsOne : ℕ → Actor → Type 0
  IsOne number a = number < ACTORS → IsActor new.nodes (branches new) new.owners new.grips new.tables.frozen new.counters.places new.counters.branches number a

  actors_stand : (number : ℕ) → IsOne number (actor_in new.actors number)
  actors_stand = each_actor old.actors sound.count actor known worker IsOne
      (λ below.
      let before = sound.actors actor known in
      record {
        told = before.told;
        knows_root = before.knows_root;
        descent = same_way old.nodes old.grips old.counters.places actor (actor_in old.actors actor) worker (actor_in old.actors actor).descent (no_descent (actor_in old.actors actor) is_idle) before.descent;
        job = begins;
      })
      (λ other apart below.
      let before = sound.actors other below in
      record {
        told = before.told;
        knows_root = before.knows_root;
        descent = before.descent;
        job = work_goes_on other (actor_in old.actors other).job (actor_in old.actors other).published before.job;
      })

  no_run : (node : NodeData) (number : ℕ) → IsInRun node number actor (actor_in old.actors actor).job → ⊥
  no_run node number has = subst (λ (j : Option Job). IsInRun node number actor j) none_yet has

  jobs_differ : JobsDiffer new.actors
  jobs_differ a b j k apart is_j is_k same =
      elim (job_of old.actors sound.count actor known worker j a is_j) [
        | inl one ↦
            let first_number = ap number_of (same_Some job j one.1) in
            elim (job_of old.actors sound.count actor known worker k b is_k) [
              | inl two ↦ absurd (apart (one.0 ∙ sym two.0))
              | inr two ↦ let below = (working old sound b k two.1).number in absurd (omega arith)
            ]
        | inr one ↦
            elim (job_of old.actors sound.count actor known worker k b is_k) [
              | inl two ↦
                  let second_number = ap number_of (same_Some job k two.1) in
                  let below = (working old sound a j one.1).number in
                  absurd (omega arith)
              | inr two ↦ absurd (sound.apart a b j k apart one.1 two.1 same)
            ]
      ]

  all_picked : ArePicked new.tables.frozen new.actors
  all_picked i who f at by = elim (cases_eq i position) [
    | inl here ↦
        let is = same_Some (taken_by actor taken) f (sym (is_there old.tables.frozen position actor first) ∙ ap (slice_get new.tables.frozen) (sym here) ∙ at) in
        let me = same_Some actor who (ap (λ (g : FrozenData). g.picked) is ∙ by) in
        let packs : Packs worker.job f.number = ap (λ (g : FrozenData). g.number) is in
        let mine : Packs (actor_in new.actors actor).job f.number = subst (λ (a : Actor). Packs a.job f.number) (sym (this_actor old.actors sound.count actor known worker)) packs in
        (subst (λ (n : ℕ). n < ACTORS) me known, subst (λ (n : ℕ). Packs (actor_in new.actors n).job f.number) me mine)
    | inr there ↦
        let before = sound.picked i who f (sym (slice_get_off old.tables.frozen position i (taken_by actor taken) there) ∙ at) by in (
          before.0,
          elim (cases_eq who actor) [
            | inl same ↦ absurd (subst (λ (j : Option Job). Packs j f.number) (ap (λ (n : ℕ). (actor_in old.actors n).job) same ∙ none_yet) before.1)
            | inr apart ↦ subst (λ (a : Actor). Packs a.job f.number) (sym (other_actor old.actors sound.count actor known worker who apart)) before.1
          ],
        )
  ]

  bounded : AreBelow old.nodes old.tables old.counters → AreBounded new.nodes (branches new) new.tables new.counters
  bounded fresh = record {
    steps = sound.bounds.steps;
    places = sound.bounds.places;
    branches = omega (arith, fresh.branches);
    memtables = sound.bounds.memtables;
    lists = sound.bounds.lists;
    generations = sound.bounds.generations;
    height = sound.bounds.height;
    numbers = λ number some. let below = sound.bounds.numbers number some in omega arith;
  }

  pub picked_sound : AreBelow old.nodes old.tables old.counters → IsSound new
  picked_sound fresh = record {
    shaped = sound.shaped;
    latches = sound.latches;
    latched = sound.latched;
    extents = accounts;
    memtables = still_memtables old.tables.frozen position actor first old.tables refl sound.memtables;
    count = length-set old.actors actor worker ∙ sound.count;
    actors = actors_stand;
    apart = jobs_differ;
    picked = all_picked;
    runs = runs_kept old.actors sound.count actor known worker old.nodes no_run sound.runs;
    ends = sound.ends;
    bounds = bounded fresh;
  }

  table_kept : (rule : Rule) (j : Job) → HasTable rule (branches old) old.tables.frozen j → HasTable rule (branches new) new.tables.frozen j
  table_kept rule (Merge number run) had = had
  table_kept rule (Pack number table) had = λ i f at is.
      let before = there_before old.tables.frozen position actor first i f at in
      had before.0 before.1 before.2 (before.3 ∙ is) ∙ before.4

  drafts_kept : (rule : Rule) → AreDrafts rule old → AreDrafts rule new
  drafts_kept rule drafts number j =
      each_actor old.actors sound.count actor known worker
      (λ (n : ℕ) (a : Actor). a.job ≡ Some j → a.published ≡ true → HasTable rule (branches new) new.tables.frozen j)
      (λ is published. absurd (false≢true published))
      (λ other apart is published. table_kept rule j (drafts other j is published))
      number

  source_kept : (other : ℕ) (j : Job) → (actor_in old.actors other).job ≡ Some j → SeesSource old new j
  source_kept other (Merge number run) is = λ n among. refl
  source_kept other (Pack number table) is = λ i f at named.
      let source = (working old sound other (Pack number table) is).source in
      let g : FrozenData = record { number = table; table = source.1; picked = Some other } in
      let here = one_number old.tables sound.memtables i source.0 f g at source.2 named in
      let equal = same_Some f g (sym at ∙ ap (slice_get old.tables.frozen) here ∙ source.2) in
      (i, had_stays old.tables.frozen position actor first i other f (ap (λ (h : FrozenData). h.picked) equal) at)

  pub picked_framed : (rule : Rule) (tells : Bool) → (tells ≡ true → AreDrafts rule old) → IsFramed rule tells old new actor
  picked_framed rule tells drafts = record {
    drafts = λ told. drafts_kept rule (drafts told);
    means = λ told key. ap (λ (tables : List Table). means rule (table_in (branches old)) (node_at old.nodes) (tables ++ old.tables.active ∷ []) key) (all_stay old.tables.frozen position actor first (λ (f : FrozenData). f.table) refl);
    others = λ other below apart. record {
      actor = other_actor old.actors sound.count actor known worker other apart;
      grips = λ node. refl;
      extents = refl;
      descent = λ descent is. record { height = refl; pivots = refl; tables = refl; rest = λ told key within. refl };
      job = λ j is. source_kept other j is;
      written = λ node writes. record { pivots = refl; bundles = refl; split = refl };
    };
  }

-- what a pick gives, where it gives something
pub record Taken (before now : MemtableData) (actor : ℕ) (picked : Picked) : Type 0 where
  pub position : ℕ
  pub first : first_unpicked before.frozen ≡ Some position
  pub tables : now ≡ picked_by before position actor
  pub given : IsOf picked (frozen_at before.frozen position)

pub taken_of : (before now : MemtableData) (actor : ℕ) (found : Option Picked) (picked : Picked) → found ≡ Some picked → IsNone found ↔ IsNone (first_unpicked before.frozen)
    → ((position : ℕ) → first_unpicked before.frozen ≡ Some position → now ≡ picked_by before position actor)
    → ((position : ℕ) → first_unpicked before.frozen ≡ Some position → IfSome found (λ (it : Picked). IsOf it (frozen_at before.frozen position))) → Taken before now actor picked
taken_of before now actor found picked is none tables given = by (first_unpicked before.frozen) refl
  where
    by : (o : Option ℕ) → first_unpicked before.frozen ≡ o → Taken before now actor picked
    by None first = absurd (false≢true (sym (none.1 (ap (λ (o : Option ℕ). is_some o) first)) ∙ ap (λ (o : Option Picked). is_some o) is))
    by (Some position) first = record {
      position = position;
      first = first;
      tables = tables position first;
      given = subst (λ (o : Option Picked). IfSome o (λ (it : Picked). IsOf it (frozen_at before.frozen position))) is (given position first);
    }

pub idle_of : (a : Actor) → is_some a.descent ≡ false → is_some a.job ≡ false → is_busy a ≡ false
idle_of a no_way no_work = ap (λ (b : Bool). b || is_some a.job) no_way ∙ no_work

-- the same, where the state is seen through its parts
module _ (whole : Whole) (sound : IsSound whole) (actor : ℕ) (known : actor < ACTORS) (is_idle : is_busy (actor_in whole.actors actor) ≡ false) (tables : MemtableData) (actors : List Actor) (picked : Picked) (taken : Taken whole.tables tables actor picked) (actors_are : actors ≡ set whole.actors actor (with_job (actor_in whole.actors actor) (Some (Pack whole.counters.branches picked.number)))) where
  abbrev given_out : Counters
  given_out = record whole.counters { branches = whole.counters.branches + 1 }

  abbrev made : Whole
  made = record whole { tables = tables; actors = actors; counters = given_out }

  made_is : made ≡ picked_at whole actor taken.position
  made_is =
      let job_is = ap (λ (n : ℕ). set whole.actors actor (with_job (actor_in whole.actors actor) (Some (Pack whole.counters.branches n)))) taken.given.number in
      ap (λ (t : MemtableData). record whole { tables = t; actors = actors; counters = given_out }) taken.tables
      ∙ ap (λ (a : List Actor). record whole { tables = picked_by whole.tables taken.position actor; actors = a; counters = given_out }) (actors_are ∙ job_is)

  pub pick_sound : AreBelow whole.nodes whole.tables whole.counters → IsSound made
  pick_sound fresh = subst (λ (w : Whole). IsSound w) (sym made_is) (picked_sound whole sound actor taken.position known is_idle taken.first fresh)

  module _ (old : Whole) (view_is : whole ≡ old) where
    pub pick_framed : (rule : Rule) (tells : Bool) → (tells ≡ true → AreDrafts rule old) → IsFramed rule tells old made actor
    pick_framed rule tells drafts =
        let drafts_here : tells ≡ true → AreDrafts rule whole = λ told. subst (λ (w : Whole). AreDrafts rule w) (sym view_is) (drafts told) in
        let framed = picked_framed whole sound actor taken.position known is_idle taken.first rule tells drafts_here in
        subst (λ (w : Whole). IsFramed rule tells w made actor) view_is (subst (λ (w : Whole). IsFramed rule tells whole w actor) (sym made_is) framed)

    pub pick_done : (position : ℕ) → first_unpicked old.tables.frozen ≡ Some position → made ≡ picked_at old actor position
    pick_done position first =
        let here = same_Some taken.position position (sym taken.first ∙ ap (λ (w : Whole). first_unpicked w.tables.frozen) view_is ∙ first) in
        made_is ∙ ap (λ (w : Whole). picked_at w actor taken.position) view_is ∙ ap (λ (n : ℕ). picked_at old actor n) here

    module _ {B : Type 0} where
      abbrev picked_or : Bool → Reply B
      picked_or b = cond b (reply.Unfit (state_of whole actor)) (pick_of whole (first_unpicked whole.tables.frozen))

      abbrev gives : Table → Reply B
      gives table = reply.Picked whole.counters.branches table

      abbrev answered : Whole → Reply B
      answered w = pick_answer w actor

      answer : answered whole ≡ gives (frozen_at whole.tables.frozen taken.position).table
      answer = ap picked_or is_idle ∙ ap (λ (o : Option ℕ). pick_of whole o) taken.first

      pub pick_answers : gives picked.table ≡ answered old
      pick_answers = ap gives taken.given.table ∙ sym answer ∙ ap answered view_is

pub no_pick_framed : (whole old : Whole) (view_is : whole ≡ old) (tables : MemtableData) (actor : ℕ) (rule : Rule) (tells : Bool) → (tells ≡ true → AreDrafts rule old) → tables ≡ whole.tables → IsFramed rule tells old (record whole { tables = tables }) actor
no_pick_framed whole old view_is tables actor rule tells drafts is =
    let framed = unchanged_framed rule tells old drafts actor in
    let here : IsFramed rule tells old whole actor = subst (λ (w : Whole). IsFramed rule tells old w actor) (sym view_is) framed in
    subst (λ (t : MemtableData). IsFramed rule tells old (record whole { tables = t }) actor) (sym is) here

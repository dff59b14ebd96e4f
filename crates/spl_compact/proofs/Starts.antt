-- The begin of a merge keeps the invariant, and what everybody relies on.
use Rattle.std.proofs.Common.{◌≡◌, ◌≢◌, ℕ, zero, suc, ◌+◌, ◌-◌, ◌<◌, ◌≤◌, max, Bool, true, false, cond, nat_lt, List, [], ◌∷◌, Option, Some, None, map, flat_map, length, drop, get_or, refl, sym, ap, subst, ◌∙◌, inl, inr, arith}
use Rattle.std.specs.Prelude.{All, IsSome, IfSome, ◌↔◌, ◌&&◌, ◌⊎◌, not, nat_eq, find}
use Rattle.std.specs.Option.{option_or}
use Rattle.std.proofs.lemmas.Bool.{cases_eq, cases_lt, false≢true, eqb-true}
use Rattle.std.proofs.lemmas.List.{length-set, get_or-take, get_or-drop}
use Rattle.std.proofs.lemmas.List.Elements.{All-set, All-get_or, All-from_get_or}
use Rattle.std.proofs.lemmas.Option.{same_Some}
use Rattle.spl_base.specs.declared.TheConstants.{ACTORS}
use Rattle.spl_message.specs.Cell.{Cell}
use Rattle.spl_message.specs.Message.{act_all}
use Rattle.spl_message.specs.Rule.{Rule}
use Rattle.spl_message.specs.Table.{Table, chain, part_of, IsMerged}
use Rattle.spl_message.specs.declared.span.Span.{Span}
use Rattle.spl_numbers.specs.Numbers.{has, ListsEach}
use Rattle.spl_bundle.specs.Numbered.{Numbered, Bundle, unmarked, bundle_at, next_of, live, marked}
use Rattle.spl_bundle.proofs.Changes.{live-marked, names-marked}
use Rattle.spl_node.specs.declared.pivot.Pivot.{Pivot}
use Rattle.spl_node.specs.Node.{NodeData, bare, pivot_at}
use Rattle.spl_node.specs.Parts.{branches_from}
use Rattle.spl_node.specs.Steps.{fresh, with_lists}
use Rattle.spl_refs.specs.Refs.{Published, branch_at, count_at}
use Rattle.spl_trunk.specs.Trunk.{node_at}
use Rattle.spl_trunk.specs.Tree.{sub, times, named, IsShaped, pivot_of, child_for, live_tables}
use Rattle.spl_trunk.proofs.Counts.{times-append}
use Rattle.spl_tables.specs.Memtables.{tables_of}
use Rattle.spl_state.specs.declared.actor.Actor.{Actor}
use Rattle.spl_state.specs.declared.descent.Descent.{Descent}
use Rattle.spl_state.specs.declared.job.Job.{Job}
use Rattle.spl_state.specs.declared.job.Job.TheVariants.{Pack, Merge}
use Rattle.spl_state.specs.declared.job.Run.{Run}
use Rattle.spl_state.specs.Actor.{actor_in, with_job, told_of}
use Rattle.spl_state.specs.Actors.{IsActor, IsOnWay, IsAtWork, IsOf, LiesUnder, JobsDiffer, Packs, ArePicked, HasTable, pivot_from}
use Rattle.spl_state.specs.Bounds.{AreBelow, AreBounded, HasEnds, HasAllEnds}
use Rattle.spl_state.specs.Extents.{number_of, named_by, mentioned, held_by, AccountsForExtents}
use Rattle.spl_state.specs.Frame.{IsFramed}
use Rattle.spl_state.specs.Runs.{Stands, HoldsRun, IsInRun, AreInRuns}
use Rattle.spl_state.specs.Sight.{KeepsNode, SeesNode, SeesSource, split_key, split_key_at}
use Rattle.spl_state.specs.Sound.{IsSound, AreDrafts}
use Rattle.spl_state.specs.Whole.{BranchData, Whole, branches, counts, table_in, table_or}
use Rattle.spl_state.proofs.Named.{node_named, same_map, same_split}
use Rattle.spl_state.proofs.Replaced.{each_actor, job_of, other_actor, this_actor, times-actor, working}
use Rattle.spl_compact.specs.Starting.{Starts, is_busy, is_bottom, crosses, first_owner, run_below, run_at, started_with}
use Rattle.spl_compact.proofs.Inputs.{times_run}
use Rattle.spl_compact.proofs.Marked.{lists-marked, next-marked, branches-marked, bundle_inside, bundle_before, bundle_behind, same_length, starts_full, all_alike, split_alike}
use Rattle.spl_compact.proofs.OneNode.{long, each_node, same_part, named_now}

pub no_descent : (a : Actor) → is_busy a ≡ false → a.descent ≡ None
no_descent a none = by a.descent a.job none
  where
    by : (d : Option Descent) (j : Option Job) → is_busy (record a { descent = d; job = j }) ≡ false → d ≡ None
    by None j none = refl
    by (Some d) j none = absurd (false≢true (sym none))

pub no_job : (a : Actor) → is_busy a ≡ false → a.job ≡ None
no_job a none = by a.descent a.job none
  where
    by : (d : Option Descent) (j : Option Job) → is_busy (record a { descent = d; job = j }) ≡ false → j ≡ None
    by d None none = refl
    by None (Some j) none = absurd (false≢true (sym none))
    by (Some d) (Some j) none = absurd (false≢true (sym none))

-- an actor that is not on its way reads nothing, whatever else it has
same_way : (nodes : _) (grips : _) (places number : ℕ) (a b : Actor) (d : Option Descent) → d ≡ None → IsOnWay nodes grips places number a d → IsOnWay nodes grips places number b d
same_way nodes grips places number a b None none way = way
same_way nodes grips places number a b (Some d) none way = cc

no_branch : (branch : ℕ → Option BranchData) (next : ℕ) → ((number : ℕ) → IsSome (branch number) → number < next) → branch next ≡ None
no_branch branch next below = by (branch next) refl
  where
    by : (found : Option BranchData) → branch next ≡ found → found ≡ None
    by None is = refl
    by (Some b) is = absurd (omega (arith, below next (subst (λ (o : Option BranchData). IsSome o) (sym is) refl)))

no_owner : (who : ℕ) → None ≡ Some who → ⊥
no_owner who is = cc

-- where no bundle has a mark, none has one
none_owned : (bundles : List Bundle) (i : ℕ) → first_owner bundles ≡ None → (get_or bundles i (unmarked [])).owner ≡ None
none_owned [] i none = refl
none_owned (bundle ∷ bundles) i none = by bundle.owner refl i (λ k rest. none_owned bundles k rest)
  where
    by : (owner : Option ℕ) → bundle.owner ≡ owner → (k : ℕ) → ((m : ℕ) → first_owner bundles ≡ None → (get_or bundles m (unmarked [])).owner ≡ None) → (get_or (bundle ∷ bundles) k (unmarked [])).owner ≡ None
    by (Some who) is k later = absurd (no_owner who (sym none ∙ ap (λ (o : Option ℕ). option_or o (first_owner bundles)) is))
    by None is zero later = is
    by None is (suc k) later = later k (sym (ap (λ (o : Option ℕ). option_or o (first_owner bundles)) is) ∙ none)

pub none_marked : (queue : Numbered) (first last number : ℕ) → queue.first ≤ first → last < next_of queue → first ≤ number → number ≤ last → first_owner (run_below queue first (last + 1)) ≡ None → (bundle_at queue number).owner ≡ None
none_marked queue first last number stands made from to none =
    let i = number - first in
    let count = last + 1 - first in
    ap (λ (b : Bundle). b.owner) (sym (
    get_or-take count (drop (first - queue.first) queue.bundles) i (unmarked []) (omega arith)
    ∙ get_or-drop (first - queue.first) queue.bundles i (unmarked [])
    ∙ ap (λ (k : ℕ). get_or queue.bundles k (unmarked [])) (let e : first - queue.first + i ≡ number - queue.first = omega arith in e)))
    ∙ none_owned (run_below queue first (last + 1)) i none

-- where no pivot crosses the run, it is live as a whole, or not at all
uncut_at : (first last oldest mark : ℕ) → (nat_lt first mark && not (nat_lt last mark)) ≡ false → (mark ≤ max first oldest) ⊎ (last < mark)
uncut_at first last oldest mark none = elim (cases_lt first mark) [
  | inr low ↦ inl (omega arith)
  | inl above ↦ elim (cases_lt last mark) [
    | inl past ↦ inr past
    | inr inside ↦ absurd (crossing above inside)
  ]
]
  where
    crossing : first < mark → mark ≤ last → ⊥
    crossing above inside = by (nat_lt first mark) (nat_lt last mark) refl refl none
      where
        by : (a b : Bool) → nat_lt first mark ≡ a → nat_lt last mark ≡ b → (a && not b) ≡ false → ⊥
        by true true is_a is_b e = grind (arith)
        by true false is_a is_b e = false≢true (sym e)
        by false b is_a is_b e = grind (arith)

no_pivot : (pivot : Pivot) → Some pivot ≡ None → ⊥
no_pivot pivot is = cc

none_found : (first last : ℕ) (pivots : List Pivot) (i : ℕ) → i < length pivots → find (crosses first last) pivots ≡ None → crosses first last (get_or pivots i bare) ≡ false
none_found first last [] i within nothing = absurd (omega arith)
none_found first last (pivot ∷ pivots) i within nothing = by (crosses first last pivot) refl i within (λ k below rest. none_found first last pivots k below rest)
  where
    by : (b : Bool) → crosses first last pivot ≡ b → (k : ℕ) → k < length (pivot ∷ pivots) → ((m : ℕ) → m < length pivots → find (crosses first last) pivots ≡ None → crosses first last (get_or pivots m bare) ≡ false) → crosses first last (get_or (pivot ∷ pivots) k bare) ≡ false
    by true is k below later = absurd (no_pivot pivot (sym (ap (λ (c : Bool). cond c (Some pivot) (find (crosses first last) pivots)) is) ∙ nothing))
    by false is zero below later = is
    by false is (suc k) below later = later k (omega arith) (sym (ap (λ (c : Bool). cond c (Some pivot) (find (crosses first last) pivots)) is) ∙ nothing)

pub uncut_all : (first last oldest : ℕ) (pivots : List Pivot) → find (crosses first last) pivots ≡ None → All (λ (pivot : Pivot). (pivot.mark ≤ max first oldest) ⊎ (last < pivot.mark)) pivots
uncut_all first last oldest pivots none = All-from_get_or (λ (pivot : Pivot). (pivot.mark ≤ max first oldest) ⊎ (last < pivot.mark)) pivots bare (λ i within. uncut_at first last oldest (get_or pivots i bare).mark (none_found first last pivots i within none))

-- what both tests of the bottom say
pub bottom_is : (node : NodeData) (first : ℕ) → is_bottom node first ≡ true → (node.height ≡ 0) × (first ≡ node.lists.first)
bottom_is node first is = by (nat_eq node.height 0) (nat_eq first node.lists.first) refl refl is
  where
    by : (a b : Bool) → nat_eq node.height 0 ≡ a → nat_eq first node.lists.first ≡ b → (a && b) ≡ true → (node.height ≡ 0) × (first ≡ node.lists.first)
    by true true is_a is_b e = (eqb-true node.height 0 is_a, eqb-true first node.lists.first is_b)
    by true false is_a is_b e = absurd (false≢true e)
    by false b is_a is_b e = absurd (false≢true e)

-- Nodes with the same pivots and, where tables are read, the same live tables make the same of a key.
module _ (rule : Rule) (before after : ℕ → NodeData) (was now : ℕ → Table) (pivots : (n : ℕ) → (after n).pivots ≡ (before n).pivots) (lives : (n mark : ℕ) → map now (live (after n).lists mark) ≡ map was (live (before n).lists mark)) where
  tables_alike : (n : ℕ) (key : List ℕ) → live_tables now (after n) key ≡ live_tables was (before n) key
  tables_alike n key =
      ap (λ (ps : List Pivot). map now (live (after n).lists (pivot_of (record (after n) { pivots = ps }) key).mark)) (pivots n)
      ∙ lives n (pivot_of (before n) key).mark

  children_alike : (n : ℕ) (key : List ℕ) → child_for (after n) key ≡ child_for (before n) key
  children_alike n key = ap (λ (ps : List Pivot). child_for (record (after n) { pivots = ps }) key) (pivots n)

  pub sub_alike : (height n : ℕ) (key : List ℕ) → sub rule now after height n key ≡ sub rule was before height n key
  sub_alike zero n key = ap (λ (tables : List Table). act_all rule key None (chain tables key)) (tables_alike n key)
  sub_alike (suc height) n key =
      ap (λ (child : ℕ). act_all rule key (sub rule now after height child key) (chain (live_tables now (after n) key) key)) (children_alike n key)
      ∙ ap (λ (cell : Cell). act_all rule key cell (chain (live_tables now (after n) key) key)) (sub_alike height (child_for (before n) key) key)
      ∙ ap (λ (tables : List Table). act_all rule key (sub rule was before height (child_for (before n) key) key) (chain tables key)) (tables_alike n key)

-- the bundles of the run get the actor's mark
module _ (queue : Numbered) (first last actor : ℕ) (stands : queue.first ≤ first) (order : first ≤ last) (made : last < next_of queue) where
  abbrev pub marked_queue : Numbered
  marked_queue = marked queue first last (Some actor)

  -- a mark is the actor's in the run, or stood there
  pub mark_is : (number who : ℕ) → queue.first ≤ number → (bundle_at marked_queue number).owner ≡ Some who → ((first ≤ number) × (number ≤ last) × (who ≡ actor)) ⊎ (((first ≤ number) × (number ≤ last) → ⊥) × ((bundle_at queue number).owner ≡ Some who))
  mark_is number who above owned = elim (cases_lt number first) [
    | inl before ↦ inr ((λ inside. omega (arith, inside.0)), sym (ap (λ (b : Bundle). b.owner) (bundle_before queue first last (Some actor) stands order made number above before)) ∙ owned)
    | inr from ↦ elim (cases_lt last number) [
      | inl behind ↦ inr ((λ inside. omega (arith, inside.1)), sym (ap (λ (b : Bundle). b.owner) (bundle_behind queue first last (Some actor) stands order made number behind)) ∙ owned)
      | inr to ↦ inl (from, to, sym (same_Some actor who (sym (ap (λ (b : Bundle). b.owner) (bundle_inside queue first last (Some actor) stands order made number from to)) ∙ owned)))
    ]
  ]

  -- outside the run the bundles keep their marks
  pub mark_stays : (number : ℕ) → queue.first ≤ number → ((first ≤ number) × (number ≤ last) → ⊥) → (bundle_at marked_queue number).owner ≡ (bundle_at queue number).owner
  mark_stays number above outside = elim (cases_lt number first) [
    | inl before ↦ ap (λ (b : Bundle). b.owner) (bundle_before queue first last (Some actor) stands order made number above before)
    | inr from ↦ elim (cases_lt last number) [
      | inl behind ↦ ap (λ (b : Bundle). b.owner) (bundle_behind queue first last (Some actor) stands order made number behind)
      | inr to ↦ absurd (outside (from, to))
    ]
  ]

module _ (old : Whole) (sound : IsSound old) (actor node first last : ℕ) (known : actor < ACTORS) (is_idle : is_busy (actor_in old.actors actor) ≡ false) (exists : node < length old.nodes) (stands : (node_at old.nodes node).lists.first ≤ first) (order : first ≤ last) (made : last < next_of (node_at old.nodes node).lists) (uncrossed : find (crosses first last) (node_at old.nodes node).pivots ≡ None) (unmarked_run : first_owner (run_below (node_at old.nodes node).lists first (last + 1)) ≡ None) (refs : Published BranchData) (counted : (n : ℕ) → count_at refs n ≡ counts old n + times n (branches_from (node_at old.nodes node).lists first (last + 1))) (same_branch : (n : ℕ) → branch_at refs n ≡ branches old n) where
  abbrev pub new : Whole
  new = started_with old refs actor node first last

  abbrev from : NodeData
  from = node_at old.nodes node

  abbrev to : NodeData
  to = with_lists from (marked from.lists first last (Some actor))

  abbrev run : Run
  run = run_at old node first last

  abbrev job : Job
  job = Merge old.counters.branches run

  abbrev worker : Actor
  worker = told_of (with_job (actor_in old.actors actor) (Some job)) node

  same_count : length new.nodes ≡ length old.nodes
  same_count = long old.nodes node exists to

  none_yet : (actor_in old.actors actor).job ≡ None
  none_yet = no_job (actor_in old.actors actor) is_idle

  inputs_named : (n : ℕ) → times n run.inputs ≤ times n (named old.nodes)
  inputs_named n =
      let few = times_run n from.lists first (last + 1) in
      let here = node_named n old.nodes node in
      omega arith

  trunk_named : (n : ℕ) → times n (named new.nodes) ≡ times n (named old.nodes)
  trunk_named n =
      let change = named_now old.nodes node exists to n in
      let same = ap (times n) (names-marked from.lists first last (Some actor) order) in
      omega arith

  mentioned_now : (n : ℕ) → times n (mentioned new.nodes new.actors) ≡ times n (mentioned old.nodes old.actors) + times n run.inputs
  mentioned_now n =
      let change = times-actor old.actors sound.count actor known worker old.nodes n in
      let nothing : times n (named_by (actor_in old.actors actor)) ≡ 0 = by (actor_in old.actors actor).job (actor_in old.actors actor).published none_yet in
      let own : times n (named_by worker) ≡ times n run.inputs = let parts = times-append n run.inputs [] in omega arith in
      let trunk = trunk_named n in
      let now = times-append n (named new.nodes) (flat_map named_by new.actors) in
      let before = times-append n (named old.nodes) (flat_map named_by new.actors) in
      omega arith
    where
      by : (j : Option Job) (published : Bool) → j ≡ None → times n (named_by (record worker { job = j; published = published })) ≡ 0
      by None published none = refl
      by (Some j) published none = cc

  accounts : AccountsForExtents (mentioned new.nodes new.actors) (counts new) (branches new) new.owners
  accounts = record {
    counts = λ n.
        let is = counted n in
        let count = sound.extents.counts n in
        let now = mentioned_now n in
        omega arith;
    stands = λ n.
        let is = counted n in
        let count = sound.extents.counts n in
        let few = inputs_named n in
        let parts = times-append n (named old.nodes) (flat_map named_by old.actors) in
        subst (λ (o : Option BranchData). IsSome o ↔ (0 < counts new n)) (sym (same_branch n)) (
          (λ some. let above = (sound.extents.stands n).0 some in omega arith),
          (λ above. (sound.extents.stands n).1 (omega arith)),
        );
    held = λ n. subst (λ (o : Option BranchData). IfSome o (λ (b : BranchData). ListsEach b.extents (held_by old.owners n))) (sym (same_branch n)) (sound.extents.held n);
    not_held = λ n extent none. sound.extents.not_held n extent (sym (same_branch n) ∙ none);
  }

  lies_still : (span : Span) (n : ℕ) → LiesUnder (node_at old.nodes n) span → LiesUnder (node_at new.nodes n) span
  lies_still span = each_node old.nodes node exists to (λ (n : ℕ) (a : NodeData). LiesUnder (node_at old.nodes n) span → LiesUnder a span)
      (λ lies. record { start = lies.start; within = lies.within; pivot = lies.pivot })
      (λ n apart lies. lies)

  way_still : (who : ℕ) (a : Actor) (d : Option Descent) → IsOnWay old.nodes old.grips old.counters.places who a d → IsOnWay new.nodes new.grips new.counters.places who a d
  way_still who a None way = way
  way_still who a (Some d) way = record {
    exists = subst (λ (k : ℕ). d.node < k) (sym same_count) way.exists;
    told = way.told;
    reads = way.reads;
    alone = way.alone;
    no_job = way.no_job;
    place = way.place;
    lies = lies_still d.span d.node way.lies;
  }

  source_still : (who : ℕ) (j : Job) → IsOf old.nodes old.tables.frozen who j → IsOf new.nodes new.tables.frozen who j
  source_still who (Pack n t) of = of
  source_still who (Merge n r) of = (of.0, subst (λ (k : ℕ). r.node < k) (sym same_count) of.1)

  work_still : (who : ℕ) (j : Option Job) (published : Bool) → IsAtWork old.nodes (branches old) old.owners old.tables.frozen old.counters.branches who j published → IsAtWork new.nodes (branches new) new.owners new.tables.frozen new.counters.branches who j published
  work_still who None published work = work
  work_still who (Some j) published work = record {
    number = omega (arith, work.number);
    source = source_still who j work.source;
    unpublished = λ is. same_branch (number_of j) ∙ work.unpublished is;
    draft = λ is. subst (λ (o : Option BranchData). IsSome o) (sym (same_branch (number_of j))) (work.draft is);
    nothing = work.nothing;
  }

  begins : IsAtWork new.nodes (branches new) new.owners new.tables.frozen new.counters.branches actor (Some job) false
  begins = record {
    number = omega arith;
    source = (order, subst (λ (k : ℕ). node < k) (sym same_count) exists);
    unpublished = λ is. same_branch old.counters.branches ∙ no_branch (branches old) old.counters.branches sound.bounds.numbers;
    draft = λ is. absurd (false≢true is);
    nothing = λ is extent. absurd (false≢true is);
  }

  abbrev IsOne : ℕ → Actor → Type 0
  IsOne n a = n < ACTORS → IsActor new.nodes (branches new) new.owners new.grips new.tables.frozen new.counters.places new.counters.branches n a

  actors_stand : (n : ℕ) → IsOne n (actor_in new.actors n)
  actors_stand = each_actor old.actors sound.count actor known worker IsOne
      (λ below.
      let before = sound.actors actor known in
      let told = before.told in
      let count = same_count in
      record {
        told = omega arith;
        knows_root = omega arith;
        descent = way_still actor worker (actor_in old.actors actor).descent (same_way old.nodes old.grips old.counters.places actor (actor_in old.actors actor) worker (actor_in old.actors actor).descent (no_descent (actor_in old.actors actor) is_idle) before.descent);
        job = begins;
      })
      (λ other apart below.
      let before = sound.actors other below in
      record {
        told = subst (λ (k : ℕ). (actor_in old.actors other).told ≤ k) (sym same_count) before.told;
        knows_root = before.knows_root;
        descent = way_still other (actor_in old.actors other) (actor_in old.actors other).descent before.descent;
        job = work_still other (actor_in old.actors other).job (actor_in old.actors other).published before.job;
      })

  jobs_differ : JobsDiffer new.actors
  jobs_differ a b j k apart is_j is_k same =
      elim (job_of old.actors sound.count actor known worker j a is_j) [
        | inl one ↦
            let first_number = ap number_of (same_Some job j one.1) in
            elim (job_of old.actors sound.count actor known worker k b is_k) [
              | inl two ↦ absurd (apart (one.0 ∙ sym two.0))
              | inr two ↦ let below = (working old sound b k two.1).number in absurd (omega arith)
            ]
        | inr one ↦
            elim (job_of old.actors sound.count actor known worker k b is_k) [
              | inl two ↦
                  let second_number = ap number_of (same_Some job k two.1) in
                  let below = (working old sound a j one.1).number in
                  absurd (omega arith)
              | inr two ↦ absurd (sound.apart a b j k apart one.1 two.1 same)
            ]
      ]

  all_picked : ArePicked new.tables.frozen new.actors
  all_picked i who f at by =
      let before = sound.picked i who f at by in (
        before.0,
        elim (cases_eq who actor) [
          | inl same ↦ absurd (subst (λ (j : Option Job). Packs j f.number) (ap (λ (n : ℕ). (actor_in old.actors n).job) same ∙ none_yet) before.1)
          | inr apart ↦ subst (λ (a : Actor). Packs a.job f.number) (sym (other_actor old.actors sound.count actor known worker who apart)) before.1
        ],
      )

  no_run_yet : (a : NodeData) (number who : ℕ) → who ≡ actor → IsInRun a number who (actor_in old.actors who).job → ⊥
  no_run_yet a number who same has =
      subst (λ (j : Option Job). IsInRun a number actor j) none_yet (subst (λ (n : ℕ). IsInRun a number n (actor_in old.actors n).job) same has)

  -- the run of another actor stands as it stood
  holds_still : (who : ℕ) (r : Run) → HoldsRun from who r → HoldsRun to who r
  holds_still who r holds = record {
    stands = (holds.stands.0, subst (λ (n : ℕ). r.last < n) (sym (next-marked from.lists first last (Some actor) stands order made)) holds.stands.1);
    marks = λ number above below there.
        let was = holds.marks number above below there in
        mark_stays from.lists first last actor stands order made number there
        (λ inside. no_owner who (sym (none_marked from.lists first last number stands made inside.0 inside.1 unmarked_run) ∙ was))
        ∙ was;
    inputs = branches-marked from.lists first last (Some actor) stands order made r.first (r.last + 1) ∙ holds.inputs;
    whole = holds.whole;
    within = holds.within;
    leaf = holds.leaf;
    oldest = holds.oldest;
  }

  in_run_still : (number who : ℕ) (j : Option Job) → IsInRun from number who j → IsInRun to number who j
  in_run_still number who None is = is
  in_run_still number who (Some (Pack n t)) is = is
  in_run_still number who (Some (Merge n r)) is = (is.0, is.1, holds_still who r is.2)

  -- and the actor's own begins
  holds_own : HoldsRun to actor run
  holds_own = record {
    stands = (omega arith, subst (λ (n : ℕ). last < n) (sym (next-marked from.lists first last (Some actor) stands order made)) made);
    marks = λ number above below there. ap (λ (b : Bundle). b.owner) (bundle_inside from.lists first last (Some actor) stands order made number above below);
    inputs = branches-marked from.lists first last (Some actor) stands order made first (last + 1);
    whole = uncut_all first last from.lists.first from.pivots uncrossed;
    within = λ key inside. inside;
    leaf = λ is. (bottom_is from first is).0;
    oldest = λ is. let same = (bottom_is from first is).1 in omega arith;
  }

  other_now : (who : ℕ) → who ≢ actor → (a : NodeData) (number : ℕ) → IsInRun a number who (actor_in old.actors who).job → IsInRun a number who (actor_in new.actors who).job
  other_now who apart a number is = subst (λ (x : Actor). IsInRun a number who x.job) (sym (other_actor old.actors sound.count actor known worker who apart)) is

  own_now : (who number : ℕ) → who ≡ actor → first ≤ number → number ≤ last → IsInRun to number who (actor_in new.actors who).job
  own_now who number same above below =
      let is : IsInRun to number actor worker.job = (above, below, holds_own) in
      let mine : IsInRun to number actor (actor_in new.actors actor).job = subst (λ (x : Actor). IsInRun to number actor x.job) (sym (this_actor old.actors sound.count actor known worker)) is in
      subst (λ (n : ℕ). IsInRun to number n (actor_in new.actors n).job) (sym same) mine

  runs : AreInRuns new.nodes new.actors
  runs n number who below =
      each_node old.nodes node exists to (λ (m : ℕ) (a : NodeData). m < length old.nodes → Stands a.lists number → (bundle_at a.lists number).owner ≡ Some who → (who < ACTORS) × IsInRun a number who (actor_in new.actors who).job)
      (λ there standing owned. elim (mark_is from.lists first last actor stands order made number who standing.0 owned) [
        | inl own ↦ (subst (λ (m : ℕ). m < ACTORS) (sym own.2) known, own_now who number own.2 own.0 own.1)
        | inr was ↦
            let stood : Stands from.lists number = (standing.0, subst (λ (k : ℕ). number < k) (next-marked from.lists first last (Some actor) stands order made) standing.1) in
            let before = sound.runs node number who there stood was.1 in
            elim (cases_eq who actor) [
              | inl same ↦ absurd (no_run_yet from number who same before.1)
              | inr apart ↦ (before.0, other_now who apart to number (in_run_still number who (actor_in old.actors who).job before.1))
            ]
      ])
      (λ m apart there standing owned.
      let before = sound.runs m number who there standing owned in
      elim (cases_eq who actor) [
        | inl same ↦ absurd (no_run_yet (node_at old.nodes m) number who same before.1)
        | inr other ↦ (before.0, other_now who other (node_at old.nodes m) number before.1)
      ])
      n (subst (λ (k : ℕ). n < k) same_count below)

  ends : HasAllEnds new.nodes
  ends =
      let alike = lists-marked from.lists first last (Some actor) stands order made in
      let here = All-get_or HasEnds old.nodes node (fresh 0 bare) exists sound.ends.each in
      let now : HasEnds to = record { mark = here.mark; front = starts_full to.lists.bundles from.lists.bundles alike here.front } in
      record {
        each = All-set HasEnds old.nodes node to now sound.ends.each;
        root = each_node old.nodes node exists to (λ (n : ℕ) (a : NodeData). n ≡ 0 → All (λ (bundle : Bundle). length bundle.branches ≤ 1) a.lists.bundles)
            (λ is. all_alike (λ (list : List ℕ). length list ≤ 1) to.lists.bundles from.lists.bundles alike (subst (λ (n : ℕ). All (λ (bundle : Bundle). length bundle.branches ≤ 1) (node_at old.nodes n).lists.bundles) (sym is) sound.ends.root))
            (λ n apart is. subst (λ (m : ℕ). All (λ (bundle : Bundle). length bundle.branches ≤ 1) (node_at old.nodes m).lists.bundles) (sym is) sound.ends.root)
            0 refl;
      }

  bounded : AreBelow old.nodes old.tables old.counters → AreBounded new.nodes (branches new) new.tables new.counters
  bounded room =
      let steps = old.counters.steps in
      record {
        steps = sound.bounds.steps;
        places = sound.bounds.places;
        branches = omega (arith, room.branches);
        memtables = sound.bounds.memtables;
        lists = All-set (λ (a : NodeData). next_of a.lists ≤ steps) old.nodes node to (subst (λ (n : ℕ). n ≤ steps) (sym (next-marked from.lists first last (Some actor) stands order made)) (All-get_or (λ (a : NodeData). next_of a.lists ≤ steps) old.nodes node (fresh 0 bare) exists sound.bounds.lists)) sound.bounds.lists;
        generations = All-set (λ (a : NodeData). a.generation ≤ steps) old.nodes node to (All-get_or (λ (a : NodeData). a.generation ≤ steps) old.nodes node (fresh 0 bare) exists sound.bounds.generations) sound.bounds.generations;
        height = subst (λ (k : ℕ). (node_at new.nodes 0).height < k) (sym same_count) (subst (λ (h : ℕ). h < length old.nodes) (sym (same_part old.nodes node exists to (λ (a : NodeData). a.height) refl 0)) sound.bounds.height);
        numbers = λ n some. let below = sound.bounds.numbers n (subst (λ (o : Option BranchData). IsSome o) (same_branch n) some) in omega arith;
      }

  pub started_sound : AreBelow old.nodes old.tables old.counters → IsShaped new.nodes → IsSound new
  started_sound room shaped = record {
    shaped = shaped;
    latches = sound.latches ∙ sym same_count;
    latched = sound.latched;
    extents = accounts;
    memtables = sound.memtables;
    count = length-set old.actors actor worker ∙ sound.count;
    actors = actors_stand;
    apart = jobs_differ;
    picked = all_picked;
    runs = runs;
    ends = ends;
    bounds = bounded room;
  }

  same_table : (n : ℕ) → table_in (branches new) n ≡ table_in (branches old) n
  same_table n = ap table_or (same_branch n)

  same_tables : (numbers : List ℕ) → map (table_in (branches new)) numbers ≡ map (table_in (branches old)) numbers
  same_tables numbers = same_map (table_in (branches new)) (table_in (branches old)) numbers (λ n some. same_table n)

  table_still : (rule : Rule) (j : Job) → HasTable rule (branches old) old.tables.frozen j → HasTable rule (branches new) new.tables.frozen j
  table_still rule (Pack n t) had = λ i f at is. same_table n ∙ had i f at is
  table_still rule (Merge n r) had =
      subst (λ (tables : List Table). IsMerged rule tables r.span r.bottom (table_in (branches new) n)) (sym (same_tables r.inputs))
      (subst (λ (table : Table). IsMerged rule (map (table_in (branches old)) r.inputs) r.span r.bottom table) (sym (same_table n)) had)

  drafts_kept : (rule : Rule) → AreDrafts rule old → AreDrafts rule new
  drafts_kept rule drafts n j =
      each_actor old.actors sound.count actor known worker
      (λ (m : ℕ) (a : Actor). a.job ≡ Some j → a.published ≡ true → HasTable rule (branches new) new.tables.frozen j)
      (λ is done. absurd (false≢true done))
      (λ other apart is done. table_still rule j (drafts other j is done))
      n

  same_live : (n mark : ℕ) → live (node_at new.nodes n).lists mark ≡ live (node_at old.nodes n).lists mark
  same_live n mark = same_part old.nodes node exists to (λ (a : NodeData). live a.lists mark) (live-marked from.lists mark first last (Some actor) order) n

  sub_still : (rule : Rule) (n : ℕ) (key : List ℕ) → sub rule (table_in (branches new)) (node_at new.nodes) (node_at new.nodes n).height n key ≡ sub rule (table_in (branches old)) (node_at old.nodes) (node_at old.nodes n).height n key
  sub_still rule n key =
      ap (λ (h : ℕ). sub rule (table_in (branches new)) (node_at new.nodes) h n key) (same_part old.nodes node exists to (λ (a : NodeData). a.height) refl n)
      ∙ sub_alike rule (node_at old.nodes) (node_at new.nodes) (table_in (branches old)) (table_in (branches new))
      (same_part old.nodes node exists to (λ (a : NodeData). a.pivots) refl)
      (λ m mark. same_tables (live (node_at new.nodes m).lists mark) ∙ ap (map (table_in (branches old))) (same_live m mark))
      (node_at old.nodes n).height n key

  sees : (rule : Rule) (tells : Bool) (d : Descent) → SeesNode rule tells old new d
  sees rule tells d =
      let part : (ℕ → Option BranchData) → ℕ → Table = λ branch number. part_of d.span (table_in branch number) in
      let mark = (pivot_at (node_at old.nodes d.node).pivots (pivot_from (node_at old.nodes d.node).pivots d.span.from)).mark in
      let pivots = same_part old.nodes node exists to (λ (a : NodeData). a.pivots) refl d.node in
      record {
        height = same_part old.nodes node exists to (λ (a : NodeData). a.height) refl d.node;
        pivots = pivots;
        tables = ap (λ (ps : List Pivot). map (part (branches new)) (live (node_at new.nodes d.node).lists (pivot_at ps (pivot_from ps d.span.from)).mark)) pivots
            ∙ ap (map (part (branches new))) (same_live d.node mark)
            ∙ same_map (part (branches new)) (part (branches old)) (live (node_at old.nodes d.node).lists mark) (λ n some. ap (part_of d.span) (same_table n));
        rest = λ told key within. sub_still rule d.node key;
      }

  source_kept : (j : Job) → SeesSource old new j
  source_kept (Pack n t) = λ i f at is. (i, at)
  source_kept (Merge n r) = λ m among. same_branch m

  split_to : split_key (branches new) to ≡ split_key (branches new) from
  split_to = by from.height
    where
      by : (height : ℕ) → split_key_at (branches new) to height ≡ split_key_at (branches new) from height
      by zero = split_alike from.range (branches new) to.lists.bundles from.lists.bundles (lists-marked from.lists first last (Some actor) stands order made)
      by (suc height) = refl

  keeps : (n : ℕ) → KeepsNode old new n
  keeps n = record {
    pivots = same_part old.nodes node exists to (λ (a : NodeData). length a.pivots) refl n;
    bundles = same_part old.nodes node exists to (λ (a : NodeData). length a.lists.bundles) (same_length to.lists.bundles from.lists.bundles (lists-marked from.lists first last (Some actor) stands order made)) n;
    split = same_part old.nodes node exists to (split_key (branches new)) split_to n ∙ same_split (branches old) (branches new) (node_at old.nodes n) (λ m some. same_branch m);
  }

  pub started_framed : (rule : Rule) (tells : Bool) → (tells ≡ true → AreDrafts rule old) → IsFramed rule tells old new actor
  started_framed rule tells drafts = record {
    drafts = λ told. drafts_kept rule (drafts told);
    means = λ told key. ap (λ (cell : Cell). act_all rule key cell (chain (tables_of old.tables) key)) (sub_still rule 0 key);
    others = λ other below apart. record {
      actor = other_actor old.actors sound.count actor known worker other apart;
      grips = λ n. refl;
      extents = refl;
      descent = λ d is. sees rule tells d;
      job = λ j is. source_kept j;
      written = λ n writes. keeps n;
    };
  }

  pub started_is : Starts old new actor node first last
  started_is = record { all = refl; counts = counted; same = same_branch }

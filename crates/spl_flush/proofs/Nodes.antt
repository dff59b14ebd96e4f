-- The nodes after a flush: what holds of the parent, of the child, and of all of them.
use Rattle.std.proofs.Common.{◌≡◌, ◌≢◌, ℕ, ◌+◌, ◌-◌, ◌<◌, ◌≤◌, max, List, [], ◌∷◌, ◌++◌, Option, Some, None, length, take, drop, set, refl, sym, ap, subst, ◌∙◌, inl, inr, arith, length-append, length-drop, length-set, get_or-set_same, get_or-set_other}
use Rattle.std.specs.Prelude.{All, ◌⊎◌}
use Rattle.std.proofs.lemmas.Bool.{cases_eq, cases_lt}
use Rattle.std.proofs.lemmas.List.{get_or_append_left, get_or_push, drop-append-le, take-append-le}
use Rattle.std.proofs.lemmas.List.Elements.{All-set, All-get_or, All-drop}
use Rattle.spl_base.specs.declared.TheConstants.{ACTORS}
use Rattle.spl_bundle.specs.Numbered.{Numbered, Bundle, unmarked, bundle_at, next_of, joined, names, pushed}
use Rattle.spl_bundle.proofs.Changes.{names-pushed, names-dropped}
use Rattle.spl_node.specs.declared.pivot.Pivot.{Pivot}
use Rattle.spl_node.specs.Node.{NodeData, bare, pivot_at, live_at}
use Rattle.spl_node.specs.Parts.{branches_from}
use Rattle.spl_node.specs.Steps.{fresh, with_lists, with_mark, at_mark, kept_from}
use Rattle.spl_node.proofs.Lives.{kept_from-ge}
use Rattle.spl_trunk.specs.Moves.{passed, received}
use Rattle.spl_trunk.specs.Trunk.{node_at}
use Rattle.spl_trunk.specs.Tree.{times, named, IsShaped}
use Rattle.spl_trunk.proofs.Counts.{times-append, times-replaced}
use Rattle.spl_trunk.proofs.Trees.{not_root}
use Rattle.spl_state.specs.declared.job.Job.{Job}
use Rattle.spl_state.specs.declared.job.Job.TheVariants.{Pack, Merge}
use Rattle.spl_state.specs.declared.job.Run.{Run}
use Rattle.spl_state.specs.declared.actor.Actor.{Actor}
use Rattle.spl_state.specs.Actor.{actor_in}
use Rattle.spl_state.specs.Bounds.{StartsFull, HasEnds, HasAllEnds}
use Rattle.spl_state.specs.Runs.{Stands, HoldsRun, IsInRun, AreInRuns}
use Rattle.spl_flush.specs.Flushing.{dead_names, flushed}
use Rattle.spl_flush.proofs.Leads.{IsLed}
use Rattle.spl_flush.proofs.Trims.{next_trimmed, bundle_trimmed, starts_full, held_trimmed}

no_owner : (who : ℕ) → None ≡ Some who → ⊥
no_owner who is = cc

-- A node with one more bundle.
module _ (queue : Numbered) (list : List ℕ) where
  pub next_pushed : next_of (pushed queue list) ≡ next_of queue + 1
  next_pushed = let long = length-append queue.bundles (unmarked list ∷ []) in omega arith

  bundle_before : (n : ℕ) → n < next_of queue → queue.first ≤ n
      → bundle_at (pushed queue list) n ≡ bundle_at queue n
  bundle_before n below above = get_or_append_left queue.bundles (unmarked list ∷ []) (unmarked [])
      (n - queue.first) (omega arith)

  bundle_last : (n : ℕ) → n ≡ next_of queue → bundle_at (pushed queue list) n ≡ unmarked list
  bundle_last n is = get_or_push queue.bundles (unmarked list) (unmarked []) (n - queue.first) (omega arith)

  run_before : (first last : ℕ) → first ≤ last → last < next_of queue
      → branches_from (pushed queue list) first (last + 1) ≡ branches_from queue first (last + 1)
  run_before first last order below =
      let from = first - queue.first in
      let count = last + 1 - max first queue.first in
      let rest = drop from queue.bundles in
      let long = length-drop from queue.bundles in
      ap (λ (bundles : List Bundle). joined (take count bundles))
      (drop-append-le from queue.bundles (unmarked list ∷ []) (omega arith))
      ∙ ap joined (take-append-le count rest (unmarked list ∷ []) (omega arith))

full_pushed : (bundles : List Bundle) (list : List ℕ) → 0 < length list → StartsFull bundles
    → StartsFull (bundles ++ unmarked list ∷ [])
full_pushed [] list some full = some
full_pushed (bundle ∷ bundles) list some full = full

held_pushed : (node : NodeData) (list : List ℕ) (who : ℕ) (run : Run) → run.first ≤ run.last
    → HoldsRun node who run → HoldsRun (with_lists node (pushed node.lists list)) who run
held_pushed node list who run order holds = record {
  stands = (holds.stands.0, let next = next_pushed node.lists list in omega (arith, holds.stands.1));
  marks = λ n above below stands.
      let there : n < next_of node.lists = omega (arith, holds.stands.1) in
      ap (λ (bundle : Bundle). bundle.owner) (bundle_before node.lists list n there stands)
      ∙ holds.marks n above below stands;
  inputs = run_before node.lists list run.first run.last order holds.stands.1 ∙ holds.inputs;
  whole = holds.whole;
  within = holds.within;
  leaf = holds.leaf;
  oldest = holds.oldest;
}

held_marked : (node : NodeData) (pivot who : ℕ) (run : Run) → HoldsRun node who run
    → HoldsRun (with_mark node pivot (next_of node.lists)) who run
held_marked node pivot who run holds = record {
  stands = holds.stands;
  marks = holds.marks;
  inputs = holds.inputs;
  whole = All-set (λ (p : Pivot). (p.mark ≤ max run.first node.lists.first) ⊎
      (run.last < p.mark)) node.pivots pivot (at_mark (pivot_at node.pivots pivot) (next_of node.lists))
      (inr holds.stands.1) holds.whole;
  within = holds.within;
  leaf = holds.leaf;
  oldest = holds.oldest;
}

-- what a job has of a run where one of its bundles stands
in_run : (node after : NodeData) (bundle who : ℕ)
    → ((run : Run) → run.first ≤ run.last → bundle ≤ run.last → HoldsRun node who run
    → HoldsRun after who run) → (j : Option Job) → IsInRun node bundle who j → IsInRun after bundle who j
in_run node after bundle who holds None is = is
in_run node after bundle who holds (Some (Pack n table)) is = is
in_run node after bundle who holds (Some (Merge n run)) is = (
  is.0,
  is.1,
  holds run
      (omega (arith, is.0, is.1)) is.1 is.2,
)

-- the marks on a node's bundles are those of jobs that merge them
abbrev AreHere : List Actor → NodeData → Type 0
AreHere actors node = (bundle who : ℕ) → Stands node.lists bundle →
    (bundle_at node.lists bundle).owner ≡ Some who → (who < ACTORS) × IsInRun node bundle who
    (actor_in actors who).job

here_pushed : (actors : List Actor) (node : NodeData) (list : List ℕ) → AreHere actors node
    → AreHere actors (with_lists node (pushed node.lists list))
here_pushed actors node list are bundle who stands owned = elim (cases_lt bundle (next_of node.lists)) [
  | inl before ↦
      let was = are bundle who (stands.0, before)
      (sym (ap (λ (b : Bundle). b.owner) (bundle_before node.lists list bundle before stands.0))
      ∙ owned) in (
        was.0,
        in_run node (with_lists node (pushed node.lists list)) bundle who
            (λ run order upto. held_pushed node list who run order) (actor_in actors who).job was.1,
      )
  | inr last ↦
      let next = next_pushed node.lists list in
      let is : bundle ≡ next_of node.lists = omega (arith, stands.1) in
      absurd (no_owner who (sym (ap (λ (b : Bundle). b.owner) (bundle_last node.lists list bundle is))
      ∙ owned))
]

here_received : (actors : List Actor) (node : NodeData) (list : List ℕ) → AreHere actors node
    → AreHere actors (received node list)
here_received actors node [] are = are
here_received actors node (branch ∷ list) are = here_pushed actors node (branch ∷ list) are

here_passed : (actors : List Actor) (node : NodeData) (pivot : ℕ) → AreHere actors node
    → AreHere actors (passed node pivot)
here_passed actors node pivot are bundle who stands owned =
    let marked = with_mark node pivot (next_of node.lists) in
    let next = next_trimmed marked in
    let low = kept_from-ge marked in
    let above : kept_from marked ≤ bundle = omega (arith, stands.0) in
    let same = ap (λ (b : Bundle). b.owner) (bundle_trimmed marked bundle above) in
    let was = are bundle who (omega arith, omega (arith, stands.1)) (sym same ∙ owned) in (
      was.0,
      in_run node (passed node pivot) bundle who
          (λ run order upto holds. held_trimmed marked who run order (omega arith)
          (held_marked node pivot who run holds)) (actor_in actors who).job was.1,
    )

-- what of the child a list that it receives leaves
pub received_parts : {X : Type 0} (f : NodeData → X) (node : NodeData) (list : List ℕ)
    → f (with_lists node (pushed node.lists list)) ≡ f node → f (received node list) ≡ f node
received_parts f node [] same = refl
received_parts f node (branch ∷ list) same = same

names_received : (n : ℕ) (node : NodeData) (list : List ℕ)
    → times n (names (received node list).lists) ≡ times n (names node.lists) + times n list
names_received n node [] = omega arith
names_received n node (branch ∷ list) = ap (times n) (names-pushed node.lists (branch ∷ list))
    ∙ times-append n (names node.lists) (branch ∷ list)

ends_received : (node : NodeData) (list : List ℕ) → HasEnds node → HasEnds (received node list)
ends_received node [] ends = ends
ends_received node (branch ∷ list) ends = record {
  mark = ends.mark;
  front = full_pushed node.lists.bundles
      (branch ∷ list) (omega arith) ends.front;
}

next_received : (node : NodeData) (list : List ℕ)
    → next_of (received node list).lists ≤ next_of node.lists + 1
next_received node [] = omega arith
next_received node (branch ∷ list) = let next = next_pushed node.lists (branch ∷ list) in omega arith

names_passed : (n : ℕ) (node : NodeData) (pivot : ℕ)
    → times n (dead_names node pivot) + times n (names (passed node pivot).lists) ≡ times n (names node.lists)
names_passed n node pivot =
    let marked = with_mark node pivot (next_of node.lists) in
    sym (times-append n (dead_names node pivot) (names (passed node pivot).lists))
    ∙ ap (times n) (names-dropped node.lists (kept_from marked))

module _ (nodes : List NodeData) (shaped : IsShaped nodes) (parent pivot child : ℕ)
    (led : IsLed nodes parent pivot child) where
  abbrev pub from : NodeData
  from = node_at nodes parent

  abbrev pub to : NodeData
  to = node_at nodes child

  abbrev pub live : List ℕ
  live = live_at from pivot

  abbrev pub after : List NodeData
  after = flushed nodes parent pivot child

  pub there : child < length nodes
  there = (shaped.children parent pivot child led.exists led.within led.leads).exists

  high : 0 < from.height
  high = let linked = (shaped.children parent pivot child led.exists led.within led.leads).height in omega
      arith

  pub apart : parent ≢ child
  apart same =
      let linked = (shaped.children parent pivot child led.exists led.within led.leads).height in
      let level = ap (λ (n : ℕ). (node_at nodes n).height) same in
      omega arith

  no_root : child ≢ 0
  no_root = not_root nodes shaped parent pivot child led.exists led.within led.leads

  abbrev between : List NodeData
  between = set nodes child (received to live)

  long_between : length between ≡ length nodes
  long_between = length-set nodes child (received to live)

  pub long : length after ≡ length nodes
  long = length-set between parent (passed from pivot) ∙ long_between

  pub parent_is : node_at after parent ≡ passed from pivot
  parent_is = get_or-set_same between parent (passed from pivot) (fresh 0 bare)
      (omega (arith, led.exists, long_between))

  pub child_is : node_at after child ≡ received to live
  child_is =
      get_or-set_other between parent child (passed from pivot) (fresh 0 bare) (λ same. apart (sym same))
      ∙ get_or-set_same nodes child (received to live) (fresh 0 bare) there

  from_between : node_at between parent ≡ from
  from_between = get_or-set_other nodes child parent (received to live) (fresh 0 bare) apart

  pub other_is : (n : ℕ) → n ≢ parent → n ≢ child → node_at after n ≡ node_at nodes n
  other_is n not_parent not_child =
      get_or-set_other between parent n (passed from pivot) (fresh 0 bare) not_parent
      ∙ get_or-set_other nodes child n (received to live) (fresh 0 bare) not_child

  -- what holds of the parent, of the child and of the others holds of each
  pub each_node : (P : ℕ → NodeData → Type 0) → P parent (passed from pivot) → P child (received to live)
      → ((n : ℕ) → n ≢ parent → n ≢ child → P n (node_at nodes n)) → (n : ℕ) → P n (node_at after n)
  each_node P of_parent of_child of_others n =
      let at_parent = subst (λ (node : NodeData). P parent node) (sym parent_is) of_parent in
      let at_child = subst (λ (node : NodeData). P child node) (sym child_is) of_child in
      elim (cases_eq n parent) [
        | inl here ↦ subst (λ (m : ℕ). P m (node_at after m)) (sym here) at_parent
        | inr away ↦ elim (cases_eq n child) [
          | inl here ↦ subst (λ (m : ℕ). P m (node_at after m)) (sym here) at_child
          | inr off ↦ subst (λ (node : NodeData). P n node) (sym (other_is n away off)) (of_others n away off)
        ]
      ]

  pub all_nodes : (P : NodeData → Type 0) → P (passed from pivot) → P (received to live) → All P nodes
      → All P after
  all_nodes P of_parent of_child all = All-set P between parent (passed from pivot) of_parent
      (All-set P nodes child (received to live) of_child all)

  -- heights stay
  pub same_height : (n : ℕ) → (node_at after n).height ≡ (node_at nodes n).height
  same_height = each_node (λ (n : ℕ) (node : NodeData). node.height ≡ (node_at nodes n).height) refl
      (received_parts (λ (node : NodeData). node.height) to live refl) (λ n away off. refl)

  -- what is live is named once more, and what is dead once less
  pub named_now : (n : ℕ) → times n (named after) + times n (dead_names from pivot) ≡ times n
      (named nodes) + times n live
  named_now n =
      let first = times-replaced (λ (node : NodeData). names node.lists) n nodes child (received to live)
      (fresh 0 bare) there in
      let second = times-replaced (λ (node : NodeData). names node.lists) n between parent (passed from pivot)
      (fresh 0 bare) (omega (arith, led.exists, long_between)) in
      let more = names_received n to live in
      let less = names_passed n from pivot in
      let same = ap (λ (node : NodeData). times n (names node.lists)) from_between in
      omega arith

  pub still_runs : (actors : List Actor) → AreInRuns nodes actors → AreInRuns after actors
  still_runs actors runs n bundle who below =
      each_node (λ (m : ℕ) (node : NodeData). m < length nodes → Stands node.lists bundle →
      (bundle_at node.lists bundle).owner ≡ Some who → (who < ACTORS) × IsInRun node bundle who
      (actor_in actors who).job)
      (λ within. here_passed actors from pivot (λ b w. runs parent b w led.exists) bundle who)
      (λ within. here_received actors to live (λ b w. runs child b w there) bundle who)
      (λ m away off within. runs m bundle who within)
      n (subst (λ (count : ℕ). n < count) long below)

  pub still_ends : HasAllEnds nodes → HasAllEnds after
  still_ends ends =
      let few : NodeData → Type 0 = λ node. All
      (λ (bundle : Bundle). length bundle.branches ≤ 1) node.lists.bundles in
      let marked = with_mark from pivot (next_of from.lists) in
      record {
        each = all_nodes HasEnds
            (record { mark = λ low. absurd (let top = high in omega arith); front = starts_full marked })
            (ends_received to live (All-get_or HasEnds nodes child (fresh 0 bare) there ends.each))
            ends.each;
        root = each_node (λ (n : ℕ) (node : NodeData). n ≡ 0 → few node)
            (λ is. All-drop (λ (bundle : Bundle). length bundle.branches ≤ 1)
            (kept_from marked - from.lists.first) from.lists.bundles
            (subst (λ (n : ℕ). few (node_at nodes n)) (sym is) ends.root))
            (λ is. absurd (no_root is))
            (λ n away off is. subst (λ (m : ℕ). few (node_at nodes m)) (sym is) ends.root)
            0 refl;
      }

  pub next_numbers : (steps : ℕ) → All (λ (node : NodeData). next_of node.lists ≤ steps) nodes
      → All (λ (node : NodeData). next_of node.lists < steps) nodes
      → All (λ (node : NodeData). next_of node.lists ≤ steps) after
  next_numbers steps all room =
      let below = All-get_or (λ (node : NodeData). next_of node.lists < steps) nodes child
      (fresh 0 bare) there room in
      let upto = All-get_or (λ (node : NodeData). next_of node.lists ≤ steps) nodes parent
      (fresh 0 bare) led.exists all in
      let same = next_trimmed (with_mark from pivot (next_of from.lists)) in
      let more = next_received to live in
      all_nodes (λ (node : NodeData). next_of node.lists ≤ steps) (omega arith) (omega arith) all

  pub generations : (steps : ℕ) → All (λ (node : NodeData). node.generation ≤ steps) nodes
      → All (λ (node : NodeData). node.generation ≤ steps) after
  generations steps all =
      let of : (n : ℕ) → n < length nodes → (node_at nodes n).generation ≤ steps = λ n below. All-get_or
      (λ (node : NodeData). node.generation ≤ steps) nodes n (fresh 0 bare) below all in
      all_nodes (λ (node : NodeData). node.generation ≤ steps) (of parent led.exists)
      (subst (λ (generation : ℕ). generation ≤ steps)
      (sym (received_parts (λ (node : NodeData). node.generation) to live refl)) (of child there))
      all

  -- the calls make these nodes, first of the child and then of the parent
  module _ (middle : List NodeData) (made : middle ≡ between) where
    pub parent_stays : node_at middle parent ≡ from
    parent_stays = ap (λ (ns : List NodeData). node_at ns parent) made ∙ from_between

    pub flushed_made : (end : List NodeData) → end ≡ set middle parent (passed (node_at middle parent) pivot)
        → end ≡ after
    flushed_made end is =
        is
        ∙ ap (λ (node : NodeData). set middle parent (passed node pivot)) parent_stays
        ∙ ap (λ (ns : List NodeData). set ns parent (passed from pivot)) made

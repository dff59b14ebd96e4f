-- What holds of nodes without the marks of one actor.
use Rattle.std.proofs.Common.{◌≡◌, ◌≢◌, ℕ, zero, suc, ◌+◌, ◌-◌, ◌<◌, ◌≤◌, max, Bool, true, false, nat_eq, if◌then◌else◌, List, [], ◌∷◌, Option, Some, None, map, length, take, drop, set, get_or, refl, sym, ap, ap₂, subst, ◌∙◌, arith, eq-eqb}
use Rattle.std.specs.Prelude.{All}
use Rattle.std.proofs.lemmas.Bool.{eqb-true, ne_eqb, false≢true}
use Rattle.std.proofs.lemmas.List.{length-map, take-map, drop-map}
use Rattle.std.proofs.lemmas.List.Elements.{All-map, All-weaker}
use Rattle.std.proofs.lemmas.Option.{same_Some}
use Rattle.spl_base.specs.declared.TheConstants.{ACTORS}
use Rattle.spl_bundle.specs.Numbered.{Bundle, Numbered, bundle_at, joined, next_of, unmarked as plain, is_mark_of, without_mark, released}
use Rattle.spl_bundle.proofs.Changes.{names-released}
use Rattle.spl_node.specs.Node.{NodeData}
use Rattle.spl_node.specs.Parts.{branches_from}
use Rattle.spl_trunk.specs.Trunk.{node_at, released_node, all_released}
use Rattle.spl_trunk.proofs.Released.{released_at}
use Rattle.spl_state.specs.declared.actor.Actor.{Actor}
use Rattle.spl_state.specs.declared.job.Job.{Job}
use Rattle.spl_state.specs.declared.job.Job.TheVariants.{Pack, Merge}
use Rattle.spl_state.specs.declared.job.Run.{Run}
use Rattle.spl_state.specs.Actor.{actor_in}
use Rattle.spl_state.specs.Bounds.{HasEnds, HasAllEnds, StartsFull}
use Rattle.spl_state.specs.Runs.{Stands, HoldsRun, IsInRun, AreInRuns}
use Rattle.spl_state.proofs.Replaced.{other_actor}
use Rattle.spl_abandon.specs.Abandoning.{merges}

module _ (actor : ℕ) where
  bundle_in : (bundles : List Bundle) (i : ℕ) → get_or (map (without_mark actor) bundles) i (plain []) ≡ without_mark actor (get_or bundles i (plain []))
  bundle_in [] i = refl
  bundle_in (bundle ∷ bundles) zero = refl
  bundle_in (bundle ∷ bundles) (suc i) = bundle_in bundles i

  bundle_released : (queue : Numbered) (number : ℕ) → bundle_at (released queue actor) number ≡ without_mark actor (bundle_at queue number)
  bundle_released queue number = bundle_in queue.bundles (number - queue.first)

  pub next_released : (queue : Numbered) → next_of (released queue actor) ≡ next_of queue
  next_released queue = ap (λ (n : ℕ). queue.first + n) (length-map queue.bundles (without_mark actor))

  joined_released : (bundles : List Bundle) → joined (map (without_mark actor) bundles) ≡ joined bundles
  joined_released bundles = names-released (record { first = 0; bundles = bundles }) actor

  branches_released : (queue : Numbered) (from number : ℕ) → branches_from (released queue actor) from number ≡ branches_from queue from number
  branches_released queue from number =
      let count = number - max from queue.first in
      let skipped = from - queue.first in
      ap (λ (bundles : List Bundle). joined (take count bundles)) (drop-map (without_mark actor) skipped queue.bundles)
      ∙ ap joined (take-map (without_mark actor) count (drop skipped queue.bundles))
      ∙ joined_released (take count (drop skipped queue.bundles))

  none_is_some : (who : ℕ) → None ≡ Some who → ⊥
  none_is_some who is = cc

  -- a mark that is left is another actor's, and stood there
  mark_left : (owner : Option ℕ) (who : ℕ) → (if is_mark_of actor owner then None else owner) ≡ Some who → (who ≢ actor) × (owner ≡ Some who)
  mark_left None who is = absurd (none_is_some who is)
  mark_left (Some other) who is = by (nat_eq other actor) refl is
    where
      by : (mine : Bool) → nat_eq other actor ≡ mine → (if mine then None else Some other) ≡ Some who → (who ≢ actor) × (Some other ≡ Some who)
      by true mine none = absurd (none_is_some who none)
      by false mine some = ((λ same. not_mine mine (same_Some other who some ∙ same)), some)
        where
          not_mine : nat_eq other actor ≡ false → other ≡ actor → ⊥
          not_mine differs here = false≢true (sym differs ∙ eq-eqb other actor here)

  -- another actor's mark is left
  mark_stays : (owner : Option ℕ) (who : ℕ) → who ≢ actor → owner ≡ Some who → (if is_mark_of actor owner then None else owner) ≡ Some who
  mark_stays owner who apart is = rw is (ap (λ (mine : Bool). if mine then None else Some who) (ne_eqb who actor apart))

  -- a run of another actor is left as it was
  run_stays : (node : NodeData) (who : ℕ) (run : Run) → who ≢ actor → HoldsRun node who run → HoldsRun (released_node actor node) who run
  run_stays node who run apart holds = record {
    stands = (holds.stands.0, subst (λ (n : ℕ). run.last < n) (sym (next_released node.lists)) holds.stands.1);
    marks = λ number from to there.
        ap (λ (bundle : Bundle). bundle.owner) (bundle_released node.lists number)
        ∙ mark_stays (bundle_at node.lists number).owner who apart (holds.marks number from to there);
    inputs = branches_released node.lists run.first (run.last + 1) ∙ holds.inputs;
    whole = holds.whole;
    within = holds.within;
    leaf = holds.leaf;
    oldest = holds.oldest;
  }

  in_run_stays : (node : NodeData) (number who : ℕ) (job : Option Job) → who ≢ actor → IsInRun node number who job → IsInRun (released_node actor node) number who job
  in_run_stays node number who None apart is = is
  in_run_stays node number who (Some (Pack branch table)) apart is = is
  in_run_stays node number who (Some (Merge branch run)) apart is = (is.0, is.1, run_stays node who run apart is.2)

  -- the marks that are left are those of the other actors' runs, whatever the actor is now in the midst of
  pub runs_stay : (nodes : List NodeData) (actors : List Actor) (after : Actor) → length actors ≡ ACTORS → actor < ACTORS → AreInRuns nodes actors → AreInRuns (all_released nodes actor) (set actors actor after)
  runs_stay nodes actors after count known runs n number who below =
      let P : NodeData → Type 0 = λ node. Stands node.lists number → (bundle_at node.lists number).owner ≡ Some who → (who < ACTORS) × IsInRun node number who (actor_in (set actors actor after) who).job in
      subst P (sym (released_at actor nodes n)) (λ stands owned.
      let node = node_at nodes n in
      let left = mark_left (bundle_at node.lists number).owner who (sym (ap (λ (bundle : Bundle). bundle.owner) (bundle_released node.lists number)) ∙ owned) in
      let within = subst (λ (m : ℕ). n < m) (length-map nodes (released_node actor)) below in
      let stood : Stands node.lists number = (stands.0, subst (λ (m : ℕ). number < m) (next_released node.lists) stands.1) in
      let before = runs n number who within stood left.1 in
      let here = in_run_stays node number who (actor_in actors who).job left.0 before.1 in
      (before.0, subst (λ (a : Actor). IsInRun (released_node actor node) number who a.job) (sym (other_actor actors count actor known after who left.0)) here))

  -- where the actor has no mark, nothing changes
  unowned : (owner : Option ℕ) → (owner ≡ Some actor → ⊥) → (if is_mark_of actor owner then None else owner) ≡ owner
  unowned None none = refl
  unowned (Some other) none = by (nat_eq other actor) refl
    where
      by : (mine : Bool) → nat_eq other actor ≡ mine → (if mine then None else Some other) ≡ Some other
      by true mine = absurd (none (ap (λ (n : ℕ). Some n) (eqb-true other actor mine)))
      by false mine = refl

  unmarked_bundles : (bundles : List Bundle) → ((i : ℕ) → i < length bundles → (get_or bundles i (plain [])).owner ≡ Some actor → ⊥) → map (without_mark actor) bundles ≡ bundles
  unmarked_bundles [] none = refl
  unmarked_bundles (bundle ∷ bundles) none =
      ap₂ (λ (b : Bundle) (bs : List Bundle). b ∷ bs)
      (ap (λ (owner : Option ℕ). let b : Bundle = record { branches = bundle.branches; owner = owner } in b) (unowned bundle.owner (none 0 (omega arith))))
      (unmarked_bundles bundles (λ i within. none (suc i) (omega arith)))

  unmarked_node : (node : NodeData) → ((number : ℕ) → Stands node.lists number → (bundle_at node.lists number).owner ≡ Some actor → ⊥) → released_node actor node ≡ node
  unmarked_node node none =
      ap (λ (bundles : List Bundle). let n : NodeData = record node { lists = record { first = node.lists.first; bundles = bundles } } in n)
      (unmarked_bundles node.lists.bundles (λ i within owned.
      let same : node.lists.first + i - node.lists.first ≡ i = omega arith in
      none (node.lists.first + i) (omega arith, omega arith) (ap (λ (k : ℕ). (get_or node.lists.bundles k (plain [])).owner) same ∙ owned)))

  pub unmarked_nodes : (nodes : List NodeData) → ((n number : ℕ) → n < length nodes → Stands (node_at nodes n).lists number → (bundle_at (node_at nodes n).lists number).owner ≡ Some actor → ⊥) → all_released nodes actor ≡ nodes
  unmarked_nodes [] none = refl
  unmarked_nodes (node ∷ nodes) none =
      ap₂ (λ (first : NodeData) (rest : List NodeData). first ∷ rest)
      (unmarked_node node (λ number. none 0 number (omega arith)))
      (unmarked_nodes nodes (λ n number within. none (suc n) number (omega arith)))

  starts_full : (bundles : List Bundle) → StartsFull bundles → StartsFull (map (without_mark actor) bundles)
  starts_full [] full = full
  starts_full (bundle ∷ bundles) full = full

  pub ends_stay : (nodes : List NodeData) → HasAllEnds nodes → HasAllEnds (all_released nodes actor)
  ends_stay nodes ends = record {
    each = All-map HasEnds (released_node actor) nodes
        (All-weaker HasEnds (λ (node : NodeData). HasEnds (released_node actor node)) (λ node has. record { mark = has.mark; front = starts_full node.lists.bundles has.front }) nodes ends.each);
    root =
        let P : NodeData → Type 0 = λ node. All (λ (bundle : Bundle). length bundle.branches ≤ 1) node.lists.bundles in
        subst P (sym (released_at actor nodes 0)) (All-map (λ (bundle : Bundle). length bundle.branches ≤ 1) (without_mark actor) (node_at nodes 0).lists.bundles ends.root);
  }

-- only a merge has runs
pub no_run : (job : Option Job) (node : NodeData) (number who : ℕ) → merges job ≡ false → IsInRun node number who job → ⊥
no_run None node number who none is = is
no_run (Some (Pack branch table)) node number who none is = is
no_run (Some (Merge branch run)) node number who none is = false≢true (sym none)

-- so only a merge has marks
pub unmarked : (actor : ℕ) (nodes : List NodeData) (actors : List Actor) → AreInRuns nodes actors → merges (actor_in actors actor).job ≡ false → nodes ≡ all_released nodes actor
unmarked actor nodes actors runs none =
    sym (unmarked_nodes actor nodes (λ n number within stands owned. no_run (actor_in actors actor).job (node_at nodes n) number actor none (runs n number actor within stands owned).1))

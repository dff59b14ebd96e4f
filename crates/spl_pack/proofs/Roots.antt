-- A branch that becomes the newest bundle of the root: what that leaves of the trunk.
use Rattle.std.proofs.Common.{◌≡◌, ◌≢◌, ℕ, ◌+◌, ◌-◌, ◌<◌, ◌≤◌, max, List, [], ◌∷◌, ◌++◌, Option, Some, None, length, take, drop, set, refl, sym, ap, subst, ◌∙◌, inl, inr, arith, length-append, length-drop}
use Rattle.std.specs.Prelude.{All}
use Rattle.std.proofs.lemmas.Bool.{cases_eq, cases_lt}
use Rattle.std.proofs.lemmas.List.{length-set, get_or-set_same, get_or-set_other, get_or_append_left, get_or_push, drop-append-le, take-append-le}
use Rattle.std.proofs.lemmas.List.Elements.{All-set, All-get_or, All-push}
use Rattle.spl_base.specs.declared.TheConstants.{ACTORS}
use Rattle.spl_bundle.specs.Numbered.{Numbered, Bundle, unmarked, bundle_at, next_of, joined, names, pushed}
use Rattle.spl_bundle.proofs.Changes.{names-pushed}
use Rattle.spl_node.specs.Node.{NodeData, bare}
use Rattle.spl_node.specs.Parts.{branches_from}
use Rattle.spl_node.specs.Steps.{fresh}
use Rattle.spl_trunk.specs.Trunk.{node_at}
use Rattle.spl_trunk.specs.Tree.{times, named}
use Rattle.spl_trunk.proofs.Counts.{times-append, times-replaced}
use Rattle.spl_state.specs.declared.job.Job.{Job}
use Rattle.spl_state.specs.declared.job.Job.TheVariants.{Pack, Merge}
use Rattle.spl_state.specs.declared.job.Run.{Run}
use Rattle.spl_state.specs.declared.actor.Actor.{Actor}
use Rattle.spl_state.specs.Actor.{actor_in}
use Rattle.spl_state.specs.Bounds.{StartsFull, HasEnds, HasAllEnds}
use Rattle.spl_state.specs.Runs.{Stands, HoldsRun, IsInRun, AreInRuns}
use Rattle.spl_pack.specs.Incorporating.{with_branch}

length-pushed : (queue : Numbered) (number : ℕ) → next_of (pushed queue (number ∷ [])) ≡ next_of queue + 1
length-pushed queue number = let long = length-append queue.bundles (unmarked (number ∷ []) ∷ []) in omega arith

-- a bundle that stood stands as it did
bundle_before : (queue : Numbered) (list : List ℕ) (n : ℕ) → n < next_of queue → queue.first ≤ n → bundle_at (pushed queue list) n ≡ bundle_at queue n
bundle_before queue list n below above = get_or_append_left queue.bundles (unmarked list ∷ []) (unmarked []) (n - queue.first) (omega arith)

bundle_last : (queue : Numbered) (list : List ℕ) (n : ℕ) → n ≡ next_of queue → bundle_at (pushed queue list) n ≡ unmarked list
bundle_last queue list n is = get_or_push queue.bundles (unmarked list) (unmarked []) (n - queue.first) (omega arith)

-- and so do the branches of a run that stands
same_run : (queue : Numbered) (list : List ℕ) (first last : ℕ) → first ≤ last → last < next_of queue → branches_from (pushed queue list) first (last + 1) ≡ branches_from queue first (last + 1)
same_run queue list first last order below =
    let from = first - queue.first in
    let count = last + 1 - max first queue.first in
    let rest = drop from queue.bundles in
    let long = length-drop from queue.bundles in
    ap (λ (bundles : List Bundle). joined (take count bundles)) (drop-append-le from queue.bundles (unmarked list ∷ []) (omega arith))
    ∙ ap joined (take-append-le count rest (unmarked list ∷ []) (omega arith))

starts_full : (bundles : List Bundle) (number : ℕ) → StartsFull bundles → StartsFull (bundles ++ unmarked (number ∷ []) ∷ [])
starts_full [] number full = omega arith
starts_full (bundle ∷ bundles) number full = full

module _ (nodes : List NodeData) (some : 0 < length nodes) (number : ℕ) where
  abbrev pub root : NodeData
  root = node_at nodes 0

  abbrev pub grown : NodeData
  grown = with_branch root number

  abbrev pub after : List NodeData
  after = set nodes 0 grown

  pub long : length after ≡ length nodes
  long = length-set nodes 0 grown

  pub root_is : node_at after 0 ≡ grown
  root_is = get_or-set_same nodes 0 grown (fresh 0 bare) some

  pub other_is : (n : ℕ) → n ≢ 0 → node_at after n ≡ node_at nodes n
  other_is n apart = get_or-set_other nodes 0 n grown (fresh 0 bare) apart

  pub each_node : (P : ℕ → NodeData → Type 0) → P 0 grown → ((n : ℕ) → n ≢ 0 → P n (node_at nodes n)) → (n : ℕ) → P n (node_at after n)
  each_node P here there n = elim (cases_eq n 0) [
    | inl same ↦ subst (λ (m : ℕ). P m (node_at after m)) (sym same) (subst (λ (node : NodeData). P 0 node) (sym root_is) here)
    | inr apart ↦ subst (λ (node : NodeData). P n node) (sym (other_is n apart)) (there n apart)
  ]

  -- all but the bundles stays
  pub same_part : {X : Type 0} (f : NodeData → X) → f grown ≡ f root → (n : ℕ) → f (node_at after n) ≡ f (node_at nodes n)
  same_part f same = each_node (λ (n : ℕ) (node : NodeData). f node ≡ f (node_at nodes n)) same (λ n apart. refl)

  -- the trunk names the branch once more
  pub named_now : (n : ℕ) → times n (named after) ≡ times n (named nodes) + times n (number ∷ [])
  named_now n =
      let change = times-replaced (λ (node : NodeData). names node.lists) n nodes 0 grown (fresh 0 bare) some in
      let more = ap (times n) (names-pushed root.lists (number ∷ [])) in
      let parts = times-append n (names root.lists) (number ∷ []) in
      omega arith

  holds_still : (who : ℕ) (run : Run) → run.first ≤ run.last → HoldsRun root who run → HoldsRun grown who run
  holds_still who run order holds = record {
    stands = (holds.stands.0, let next = length-pushed root.lists number in omega (arith, holds.stands.1));
    marks = λ n above below stands.
        let there : n < next_of root.lists = omega (arith, holds.stands.1) in
        ap (λ (bundle : Bundle). bundle.owner) (bundle_before root.lists (number ∷ []) n there stands) ∙ holds.marks n above below stands;
    inputs = same_run root.lists (number ∷ []) run.first run.last order holds.stands.1 ∙ holds.inputs;
    whole = holds.whole;
    within = holds.within;
    leaf = holds.leaf;
    oldest = holds.oldest;
  }

  in_run_still : (bundle who : ℕ) (j : Option Job) → IsInRun root bundle who j → IsInRun grown bundle who j
  in_run_still bundle who None run = run
  in_run_still bundle who (Some (Pack n table)) run = run
  in_run_still bundle who (Some (Merge n run)) is = (is.0, is.1, holds_still who run (omega (arith, is.0, is.1)) is.2)

  no_owner : (who : ℕ) → None ≡ Some who → ⊥
  no_owner who is = cc

  pub still_runs : (actors : List Actor) → AreInRuns nodes actors → AreInRuns after actors
  still_runs actors runs n bundle who below stands owned =
      each_node (λ (m : ℕ) (node : NodeData). m < length nodes → Stands node.lists bundle → (bundle_at node.lists bundle).owner ≡ Some who → (who < ACTORS) × IsInRun node bundle who (actor_in actors who).job)
      (λ there stands_here owned_here. elim (cases_lt bundle (next_of root.lists)) [
        | inl before ↦
            let was = runs 0 bundle who there (stands_here.0, before) (sym (ap (λ (b : Bundle). b.owner) (bundle_before root.lists (number ∷ []) bundle before stands_here.0)) ∙ owned_here) in
            (was.0, in_run_still bundle who (actor_in actors who).job was.1)
        | inr last ↦
            let next = length-pushed root.lists number in
            let is : bundle ≡ next_of root.lists = omega (arith, stands_here.1) in
            absurd (no_owner who (sym (ap (λ (b : Bundle). b.owner) (bundle_last root.lists (number ∷ []) bundle is)) ∙ owned_here))
      ])
      (λ m apart there stands_here owned_here. runs m bundle who there stands_here owned_here)
      n (subst (λ (k : ℕ). n < k) long below) stands owned

  pub still_ends : HasAllEnds nodes → HasAllEnds after
  still_ends ends =
      let here = All-get_or HasEnds nodes 0 (fresh 0 bare) some ends.each in
      let top : HasEnds grown = record { mark = here.mark; front = starts_full root.lists.bundles number here.front } in
      record {
        each = All-set HasEnds nodes 0 grown top ends.each;
        root = subst (λ (node : NodeData). All (λ (bundle : Bundle). length bundle.branches ≤ 1) node.lists.bundles) (sym root_is)
            (All-push (λ (bundle : Bundle). length bundle.branches ≤ 1) root.lists.bundles (unmarked (number ∷ [])) ends.root (omega arith));
      }

  pub next_numbers : (steps : ℕ) → All (λ (node : NodeData). next_of node.lists ≤ steps) nodes → All (λ (node : NodeData). next_of node.lists < steps) nodes → All (λ (node : NodeData). next_of node.lists ≤ steps) after
  next_numbers steps all room =
      let next = length-pushed root.lists number in
      let below = All-get_or (λ (node : NodeData). next_of node.lists < steps) nodes 0 (fresh 0 bare) some room in
      All-set (λ (node : NodeData). next_of node.lists ≤ steps) nodes 0 grown (omega arith) all

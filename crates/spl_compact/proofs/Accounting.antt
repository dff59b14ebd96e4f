-- Names of branches end one after another.
use Rattle.std.proofs.Common.{◌≡◌, ℕ, suc, ◌+◌, ◌-◌, ◌<◌, ◌≤◌, max, List, [], ◌∷◌, ◌++◌, Option, length, take, drop, refl, sym, ap, subst, ◌∙◌, inl, inr, arith, append_assoc}
use Rattle.std.specs.Prelude.{All, IsSome, IfSome, ◌↔◌, ◌⊎◌}
use Rattle.std.specs.Option.{option_to_list}
use Rattle.std.proofs.lemmas.Bool.{cases_eq, cases_lt}
use Rattle.std.proofs.lemmas.Bool.Decides.{nat_tests}
use Rattle.spl_numbers.specs.Numbers.{ListsEach}
use Rattle.spl_bundle.specs.Numbered.{Numbered, bundle_at, next_of, joined, names, merged, dropped_below}
use Rattle.spl_bundle.proofs.Changes.{names-dropped}
use Rattle.spl_extent.specs.declared.owner.Owner.{Owner}
use Rattle.spl_extent.specs.Pool.{granted_to}
use Rattle.spl_node.specs.Node.{NodeData}
use Rattle.spl_node.specs.Parts.{branches_from}
use Rattle.spl_node.specs.Steps.{with_lists, trimmed, kept_from}
use Rattle.spl_refs.specs.Refs.{Published, branch_at, count_at}
use Rattle.spl_trunk.specs.Tree.{times, named}
use Rattle.spl_trunk.specs.Trunk.{node_at, with_node, with_lists_at}
use Rattle.spl_trunk.proofs.Counts.{times-append}
use Rattle.spl_state.specs.Extents.{held_by}
use Rattle.spl_state.specs.Names.{AreAccounted}
use Rattle.spl_compact.specs.Names.{LetsGo}
use Rattle.spl_compact.proofs.Lists.{branches_first, no_branches}
use Rattle.spl_compact.proofs.MergedRun.{names-merged}
use Rattle.spl_compact.proofs.OneNode.{named_now}

module _ {B : Type 0} where
  pub goes_nowhere : (refs : Published B) (pool : List Owner) → LetsGo refs refs pool pool []
  goes_nowhere refs pool = record { fewer = λ n. omega arith; branches = λ n some. refl; granted = λ actor. refl }

  -- first the names of one part end, and then those of another
  pub goes_on_twice : (a b c : Published B) (p q r : List Owner) (added : List ℕ) → LetsGo a b p q added → LetsGo b c q r [] → LetsGo a c p r added
  goes_on_twice a b c p q r added first second = record {
    fewer = λ n. omega (arith, first.fewer n, second.fewer n);
    branches = λ n some. second.branches n some ∙ first.branches n (omega (arith, second.fewer n));
    granted = λ actor. second.granted actor ∙ first.granted actor;
  }

  pub goes : (a b : Published B) (p q : List Owner) → ((n : ℕ) → count_at b n ≤ count_at a n) → ((n : ℕ) → 0 < count_at b n → branch_at b n ≡ branch_at a n) → ((actor : ℕ) → granted_to q actor ≡ granted_to p actor) → LetsGo a b p q []
  goes a b p q fewer branches granted = record { fewer = λ n. omega (arith, fewer n); branches = branches; granted = granted }

  -- while the bundles at the front end their names
  pub record Fronts (extents_of : B → List ℕ) (old now : Published B) (before after : List Owner) (queue : Numbered) (number end : ℕ) : Type 0 where
    pub accounted : (rest : List ℕ) → AreAccounted extents_of (branches_from queue queue.first end ++ rest) old before → AreAccounted extents_of (branches_from queue number end ++ rest) now after
    pub names : LetsGo old now before after []

  module _ (extents_of : B → List ℕ) (old now : Published B) (before after : List Owner) (queue : Numbered) (number end : ℕ) (stands : queue.first ≤ number) (below : number < end) (made : end ≤ next_of queue) (so_far : Fronts extents_of old now before after queue number end) where
    parted : (rest : List ℕ) → branches_from queue number end ++ rest ≡ (bundle_at queue number).branches ++ (branches_from queue (number + 1) end ++ rest)
    parted rest =
        ap (λ (list : List ℕ). list ++ rest) (branches_first queue number end stands below made)
        ∙ append_assoc (bundle_at queue number).branches (branches_from queue (number + 1) end) rest

    -- those of the next bundle are named
    pub front_next : (rest : List ℕ) → AreAccounted extents_of (branches_from queue queue.first end ++ rest) old before → AreAccounted extents_of ((bundle_at queue number).branches ++ (branches_from queue (number + 1) end ++ rest)) now after
    front_next rest all = subst (λ (ms : List ℕ). AreAccounted extents_of ms now after) (parted rest) (so_far.accounted rest all)

    pub front_more : (new : Published B) (last : List Owner) → ((rest : List ℕ) → AreAccounted extents_of ((bundle_at queue number).branches ++ rest) now after → AreAccounted extents_of rest new last) → LetsGo now new after last [] → Fronts extents_of old new before last queue (number + 1) end
    front_more new last go names = record {
      accounted = λ rest all. go (branches_from queue (number + 1) end ++ rest) (front_next rest all);
      names = goes_on_twice old now new before after last [] so_far.names names;
    }

  -- only how often a number is named matters
  pub recounted : (extents_of : B → List ℕ) (mentions other : List ℕ) (refs : Published B) (pool : List Owner) → ((n : ℕ) → times n mentions ≡ times n other) → AreAccounted extents_of mentions refs pool → AreAccounted extents_of other refs pool
  recounted extents_of mentions other refs pool as_often are = record {
    counts = λ n. are.counts n ∙ as_often n;
    stands = are.stands;
    held = are.held;
    not_held = are.not_held;
  }

  pub fronts_begin : (extents_of : B → List ℕ) (refs : Published B) (pool : List Owner) (queue : Numbered) (number end : ℕ) → number ≡ queue.first → Fronts extents_of refs refs pool pool queue number end
  fronts_begin extents_of refs pool queue number end is = record {
    accounted = λ rest all. subst (λ (n : ℕ). AreAccounted extents_of (branches_from queue n end ++ rest) refs pool) (sym is) all;
    names = goes_nowhere refs pool;
  }

  pub fronts_end : (extents_of : B → List ℕ) (old now : Published B) (before after : List Owner) (queue : Numbered) (number end : ℕ) → queue.first ≤ number → end ≤ number → Fronts extents_of old now before after queue number end → (rest : List ℕ) → AreAccounted extents_of (branches_from queue queue.first end ++ rest) old before → AreAccounted extents_of rest now after
  fronts_end extents_of old now before after queue number end stands past so_far rest all =
      subst (λ (ms : List ℕ). AreAccounted extents_of (ms ++ rest) now after) (no_branches queue number end stands past) (so_far.accounted rest all)

  -- the names of a list were added
  pub held_accounted : (extents_of : B → List ℕ) (old now : Published B) (pool : List Owner) (added mentions : List ℕ) → ((n : ℕ) → 0 < times n added → IsSome (branch_at old n)) → ((n : ℕ) → count_at now n ≡ count_at old n + times n added) → ((n : ℕ) → branch_at now n ≡ branch_at old n) → AreAccounted extents_of mentions old pool → AreAccounted extents_of (added ++ mentions) now pool
  held_accounted extents_of old now pool added mentions stand counts same are = record {
    counts = λ n.
        let is = counts n in
        let before = are.counts n in
        let parts = times-append n added mentions in
        omega arith;
    stands = λ n.
        let is = counts n in
        subst (λ (o : Option B). IsSome o ↔ (0 < count_at now n)) (sym (same n)) (
          (λ some. let above = (are.stands n).0 some in omega arith),
          (λ above. by n (cases_lt 0 (count_at old n)) is above),
        );
    held = λ n. subst (λ (o : Option B). IfSome o (λ b. ListsEach (extents_of b) (held_by pool n))) (sym (same n)) (are.held n);
    not_held = λ n extent none. are.not_held n extent (sym (same n) ∙ none);
  }
    where
      by : (n : ℕ) → (0 < count_at old n) ⊎ (count_at old n ≤ 0) → count_at now n ≡ count_at old n + times n added → 0 < count_at now n → IsSome (branch_at old n)
      by n (inl some) is above = (are.stands n).1 some
      by n (inr none) is above = stand n (omega arith)

-- the names of a trunk in which a run gave way to its output
pub merged_names : (nodes : List NodeData) (node : ℕ) (exists : node < length nodes) (first last : ℕ) (output : Option ℕ) → first ≤ last → (node_at nodes node).lists.first ≤ last → last < next_of (node_at nodes node).lists → (n : ℕ) → times n (named (with_lists_at nodes node (merged (node_at nodes node).lists first last output))) + times n (branches_from (node_at nodes node).lists first (last + 1)) ≡ times n (named nodes) + times n (option_to_list output)
merged_names nodes node exists first last output order stands made n =
    let queue = (node_at nodes node).lists in
    let change = named_now nodes node exists (with_lists (node_at nodes node) (merged queue first last output)) n in
    let part = names-merged queue first last output order stands made n in
    omega arith

-- and of one that was trimmed
pub trimmed_names : (nodes : List NodeData) (node : ℕ) (exists : node < length nodes) (n : ℕ) → times n (named (with_node nodes node (trimmed (node_at nodes node)))) + times n (branches_from (node_at nodes node).lists (node_at nodes node).lists.first (kept_from (node_at nodes node))) ≡ times n (named nodes)
trimmed_names nodes node exists n =
    let queue = (node_at nodes node).lists in
    let kept = kept_from (node_at nodes node) in
    let change = named_now nodes node exists (trimmed (node_at nodes node)) n in
    let none : queue.first - queue.first ≡ 0 = omega arith in
    let same : max queue.first queue.first ≡ queue.first = omega arith in
    let front : branches_from queue queue.first kept ≡ joined (take (kept - queue.first) queue.bundles) =
    ap (λ (k : ℕ). joined (take (kept - k) (drop (queue.first - queue.first) queue.bundles))) same
    ∙ ap (λ (k : ℕ). joined (take (kept - queue.first) (drop k queue.bundles))) none in
    let counted = ap (times n) front in
    let parts = ap (times n) (names-dropped queue kept) in
    let both = times-append n (joined (take (kept - queue.first) queue.bundles)) (names (dropped_below queue kept)) in
    omega arith

module _ {B : Type 0} (extents_of : B → List ℕ) (nodes : List NodeData) (node : ℕ) (exists : node < length nodes) (refs : Published B) (pool : List Owner) (rest : List ℕ) where
  -- where the output is named already, the run's branches are named beside what the trunk is to name
  pub run_named : (first last : ℕ) (output : Option ℕ) → first ≤ last → (node_at nodes node).lists.first ≤ last → last < next_of (node_at nodes node).lists → AreAccounted extents_of (option_to_list output ++ (named nodes ++ rest)) refs pool
      → AreAccounted extents_of (branches_from (node_at nodes node).lists first (last + 1) ++ (named (with_lists_at nodes node (merged (node_at nodes node).lists first last output)) ++ rest)) refs pool
  run_named first last output order stands made =
      let run = branches_from (node_at nodes node).lists first (last + 1) in
      let after = named (with_lists_at nodes node (merged (node_at nodes node).lists first last output)) in
      recounted extents_of (option_to_list output ++ (named nodes ++ rest)) (run ++ (after ++ rest)) refs pool (λ n.
      let change = merged_names nodes node exists first last output order stands made n in
      let a = times-append n (option_to_list output) (named nodes ++ rest) in
      let b = times-append n (named nodes) rest in
      let c = times-append n run (after ++ rest) in
      let d = times-append n after rest in
      omega arith)

  -- and so are those of the bundles that a trim drops
  pub front_named : AreAccounted extents_of (named nodes ++ rest) refs pool → AreAccounted extents_of (branches_from (node_at nodes node).lists (node_at nodes node).lists.first (kept_from (node_at nodes node)) ++ (named (with_node nodes node (trimmed (node_at nodes node))) ++ rest)) refs pool
  front_named =
      let front = branches_from (node_at nodes node).lists (node_at nodes node).lists.first (kept_from (node_at nodes node)) in
      let after = named (with_node nodes node (trimmed (node_at nodes node))) in
      recounted extents_of (named nodes ++ rest) (front ++ (after ++ rest)) refs pool (λ n.
      let change = trimmed_names nodes node exists n in
      let a = times-append n (named nodes) rest in
      let b = times-append n front (after ++ rest) in
      let c = times-append n after rest in
      omega arith)

-- what stands of an output
pub stands_listed : {B : Type 0} (at : ℕ → Option B) (numbers : List ℕ) → All (λ n. IsSome (at n)) numbers → (n : ℕ) → 0 < times n numbers → IsSome (at n)
stands_listed at [] all n some = absurd (omega arith)
stands_listed at (number ∷ numbers) all n some = elim (cases_eq n number) [
  | inl same ↦ subst (λ (m : ℕ). IsSome (at m)) (sym same) (all 0 number (omega arith))
  | inr apart ↦
      let parts = times-append n (number ∷ []) numbers in
      let none : times n (number ∷ []) ≡ 0 = grind (arith, nat_tests) in
      stands_listed at numbers (λ k d within. all (suc k) d (omega arith)) n (omega arith)
]

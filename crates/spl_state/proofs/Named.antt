-- Tables of branches that nothing names may change.
use Rattle.std.proofs.Common.{◌≡◌, ℕ, zero, suc, ◌-◌, ◌<◌, ◌≤◌, List, [], ◌∷◌, Option, None, length, map, take, drop, get_or, refl, sym, ap, ◌∙◌, inl, inr, arith, take-append-drop}
use Rattle.std.proofs.lemmas.Bool.{cases_lt}
use Rattle.std.proofs.lemmas.List.{get_or_past}
use Rattle.spl_message.specs.declared.span.Span.{Span}
use Rattle.spl_message.specs.Cell.{Cell}
use Rattle.spl_message.specs.Message.{act_all}
use Rattle.spl_message.specs.Rule.{Rule}
use Rattle.spl_message.specs.Table.{Table, chain}
use Rattle.spl_bundle.specs.Numbered.{Numbered, Bundle, joined, live, names}
use Rattle.spl_bundle.proofs.Live.{joined-append}
use Rattle.spl_node.specs.Node.{NodeData, bare}
use Rattle.spl_node.specs.Steps.{fresh}
use Rattle.spl_trunk.specs.Trunk.{node_at}
use Rattle.spl_trunk.specs.Tree.{times, named, sub, live_tables, pivot_of, child_for}
use Rattle.spl_state.specs.Whole.{BranchData}
use Rattle.spl_state.specs.Sight.{cuts_inside, middle, only_split, leaf_split, split_key_at, split_key}
use Rattle.spl_trunk.proofs.Counts.{times-append, times_one, times_itself}

-- what is live is named
pub live_named : (n : ℕ) (queue : Numbered) (mark : ℕ) → times n (live queue mark) ≤ times n (names queue)
live_named n queue mark =
    let parts = ap joined (take-append-drop (mark - queue.first) queue.bundles) in
    let joins = joined-append (take (mark - queue.first) queue.bundles) (drop (mark - queue.first) queue.bundles) in
    let both = ap (times n) (sym joins ∙ parts) in
    let sum = times-append n (joined (take (mark - queue.first) queue.bundles)) (live queue mark) in
    omega arith

-- and what a node names is named, also by one that is not there
pub node_named : (n : ℕ) (nodes : List NodeData) (number : ℕ) → times n (names (node_at nodes number).lists) ≤ times n (named nodes)
node_named n nodes number = elim (cases_lt number (length nodes)) [
  | inl within ↦ times_one (λ (node : NodeData). names node.lists) n nodes number (fresh 0 bare) within
  | inr past ↦ let none = ap (λ (node : NodeData). times n (names node.lists)) (get_or_past nodes number (fresh 0 bare) past) in omega arith
]

module _ {X : Type 0} (f g : ℕ → X) where
  -- functions that agree on what a list has make the same of it
  pub same_map : (numbers : List ℕ) → ((n : ℕ) → 0 < times n numbers → f n ≡ g n) → map f numbers ≡ map g numbers
  same_map [] agree = refl
  same_map (number ∷ numbers) agree =
      let first : f number ≡ g number = agree number (let one = times-append number (number ∷ []) numbers in let here = times_itself number in omega arith) in
      let rest = same_map numbers (λ n some. agree n (let all = times-append n (number ∷ []) numbers in omega arith)) in
      ap (λ (x : X). x ∷ map f numbers) first ∙ ap (λ (xs : List X). g number ∷ xs) rest

module _ {X : Type 0} (nodes : List NodeData) (before after : ℕ → X) (agree : (n : ℕ) → 0 < times n (named nodes) → after n ≡ before n) where
  pub same_live : (number mark : ℕ) → map after (live (node_at nodes number).lists mark) ≡ map before (live (node_at nodes number).lists mark)
  same_live number mark = same_map after before (live (node_at nodes number).lists mark) (λ n some. agree n (let up = live_named n (node_at nodes number).lists mark in let all = node_named n nodes number in omega arith))

module _ (rule : Rule) (nodes : List NodeData) (before after : ℕ → Table) (agree : (n : ℕ) → 0 < times n (named nodes) → after n ≡ before n) where
  -- what a node makes of a key asks only for tables of branches that are named
  pub sub_agrees : (height number : ℕ) (key : List ℕ) → sub rule after (node_at nodes) height number key ≡ sub rule before (node_at nodes) height number key
  sub_agrees zero number key = ap (λ (tables : List Table). act_all rule key None (chain tables key)) (same_live nodes before after agree number (pivot_of (node_at nodes number) key).mark)
  sub_agrees (suc height) number key =
      ap (λ (cell : Cell). act_all rule key cell (chain (live_tables after (node_at nodes number) key) key)) (sub_agrees height (child_for (node_at nodes number) key) key)
      ∙ ap (λ (tables : List Table). act_all rule key (sub rule before (node_at nodes) height (child_for (node_at nodes number) key) key) (chain tables key)) (same_live nodes before after agree number (pivot_of (node_at nodes number) key).mark)

-- a number of a list stands in it
pub stands_in : (n : ℕ) (xs : List ℕ) (k : ℕ) → k < length xs → get_or xs k n ≡ n → 0 < times n xs
stands_in n [] k within is = absurd (omega arith)
stands_in n (x ∷ xs) zero within is =
    let all = times-append n (x ∷ []) xs in
    let one = times_itself n in
    let same = ap (λ (m : ℕ). times n (m ∷ [])) is in
    omega arith
stands_in n (x ∷ xs) (suc k) within is =
    let all = times-append n (x ∷ []) xs in
    let rest = stands_in n xs k (omega arith) is in
    omega arith

-- where a node is to be split asks only for branches that it names
module _ (range : Span) (before after : ℕ → Option BranchData) where
  same_only : (numbers : List ℕ) → ((n : ℕ) → 0 < times n numbers → after n ≡ before n) → only_split range after numbers ≡ only_split range before numbers
  same_only [] agree = refl
  same_only (number ∷ []) agree = ap (λ (branch : Option BranchData). middle (cuts_inside range branch)) (agree number (let one = times_itself number in omega arith))
  same_only (number ∷ other ∷ numbers) agree = refl

  same_leaf : (bundles : List Bundle) → ((n : ℕ) → 0 < times n (joined bundles) → after n ≡ before n) → leaf_split range after bundles ≡ leaf_split range before bundles
  same_leaf [] agree = refl
  same_leaf (bundle ∷ []) agree = same_only bundle.branches (λ n some. agree n (let all = times-append n bundle.branches [] in omega arith))
  same_leaf (bundle ∷ other ∷ bundles) agree = refl

pub same_split : (before after : ℕ → Option BranchData) (node : NodeData) → ((n : ℕ) → 0 < times n (names node.lists) → after n ≡ before n) → split_key after node ≡ split_key before node
same_split before after node agree = by node.height
  where
    by : (height : ℕ) → split_key_at after node height ≡ split_key_at before node height
    by zero = same_leaf node.range before after node.lists.bundles agree
    by (suc height) = refl

-- What a survey shows, one bundle and one child more, and the branches as plain data.
use Rattle.std.proofs.Common.{◌≡◌, ℕ, zero, suc, ◌+◌, ◌<◌, max, fold, List, [], ◌∷◌, ◌++◌, Option, Some, None, length, get_or, take, refl, ap, subst, ◌∙◌, arith}
use Rattle.std.specs.Option.{option_to_list}
use Rattle.std.proofs.lemmas.List.{take_more}
use Rattle.std.proofs.lemmas.Grind.{flat_map-append, fold-append}
use Rattle.spl_bundle.specs.Numbered.{Bundle, unmarked}
use Rattle.spl_trunk.specs.Trunk.{node_at}
use Rattle.spl_node.specs.declared.pivot.Pivot.{Pivot}
use Rattle.spl_node.specs.Node.{NodeData, bare}
use Rattle.spl_state.specs.declared.view.BundleView.{BundleView}
use Rattle.spl_state.specs.declared.view.View.{View}
use Rattle.spl_state.specs.Sight.{split_key_at, split_key, leaf_split, only_split, cuts_inside, middle}
use Rattle.spl_state.specs.Whole.{BranchData, Whole, branches}
use Rattle.spl_survey.specs.Surveys.{IsViewOf, view_with, views_from, children_of}

views-append : (first : ℕ) (front : List Bundle) (bundle : Bundle) → views_from first (front ++ bundle ∷ []) ≡ views_from first front ++ view_with (first + length front) bundle ∷ []
views-append first [] bundle = ap (λ (n : ℕ). view_with n bundle ∷ []) (omega arith)
views-append first (b ∷ bs) bundle =
    ap (λ (vs : List BundleView). view_with first b ∷ vs)
    (views-append (first + 1) bs bundle ∙ ap (λ (n : ℕ). views_from (first + 1) bs ++ view_with n bundle ∷ []) (omega arith))

length-front : {A : Type 0} (xs : List A) (i : ℕ) → i < length xs → length (take i xs) ≡ i
length-front [] i within = absurd (omega arith)
length-front (x ∷ xs) zero within = refl
length-front (x ∷ xs) (suc i) within = ap suc (length-front xs i (omega arith))

-- one bundle more
pub views_more : (first : ℕ) (bundles : List Bundle) (i : ℕ) → i < length bundles → views_from first (take (i + 1) bundles) ≡ views_from first (take i bundles) ++ view_with (first + i) (get_or bundles i (unmarked [])) ∷ []
views_more first bundles i within =
    let bundle = get_or bundles i (unmarked []) in
    ap (views_from first) (take_more bundles i (unmarked []) within)
    ∙ views-append first (take i bundles) bundle
    ∙ ap (λ (n : ℕ). views_from first (take i bundles) ++ view_with (first + n) bundle ∷ []) (length-front bundles i within)

-- one pivot more
pub greatest_more : (node : ℕ) (pivots : List Pivot) (i : ℕ) → i < length pivots → fold max node (children_of (take (i + 1) pivots)) ≡ fold max (fold max node (children_of (take i pivots))) (option_to_list (get_or pivots i bare).child)
greatest_more node pivots i within =
    let pivot = get_or pivots i bare in
    let child = λ (p : Pivot). option_to_list p.child in
    ap (λ (ps : List Pivot). fold max node (children_of ps)) (take_more pivots i bare within)
    ∙ ap (fold max node) (flat_map-append child (take i pivots) (pivot ∷ []))
    ∙ fold-append max node (children_of (take i pivots)) (children_of (pivot ∷ []))
    ∙ ap (fold max (fold max node (children_of (take i pivots)))) (alone pivot.child)
  where
    alone : (o : Option ℕ) → option_to_list o ++ [] ≡ option_to_list o
    alone None = refl
    alone (Some n) = refl

-- the split key is a matter of what stands at each number
pub split_same : (one other : ℕ → Option BranchData) → ((number : ℕ) → one number ≡ other number) → (node : NodeData) → split_key one node ≡ split_key other node
split_same one other same node = by node.height
  where
    only : (numbers : List ℕ) → only_split node.range one numbers ≡ only_split node.range other numbers
    only [] = refl
    only (n ∷ []) = ap (λ (b : Option BranchData). middle (cuts_inside node.range b)) (same n)
    only (n ∷ m ∷ ns) = refl

    leaf : (bundles : List Bundle) → leaf_split node.range one bundles ≡ leaf_split node.range other bundles
    leaf [] = refl
    leaf (b ∷ []) = only b.branches
    leaf (b ∷ c ∷ bs) = refl

    by : (height : ℕ) → split_key_at one node height ≡ split_key_at other node height
    by zero = leaf node.lists.bundles
    by (suc height) = refl

-- a view that was read from the node
pub view_where : (whole before : Whole) → whole ≡ before → (number : ℕ) (node : NodeData) → node ≡ node_at whole.nodes number → (view : View) → view.height ≡ node.height → view.generation ≡ node.generation → view.pivots ≡ node.pivots → view.bundles ≡ views_from node.lists.first node.lists.bundles → view.split ≡ split_key (branches whole) node → view.running ≡ whole.counters.running → IsViewOf before number view
view_where whole before is_whole number node is_node view height generation pivots bundles split running =
    let here : IsViewOf whole number view = record {
      height = height ∙ ap (λ (n : NodeData). n.height) is_node;
      generation = generation ∙ ap (λ (n : NodeData). n.generation) is_node;
      pivots = pivots ∙ ap (λ (n : NodeData). n.pivots) is_node;
      bundles = bundles ∙ ap (λ (n : NodeData). views_from n.lists.first n.lists.bundles) is_node;
      split = split ∙ ap (split_key (branches whole)) is_node;
      running = running;
    } in
    subst (λ (w : Whole). IsViewOf w number view) is_whole here

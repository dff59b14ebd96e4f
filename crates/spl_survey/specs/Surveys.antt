-- What a survey shows of a node, and what it makes of the state.
use Rattle.std.specs.Prelude.{◌≡◌, ℕ, ◌+◌, max, List, [], ◌∷◌, Option, fold, flat_map, length, slice_set}
use Rattle.std.specs.Option.{option_map, option_to_list}
use Rattle.spl_bundle.specs.Numbered.{Bundle}
use Rattle.spl_node.specs.declared.pivot.Pivot.{Pivot}
use Rattle.spl_refs.specs.Refs.{Published, branch_at}
use Rattle.spl_trunk.specs.Trunk.{node_at}
use Rattle.spl_state.specs.declared.reply.Reply.{Reply}
use Rattle.spl_state.specs.declared.reply.Reply.TheVariants as reply
use Rattle.spl_state.specs.declared.view.BundleView.{BundleView}
use Rattle.spl_state.specs.declared.view.View.{View}
use Rattle.spl_state.specs.Actor.{actor_in, told_of}
use Rattle.spl_state.specs.Sight.{split_key}
use Rattle.spl_state.specs.Whole.{BranchData, Whole, branches}

-- the bundle with its number, how many branches it names, and the actor of its mark
abbrev pub view_with : ℕ → Bundle → BundleView
view_with number bundle = record { number = number; branches = length bundle.branches; ticket = bundle.owner }

-- the bundles, numbered from the first one on
abbrev pub views_from : ℕ → List Bundle → List BundleView
views_from first [] = []
views_from first (bundle ∷ bundles) = view_with first bundle ∷ views_from (first + 1) bundles

-- the children of the pivots, in their order
abbrev pub children_of : List Pivot → List ℕ
children_of pivots = flat_map (λ (pivot : Pivot). option_to_list pivot.child) pivots

-- the greatest number of a node that the view of this node names: its own, or a child's
abbrev pub greatest_named : Whole → ℕ → ℕ
greatest_named whole node = fold max node (children_of (node_at whole.nodes node).pivots)

-- the actor is told of that node
abbrev pub surveyed : Whole → ℕ → ℕ → Whole
surveyed whole actor node = record whole {
  actors = slice_set whole.actors actor (told_of (actor_in whole.actors actor) (greatest_named whole node));
}

-- the view shows the node with this number as the state has it
pub record IsViewOf (whole : Whole) (node : ℕ) (view : View) : Type 0 where
  pub height : view.height ≡ (node_at whole.nodes node).height
  pub generation : view.generation ≡ (node_at whole.nodes node).generation
  pub pivots : view.pivots ≡ (node_at whole.nodes node).pivots
  pub bundles : view.bundles ≡ views_from (node_at whole.nodes node).lists.first (node_at whole.nodes node).lists.bundles
  pub split : view.split ≡ split_key (branches whole) (node_at whole.nodes node)
  pub running : view.running ≡ whole.counters.running

module _ {B : Type 0} where
  -- the branch with this number as plain data
  abbrev pub seen_in : (B → BranchData) → Published B → ℕ → Option BranchData
  seen_in data_of refs number = option_map data_of (branch_at refs number)

  -- what holds of an answer that is a view, and of each other answer
  abbrev pub OnView : Reply B → (View → Type 0) → Type 0 → Type 0
  OnView (reply.View view) IsShown IsElse = IsShown view
  OnView answer IsShown IsElse = IsElse

  abbrev pub IfView : Reply B → (View → Type 0) → Type 0
  IfView answer IsShown = OnView answer IsShown (Unit {0})

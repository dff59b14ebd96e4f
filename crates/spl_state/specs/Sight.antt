-- What an actor may rely on until it makes its next step, whatever the others do.
use Rattle.std.specs.Prelude.{◌≡◌, ℕ, nat_lt, ◌/◌, ◌&&◌, zero, suc, Contains, if◌then◌else◌, Bool, true, List, [], ◌∷◌, map, filter, length, Option, Some, None, slice_get}
use Rattle.spl_message.specs.declared.span.Span.{Span}
use Rattle.spl_message.specs.Cell.{Cell}
use Rattle.spl_message.specs.Rule.{Rule}
use Rattle.spl_message.specs.Span.{InSpan, in_span}
use Rattle.spl_message.specs.Table.{Table, part_of}
use Rattle.spl_bundle.specs.Numbered.{Bundle, Numbered, live}
use Rattle.spl_node.specs.declared.pivot.Pivot.{Pivot}
use Rattle.spl_node.specs.Node.{NodeData, pivot_at, is_past}
use Rattle.spl_trunk.specs.Trunk.{node_at}
use Rattle.spl_trunk.specs.Tree.{sub}
use Rattle.spl_holds.specs.declared.grip.Grip.{Grip}
use Rattle.spl_holds.specs.declared.grip.Grip.TheVariants.{Write}
use Rattle.spl_holds.specs.Holds.{grip_of}
use Rattle.spl_extent.specs.Pool.{granted_to}
use Rattle.spl_tables.specs.Memtables.{FrozenData}
use Rattle.spl_state.specs.declared.descent.Descent.{Descent}
use Rattle.spl_state.specs.declared.job.Job.{Job}
use Rattle.spl_state.specs.declared.job.Job.TheVariants.{Pack, Merge}
use Rattle.spl_state.specs.declared.actor.Actor.{Actor}
use Rattle.spl_state.specs.Actor.{actor_in}
use Rattle.spl_state.specs.Whole.{BranchData, Whole, branches, table_in}
use Rattle.spl_state.specs.Actors.{pivot_from}

-- the key lies strictly inside the range
abbrev pub is_inside : Span → List ℕ → Bool
is_inside range key = is_past range.from key && in_span range key

-- the cuts of the branch that lie strictly inside the range
abbrev pub cuts_inside : Span → Option BranchData → List (List ℕ)
cuts_inside range None = []
cuts_inside range (Some branch) = filter (is_inside range) branch.cuts

-- the middle one of at least three cuts
abbrev pub middle : List (List ℕ) → Option (List ℕ)
middle cuts = if nat_lt (length cuts) 3 then None else slice_get cuts (length cuts / 2)

-- the middle cut of the only branch
abbrev pub only_split : Span → (ℕ → Option BranchData) → List ℕ → Option (List ℕ)
only_split range branch [] = None
only_split range branch (number ∷ []) = middle (cuts_inside range (branch number))
only_split range branch (number ∷ other ∷ numbers) = None

-- where a leaf with these bundles is to be split: at the middle cut of its only branch
abbrev pub leaf_split : Span → (ℕ → Option BranchData) → List Bundle → Option (List ℕ)
leaf_split range branch [] = None
leaf_split range branch (bundle ∷ []) = only_split range branch bundle.branches
leaf_split range branch (bundle ∷ other ∷ bundles) = None

-- and that of a node of this height
abbrev pub split_key_at : (ℕ → Option BranchData) → NodeData → ℕ → Option (List ℕ)
split_key_at branch node zero = leaf_split node.range branch node.lists.bundles
split_key_at branch node (suc height) = if nat_lt (length node.pivots) 16 then None else (pivot_at node.pivots 8).start

-- the key at which a node is to be split, where it is to be: an index node with 16 pivots at the start of its middle pivot
abbrev pub split_key : (ℕ → Option BranchData) → NodeData → Option (List ℕ)
split_key branch node = split_key_at branch node node.height

-- the tables that are live for the pivot of the span's start, each within the span, oldest first
abbrev pub tables_under : (ℕ → Option BranchData) → NodeData → Span → List Table
tables_under branch node span =
    map (λ number. part_of span (table_in branch number)) (live node.lists (pivot_at node.pivots (pivot_from node.pivots span.from)).mark)

-- a descent sees the node's height and live tables, and what the node and those below it make of each key of the span
pub record SeesNode (rule : Rule) (tells : Bool) (old new : Whole) (descent : Descent) : Type 0 where
  pub height : (node_at new.nodes descent.node).height ≡ (node_at old.nodes descent.node).height
  pub pivots : (node_at new.nodes descent.node).pivots ≡ (node_at old.nodes descent.node).pivots
  pub tables : tables_under (branches new) (node_at new.nodes descent.node) descent.span ≡ tables_under (branches old) (node_at old.nodes descent.node) descent.span
  pub rest : tells ≡ true → (key : List ℕ) → InSpan descent.span key → sub rule (table_in (branches new)) (node_at new.nodes) (node_at new.nodes descent.node).height descent.node key ≡ sub rule (table_in (branches old)) (node_at old.nodes) (node_at old.nodes descent.node).height descent.node key

-- a job sees the table that it packs, or those that it merges
abbrev pub SeesSource : Whole → Whole → Job → Type 0
SeesSource old new (Pack number table) = (i : ℕ) (f : FrozenData) → slice_get old.tables.frozen i ≡ Some f → f.number ≡ table → (j : ℕ) × (slice_get new.tables.frozen j ≡ Some f)
SeesSource old new (Merge number run) = (n : ℕ) → Contains run.inputs n → branches new n ≡ branches old n

-- a node has as many pivots and bundles as before, and the same split key
pub record KeepsNode (old new : Whole) (node : ℕ) : Type 0 where
  pub pivots : length (node_at new.nodes node).pivots ≡ length (node_at old.nodes node).pivots
  pub bundles : length (node_at new.nodes node).lists.bundles ≡ length (node_at old.nodes node).lists.bundles
  pub split : split_key (branches new) (node_at new.nodes node) ≡ split_key (branches old) (node_at old.nodes node)

-- the state after a step has for the actor what the state before it had
pub record KeepsSight (rule : Rule) (tells : Bool) (old new : Whole) (number : ℕ) : Type 0 where
  pub actor : actor_in new.actors number ≡ actor_in old.actors number
  pub grips : (node : ℕ) → grip_of new.grips number node ≡ grip_of old.grips number node
  pub extents : granted_to new.owners number ≡ granted_to old.owners number
  pub descent : (descent : Descent) → (actor_in old.actors number).descent ≡ Some descent → SeesNode rule tells old new descent
  pub job : (job : Job) → (actor_in old.actors number).job ≡ Some job → SeesSource old new job
  -- and so do the nodes that it writes
  pub written : (node : ℕ) → grip_of old.grips number node ≡ Write → KeepsNode old new node

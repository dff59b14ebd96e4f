-- One node of a trunk is replaced.
use Rattle.std.proofs.Common.{◌≡◌, ◌≢◌, ℕ, ◌+◌, ◌<◌, List, length, set, refl, sym, subst, inl, inr}
use Rattle.std.proofs.lemmas.Bool.{cases_eq}
use Rattle.std.proofs.lemmas.List.{length-set, get_or-set_same, get_or-set_other}
use Rattle.spl_bundle.specs.Numbered.{names}
use Rattle.spl_node.specs.Node.{NodeData, bare}
use Rattle.spl_node.specs.Steps.{fresh}
use Rattle.spl_trunk.specs.Trunk.{node_at}
use Rattle.spl_trunk.specs.Tree.{times, named}
use Rattle.spl_trunk.proofs.Counts.{times-replaced}

module _ (nodes : List NodeData) (node : ℕ) (exists : node < length nodes) (now : NodeData) where
  abbrev pub replaced : List NodeData
  replaced = set nodes node now

  pub long : length replaced ≡ length nodes
  long = length-set nodes node now

  pub this_node : node_at replaced node ≡ now
  this_node = get_or-set_same nodes node now (fresh 0 bare) exists

  pub other_node : (n : ℕ) → n ≢ node → node_at replaced n ≡ node_at nodes n
  other_node n apart = get_or-set_other nodes node n now (fresh 0 bare) apart

  -- what holds of the new one, and of the others, holds of each
  pub each_node : (P : ℕ → NodeData → Type 0) → P node now → ((n : ℕ) → n ≢ node → P n (node_at nodes n)) → (n : ℕ) → P n (node_at replaced n)
  each_node P here there n = elim (cases_eq n node) [
    | inl same ↦ subst (λ (m : ℕ). P m (node_at replaced m)) (sym same) (subst (λ (a : NodeData). P node a) (sym this_node) here)
    | inr apart ↦ subst (λ (a : NodeData). P n a) (sym (other_node n apart)) (there n apart)
  ]

  -- what is the same of both stays for every node
  pub same_part : {X : Type 0} (f : NodeData → X) → f now ≡ f (node_at nodes node) → (n : ℕ) → f (node_at replaced n) ≡ f (node_at nodes n)
  same_part f same = each_node (λ (n : ℕ) (a : NodeData). f a ≡ f (node_at nodes n)) same (λ n apart. refl)

  -- the count of what is named changes by what the node names
  pub named_now : (n : ℕ) → times n (named replaced) + times n (names (node_at nodes node).lists) ≡ times n (named nodes) + times n (names now.lists)
  named_now n = times-replaced (λ (a : NodeData). names a.lists) n nodes node now (fresh 0 bare) exists

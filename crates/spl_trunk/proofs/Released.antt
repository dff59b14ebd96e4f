-- A trunk without an actor's marks: who marked a bundle is no matter to the shape, and to what a node makes of a key.
use Rattle.std.proofs.Common.{◌≡◌, ℕ, zero, suc, ◌+◌, ◌<◌, nat_lt, if◌then◌else◌, List, [], ◌∷◌, ◌++◌, Some, None, map, flat_map, length, refl, sym, ap, ap₂, subst, ◌∙◌, arith}
use Rattle.std.proofs.lemmas.List.{length-map}
use Rattle.std.proofs.lemmas.List.Elements.{All-from_get_or, All-get_or}
use Rattle.spl_message.specs.Cell.{Cell}
use Rattle.spl_message.specs.Message.{act_all}
use Rattle.spl_message.specs.Rule.{Rule}
use Rattle.spl_message.specs.Table.{Table, chain}
use Rattle.spl_bundle.specs.Numbered.{live}
use Rattle.spl_bundle.proofs.Changes.{live-released, names-released}
use Rattle.spl_node.specs.Node.{NodeData, bare, pivot_at, IsNode}
use Rattle.spl_node.specs.Steps.{fresh}
use Rattle.spl_trunk.specs.Trunk.{node_at, released_node, all_released}
use Rattle.spl_trunk.specs.Tree.{sub, child_for, pivot_of, children, named, times, IsChild, IsShaped}
use Rattle.spl_trunk.proofs.Shapes.{released_node as released_is}

module _ (actor : ℕ) where
  -- each node is the one that stood there, without the marks
  pub released_at : (nodes : List NodeData) (n : ℕ) → node_at (all_released nodes actor) n ≡ released_node actor (node_at nodes n)
  released_at [] n = refl
  released_at (node ∷ nodes) zero = refl
  released_at (node ∷ nodes) (suc n) = released_at nodes n

  same_children : (nodes : List NodeData) → flat_map children (all_released nodes actor) ≡ flat_map children nodes
  same_children [] = refl
  same_children (node ∷ nodes) = ap (λ (rest : List ℕ). children node ++ rest) (same_children nodes)

  -- the same branches are named
  pub named_released : (nodes : List NodeData) → named (all_released nodes actor) ≡ named nodes
  named_released [] = refl
  named_released (node ∷ nodes) = ap₂ ◌++◌ (names-released node.lists actor) (named_released nodes)

  pub shaped_all_released : (nodes : List NodeData) → IsShaped nodes → IsShaped (all_released nodes actor)
  shaped_all_released nodes shaped =
      let long = length-map nodes (released_node actor) in
      let some = shaped.some in
      let few = shaped.few in
      let at = released_at nodes in
      record {
        some = omega arith;
        few = omega arith;
        each = All-from_get_or IsNode (all_released nodes actor) (fresh 0 bare) (λ n within.
            subst IsNode (sym (at n)) (released_is (node_at nodes n) (All-get_or IsNode nodes n (fresh 0 bare) (omega arith) shaped.each) actor));
        root = ap (λ (node : NodeData). node.range) (at 0) ∙ shaped.root;
        children = λ n i child below.
            let P : NodeData → Type 0 = λ node. i < length node.pivots → (pivot_at node.pivots i).child ≡ Some child → IsChild (all_released nodes actor) node i child in
            subst P (sym (at n)) (λ within leads_to.
            let old = shaped.children n i child (omega arith) within leads_to in
            record {
              exists = let there = old.exists in omega arith;
              height = ap (λ (node : NodeData). node.height + 1) (at child) ∙ old.height;
              range = ap (λ (node : NodeData). node.range) (at child) ∙ old.range;
            });
        parents = λ k.
            ap (λ (rest : List ℕ). times k (0 ∷ rest)) (same_children nodes)
            ∙ shaped.parents k
            ∙ ap (λ (m : ℕ). if nat_lt k m then 1 else 0) (sym long);
      }

  -- each node makes of a key what it made
  module _ (rule : Rule) (table_of : ℕ → Table) (nodes : List NodeData) where
    same_live : (n : ℕ) (key : List ℕ) → live (released_node actor (node_at nodes n)).lists (pivot_of (node_at nodes n) key).mark ≡ live (node_at nodes n).lists (pivot_of (node_at nodes n) key).mark
    same_live n key = live-released (node_at nodes n).lists (pivot_of (node_at nodes n) key).mark actor

    pub sub_released : (height n : ℕ) (key : List ℕ) → sub rule table_of (node_at (all_released nodes actor)) height n key ≡ sub rule table_of (node_at nodes) height n key
    sub_released zero n key =
        ap (λ (node : NodeData). act_all rule key None (chain (map table_of (live node.lists (pivot_of node key).mark)) key)) (released_at nodes n)
        ∙ ap (λ (numbers : List ℕ). act_all rule key None (chain (map table_of numbers) key)) (same_live n key)
    sub_released (suc height) n key =
        let c = child_for (node_at nodes n) key in
        ap (λ (node : NodeData). act_all rule key (sub rule table_of (node_at (all_released nodes actor)) height (child_for node key) key) (chain (map table_of (live node.lists (pivot_of node key).mark)) key)) (released_at nodes n)
        ∙ ap (λ (numbers : List ℕ). act_all rule key (sub rule table_of (node_at (all_released nodes actor)) height c key) (chain (map table_of numbers) key)) (same_live n key)
        ∙ ap (λ (cell : Cell). act_all rule key cell (chain (map table_of (live (node_at nodes n).lists (pivot_of (node_at nodes n) key).mark)) key)) (sub_released height c key)

-- How many leaves a trunk has.
use Rattle.std.specs.Prelude.{ℕ, List, nat_eq}
use Rattle.std.specs.List.{count_by}
use Rattle.spl_node.specs.Node.{NodeData}

-- the nodes of height 0
abbrev pub leaf_count : List NodeData → ℕ
leaf_count nodes = count_by (λ (node : NodeData). nat_eq node.height 0) nodes

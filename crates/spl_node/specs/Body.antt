-- How a node's data lies in its fields.
use Rattle.std.specs.Prelude.{◌≤◌}
use Rattle.spl_node.specs.declared.node.Body.{Body}
use Rattle.spl_node.specs.declared.node.Node.TheInside.{Inside}
use Rattle.spl_node.specs.declared.node.TheConstants.{MAX_PIVOTS}
use Rattle.spl_node.specs.Node.{NodeData, IsNode}

abbrev pub in_body : Body → NodeData
in_body body = record {
  height = body.height;
  range = body.range;
  generation = body.generation;
  pivots = body.pivots.items;
  lists = body.lists;
}

abbrev pub node_in : Inside → NodeData
node_in inside = in_body inside.body.value

-- what holds of the fields: adding a pivot takes no memory
pub record IsSound (inside : Inside) : Type 0 where
  pub node : IsNode (node_in inside)
  pub room : MAX_PIVOTS ≤ inside.body.value.pivots.capacity

use Rattle.std.proofs.Common.{◌≡◌, ◌++◌, map, take, drop}
use Rattle.spl_trunk.specs.Trunk.{released_node}
use Rattle.spl_trunk.proofs.trunk.release_all.Given as goal

-- the nodes so far are released, and the others are as they were
abbrev pub invariant-loop-node : goal.invariant-loop-node
invariant-loop-node l =
    l.nodes ≡ map (released_node l.actor) (take l.node-index l.initial.nodes) ++ drop l.node-index l.initial.nodes

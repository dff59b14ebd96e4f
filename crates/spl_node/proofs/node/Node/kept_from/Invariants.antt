use Rattle.std.proofs.Common.{◌≡◌, ◌-◌, ◌≤◌, drop}
use Rattle.spl_bundle.specs.Numbered.{next_of}
use Rattle.spl_node.specs.Steps.{first_from}
use Rattle.spl_node.proofs.node.Node.kept_from.Given as goal

-- the bundles in front of the number are dropped
abbrev pub invariant-loop-number : goal.invariant-loop-number
invariant-loop-number l = record {
  from : l.lists.first ≤ l.number;
  below : l.number ≤ next_of l.lists;
  same : first_from l.least l.lists.first l.lists.bundles ≡ first_from l.least l.number (drop (l.number - l.lists.first) l.lists.bundles);
}

abbrev pub decreases-loop-number : goal.decreases-loop-number
decreases-loop-number l = next_of l.lists - l.number

use Rattle.std.proofs.Common.{◌≡◌}
use Rattle.spl_node.specs.Steps.{all_keys}
use Rattle.spl_node.proofs.tests.a_seventeenth_pivot_is_refused.Given as goal

-- the node stays an index node over all keys
abbrev pub invariant-loop-n : goal.invariant-loop-n
invariant-loop-n g l = record {
  high : l.node.height ≡ 1;
  range : l.node.range ≡ all_keys;
}

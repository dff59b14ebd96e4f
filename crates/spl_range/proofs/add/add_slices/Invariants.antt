use Rattle.std.proofs.Common.{◌≤◌, ℕ, List, length}
use Rattle.spl_message.specs.Table.{Table}
use Rattle.spl_range.specs.Adding.{AddsAt}
use Rattle.spl_range.proofs.Adding.{from}
use Rattle.spl_range.proofs.add.add_slices.Given as goal

abbrev pub invariant-loop-left : goal.invariant-loop-left
invariant-loop-left g l = record {
  within : l.left ≤ length l.parts;
  adds : (key : List ℕ) → AddsAt (g.L.MergeLaw.rule l.law) (from (g.L.MergeLaw.rule l.law) (λ (table : Table). table) l.parts l.left) l.fn.found.entries l.found.entries key;
}

abbrev pub decreases-loop-left : goal.decreases-loop-left
decreases-loop-left g l = l.left

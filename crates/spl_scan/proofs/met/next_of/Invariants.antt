use Rattle.std.proofs.Common.{◌≡◌, drop}
use Rattle.spl_page.specs.Tables.{leaf_table}
use Rattle.spl_scan.specs.Search.{search}
use Rattle.spl_scan.proofs.met.next_of.Given as goal

abbrev pub invariant-loop-at : goal.invariant-loop-at
invariant-loop-at l = search l.span l.last (drop l.place (leaf_table l.leaf.bytes)) ≡ search l.span l.last
    (drop l.at (leaf_table l.leaf.bytes))

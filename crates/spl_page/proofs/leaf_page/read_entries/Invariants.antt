use Rattle.std.proofs.Common.{◌≡◌, ◌+◌, ◌*◌, ◌≤◌, take}
use Rattle.spl_port.specs.Page.{leaf_row, leaf_row_length}
use Rattle.spl_page.specs.LeafPage.{leaf_length, leaf_rows_of}
use Rattle.spl_page.specs.Sound.{entries_of}
use Rattle.spl_page.proofs.leaf_page.read_entries.Given as goal

abbrev pub invariant-loop-start : goal.invariant-loop-start
invariant-loop-start l = record {
  front : leaf_rows_of l.entries.items ≡ take l.start-index (entries_of leaf_row leaf_row_length l.bytes);
  length : l.end ≡ leaf_length l.entries.items;
  most : l.end ≤ 16 + 580 * l.start-index;
}

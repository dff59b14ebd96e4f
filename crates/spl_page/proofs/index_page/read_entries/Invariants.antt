use Rattle.std.proofs.Common.{◌≡◌, ◌+◌, ◌*◌, ◌≤◌, take}
use Rattle.spl_port.specs.Page.{index_row, index_row_length}
use Rattle.spl_page.specs.IndexPage.{index_length, index_rows_of}
use Rattle.spl_page.specs.Sound.{entries_of}
use Rattle.spl_page.proofs.index_page.read_entries.Given as goal

abbrev pub invariant-loop-start : goal.invariant-loop-start
invariant-loop-start l = record {
  front : index_rows_of l.entries.items ≡ take l.start-index (entries_of (index_row l.page) index_row_length l.bytes);
  length : l.end ≡ index_length l.entries.items;
  most : l.end ≤ 16 + 580 * l.start-index;
}

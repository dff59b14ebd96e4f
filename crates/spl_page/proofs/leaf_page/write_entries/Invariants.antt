use Rattle.std.proofs.Common.{◌≡◌, take}
use Rattle.spl_page.specs.LeafPage.{leaf_rows_of}
use Rattle.spl_page.specs.Writer.{leaf_rows_written}
use Rattle.spl_page.proofs.leaf_page.write_entries.Given as goal

abbrev pub invariant-loop-entry : goal.invariant-loop-entry
invariant-loop-entry l = leaf_rows_written l.page ≡ leaf_rows_of (take l.entry-index l.entries)

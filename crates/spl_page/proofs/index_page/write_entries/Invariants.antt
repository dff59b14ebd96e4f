use Rattle.std.proofs.Common.{◌≡◌, take}
use Rattle.spl_page.specs.IndexPage.{index_rows_of}
use Rattle.spl_page.specs.Writer.{written_children}
use Rattle.spl_page.proofs.index_page.write_entries.Given as goal

abbrev pub invariant-loop-entry : goal.invariant-loop-entry
invariant-loop-entry l = written_children l.page ≡ index_rows_of (take l.entry-index l.entries)

use Rattle.std.proofs.Common.{◌≡◌, ◌≤◌, ◌+◌, ◌*◌, length, take}
use Rattle.spl_page.specs.IndexPage.{index_rows_of}
use Rattle.spl_page.specs.Tables.{children_length}
use Rattle.spl_build.proofs.levels.fill.Given as goal

abbrev pub invariant-loop-entry : goal.invariant-loop-entry
invariant-loop-entry l = (l.page ≡ index_rows_of (take l.entry-index l.entries)) × (children_length l.page ≤ 16 + 69 * length l.page)

use Rattle.std.proofs.Common.{ap, ◌∙◌}
use Rattle.spl_page.specs.Writer.{written_table}
use Rattle.spl_page.proofs.LeafText.{none_written}
use Rattle.spl_page.proofs.leaf_writer.LeafWriter.new.Goals as goal

pub returns : goal.returns
returns c = ap written_table c.new.ensures ∙ none_written

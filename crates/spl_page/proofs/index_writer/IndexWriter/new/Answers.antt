use Rattle.std.proofs.Common.{ap, ◌∙◌}
use Rattle.spl_page.specs.Writer.{written_children}
use Rattle.spl_page.proofs.IndexText.{none_written}
use Rattle.spl_page.proofs.index_writer.IndexWriter.new.Goals as goal

pub returns : goal.returns
returns c = ap written_children c.new.ensures ∙ none_written

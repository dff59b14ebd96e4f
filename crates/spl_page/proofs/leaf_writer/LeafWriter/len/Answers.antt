use Rattle.std.proofs.Common.{length, ap, ◌∙◌, arith}
use Rattle.spl_message.specs.Entries.{Entries}
use Rattle.spl_page.proofs.LeafText.{counted}
use Rattle.spl_page.proofs.leaf_writer.LeafWriter.len.Goals as goal

pub returns-clause-value : goal.returns-clause-value
returns-clause-value c = c.len.ensures.value ∙ counted c.self.inside.page ∙ ap (λ (t : Entries). length t) c.self.view_is

pub returns-clause-most : goal.returns-clause-most
returns-clause-most c = omega (arith, c.len.ensures.least, c.len.ensures.most)

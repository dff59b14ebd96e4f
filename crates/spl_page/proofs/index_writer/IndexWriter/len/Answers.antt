use Rattle.std.proofs.Common.{List, length, sym, ap, ◌∙◌, arith}
use Rattle.spl_port.specs.Page.{IndexRow}
use Rattle.spl_page.proofs.IndexText.{are, most}
use Rattle.spl_page.proofs.index_writer.IndexWriter.len.Goals as goal

pub returns-clause-value : goal.returns-clause-value
returns-clause-value c = c.len.ensures.value ∙ ap (λ (rows : List IndexRow). length rows) (sym (are c.self.inside.page) ∙ c.self.view_is)

pub returns-clause-most : goal.returns-clause-most
returns-clause-most c = omega (arith, most c.self.inside.page, c.len.ensures.value, c.len.ensures.sized, c.len.ensures.most)

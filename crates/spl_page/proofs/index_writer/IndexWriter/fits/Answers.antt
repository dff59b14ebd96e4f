use Rattle.std.proofs.Common.{sym, ap, ◌∙◌, arith}
use Rattle.spl_page.specs.Tables.{children_length}
use Rattle.spl_page.proofs.IndexText.{are}
use Rattle.spl_page.proofs.index_writer.IndexWriter.fits.Goals as goal

pub returns-clause-value : goal.returns-clause-value
returns-clause-value c =
    let used = ap children_length (sym (are c.self.inside.page) ∙ c.self.view_is) in
    let fits = c.fits.ensures.value in (
      λ h. omega (arith, fits.0 h, used, c.entry_length.ensures.value, c.fits.ensures.sized),
      λ h. fits.1 (omega (arith, h, used, c.entry_length.ensures.value, c.fits.ensures.sized)),
    )

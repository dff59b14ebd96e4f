use Rattle.std.proofs.Common.{sym, ap, ◌∙◌, arith}
use Rattle.spl_page.specs.Tables.{table_length}
use Rattle.spl_page.proofs.LeafText.{sized}
use Rattle.spl_page.proofs.leaf_writer.LeafWriter.fits_lent.Goals as goal

pub returns-clause-value : goal.returns-clause-value
returns-clause-value c =
    let used = ap table_length (sym c.self.view_is) ∙ sized c.self.inside.page in
    let fits = c.fits.ensures.value in (
      λ h. omega (arith, fits.0 h, used, c.fits.ensures.sized, c.entry_length.ensures.value),
      λ h. fits.1 (omega (arith, h, used, c.fits.ensures.sized, c.entry_length.ensures.value)),
    )

use Rattle.std.proofs.Common.{◌∙◌}
use Rattle.spl_page.proofs.Numbers.{number_is}
use Rattle.spl_page.proofs.frame.page_number.Goals as goal

pub returns : goal.returns
returns c = c.read_u32.ensures ∙ number_is 4 4 c.args.bytes.now

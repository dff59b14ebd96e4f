use Rattle.std.proofs.Common.{◌∙◌}
use Rattle.spl_page.proofs.Numbers.{number_is}
use Rattle.spl_page.proofs.frame.branch_number.Goals as goal

pub returns : goal.returns
returns c = c.read_u64.ensures ∙ number_is 8 8 c.args.bytes.now

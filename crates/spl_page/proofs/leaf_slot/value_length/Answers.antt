use Rattle.std.proofs.Common.{◌∙◌}
use Rattle.spl_page.proofs.Numbers.{number_is}
use Rattle.spl_page.proofs.leaf_slot.value_length.Goals as goal

pub returns : goal.returns
returns c = c.read_u16.ensures ∙ number_is 2 2 c.args.bytes.now

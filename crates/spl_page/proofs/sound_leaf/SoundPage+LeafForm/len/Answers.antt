use Rattle.std.proofs.Common.{◌∙◌}
use Rattle.spl_page.proofs.SoundTables.{leaf_count_is}
use Rattle.spl_page.proofs.sound_leaf.SoundPage+LeafForm.len.Goals as goal

pub returns : goal.returns
returns c = c.count.ensures.number ∙ leaf_count_is c.args.self.now.bytes

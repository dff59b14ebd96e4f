use Rattle.std.proofs.Common.{ap, ◌∙◌}
use Rattle.spl_page.specs.Sound.{count_below}
use Rattle.spl_page.proofs.SoundTables.{leaf_keys_are}
use Rattle.spl_page.proofs.sound_leaf.SoundPage+LeafForm.seek.Goals as goal

pub returns : goal.returns
returns c =
    c.rank.ensures.place
    ∙ ap (λ keys. count_below keys c.bytes.result.now) (leaf_keys_are c.args.self.now.bytes)
    ∙ ap (count_below _) c.bytes.ensures.value

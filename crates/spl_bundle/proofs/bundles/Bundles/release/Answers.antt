use Rattle.std.proofs.Common.{ap, ◌∙◌}
use Rattle.spl_bundle.specs.Numbered.{released}
use Rattle.spl_bundle.proofs.Soundness.{numbered-release}
use Rattle.spl_bundle.proofs.bundles.Bundles.release.Goals as goal

pub returns : goal.returns
returns c =
    numbered-release c.self.inside c.release.new.slots c.args.actor c.release.ensures.contents
    ∙ ap (λ q. released q c.args.actor) c.self.view_is

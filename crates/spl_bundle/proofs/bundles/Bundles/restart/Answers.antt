use Rattle.spl_bundle.proofs.Soundness.{numbered-none}
use Rattle.spl_bundle.proofs.bundles.Bundles.restart.Goals as goal

pub returns : goal.returns
returns c = numbered-none c.self.inside.slots c.args.first

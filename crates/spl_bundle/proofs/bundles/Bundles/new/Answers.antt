use Rattle.spl_bundle.proofs.Soundness.{numbered-none}
use Rattle.spl_bundle.proofs.bundles.Bundles.new.Goals as goal

pub returns : goal.returns
returns c = numbered-none c.empty_slots.result c.args.first

use Rattle.std.proofs.Common.{arith}
use Rattle.std.proofs.lemmas.List.{map-set}
use Rattle.spl_bundle.proofs.slots.fill_joined.Goals as goal

pub returns-clause-contents : goal.returns-clause-contents
returns-clause-contents c = grind (arith, map-set)

use Rattle.spl_quotient.proofs.Bits.{shifted_below}
use Rattle.spl_quotient.proofs.hash.top_bits.Goals as goal

pub returns-clause-bits : goal.returns-clause-bits
returns-clause-bits c = shifted_below c.args.hash c.args.q c.requires c.ranges.hash.fits

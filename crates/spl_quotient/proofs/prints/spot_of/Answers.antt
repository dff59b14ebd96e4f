use Rattle.std.proofs.Common.{ℕ, ◌+◌, ◌^◌, ◌<◌, subst, sym}
use Rattle.spl_quotient.proofs.Spots.{spot-below, spot_is}
use Rattle.spl_quotient.proofs.prints.spot_of.Goals as goal

pub returns-clause-value : goal.returns-clause-value
returns-clause-value c = spot_is c.args.q c.args.print c.requires

pub returns-clause-bits : goal.returns-clause-bits
returns-clause-bits c = subst (λ (n : ℕ). n < 2 ^ (c.args.q + 12)) (sym (spot_is c.args.q c.args.print c.requires)) (spot-below c.args.q c.args.print)

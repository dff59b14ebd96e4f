use Rattle.spl_build.proofs.Giving.{given}
use Rattle.spl_build.proofs.builder.Builder.give.Goals as goal

pub invariant_of-self : goal.invariant_of-self
invariant_of-self g c = given c.give.result _ _ c.args.extent _ _ c.give.ensures.ok c.give.ensures.err c.self.invariant

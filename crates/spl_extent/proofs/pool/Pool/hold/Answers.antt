use Rattle.spl_extent.proofs.GrantLemmas.{IsKept-hold}
use Rattle.spl_extent.proofs.pool.Pool.hold.Goals as goal

pub invariant_of-self : goal.invariant_of-self
invariant_of-self c =
    IsKept-hold _ _ _ c.args.actor c.args.extent c.args.branch c.self.inside.granted.items _ _ c.self.invariant (rw c.self.view_is c.requires.granted) c.requires.known c.index_mut-granted.ensures.value c.remove.ensures

use Rattle.std.proofs.Common.{arith, refl}
use Rattle.spl_extent.specs.declared.owner.Owner.TheVariants.{Granted}
use Rattle.spl_extent.proofs.PoolLemmas.{IsSpare-room}
use Rattle.spl_extent.proofs.GrantLemmas.{IsKept-give_back}
use Rattle.spl_extent.proofs.pool.Pool.give_back.Goals as goal

pub unwrap-requires : goal.unwrap-requires
unwrap-requires c =
    let room = IsSpare-room _ _ c.args.extent _ (Granted c.args.actor) c.self.invariant.free (rw c.self.view_is c.requires.granted) refl in
    c.push.ensures.succeeds (omega (arith, c.self.inside.spare.ok.0))

pub invariant_of-self : goal.invariant_of-self
invariant_of-self c =
    IsKept-give_back _ _ _ _ _ c.args.actor c.args.extent c.self.inside.granted.items _ _ c.self.invariant (rw c.unwrap.ensures at c.push.ensures.items) c.push.ensures.capacity (rw c.self.view_is c.requires.granted) c.requires.known c.index_mut-granted.ensures.value c.remove.ensures

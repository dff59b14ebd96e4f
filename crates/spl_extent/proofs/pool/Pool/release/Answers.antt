use Rattle.std.proofs.Common.{arith, refl}
use Rattle.spl_extent.specs.declared.owner.Owner.TheVariants.{Held}
use Rattle.spl_extent.proofs.PoolLemmas.{IsSpare-room}
use Rattle.spl_extent.proofs.GrantLemmas.{IsKept-release}
use Rattle.spl_extent.proofs.pool.Pool.release.Goals as goal

pub unwrap-requires : goal.unwrap-requires
unwrap-requires c =
    let room = IsSpare-room _ _ c.args.extent _ (Held c.args.branch) c.self.invariant.free (rw c.self.view_is c.requires) refl in
    c.push.ensures.succeeds (omega (arith, c.self.inside.spare.ok.0))

pub invariant_of-self : goal.invariant_of-self
invariant_of-self c =
    IsKept-release _ _ _ _ _ c.args.branch c.args.extent _ c.self.invariant (rw c.unwrap.ensures at c.push.ensures.items) c.push.ensures.capacity (rw c.self.view_is c.requires)

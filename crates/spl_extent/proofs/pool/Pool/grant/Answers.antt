use Rattle.std.proofs.Common.{◌≡◌, ◌++◌, ◌∷◌, [], slice_get, Some, subst}
use Rattle.spl_extent.specs.declared.owner.Owner.TheVariants.{Free}
use Rattle.spl_extent.specs.Spare.{IsSpare}
use Rattle.spl_extent.proofs.PoolLemmas.{popped_is_free}
use Rattle.spl_extent.proofs.GrantLemmas.{IsKept-grant}
use Rattle.spl_extent.proofs.pool.Pool.grant.Goals as goal

pub invariant_of-self-2 : goal.invariant_of-self-2
invariant_of-self-2 c =
    let popped = c.in_ok-extent.ensures in
    let free = popped_is_free _ _ _ _ _ popped.items c.self.invariant.free in
    rw popped.capacity (IsKept-grant _ _ _ _ c.args.actor _ c.self.inside.granted.items _ _ c.self.invariant popped.items free c.requires c.index_mut-granted.ensures.value c.insert.ensures)

use Rattle.std.proofs.Common.{◌≡◌, ◌<◌, ◌+◌, ℕ, length, get_or, List, Bool, [], replicate, arith, rules}
use Rattle.spl_extent.proofs.PoolLemmas.{IsSpare-new}
use Rattle.spl_extent.proofs.GrantLemmas.{IsKept-new}
use Rattle.spl_extent.specs.declared.owner.Owner.TheVariants.{Free}
use Rattle.spl_extent.proofs.pool.Pool.new.Goals as goal

pub invariant_of-result : goal.invariant_of-result
invariant_of-result c =
    let so_far = c.loop-extent.invariant in
    let made : c.in_ok-owners.owners.items ≡ replicate c.args.count Free = search rules in
    IsKept-new _ _ c.args.count _ _ made
    (IsSpare-new _ _ c.args.count _ made (omega arith) so_far.falling so_far.room c.requires)
    (omega (arith, c.loop-actor.invariant.so_far)) c.loop-actor.invariant.none

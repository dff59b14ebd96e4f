use Rattle.std.proofs.Common.{arith, slice_index_or}
use Rattle.spl_flush.proofs.Queues.{live_few}
use Rattle.spl_flush.proofs.step.live_len.Goals as goal

pub overflow_cast-result : goal.overflow_cast-result
overflow_cast-result c =
    let few = live_few c.lists-lists.result.now
    (slice_index_or c.pivots.result.now c.args.pivot c.index-pivots-pivot.result).mark
    c.next.ensures.limits.branches c.next.ensures.limits.lists in
    omega (arith, c.live_len.ensures, few)

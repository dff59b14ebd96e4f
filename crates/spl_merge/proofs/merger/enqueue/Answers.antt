use Rattle.std.proofs.Common.{◌∷◌, subst, sym, refl}
use Rattle.std.specs.BinaryHeap.{heap_items}
use Rattle.std.specs.List.Sorted.{IsPermutation}
use Rattle.std.specs.Result.{OnOk}
use Rattle.std.specs.declared.cmp.Reverse.{Reverse}
use Rattle.spl_merge.specs.declared.merger.Rank.{Rank}
use Rattle.spl_merge.specs.Merger.{Head}
use Rattle.spl_merge.specs.Ranks.{IsQueue, QueuesHead}
use Rattle.spl_merge.proofs.Queue.{queues_head}
use Rattle.spl_merge.proofs.merger.enqueue.Goals as goal

pub returns-in-Some-clause-queued : goal.returns-in-Some-clause-queued
returns-in-Some-clause-queued c =
    let old = heap_items c.args.queue.now in
    let new = heap_items c.push.new.self in
    let rank : Reverse Rank = record { 0 = record { key = c.in-Some.key; stream = c.args.stream } } in
    let permutation = subst (λ r. OnOk r (IsPermutation (rank ∷ old) new)) c.unwrap.ensures
    c.push.ensures.permutation in
    let order = subst (λ r. OnOk r (IsQueue old → IsQueue new)) c.unwrap.ensures c.push.ensures.heap_order in
    subst (λ (head : Head). QueuesHead c.args.stream head old new) (sym c.in-Some.is)
    (queues_head c.args.stream rank (c.in-Some.key, c.in-Some.field-0-1) old new refl order permutation)

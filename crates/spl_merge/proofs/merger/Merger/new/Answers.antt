use Rattle.std.proofs.Common.{◌≡◌, ◌++◌, ◌∷◌, [], ℕ, List, None, length, replicate, subst, sym, ap, ◌∙◌, add-one, zero-add, arith}
use Rattle.std.specs.BinaryHeap.{heap_items}
use Rattle.std.proofs.lemmas.List.{length-replicate}
use Rattle.spl_merge.specs.Merger.{Head, headless}
use Rattle.spl_merge.specs.Ranks.{AreQueued}
use Rattle.spl_merge.proofs.Joins.{fresh_queued, headless-more, replicate-more}
use Rattle.spl_merge.proofs.merger.Merger.new.Goals as goal

pub loop-stream-preserved : goal.loop-stream-preserved
loop-stream-preserved c =
    let n = c.loop-stream.stream in
    let loop = c.loop-stream.invariant in
    record {
      heads = c.in_ok-push.ensures.items ∙ ap (λ (hs : List Head). hs ++ None ∷ []) loop.heads
          ∙ sym (replicate-more n) ∙ ap (λ m. replicate m None) (sym (add-one n));
      wanted = c.in_ok-push-2.ensures.items ∙ ap (λ (ws : List ℕ). ws ++ n ∷ []) loop.wanted
          ∙ ap (λ m. headless 0 (replicate n None) ++ m ∷ []) (sym (zero-add n)) ∙ sym (headless-more 0 n)
          ∙ ap (λ m. headless 0 (replicate m None)) (sym (add-one n));
      room = omega (arith, loop.room, c.push-in-loop-stream.ensures.capacity);
    }

pub invariant_of-result : goal.invariant_of-result
invariant_of-result c =
    let n = c.loop-stream.stream in
    let loop = c.loop-stream.invariant in
    let count : length c.loop-stream.heads.items ≡ n = ap length loop.heads ∙ length-replicate n None in
    let queue = heap_items c.in_ok-queue.queue in
    let queued = fresh_queued n queue c.in_ok-queue.ensures.items c.in_ok-queue.ensures.heap_order in (
      subst (λ (hs : List Head). AreQueued hs c.loop-stream.wanted.items None queue) (sym loop.heads)
          (subst (λ (ws : List ℕ). AreQueued (replicate n None) ws None queue) (sym loop.wanted) queued),
      omega (arith, count),
      omega (arith, count, loop.room),
      omega (arith, count, c.in_ok-queue.ensures.capacity),
    )

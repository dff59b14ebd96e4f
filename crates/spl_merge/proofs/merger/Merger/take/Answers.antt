use Rattle.std.proofs.Common.{◌≡◌, ◌<◌, ◌++◌, ◌∷◌, [], None, true, false, cond, Option, ℕ, List, length, subst, sym, ap, ◌∙◌, refl, arith}
use Rattle.std.specs.BinaryHeap.{heap_items}
use Rattle.std.specs.Result.{is_ok}
use Rattle.std.specs.Option.{IfNone, is_some}
use Rattle.std.specs.Prelude.{slice_set}
use Rattle.std.proofs.lemmas.List.{length-set}
use Rattle.spl_message.specs.declared.message.Message.{Message}
use Rattle.spl_message.specs.Key.{same_key}
use Rattle.spl_merge.specs.Merger.{AreFrom, Head, Merger, at_key}
use Rattle.spl_merge.specs.Ranks.{AreQueued, Takes}
use Rattle.spl_merge.proofs.Queue.{empty_at, head_at, is_empty, kept_order, second, not_false, not_true, popped, room_wanted, taken_queued, takes, top_is, top_other, within}
use Rattle.spl_merge.proofs.merger.Merger.take.Goals as goal

pub returns-in_err-top-clause-none : goal.returns-in_err-top-clause-none
returns-in_err-top-clause-none c =
    let m = c.self.inside in
    let none : length (heap_items m.queue) ≡ 0 = is_empty (heap_items m.queue) m.queue.data.len
    m.queue.data.ok.0 c.in_err-top.ensures.variant in
    let all = empty_at m.heads.items m.wanted.items m.last (heap_items m.queue) c.self.invariant.0
    c.args.key.now none in
    subst (λ (result : Option Message). IfNone result (at_key 0 c.args.key.now c.args.self.now.heads ≡ []))
    (sym c.from_residual.ensures)
    (subst (λ (s : Merger). at_key 0 c.args.key.now s.heads ≡ []) c.self.view_is all)

pub returns-then-ne-clause-none : goal.returns-then-ne-clause-none
returns-then-ne-clause-none c =
    let m = c.self.inside in
    let queue = heap_items m.queue in
    let top = c.in_ok-top.top.now in
    let some : 0 < length queue = omega (arith, c.in_ok-top.ensures.variant.0 refl, m.queue.data.ok.0) in
    let greatest = c.in_ok-top.ensures.greatest c.self.invariant.0.order in
    let other : same_key top.0.key c.args.key.now ≡ false = not_true _ (sym c.ne.ensures ∙ c.if-ne.true) in
    let from = subst (λ (s : Merger). AreFrom c.args.key.now s.heads) (sym c.self.view_is) c.requires.least in
    subst (λ (s : Merger). at_key 0 c.args.key.now s.heads ≡ []) c.self.view_is
    (top_other m.heads.items m.wanted.items m.last queue c.self.invariant.0 top some
    c.in_ok-top.ensures.lookup greatest c.args.key.now from other)

pub unwrap-requires : goal.unwrap-requires
unwrap-requires c =
    let m = c.self.inside in
    let queue = heap_items m.queue in
    let top = c.in_ok-top.top.now in
    let some : 0 < length queue = omega (arith, c.in_ok-top.ensures.variant.0 refl, m.queue.data.ok.0) in
    let greatest = c.in_ok-top.ensures.greatest c.self.invariant.0.order in
    let room = room_wanted m.heads.items m.wanted.items m.last queue c.self.invariant.0 top some
    c.in_ok-top.ensures.lookup greatest in
    c.push.ensures.succeeds (omega (arith, room, c.self.invariant.2, m.wanted.ok.0))

pub index_mut-requires : goal.index_mut-requires
index_mut-requires c =
    let m = c.self.inside in
    let queue = heap_items m.queue in
    let top = c.in_ok-top.top.now in
    let some : 0 < length queue = omega (arith, c.in_ok-top.ensures.variant.0 refl, m.queue.data.ok.0) in
    let greatest = c.in_ok-top.ensures.greatest c.self.invariant.0.order in
    let is = top_is m.heads.items m.wanted.items m.last queue c.self.invariant.0 top some
    c.in_ok-top.ensures.lookup greatest in
    omega (arith, within top.0.stream m.heads.items _ is, m.heads.ok.0)

pub unwrap-message-requires : goal.unwrap-message-requires
unwrap-message-requires c =
    let m = c.self.inside in
    let queue = heap_items m.queue in
    let top = c.in_ok-top.top.now in
    let some : 0 < length queue = omega (arith, c.in_ok-top.ensures.variant.0 refl, m.queue.data.ok.0) in
    let greatest = c.in_ok-top.ensures.greatest c.self.invariant.0.order in
    let is = top_is m.heads.items m.wanted.items m.last queue c.self.invariant.0 top some
    c.in_ok-top.ensures.lookup greatest in
    let head = head_at top.0.stream m.heads.items _ c.index_mut.result.now is in
    ap is_some (c.take.ensures.value ∙ c.index_mut.ensures.value ∙ head)

pub invariant_of-self : goal.invariant_of-self
invariant_of-self c =
    let m = c.self.inside in
    let queue = heap_items m.queue in
    let rest = heap_items c.pop.new.self in
    let top = c.in_ok-top.top.now in
    let seen : 0 < m.queue.data.len = c.in_ok-top.ensures.variant.0 refl in
    let some : 0 < length queue = omega (arith, seen, m.queue.data.ok.0) in
    let greatest = c.in_ok-top.ensures.greatest c.self.invariant.0.order in
    let order = kept_order queue rest c.pop.result c.self.invariant.0.order c.pop.ensures.heap_order in
    let out = popped queue rest top m.queue.data.len c.pop.result seen some c.in_ok-top.ensures.lookup
    c.pop.ensures.variant c.pop.ensures.top c.pop.ensures.permutation order in
    let queued = taken_queued m.heads.items m.wanted.items m.last queue c.self.invariant.0 top some
    c.in_ok-top.ensures.lookup greatest rest out.1 out.0 in
    let wanted : c.push.new.self.items ≡ m.wanted.items ++ top.0.stream ∷ [] = c.push.ensures.items
    ∙ ap (λ r. cond (is_ok r) (m.wanted.items ++ top.0.stream ∷ []) m.wanted.items) c.unwrap.ensures in
    let count = length-set m.heads.items top.0.stream c.take.new.self in (
      subst (λ (head : Head). AreQueued (slice_set m.heads.items top.0.stream head) c.push.new.self.items
          m.last rest) (sym c.take.ensures.after)
          (subst (λ (ws : List ℕ). AreQueued (slice_set m.heads.items top.0.stream None) ws m.last rest)
          (sym wanted) queued),
      omega (arith, count, c.self.invariant.1),
      omega (arith, count, c.self.invariant.2, c.push.ensures.capacity),
      omega (arith, count, c.self.invariant.3, c.pop.ensures.capacity),
    )

pub returns-clause-some : goal.returns-clause-some
returns-clause-some c =
    let m = c.self.inside in
    let queue = heap_items m.queue in
    let top = c.in_ok-top.top.now in
    let some : 0 < length queue = omega (arith, c.in_ok-top.ensures.variant.0 refl, m.queue.data.ok.0) in
    let greatest = c.in_ok-top.ensures.greatest c.self.invariant.0.order in
    let same : same_key top.0.key c.args.key.now ≡ true = not_false _ (sym c.ne.ensures ∙ c.if-ne.false) in
    let from = subst (λ (s : Merger). AreFrom c.args.key.now s.heads) (sym c.self.view_is) c.requires.least in
    let is = top_is m.heads.items m.wanted.items m.last queue c.self.invariant.0 top some
    c.in_ok-top.ensures.lookup greatest in
    let head = head_at top.0.stream m.heads.items _ c.index_mut.result.now is in
    let there = sym c.unwrap-message.ensures ∙ c.take.ensures.value ∙ c.index_mut.ensures.value ∙ head in
    let wanted : c.push.new.self.items ≡ m.wanted.items ++ top.0.stream ∷ [] = c.push.ensures.items
    ∙ ap (λ r. cond (is_ok r) (m.wanted.items ++ top.0.stream ∷ []) m.wanted.items) c.unwrap.ensures in
    let shown : Merger = record {
      span = m.span;
      bottom = m.bottom;
      heads = m.heads.items;
      wanted =
          m.wanted.items;
      last = m.last;
      failed = m.failed;
    } in
    subst (λ (old : Merger). Takes c.args.key.now old c.unwrap-message.result.1
    (record shown {
      heads = slice_set m.heads.items top.0.stream c.take.new.self;
      wanted =
          c.push.new.self.items;
    })) c.self.view_is
    (takes m.heads.items m.wanted.items m.last queue c.self.invariant.0 top some c.in_ok-top.ensures.lookup
    greatest c.args.key.now from same
    _ refl refl (slice_set m.heads.items top.0.stream c.take.new.self)
    (ap (slice_set m.heads.items top.0.stream) c.take.ensures.after) c.push.new.self.items wanted
    c.unwrap-message.result.1 (ap second there))

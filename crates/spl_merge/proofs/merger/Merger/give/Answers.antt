use Rattle.std.proofs.Common.{◌≡◌, ◌-◌, ◌++◌, ◌∷◌, [], ℕ, List, Option, Some, length, take, subst, sym, ap, ◌∙◌, arith}
use Rattle.std.specs.BinaryHeap.{heap_items}
use Rattle.std.proofs.lemmas.List.{length-set}
use Rattle.std.specs.List.{slice_get}
use Rattle.std.specs.Option.{IfSome}
use Rattle.std.specs.Prelude.{slice_set}
use Rattle.spl_merge.specs.Merger.{IsAbove, Merger}
use Rattle.spl_merge.specs.Ranks.{AreQueued}
use Rattle.spl_merge.proofs.Queue.{given_queued, last_split, room_queue, wanted_at, within}
use Rattle.spl_merge.proofs.merger.Merger.give.Goals as goal

pub enqueue-requires : goal.enqueue-requires
enqueue-requires c =
    let m = c.self.inside in
    let wanted : c.args.self.now.wanted ≡ m.wanted.items =
    ap (λ (s : Merger). s.wanted) (sym c.self.view_is) in
    let split : m.wanted.items ≡ take (length m.wanted.items - 1) m.wanted.items ++ c.args.stream ∷ [] =
    last_split m.wanted.items c.args.stream (subst
    (λ (ws : List ℕ). slice_get ws (length ws - 1) ≡ Some c.args.stream) wanted c.requires.wanted) in
    let room = room_queue m.heads.items _ m.last (heap_items m.queue) c.args.stream
    (subst (λ (ws : List ℕ). AreQueued m.heads.items ws m.last (heap_items m.queue)) split
    c.self.invariant.0) in
    omega (arith, room, c.self.invariant.3, m.queue.data.ok.0)

pub index_mut-requires : goal.index_mut-requires
index_mut-requires c =
    let m = c.self.inside in
    let wanted : c.args.self.now.wanted ≡ m.wanted.items =
    ap (λ (s : Merger). s.wanted) (sym c.self.view_is) in
    let split : m.wanted.items ≡ take (length m.wanted.items - 1) m.wanted.items ++ c.args.stream ∷ [] =
    last_split m.wanted.items c.args.stream (subst
    (λ (ws : List ℕ). slice_get ws (length ws - 1) ≡ Some c.args.stream) wanted c.requires.wanted) in
    let at = wanted_at m.heads.items _ m.last (heap_items m.queue) c.args.stream
    (subst (λ (ws : List ℕ). AreQueued m.heads.items ws m.last (heap_items m.queue)) split
    c.self.invariant.0) in
    omega (arith, within c.args.stream m.heads.items _ at, m.heads.ok.0)

pub invariant_of-self : goal.invariant_of-self
invariant_of-self c =
    let m = c.self.inside in
    let wanted : c.args.self.now.wanted ≡ m.wanted.items =
    ap (λ (s : Merger). s.wanted) (sym c.self.view_is) in
    let split : m.wanted.items ≡ take (length m.wanted.items - 1) m.wanted.items ++ c.args.stream ∷ [] =
    last_split m.wanted.items c.args.stream (subst
    (λ (ws : List ℕ). slice_get ws (length ws - 1) ≡ Some c.args.stream) wanted c.requires.wanted) in
    let front : c.pop.new.self.items ≡ take (length m.wanted.items - 1) m.wanted.items = c.pop.ensures.rest
    ∙ ap (λ n. take (n - 1) m.wanted.items) m.wanted.ok.0 in
    let last : c.args.self.now.last ≡ m.last = ap (λ (s : Merger). s.last) (sym c.self.view_is) in
    let queued = given_queued m.heads.items _ m.last (heap_items m.queue) c.args.stream
    (subst (λ (ws : List ℕ). AreQueued m.heads.items ws m.last (heap_items m.queue)) split
    c.self.invariant.0)
    c.args.entry (heap_items c.enqueue.new.queue) (subst
    (λ (l : Option (List ℕ)). IfSome c.args.entry (λ next. IsAbove l next.0)) last c.requires.rises)
    c.enqueue.ensures.queued in
    let count = length-set m.heads.items c.args.stream c.args.entry in (
      subst (λ (ws : List ℕ). AreQueued (slice_set m.heads.items c.args.stream c.args.entry) ws m.last
          (heap_items c.enqueue.new.queue)) (sym front) queued,
      omega (arith, count, c.self.invariant.1),
      omega (arith, count, c.self.invariant.2, c.pop.ensures.capacity),
      omega (arith, count, c.self.invariant.3, c.enqueue.ensures.room),
    )

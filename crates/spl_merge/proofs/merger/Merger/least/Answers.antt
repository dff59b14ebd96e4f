use Rattle.std.proofs.Common.{◌≡◌, ◌<◌, None, Option, ℕ, List, length, subst, sym, refl, arith}
use Rattle.std.specs.BinaryHeap.{heap_items}
use Rattle.std.specs.List.{AllByRecursion}
use Rattle.std.specs.Option.{IfNone}
use Rattle.spl_merge.specs.Merger.{Head, IsLeast, IsStep, Merger}
use Rattle.spl_merge.proofs.Queue.{empty_queue, is_empty, top_above, top_at, top_from}
use Rattle.spl_merge.proofs.merger.Merger.least.Goals as goal

pub returns-in_err-top-clause-none : goal.returns-in_err-top-clause-none
returns-in_err-top-clause-none c =
    let m = c.self.inside in
    let none : length (heap_items m.queue) ≡ 0 = is_empty (heap_items m.queue) m.queue.data.len
    m.queue.data.ok.0 c.in_err-top.ensures.variant in
    let all = empty_queue m.heads.items m.wanted.items m.last (heap_items m.queue) c.self.invariant.0 none in
    subst (λ (result : Option (List ℕ)). IfNone result
    (AllByRecursion (λ (head : Head). head ≡ None) c.args.self.now.heads)) (sym c.from_residual.ensures)
    (subst (λ (s : Merger). AllByRecursion (λ (head : Head). head ≡ None) s.heads) c.self.view_is all)

pub returns-clause-some : goal.returns-clause-some
returns-clause-some c =
    let m = c.self.inside in
    let queue = heap_items m.queue in
    let top = c.in_ok-top.top.now in
    let some : 0 < length queue = omega (arith, c.in_ok-top.ensures.variant.0 refl, m.queue.data.ok.0) in
    let greatest = c.in_ok-top.ensures.greatest c.self.invariant.0.order in
    let least : IsLeast top.0.key m.heads.items = record {
      there = (
        _,
        _,
        top_at m.heads.items m.wanted.items m.last queue c.self.invariant.0 top some
            c.in_ok-top.ensures.lookup greatest,
      );
      least = top_from m.heads.items m.wanted.items m.last queue c.self.invariant.0 top some
          c.in_ok-top.ensures.lookup greatest;
    } in
    let above = top_above m.heads.items m.wanted.items m.last queue c.self.invariant.0 top some
    c.in_ok-top.ensures.lookup greatest in
    let shown : Merger = record {
      span = m.span;
      bottom = m.bottom;
      heads = m.heads.items;
      wanted = m.wanted.items;
      last = m.last;
      failed = m.failed;
    } in
    let step : IsStep top.0.key shown = record { least = least; above = above } in
    subst (IsStep top.0.key) c.self.view_is step

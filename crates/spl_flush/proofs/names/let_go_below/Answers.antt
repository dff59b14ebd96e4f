use Rattle.std.proofs.Common.{arith, ◌+◌, ◌++◌, List, ℕ, sym, ap, subst, ◌∙◌, append_assoc}
use Rattle.spl_bundle.proofs.Live.{live_below}
use Rattle.spl_state.specs.Names.{AreAccounted}
use Rattle.spl_state.proofs.LettingGo.{LettingGo}
use Rattle.spl_flush.specs.Flushing.{names_below}
use Rattle.spl_flush.proofs.Queues.{names_next}
use Rattle.spl_flush.proofs.Holds.{lets_list_go}
use Rattle.spl_flush.proofs.names.let_go_below.Goals as goal

pub let_go_all-requires : goal.let_go_all-requires
let_go_all-requires g c =
    let queue = c.args.lists.now in
    let next = names_next queue c.loop-dropped.dropped c.args.number (omega arith)
    (omega arith) c.requires.made in
    let rest = live_below queue (c.loop-dropped.dropped + 1) c.args.number in
    let there = c.loop-dropped.invariant.accounted c.requires.accounted.0 c.requires.accounted.1 in
    let split = next ∙ ap (λ (list : List ℕ). list ++ rest) (sym c.list.ensures) in
    record {
      accounted = (
        rest ++ c.requires.accounted.0,
        subst (λ (m : List ℕ). AreAccounted g.B.Content.extents m c.loop-dropped.refs c.loop-dropped.pool)
            (ap (λ (list : List ℕ). list ++ c.requires.accounted.0) split
            ∙ append_assoc c.list.result.now rest c.requires.accounted.0) there,
      );
    }

pub loop-dropped-preserved : goal.loop-dropped-preserved
loop-dropped-preserved g c =
    let queue = c.args.lists.now in
    let next = names_next queue c.loop-dropped.dropped c.args.number (omega arith)
    (omega arith) c.requires.made in
    let rest = live_below queue (c.loop-dropped.dropped + 1) c.args.number in
    let split = next ∙ ap (λ (list : List ℕ). list ++ rest) (sym c.list.ensures) in
    let here = subst (λ (left : List ℕ). LettingGo g.B.Content.extents
    (names_below queue c.args.number) c.args.refs.now c.loop-dropped.refs c.args.pool.now
    c.loop-dropped.pool left) split c.loop-dropped.invariant in
    lets_list_go g.B.Content.extents (names_below queue c.args.number) c.args.refs.now c.loop-dropped.refs
    c.let_go_all.new.refs c.args.pool.now c.loop-dropped.pool c.let_go_all.new.pool c.list.result.now rest
    here c.let_go_all.ensures.accounted c.let_go_all.ensures.granted c.let_go_all.ensures.branches
    c.let_go_all.ensures.fewer

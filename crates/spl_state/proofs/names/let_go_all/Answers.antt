use Rattle.std.proofs.Common.{rules, arith, ◌≡◌, ◌<◌, ◌≤◌, List, ℕ, length, drop, suc, subst, add-one, ◌∙◌}
use Rattle.std.proofs.Math.Seq.{drop-cons}
use Rattle.spl_refs.specs.Refs.{count_at}
use Rattle.spl_state.proofs.LettingGo.{LettingGo, lets_next_go}
use Rattle.spl_state.proofs.names.let_go_all.Goals as goal

pub loop-number-preserved : goal.loop-number-preserved
loop-number-preserved g c =
    let within : c.loop-number.number-index < length c.args.numbers.now = omega arith in
    let here = subst (λ (left : List ℕ). LettingGo g.B.Content.extents c.args.numbers.now c.args.refs.now c.loop-number.refs c.args.pool.now c.loop-number.pool left) (drop-cons c.args.numbers.now c.loop-number.number-index 0 within) c.loop-number.invariant in
    rw add-one (lets_next_go _ _ _ _ _ _ _ _ _ _ here c.let_go.ensures.accounted c.let_go.ensures.granted c.let_go.ensures.branches c.let_go.ensures.fewer)

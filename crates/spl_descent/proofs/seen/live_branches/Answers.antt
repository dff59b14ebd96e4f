use Rattle.std.proofs.Common.{ℕ, max, List, ◌++◌, map, sym, ap, subst, ◌∙◌, arith}
use Rattle.spl_bundle.proofs.Live.{live_below, live_more}
use Rattle.spl_refs.specs.Refs.{branch_at}
use Rattle.spl_descent.specs.Sights.{HasBranches}
use Rattle.spl_descent.proofs.seen.live_branches.Goals as goal

pub loop-number-preserved : goal.loop-number-preserved
loop-number-preserved g c =
    let lists = c.args.lists.now in
    let from = c.max-from.result in
    let start = c.max-from.ensures ∙ ap (λ (n : ℕ). max n c.args.mark) c.first.ensures.value in
    let more = live_more lists c.args.mark from c.loop-number.number start (omega arith) (omega arith) in
    let joined = ap (λ (ns : List ℕ). live_below lists from c.loop-number.number ++ ns) c.list.ensures ∙ sym more in
    subst (λ (ns : List ℕ). HasBranches g.B.Content.number (branch_at c.args.refs.now) ns (map (λ b. b.value) c.share.new.shared.items)) joined
    (c.in_ok-share.ensures _ c.loop-number.invariant)

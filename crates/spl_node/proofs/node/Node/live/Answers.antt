use Rattle.std.proofs.Common.{ℕ, ◌++◌, ◌<◌, max, length, get_or, ap, ap₂, sym, ◌∙◌, arith}
use Rattle.std.proofs.lemmas.List.{get_or_default}
use Rattle.spl_bundle.specs.Numbered.{Numbered, live}
use Rattle.spl_bundle.proofs.Live.{live_more, live_all}
use Rattle.spl_node.specs.declared.pivot.Pivot.{Pivot}
use Rattle.spl_node.specs.Node.{bare, pivot_at}
use Rattle.spl_node.proofs.node.Node.live.Goals as goal

pub loop-number-preserved : goal.loop-number-preserved
loop-number-preserved c =
    let mark = (get_or c.pivots.result.now c.args.pivot c.index-pivots-pivot.result).mark in
    let start = c.max-from.ensures ∙ ap (λ (n : ℕ). max n mark) c.first.ensures.value in
    let more = live_more c.lists-lists.result.now mark c.max-from.result c.loop-number.number start (omega arith) (omega arith) in
    let extended = c.in_ok-extend_from_slice.ensures.items in
    extended ∙ ap₂ ◌++◌ c.loop-number.invariant c.list.ensures ∙ sym more

pub returns : goal.returns
returns c =
    let within : c.args.pivot < length c.pivots.result.now = let counted = ap length c.pivots.ensures.value in omega (arith, c.requires) in
    let mark = (get_or c.pivots.result.now c.args.pivot c.index-pivots-pivot.result).mark in
    let start = c.max-from.ensures ∙ ap (λ (n : ℕ). max n mark) c.first.ensures.value in
    c.loop-number.invariant
    ∙ live_all c.lists-lists.result.now mark c.max-from.result c.loop-number.number start (omega arith) (omega arith)
    ∙ ap (λ (n : ℕ). live c.lists-lists.result.now n) (ap (λ (p : Pivot). p.mark) (get_or_default c.pivots.result.now c.args.pivot c.index-pivots-pivot.result bare within) ∙ ap (λ ps. (pivot_at ps c.args.pivot).mark) c.pivots.ensures.value)
    ∙ ap (λ (q : Numbered). live q (pivot_at c.args.self.now.pivots c.args.pivot).mark) c.lists-lists.ensures

use Rattle.std.proofs.Common.{ℕ, ◌+◌, ◌++◌, List, sym, ap, ◌∙◌, arith, append_assoc}
use Rattle.spl_bundle.specs.Numbered.{bundle_at}
use Rattle.spl_node.specs.Parts.{branches_from}
use Rattle.spl_compact.proofs.Lists.{branches_first}
use Rattle.spl_compact.proofs.names.numbers_of.Goals as goal

pub loop-number-preserved : goal.loop-number-preserved
loop-number-preserved c =
    let lists = c.args.lists.now in
    let number = c.loop-number.number in
    let so_far = c.loop-number.numbers.items in
    let rest = branches_from lists (number + 1) c.args.end in
    let here = branches_first lists number c.args.end (omega arith) (omega arith) (omega arith) in
    ap (λ (list : List ℕ). list ++ rest) (c.in_ok-extend_from_slice.ensures.items ∙ ap (λ (list : List ℕ). so_far ++ list) c.list.ensures)
    ∙ append_assoc so_far (bundle_at lists number).branches rest
    ∙ ap (λ (list : List ℕ). so_far ++ list) (sym here)
    ∙ c.loop-number.invariant

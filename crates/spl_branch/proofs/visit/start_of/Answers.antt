use Rattle.std.proofs.Common.{◌≡◌, ◌+◌, ap, subst, sym, ◌∙◌, arith}
use Rattle.spl_page.specs.AnyPage.{is_leaf, shown_of}
use Rattle.spl_page.specs.declared.any_page.AnyPage.{AnyPage}
use Rattle.spl_branch.specs.Visiting.{start_on}
use Rattle.spl_branch.proofs.LeafStarts.{starts_here, starts_next}
use Rattle.spl_branch.proofs.visit.start_of.Goals as goal

pub returns-then-seek-len : goal.returns-then-seek-len
returns-then-seek-len c =
    let leaf = ap (λ (page : AnyPage). (shown_of page).at.leaf) (sym c.in-Leaf.is) ∙ c.at-number.ensures.kind ∙ ap is_leaf c.in-Leaf.is in
    let here = starts_here c.in-Leaf.leaf c.args.key.now leaf (omega (arith, c.if-seek-len.true, c.seek.ensures, c.len.ensures)) in
    ap (λ at. at.page) c.at-number.ensures.value ∙ ap (λ (page : AnyPage). (shown_of page).at.page) c.in-Leaf.is ∙ here
    ∙ ap (λ (page : AnyPage). start_on (shown_of page) c.args.key.now) (sym c.in-Leaf.is)

pub returns-else-seek-len : goal.returns-else-seek-len
returns-else-seek-len c =
    let leaf = ap (λ (page : AnyPage). (shown_of page).at.leaf) (sym c.in-Leaf.is) ∙ c.at-number.ensures.kind ∙ ap is_leaf c.in-Leaf.is in
    let next = starts_next c.in-Leaf.leaf c.args.key.now leaf (omega (arith, c.if-seek-len.false, c.seek.ensures, c.len.ensures)) in
    ap (λ at. at.page + 1) c.at-number.ensures.value ∙ ap (λ (page : AnyPage). (shown_of page).at.page + 1) c.in-Leaf.is ∙ next
    ∙ ap (λ (page : AnyPage). start_on (shown_of page) c.args.key.now) (sym c.in-Leaf.is)

use Rattle.std.proofs.Common.{◌≡◌, ℕ, ◌<◌, true, take, ap, subst, sym, ◌∙◌, arith}
use Rattle.spl_page.specs.AnyPage.{shown_of}
use Rattle.spl_page.specs.declared.any_page.AnyPage.{AnyPage}
use Rattle.spl_branch.specs.Branch.{IsBranch}
use Rattle.spl_branch.specs.Leaves.{are_below, leaf_tables}
use Rattle.spl_branch.specs.Visiting.{start_on}
use Rattle.spl_branch.proofs.GrowingParts.{total_most}
use Rattle.spl_branch.proofs.LeafPages.{leaves_within}
use Rattle.spl_branch.proofs.LeafStarts.{earlier_below, joined}
use Rattle.spl_branch.proofs.branch.Branch.seek.Goals as goal

pub start_of-requires : goal.start_of-requires
start_of-requires g c leaf =
    let branch = c.args.self.now in
    let is = subst IsBranch c.self.view_is c.self.invariant.0 in
    let within = subst (λ (page : AnyPage). (shown_of page).at.leaf ≡ true → (shown_of page).at.page < branch.leaves) (sym c.deref.ensures) c.in_ok-page.ensures.leaf leaf in
    omega (arith, within, leaves_within branch is, total_most branch.number branch.extents branch.parts is.parts, is.extents)

pub returns-clause-earlier : goal.returns-clause-earlier
returns-clause-earlier g c told =
    let tables = leaf_tables c.args.self.now in
    let end = c.in_ok-page.ensures.told told in
    let number = c.start_of.ensures ∙ ap (λ (page : AnyPage). start_on (shown_of page) c.args.key.now) c.deref.ensures ∙ end.start in
    subst (λ (n : ℕ). are_below (joined (take n tables)) c.args.key.now ≡ true) (sym number) (earlier_below tables c.args.key.now)

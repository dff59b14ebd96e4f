use Rattle.std.proofs.Common.{◌≡◌, Some, subst}
use Rattle.std.specs.Arc.{arc_value}
use Rattle.std.specs.List.{slice_get}
use Rattle.spl_page.specs.AnyPage.{shown_of}
use Rattle.spl_page.specs.Tables.{leaf_table}
use Rattle.spl_branch.specs.Leaves.{leaf_tables}
use Rattle.spl_branch.specs.Pages.{shown_pages}
use Rattle.spl_branch.specs.Branch.{IsBranch}
use Rattle.spl_branch.specs.Reading.{HasBranchCause}
use Rattle.spl_branch.specs.Visiting.{HasVisitCause}
use Rattle.spl_branch.proofs.Down.{leaf_stops}
use Rattle.spl_branch.proofs.LeafPages.{if_err_then, if_ok_then, leaf_told}
use Rattle.spl_branch.proofs.branch.Branch.leaf.Goals as goal

pub returns-clause-told : goal.returns-clause-told
returns-clause-told g c told =
    let branch = c.args.self.now in
    if_ok_then (λ page. slice_get (shown_pages branch.parts) c.args.number ≡ Some (shown_of (arc_value page)))
    (λ page. slice_get (leaf_tables branch) c.args.number ≡ Some (leaf_table (shown_of (arc_value page)).bytes)) c.page.result
    (λ page is. leaf_told branch c.args.number (shown_of (arc_value page)) c.requires is) (c.page.ensures.told told)

pub returns-clause-cause : goal.returns-clause-cause
returns-clause-cause g c =
    let branch = c.args.self.now in
    let before = g.P.Port.counts c.args.port.now in
    let after = g.P.Port.counts c.page.new.port in
    if_err_then (HasVisitCause branch c.args.number before after) (HasBranchCause branch before after) c.page.result
    (leaf_stops branch c.args.number before after (subst IsBranch c.self.view_is c.self.invariant.0) c.requires) c.page.ensures.cause

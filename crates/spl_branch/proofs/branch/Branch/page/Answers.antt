use Rattle.std.proofs.Common.{◌≡◌, [], None, ap, arith, subst, sym, ◌∙◌}
use Rattle.std.proofs.lemmas.Result.{err_from_is_err_and}
use Rattle.std.specs.Arc.{arc_value}
use Rattle.spl_port.specs.Page.{page_fault}
use Rattle.spl_page.specs.AnyPage.{is_leaf, shown_of}
use Rattle.spl_page.specs.declared.any_page.AnyPage.{AnyPage}
use Rattle.spl_branch.proofs.LeafPages.{leaf_there}
use Rattle.spl_branch.specs.Branch.{Branch, IsBranch}
use Rattle.spl_branch.proofs.Visits.{IsPage, given, page_is, place_in_part, refused, seal_there, told_given, within_part}
use Rattle.spl_branch.proofs.branch.Branch.page.Given.{Over}
use Rattle.spl_branch.proofs.branch.Branch.page.Goals as goal
use Rattle.spl_branch.proofs.branch.Branch.page.Goals.{After-index-seal}

the_page : (g : Over) (c : After-index-seal g) → IsPage c.args.self.now c.args.number (g.S.Seal.means c.index-seal.result.now)
the_page g c =
    page_is g.S.Seal.means c.args.self.now c.self.inside.parts.seals.items c.args.number c.index-seal.result.now (subst IsBranch c.self.view_is c.self.invariant.0)
    (ap (λ (branch : Branch). branch.parts) (sym c.self.view_is)) c.requires c.index-seal.ensures

pub index-seal-requires : goal.index-seal-requires
index-seal-requires g c =
    let there = seal_there g.S.Seal.means c.args.self.now c.self.inside.parts.seals.items c.args.number (subst IsBranch c.self.view_is c.self.invariant.0)
    (ap (λ (branch : Branch). branch.parts) (sym c.self.view_is)) c.requires in
    omega (arith, there, c.self.inside.parts.seals.ok.0)

pub at-at-requires : goal.at-at-requires
at-at-requires g c = (the_page g c).within

pub fetch-requires-clause-there : goal.fetch-requires-clause-there
fetch-requires-clause-there g c =
    within_part c.args.self.now c.args.number (g.S.Seal.means c.index-seal.result.now) c.at-at.result []
    (the_page g (goal.at.fetch-requires-clause-there g c).After-index-seal) c.at-at.ensures

pub fetch-requires-clause-place : goal.fetch-requires-clause-place
fetch-requires-clause-place g c =
    place_in_part c.args.self.now c.args.number (g.S.Seal.means c.index-seal.result.now) c.at-at.result []
    (the_page g (goal.at.fetch-requires-clause-place g c).After-index-seal) c.at-at.ensures

pub returns-in_err-page-clause-cause : goal.returns-in_err-page-clause-cause
returns-in_err-page-clause-cause g c =
    let p = err_from_is_err_and c.from_residual.result c.from_residual.ensures.1 in
    let page = the_page g (goal.at.returns-in_err-page-clause-cause g c).After-index-seal in
    rw (p.1, p.2) (refused c.args.self.now c.args.number (g.S.Seal.means c.index-seal.result.now) c.at-at.result page c.at-at.ensures
    (g.P.Port.counts c.args.port.now) (g.P.Port.counts c.fetch.new.port) c.in_err-page.field-0.0 c.in_err-page.ensures.cause)

pub returns-clause-told : goal.returns-clause-told
returns-clause-told g c =
    let page = the_page g (goal.at.returns-clause-told g c).After-index-seal in
    let fetched = c.in_ok-page.ensures.ok in
    told_given c.args.self.now c.args.number (g.S.Seal.means c.index-seal.result.now) c.at-at.result page c.at-at.ensures
    (g.P.Port.counts c.args.port.now) (g.P.Port.counts c.fetch.new.port) (shown_of (arc_value c.in_ok-page.page)) fetched.place fetched.allowed

pub returns-clause-given : goal.returns-clause-given
returns-clause-given g c =
    let page = the_page g (goal.at.returns-clause-given g c).After-index-seal in
    let sound = subst (λ (page : AnyPage). page_fault (shown_of page).at (shown_of page).bytes ≡ None) c.deref.ensures c.at-at-2.ensures.sound in
    given c.args.self.now c.args.number (g.S.Seal.means c.index-seal.result.now) c.at-at.result page c.at-at.ensures
    (g.P.Port.counts c.args.port.now) (g.P.Port.counts c.fetch.new.port) (g.G.Pager.shows c.args.pager.now)
    (shown_of (arc_value c.in_ok-page.page)) c.in_ok-page.ensures.ok.place c.in_ok-page.ensures.shown sound

pub returns-clause-leaf : goal.returns-clause-leaf
returns-clause-leaf g c within =
    let at = (goal.at.returns-clause-leaf g c).After-index-seal in
    let page = the_page g at in
    let kind = subst (λ (page : AnyPage). (shown_of page).at.leaf ≡ is_leaf page) c.deref.ensures c.at-at-2.ensures.kind in
    let sound = subst (λ (page : AnyPage). page_fault (shown_of page).at (shown_of page).bytes ≡ None) c.deref.ensures c.at-at-2.ensures.sound in
    let is = given c.args.self.now c.args.number (g.S.Seal.means c.index-seal.result.now) c.at-at.result page c.at-at.ensures
    (g.P.Port.counts c.args.port.now) (g.P.Port.counts c.fetch.new.port) (g.G.Pager.shows c.args.pager.now)
    (shown_of (arc_value c.in_ok-page.page)) c.in_ok-page.ensures.ok.place c.in_ok-page.ensures.shown sound in
    sym kind
    ∙ leaf_there c.args.self.now (shown_of (arc_value c.in_ok-page.page)).at c.args.number (subst IsBranch c.self.view_is c.self.invariant.0) within is.place is.number

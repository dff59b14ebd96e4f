use Rattle.std.proofs.Common.{◌≡◌, ℕ, ◌<◌, Option, Some, None, IfSome, ap, subst, sym, ◌∙◌}
use Rattle.std.proofs.lemmas.Result.{err_from_is_err_and}
use Rattle.std.specs.Arc.{arc_value}
use Rattle.spl_page.specs.AnyPage.{shown_of}
use Rattle.spl_page.specs.declared.any_page.AnyPage.{AnyPage}
use Rattle.spl_branch.specs.Branch.{Branch, IsBranch}
use Rattle.spl_branch.specs.Pages.{page_total}
use Rattle.spl_branch.specs.Visiting.{child_in}
use Rattle.spl_branch.proofs.Down.{down_ends, down_goes_on, down_starts, down_stops}
use Rattle.spl_branch.proofs.LeafPages.{leaf_place}
use Rattle.spl_branch.proofs.Paths.{path_ends, path_goes_on, path_starts}
use Rattle.spl_branch.proofs.branch.Branch.walk.Given.{Over}
use Rattle.spl_branch.proofs.branch.Branch.walk.Goals as goal
use Rattle.spl_branch.proofs.branch.Branch.walk.Goals.{After-child_of}

pub loop-page-init : goal.loop-page-init
loop-page-init g c =
    let is = subst IsBranch c.self.view_is c.self.invariant.0 in
    let whole = c.self.invariant.1 ∙ ap (λ (branch : Branch). page_total branch.parts) c.self.view_is in
    record {
      down = down_starts c.args.self.now c.args.key.now c.self.inside.pages (g.P.Port.counts c.args.port.now) is whole;
      path = path_starts (g.G.Pager.shows c.args.pager.now) c.args.self.now c.args.key.now c.self.inside.pages (g.P.Port.counts c.args.port.now) is whole;
    }

pub returns-in_err-page-clause-cause : goal.returns-in_err-page-clause-cause
returns-in_err-page-clause-cause g c =
    let p = err_from_is_err_and c.from_residual.result c.from_residual.ensures.1 in
    rw (p.1, p.2) (down_stops c.args.self.now c.args.key.now c.loop-page.number (g.P.Port.counts c.args.port.now) (g.P.Port.counts c.loop-page.port) (g.P.Port.counts c.page.new.port)
    c.loop-page.invariant.down c.in_err-page.ensures.counts c.in_err-page.field-0.0 c.in_err-page.ensures.cause)

-- what the page names
named : (g : Over) (c : After-child_of g) → c.child_of.result ≡ child_in (shown_of (arc_value c.in_ok-page.page)) c.args.key.now
named g c = subst (λ (page : AnyPage). c.child_of.result ≡ child_in (shown_of page) c.args.key.now) c.deref.ensures c.child_of.ensures.child

pub returns-in-None-clause-told : goal.returns-in-None-clause-told
returns-in-None-clause-told g c =
    let given = c.in_ok-page.ensures.given in
    down_ends c.args.self.now c.args.key.now c.loop-page.number (g.P.Port.counts c.args.port.now) (g.P.Port.counts c.loop-page.port) (g.P.Port.counts c.page.new.port)
    c.loop-page.invariant.down c.in_ok-page.ensures.counts (shown_of (arc_value c.in_ok-page.page)) (subst IsBranch c.self.view_is c.self.invariant.0) c.in_ok-page.ensures.told given.place given.number
    (sym (named g (goal.at.returns-in-None-clause-told g c).After-child_of) ∙ c.in-None.is)

pub returns-in-None-clause-path : goal.returns-in-None-clause-path
returns-in-None-clause-path g c =
    path_ends (g.G.Pager.shows c.args.pager.now) c.args.self.now c.args.key.now c.loop-page.number (g.P.Port.counts c.args.port.now) (g.P.Port.counts c.loop-page.port) (g.P.Port.counts c.page.new.port)
    c.loop-page.invariant.path c.in_ok-page.ensures.counts (shown_of (arc_value c.in_ok-page.page)) c.in_ok-page.ensures.given
    (sym (named g (goal.at.returns-in-None-clause-path g c).After-child_of) ∙ c.in-None.is)

pub returns-in-None-clause-leaf : goal.returns-in-None-clause-leaf
returns-in-None-clause-leaf g c leaf =
    leaf_place c.args.self.now (shown_of (arc_value c.in_ok-page.page)).at (subst IsBranch c.self.view_is c.self.invariant.0) c.in_ok-page.ensures.given.place leaf

if_some_is : (o : Option ℕ) (child : ℕ) (P : ℕ → Type 0) → o ≡ Some child → IfSome o P → P child
if_some_is None child P is holds = absurd cc
if_some_is (Some other) child P is holds = let same : other ≡ child = cc in subst P same holds

pub loop-page-preserved : goal.loop-page-preserved
loop-page-preserved g c =
    let shown = shown_of (arc_value c.in_ok-page.page) in
    let given = c.in_ok-page.ensures.given in
    let goes = subst (λ (page : AnyPage). IfSome c.child_of.result (λ child. child < (shown_of page).at.page)) c.deref.ensures c.child_of.ensures.below in
    let lower = if_some_is c.child_of.result c.in-Some.child (λ child. child < shown.at.page) c.in-Some.is goes in
    let below = subst (λ (page : ℕ). c.in-Some.child < page) given.number lower in
    let names = sym (named g (goal.at.loop-page-preserved g c).After-child_of) ∙ c.in-Some.is in
    record {
      down =
          down_goes_on c.args.self.now c.args.key.now c.loop-page.number (g.P.Port.counts c.args.port.now) (g.P.Port.counts c.loop-page.port) (g.P.Port.counts c.page.new.port)
          c.loop-page.invariant.down c.in_ok-page.ensures.counts shown c.in-Some.child below c.in_ok-page.ensures.told names;
      path =
          path_goes_on (g.G.Pager.shows c.args.pager.now) c.args.self.now c.args.key.now c.loop-page.number (g.P.Port.counts c.args.port.now) (g.P.Port.counts c.loop-page.port) (g.P.Port.counts c.page.new.port)
          c.loop-page.invariant.path c.in_ok-page.ensures.counts shown c.in-Some.child c.in_ok-page.ensures.faults below given names;
    }

use Rattle.spl_build.proofs.Parts.{appended, pages_failed, pages_grown, pages_lost}
use Rattle.std.proofs.Common.{ap, ◌++◌, map}
use Rattle.std.specs.Option.{option_map}
use Rattle.spl_build.specs.Written.{begun_part}
use Rattle.spl_build.proofs.pages.Pages.append.Goals as goal

pub invariant_of-self : goal.invariant_of-self
invariant_of-self g c =
    pages_failed g.P.Seal.Seal.means (λ b. (g.P.Port.drafts b.draft, b.pages)) _ _ _ _ _ c.self.inside.front.seals.items c.open.new.self.seals.items c.self.inside.begun c.take.new.self
    c.open.ensures.number c.open.ensures.extents c.in_err-begun.ensures.err c.take.ensures.after c.self.invariant

pub invariant_of-self-in_err-append : goal.invariant_of-self-in_err-append
invariant_of-self-in_err-append g c =
    pages_lost g.P.Seal.Seal.means (λ b. (g.P.Port.drafts b.draft, b.pages)) _ _ _ _ _ _ c.open.new.self.seals.items _ _ c.take.new.self
    c.open.ensures.number c.open.ensures.extents c.take.ensures.after c.self.invariant.most c.in_ok-begun.ensures.ok

pub invariant_of-self-2 : goal.invariant_of-self-2
invariant_of-self-2 g c =
    pages_grown _ _ _ _ _ _ _ _ _ _ c.args.page.now c.bytes.result.now
    c.open.ensures.number c.open.ensures.extents c.in_ok-append.ensures.ok c.bytes.ensures c.in_ok-begun.ensures.ok c.self.invariant.most

pub returns-clause-ok : goal.returns-clause-ok
returns-clause-ok g c =
    appended _ _ _ _ _ _ _ _ _ _ c.args.page.now c.bytes.result.now
    c.open.ensures.number c.open.ensures.extents c.in_ok-append.ensures.ok c.bytes.ensures c.in_ok-begun.ensures.ok
    _ _ c.self.view_is (ap (λ b. map g.P.Seal.Seal.means c.self.inside.front.seals.items ++ begun_part (option_map (λ b. (g.P.Port.drafts b.draft, b.pages)) b)) c.take.ensures.value) c.self.invariant.parts

pub returns-clause-sound : goal.returns-clause-sound
returns-clause-sound g c =
    let grown = pages_grown _ _ _ _ _ _ _ _ _ _ c.args.page.now c.bytes.result.now
    c.open.ensures.number c.open.ensures.extents c.in_ok-append.ensures.ok c.bytes.ensures c.in_ok-begun.ensures.ok c.self.invariant.most in
    grown.parts

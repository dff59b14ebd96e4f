use Rattle.std.proofs.Common.{length, ap, arith}
use Rattle.spl_build.specs.Written.{Written}
use Rattle.std.proofs.lemmas.List.{length-map}
use Rattle.spl_build.proofs.Parts.{front_most, none_at, none_most, some_at, some_most}
use Rattle.spl_build.proofs.pages.Pages.count.Goals as goal

pub overflow_cast-full : goal.overflow_cast-full
overflow_cast-full g c =
    omega (arith, front_most _ _ _ _ _ c.self.invariant, length-map c.self.inside.front.seals.items g.P.Seal.Seal.means, c.self.inside.front.seals.ok.0)

pub overflow_mul-full : goal.overflow_mul-full
overflow_mul-full g c =
    omega (arith, front_most _ _ _ _ _ c.self.invariant, length-map c.self.inside.front.seals.items g.P.Seal.Seal.means, c.self.inside.front.seals.ok.0)

pub overflow_add-result : goal.overflow_add-result
overflow_add-result g c =
    let pages = some_at g.P.Seal.Seal.means (λ b. (g.P.Port.drafts b.draft, b.pages)) _ _ _ _ c.self.inside.begun c.in-Some.begun c.in-Some.is c.self.invariant in
    omega (arith, (some_most _ _ _ _ _ _ pages).0, c.self.invariant.most, length-map c.self.inside.front.seals.items g.P.Seal.Seal.means, c.self.inside.front.seals.ok.0)

pub returns-in-Some-clause-most : goal.returns-in-Some-clause-most
returns-in-Some-clause-most g c =
    let pages = some_at g.P.Seal.Seal.means (λ b. (g.P.Port.drafts b.draft, b.pages)) _ _ _ _ c.self.inside.begun c.in-Some.begun c.in-Some.is c.self.invariant in
    let extents = ap (λ (w : Written). length w.extents) c.self.view_is in
    omega (arith, (some_most _ _ _ _ _ _ pages).0, extents, length-map c.self.inside.front.seals.items g.P.Seal.Seal.means, c.self.inside.front.seals.ok.0)

pub returns-in-None-clause-most : goal.returns-in-None-clause-most
returns-in-None-clause-most g c =
    let pages = none_at g.P.Seal.Seal.means (λ b. (g.P.Port.drafts b.draft, b.pages)) _ _ _ _ c.self.inside.begun c.in-None.is c.self.invariant in
    let extents = ap (λ (w : Written). length w.extents) c.self.view_is in
    omega (arith, none_most _ _ _ _ pages, extents, length-map c.self.inside.front.seals.items g.P.Seal.Seal.means, c.self.inside.front.seals.ok.0)

use Rattle.spl_build.proofs.Parts.{opens_first, opens_sealed}
use Rattle.spl_build.proofs.pages.Front.open.Goals as goal

pub returns-in_ok-push-in-Some-2-clause-ok : goal.returns-in_ok-push-in-Some-2-clause-ok
returns-in_ok-push-in-Some-2-clause-ok g c =
    opens_sealed g.P.Seal.Seal.means (λ b. (g.P.Port.drafts b.draft, b.pages)) _ _ _ c.args.self.now.seals.items c.push.new.self.items c.in_ok-seal-in-Some-2.seal c.args.begun c.in-Some.begun c.in-Some.begun _ _
    c.in-Some.is c.in-Some.is c.if-begun-lt-EXTENT_PAGES.false c.in_ok-push-in-Some-2.ensures.items c.in_ok-seal-in-Some-2.ensures.ok c.requires.sound c.requires.room c.begin.ensures.begun c.begin.ensures.pages

pub returns-in-None-clause-ok : goal.returns-in-None-clause-ok
returns-in-None-clause-ok g c =
    opens_first g.P.Seal.Seal.means (λ b. (g.P.Port.drafts b.draft, b.pages)) _ _ _ c.args.self.now.seals.items c.args.begun _ _
    c.in-None.is c.requires.sound c.requires.room c.begin-in-None.ensures.begun c.begin-in-None.ensures.pages

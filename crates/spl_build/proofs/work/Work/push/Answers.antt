use Rattle.std.proofs.Common.{◌≡◌, ◌+◌, ◌≤◌, true, None, IfSome, refl, subst, sym}
use Rattle.spl_message.specs.Key.{is_below}
use Rattle.spl_page.specs.LeafPage.{leaf_entry_length}
use Rattle.spl_page.specs.Lent.{message_lent}
use Rattle.spl_page.specs.Tables.{table_length}
use Rattle.spl_build.specs.declared.stage.Stage.TheVariants.{Adding}
use Rattle.spl_build.specs.Work.{IsAdding, WorkState}
use Rattle.spl_build.proofs.Steps.{push_adds, push_done, push_rises}
use Rattle.spl_build.proofs.work.Work.push.Goals as goal

pub push_lent-requires-clause-rising : goal.push_lent-requires-clause-rising
push_lent-requires-clause-rising g c =
    let adding = subst IsAdding (sym c.self.view_is) c.requires.adding in
    let above = subst (λ (w : WorkState). IfSome w.last (λ last. is_below last c.args.key.now ≡ true)) (sym c.self.view_is) c.requires.rising in
    push_rises _ c.args.key.now (message_lent c.args.message) adding above

pub returns-clause-adding : goal.returns-clause-adding
returns-clause-adding g c =
    let adding = subst IsAdding (sym c.self.view_is) c.requires.adding in
    let above = subst (λ (w : WorkState). IfSome w.last (λ last. is_below last c.args.key.now ≡ true)) (sym c.self.view_is) c.requires.rising in
    push_adds _ c.args.key.now (message_lent c.args.message) _ _ _ _ _ c.in_ok-push_lent.ensures.ok c.in_ok-push.ensures.hashes c.in_ok-push.ensures.cuts c.in_ok-push.ensures.last adding above c.set_first.ensures

pub returns-clause-done : goal.returns-clause-done
returns-clause-done g c =
    push_done _ c.args.key.now (message_lent c.args.message) _ c.set_first.new.first _ _ _ c.in_ok-push_lent.ensures.ok c.in_ok-push.ensures.hashes c.in_ok-push.ensures.cuts c.in_ok-push.ensures.last
    g.P.Seal.Seal.TELLS c.args.self.now Adding None c.self.view_is refl
    (subst (λ (w : WorkState). table_length w.begun + leaf_entry_length c.args.key.now (message_lent c.args.message) ≤ 4096) (sym c.self.view_is) c.requires.fits)

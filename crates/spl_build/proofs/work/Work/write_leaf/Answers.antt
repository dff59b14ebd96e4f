use Rattle.std.proofs.Common.{◌<◌, ◌*◌, length, None, ap, refl, subst, sym, arith}
use Rattle.spl_branch.specs.Pages.{page_total}
use Rattle.spl_build.specs.declared.stage.Stage.TheVariants.{Adding}
use Rattle.spl_build.specs.Work.{IsAdding, WorkState}
use Rattle.spl_build.proofs.Steps.{leaf_keeps, leaf_writes, leaf_written, leaves_fit, page_gained}
use Rattle.spl_build.proofs.work.Work.write_leaf.Goals as goal

pub overflow_add-self : goal.overflow_add-self
overflow_add-self g c =
    let adding = subst IsAdding (sym c.self.view_is) c.requires.adding in
    let room = subst (λ (w : WorkState). page_total w.written.parts < 32 * length w.written.extents) (sym c.self.view_is) c.requires.room in
    omega (arith, leaves_fit _ adding room c.next-at.ensures.extents)

pub returns-clause-adding : goal.returns-clause-adding
returns-clause-adding g c =
    let adding = subst IsAdding (sym c.self.view_is) c.requires.adding in
    leaf_writes _ _ _ _ _ _ _ _ _ adding c.in-Some.is c.finish.ensures.most c.in_ok-append.ensures.ok c.next-at.ensures.place c.in_ok-page.ensures.page c.in_ok-page.ensures.table c.in_ok-page.ensures.kind
    c.in_ok-page.ensures.ok refl c.in_ok-push.ensures

pub returns-clause-kept : goal.returns-clause-kept
returns-clause-kept g c =
    let adding = subst IsAdding (sym c.self.view_is) c.requires.adding in
    leaf_keeps _ _ _ _ _ _ _ _ _ adding c.in-Some.is c.finish.ensures.most c.in_ok-append.ensures.ok c.next-at.ensures.place c.in_ok-page.ensures.page c.in_ok-page.ensures.table c.in_ok-page.ensures.kind
    c.in_ok-page.ensures.ok refl c.in_ok-push.ensures c.args.self.now Adding None c.self.view_is

pub returns-clause-written : goal.returns-clause-written
returns-clause-written g c =
    let adding = subst IsAdding (sym c.self.view_is) c.requires.adding in
    leaf_written _ _ _ _ _ _ _ _ _ adding c.in-Some.is c.finish.ensures.most c.in_ok-append.ensures.ok c.next-at.ensures.place c.in_ok-page.ensures.page c.in_ok-page.ensures.table c.in_ok-page.ensures.kind
    c.in_ok-page.ensures.ok refl c.in_ok-push.ensures c.args.self.now Adding None c.self.view_is c.in_ok-append.ensures.sound

pub returns-clause-pages : goal.returns-clause-pages
returns-clause-pages g c =
    page_gained _ _ _ _ c.args.self.now _ _ (ap (λ (w : WorkState). w.written) c.self.view_is) c.in_ok-append.ensures.ok c.in_ok-append.ensures.ok_count c.in_ok-append.ensures.ok_faults

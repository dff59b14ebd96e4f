use Rattle.std.proofs.Common.{◌<◌, ◌+◌, ◌*◌, length, None, ap, subst, sym, arith}
use Rattle.spl_branch.specs.Pages.{page_total}
use Rattle.spl_build.specs.declared.stage.Stage.TheVariants.{Finishing}
use Rattle.spl_build.specs.Work.{IsWork, WorkState}
use Rattle.spl_build.proofs.Steps.{children_below, height_fits, index_keeps, index_writes, page_gained, some_wait, waiting_rises}
use Rattle.spl_build.proofs.work.Work.write_index.Goals as goal

pub pack-requires : goal.pack-requires
pack-requires g c =
    let sound = subst IsWork (sym c.self.view_is) c.requires.sound in
    waiting_rises _ sound

pub finish-requires-clause-entries : goal.finish-requires-clause-entries
finish-requires-clause-entries g c =
    let sound = subst IsWork (sym c.self.view_is) c.requires.sound in
    let roots = subst (λ (w : WorkState). 1 < length w.levels.waiting + length w.levels.above) (sym c.self.view_is) c.requires.roots in
    c.in_ok-index.ensures.some (some_wait _ sound roots)

pub finish-requires-clause-children : goal.finish-requires-clause-children
finish-requires-clause-children g c =
    let sound = subst IsWork (sym c.self.view_is) c.requires.sound in
    children_below _ sound c.in_ok-index.index c.next-at.result c.in_ok-index.ensures.front c.next-at.ensures.place

pub adopt-requires-clause-some : goal.adopt-requires-clause-some
adopt-requires-clause-some g c =
    let sound = subst IsWork (sym c.self.view_is) c.requires.sound in
    let roots = subst (λ (w : WorkState). 1 < length w.levels.waiting + length w.levels.above) (sym c.self.view_is) c.requires.roots in
    omega (arith, c.in_ok-index.ensures.some (some_wait _ sound roots), c.len-children.ensures.value)

pub adopt-requires-clause-height : goal.adopt-requires-clause-height
adopt-requires-clause-height g c =
    let sound = subst IsWork (sym c.self.view_is) c.requires.sound in
    let room = subst (λ (w : WorkState). page_total w.written.parts < 32 * length w.written.extents) (sym c.self.view_is) c.requires.room in
    omega (arith, height_fits _ sound room c.next-at.ensures.extents)

pub returns-clause-sound : goal.returns-clause-sound
returns-clause-sound g c =
    let sound = subst IsWork (sym c.self.view_is) c.requires.sound in
    let roots = subst (λ (w : WorkState). 1 < length w.levels.waiting + length w.levels.above) (sym c.self.view_is) c.requires.roots in
    index_writes _ sound _ _ _ c.in_ok-index.index c.next-at.result c.len-children.result _ c.in_ok-append.ensures.ok c.next-at.ensures.place c.in_ok-page.ensures.kind
    c.in_ok-index.ensures.front (c.in_ok-index.ensures.some (some_wait _ sound roots)) roots (omega (arith, c.len-children.ensures.value, c.len-children.ensures.most)) c.in_ok-index.ensures.many c.in_ok-page.ensures.page c.in_ok-page.ensures.children c.len-children.ensures.value c.in_ok-adopt.ensures

pub returns-clause-kept : goal.returns-clause-kept
returns-clause-kept g c =
    let sound = subst IsWork (sym c.self.view_is) c.requires.sound in
    index_keeps _ sound _ _ _ c.in_ok-index.index c.next-at.result c.len-children.result c.adopt.new.self c.in_ok-append.ensures.ok c.next-at.ensures.place c.in_ok-page.ensures.kind
    c.args.self.now Finishing None c.self.view_is

pub returns-clause-pages : goal.returns-clause-pages
returns-clause-pages g c =
    page_gained _ _ _ _ c.args.self.now _ _ (ap (λ (w : WorkState). w.written) c.self.view_is) c.in_ok-append.ensures.ok c.in_ok-append.ensures.ok_count c.in_ok-append.ensures.ok_faults

use Rattle.std.proofs.Common.{◌<◌, length, ap, arith}
use Rattle.spl_build.specs.Written.{Written}
use Rattle.spl_build.proofs.Parts.{pages_given}
use Rattle.spl_build.proofs.pages.Pages.give.Goals as goal

pub invariant_of-self-2 : goal.invariant_of-self-2
invariant_of-self-2 g c =
    let room : length c.self.inside.front.extents.items < 65536 = omega (arith, ap (λ (w : Written). length w.extents) c.self.view_is) in
    rw c.in_ok-push.ensures.items (pages_given _ _ _ _ _ c.args.extent c.self.invariant room)

use Rattle.std.proofs.Common.{◌+◌, ◌<◌, length, arith}
use Rattle.spl_build.proofs.Packing.{adopted_part, waiting_count}
use Rattle.spl_build.proofs.levels.Levels.adopt.Goals as goal

pub returns-else-self-len : goal.returns-else-self-len
returns-else-self-len c =
    let count = waiting_count c.self.inside.level.items c.self.inside.above.items c.self.inside.packed c.self.inside.height c.args.self.now c.self.view_is in
    let within : c.self.inside.packed + c.args.count < length c.self.inside.level.items = omega (arith, count, c.self.inside.level.ok.0, c.self.invariant) in
    rw c.in_ok-push.ensures.items
    (adopted_part c.self.inside.level.items c.self.inside.above.items c.self.inside.packed c.args.count c.self.inside.height c.args.page c.index.result.now c.args.self.now c.requires.some within c.index.ensures c.self.view_is)

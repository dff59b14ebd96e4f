use Rattle.std.proofs.Common.{arith}
use Rattle.spl_script.proofs.Texts.{nothing_spelled, byte_spelled}
use Rattle.spl_script.proofs.text.spell.Goals as goal

pub loop-left-init : goal.loop-left-init
loop-left-init c = rw c.clear.ensures.items (nothing_spelled _)

pub loop-left-preserved : goal.loop-left-preserved
loop-left-preserved c = byte_spelled c.loop-left.room.items c.loop-left.left.now _ c.in-Some.byte c.in-Some.after.now _ _ (omega arith) c.in-Some.ensures.value c.in_ok-push.ensures.items c.loop-left.invariant

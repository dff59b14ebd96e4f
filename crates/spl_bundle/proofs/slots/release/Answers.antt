use Rattle.std.proofs.Common.{◌<◌, length, arith}
use Rattle.std.proofs.lemmas.Grind.{elements}
use Rattle.spl_bundle.proofs.Copies.{cleared_more}
use Rattle.spl_bundle.proofs.slots.release.Goals as goal

pub loop-slot-preserved : goal.loop-slot-preserved
loop-slot-preserved c =
    let within : c.loop-slot.slot-index < length c.loop-slot.slots = omega arith in
    record {
      marks = cleared_more c.args.actor c.args.slots.now c.loop-slot.slots c.loop-slot.slot-index _ c.slot-item.result (omega (arith, c.told-slots, c.loop-slot-test.true)) within c.clear.ensures.bundle c.loop-slot.invariant.marks;
      slots = grind (arith, elements);
    }

use Rattle.std.proofs.Common.{◌≡◌, ◌++◌, map, take, drop}
use Rattle.std.specs.Prelude.{All}
use Rattle.spl_bundle.specs.Numbered.{without_mark}
use Rattle.spl_bundle.specs.Slots.{IsSlot, contents}
use Rattle.spl_bundle.proofs.slots.release.Given as goal

-- the slots so far have no mark of the actor, and the others are as they were
abbrev pub invariant-loop-slot : goal.invariant-loop-slot
invariant-loop-slot l = record {
  marks : contents l.slots ≡ map (without_mark l.actor) (take l.slot-index (contents l.initial.slots)) ++ drop l.slot-index (contents l.initial.slots);
  slots : All IsSlot l.slots;
}

use Rattle.std.proofs.Common.{◌≡◌, take, length}
use Rattle.std.specs.Prelude.{All}
use Rattle.spl_bundle.specs.declared.bundles.TheConstants.{MAX_LISTS}
use Rattle.spl_bundle.specs.Slots.{contents, IsSlot}
use Rattle.spl_bundle.proofs.slots.copy_slots.Given as goal

abbrev pub invariant-loop-i : goal.invariant-loop-i
invariant-loop-i l = record {
  count : length l.copy ≡ MAX_LISTS;
  same : take l.i (contents l.copy) ≡ take l.i (contents l.slots);
  slots : All IsSlot l.copy;
}

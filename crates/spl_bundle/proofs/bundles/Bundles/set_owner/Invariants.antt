use Rattle.std.proofs.Common.{◌≡◌, ◌-◌}
use Rattle.std.specs.Prelude.{All}
use Rattle.spl_bundle.specs.Slots.{window, contents, IsSlot}
use Rattle.spl_bundle.proofs.Runs.{owned}
use Rattle.spl_bundle.proofs.bundles.Bundles.set_owner.Given as goal

-- the bundles of the run below the number have the owner, and all else is as it was
abbrev pub invariant-loop-number : goal.invariant-loop-number
invariant-loop-number l =
    let first = l.initial.self-inside.first in
    let count = l.initial.self-inside.next - first in
    record {
      same_first : l.self-inside.first ≡ first;
      same_next : l.self-inside.next ≡ l.initial.self-inside.next;
      bundles : window (contents l.self-inside.slots) first count
          ≡ owned l.owner (window (contents l.initial.self-inside.slots) first count) (l.from - first) (l.number - l.from);
      slots : All IsSlot l.self-inside.slots;
    }

use Rattle.std.proofs.Common.{◌≡◌, ◌≤◌, None}
use Rattle.spl_bundle.specs.declared.bundles.TheConstants.{MAX_BRANCHES}
use Rattle.spl_bundle.proofs.Live.{live_below}
use Rattle.spl_bundle.proofs.slots.join.Given as goal

-- the slot has the lists below the number
abbrev pub invariant-loop-number : goal.invariant-loop-number
invariant-loop-number l = record {
  branches : l.slot.branches.items ≡ live_below l.other l.from l.number;
  room : MAX_BRANCHES ≤ l.slot.branches.capacity;
  owner : l.slot.owner ≡ None;
}

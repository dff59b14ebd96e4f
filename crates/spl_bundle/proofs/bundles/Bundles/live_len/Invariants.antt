use Rattle.std.proofs.Common.{◌≡◌, ◌-◌, ◌*◌, ◌≤◌, length}
use Rattle.spl_bundle.specs.declared.bundles.TheConstants.{MAX_BRANCHES}
use Rattle.spl_bundle.proofs.Live.{live_below}
use Rattle.spl_bundle.proofs.bundles.Bundles.live_len.Given as goal

-- the lists below the number are counted, and none of them is longer than a list may be
abbrev pub invariant-loop-number : goal.invariant-loop-number
invariant-loop-number l = record {
  counted : l.count ≡ length (live_below l.self l.from l.number);
  bounded : l.count ≤ MAX_BRANCHES * (l.number - l.from);
}

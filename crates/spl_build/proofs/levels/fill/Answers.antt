use Rattle.spl_build.proofs.Packing.{front_is, rising_taken}
use Rattle.std.proofs.Common.{◌≤◌, length, arith}
use Rattle.spl_build.proofs.levels.fill.Goals as goal

pub returns-then-not-fits-clause-front : goal.returns-then-not-fits-clause-front
returns-then-not-fits-clause-front c =
    let within : c.loop-entry.entry-index ≤ length c.args.entries.now = omega arith in
    front_is c.args.entries.now c.loop-entry.entry-index c.loop-entry.page within c.loop-entry.invariant.0

pub push-requires-clause-rising : goal.push-requires-clause-rising
push-requires-clause-rising c =
    rising_taken c.args.entries.now c.loop-entry.entry-index c.entry-item.result c.loop-entry.page c.loop-entry-test.true c.loop-entry.invariant.0 c.entry-item.is c.requires.rising

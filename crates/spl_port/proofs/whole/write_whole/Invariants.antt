use Rattle.std.proofs.Common.{length, take, ◌+◌, ◌-◌, ◌≡◌, ◌≤◌}
use Rattle.spl_port.specs.Bytes.{Takes}
use Rattle.spl_port.proofs.whole.write_whole.Given as goal

abbrev pub invariant-loop-at : goal.invariant-loop-at
invariant-loop-at g l =
    (l.at ≤ length l.text) × Takes (g.O.Sink.means l.fn.out).held (g.O.Sink.means l.out).held (take l.at l.text)
    × ((g.O.Sink.means l.out).faults ≡ (g.O.Sink.means l.fn.out).faults)
    × ((g.O.Sink.means l.out).writes ≤ (g.O.Sink.means l.fn.out).writes + l.at)

abbrev pub decreases-loop-at : goal.decreases-loop-at
decreases-loop-at g l = length l.text - l.at

use Rattle.std.proofs.Common.{◌≡◌, ◌≤◌, None, vec_len, ◌-◌, min}
use Rattle.spl_port.specs.Bytes.{Gives}
use Rattle.spl_port.proofs.whole.read_whole.Given as goal

abbrev pub invariant-loop-buffer : goal.invariant-loop-buffer
invariant-loop-buffer g l =
    (vec_len l.text ≤ l.limit) × (vec_len l.buffer ≡ min 65536 l.limit)
    × Gives (g.I.Source.means l.fn.input).left (g.I.Source.means l.input).left l.text.items
    × ((g.I.Source.means l.input).faults ≡ (g.I.Source.means l.fn.input).faults)
    × ((g.I.Source.means l.fn.input).late ≡ None → (g.I.Source.means l.input).late ≡ None)

abbrev pub decreases-loop-buffer : goal.decreases-loop-buffer
decreases-loop-buffer g l = l.limit - vec_len l.text

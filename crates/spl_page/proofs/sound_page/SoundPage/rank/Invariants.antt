use Rattle.std.proofs.Common.{◌-◌, ◌≤◌, length, map}
use Rattle.spl_page.specs.Sound.{count_below, entries_of}
use Rattle.spl_page.proofs.sound_page.SoundPage.rank.Given as goal

abbrev pub invariant-loop-low : goal.invariant-loop-low
invariant-loop-low g l =
    let entries = entries_of (g.F.Form.entry l.self.at.page) g.F.Form.entry_length l.self.bytes in
    let place = count_below (map g.F.Form.entry_key entries) l.key in
    (l.low ≤ place) × (place ≤ l.high) × (l.high ≤ length entries)

abbrev pub decreases-loop-low : goal.decreases-loop-low
decreases-loop-low g l = l.high - l.low

use Rattle.std.proofs.Common.{◌≡◌, vec_len}
use Rattle.spl_turn.proofs.Joining.{Joined}
use Rattle.spl_turn.proofs.turn.Turn.gather.Given as goal

abbrev pub invariant-loop-other : goal.invariant-loop-other
invariant-loop-other g l = (l.first.table_id ≡ l.fn.place.table_id) × Joined l.fn.place.me l.first.me l.fn.others.items l.others.items

abbrev pub decreases-loop-other : goal.decreases-loop-other
decreases-loop-other g l = vec_len l.others

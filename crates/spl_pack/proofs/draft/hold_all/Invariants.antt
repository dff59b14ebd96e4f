use Rattle.std.proofs.Common.{take}
use Rattle.spl_pack.proofs.Owners.{Passing}
use Rattle.spl_pack.proofs.draft.hold_all.Given as goal

-- the extents so far are the branch's
abbrev pub invariant-loop-extent : goal.invariant-loop-extent
invariant-loop-extent l = Passing l.initial.pool l.pool l.actor l.branch (take l.extent-index l.extents)

use Rattle.std.proofs.Common.{refl, zero-add}
use Rattle.spl_pack.proofs.Owners.{next_granted, passes_next, all_passed}
use Rattle.spl_pack.proofs.draft.hold_all.Goals as goal

pub loop-extent-init : goal.loop-extent-init
loop-extent-init c = record { same = refl; left = λ n. zero-add _ }

pub hold-requires-clause-granted : goal.hold-requires-clause-granted
hold-requires-clause-granted c =
    next_granted c.args.pool.now c.loop-extent.pool c.args.actor c.args.branch c.args.extents.now c.requires.all c.loop-extent.extent-index c.loop-extent.invariant c.loop-extent-test.true

pub loop-extent-preserved : goal.loop-extent-preserved
loop-extent-preserved c =
    rw c.hold.ensures (passes_next c.args.pool.now c.loop-extent.pool c.args.actor c.args.branch c.args.extents.now c.requires.all c.loop-extent.extent-index c.loop-extent.invariant c.loop-extent-test.true)

pub returns : goal.returns
returns c =
    all_passed c.args.pool.now c.loop-extent.pool c.args.actor c.args.branch c.args.extents.now c.requires.all c.loop-extent.extent-index c.loop-extent.invariant c.loop-extent-test.false

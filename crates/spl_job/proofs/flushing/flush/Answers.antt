use Rattle.std.proofs.Common.{◌<◌, ◌∙◌, ℕ, refl, subst}
use Rattle.spl_base.specs.declared.TheConstants.{ACTORS}
use Rattle.spl_state.specs.View.{branch_data}
use Rattle.spl_core.specs.declared.step.Step.TheVariants.{Flush}
use Rattle.spl_desk.specs.Holder.{kind_of}
use Rattle.spl_desk.proofs.Quiet.{made_step, quiet_step}
use Rattle.spl_job.specs.Flushing.{IsFlushTurn}
use Rattle.spl_job.specs.declared.flushing.Flushing.TheVariants as flushing
use Rattle.spl_job.proofs.Flushes.{flush_answers, flush_done, flush_kept, flush_moved, compact_not_done, moved_not_done, room_not_done}
use Rattle.spl_job.proofs.flushing.flush.Goals as goal

pub returns-in-Done-clause-quiet : goal.returns-in-Done-clause-quiet
returns-in-Done-clause-quiet g c =
    let kind = kind_of g.B.Content.number (branch_data g.B.Content.extents g.B.Content.entries g.B.Content.cuts g.B.Content.table) g.B.Content.TELLS in
    let old = g.T.Turns.means c.args.turns.now in
    let new = g.T.Turns.means c.take_turn.new.turns in
    let saw = g.T.Turns.saw c.take_turn.new.turns in
    let made = c.take_turn.ensures in
    let seen = c.requires.seen in
    quiet_step kind old new (Flush c.args.parent c.args.child) c.take_turn.result (g.T.Turns.saw c.args.turns.now) saw made.same seen refl made.turn

pub returns-in-Done-clause-holds : goal.returns-in-Done-clause-holds
returns-in-Done-clause-holds g c =
    let kind = kind_of g.B.Content.number (branch_data g.B.Content.extents g.B.Content.entries g.B.Content.cuts g.B.Content.table) g.B.Content.TELLS in
    let old = g.T.Turns.means c.args.turns.now in
    let new = g.T.Turns.means c.take_turn.new.turns in
    let saw = g.T.Turns.saw c.take_turn.new.turns in
    let made = c.take_turn.ensures in
    let seen = c.requires.seen in
    flush_done kind old new seen.0 c.take_turn.result saw made.same c.args.parent c.args.child (made.turn seen.0 seen.1) c.requires.holds (subst (λ (n : ℕ). n < ACTORS) c.actor.ensures.value c.actor.ensures.known) c.in-Done.is

pub returns-in-Done-clause-made : goal.returns-in-Done-clause-made
returns-in-Done-clause-made g c =
    let kind = kind_of g.B.Content.number (branch_data g.B.Content.extents g.B.Content.entries g.B.Content.cuts g.B.Content.table) g.B.Content.TELLS in
    let old = g.T.Turns.means c.args.turns.now in
    let new = g.T.Turns.means c.take_turn.new.turns in
    let saw = g.T.Turns.saw c.take_turn.new.turns in
    let made = c.take_turn.ensures in
    let seen = c.requires.seen in
    λ history had. made_step kind old new history (Flush c.args.parent c.args.child) c.take_turn.result saw (IsFlushTurn c.args.parent c.args.child flushing.Done) refl (made.turn history had) ((made.turn history had).step, (made.turn history had).reply ∙ c.in-Done.is)

pub returns-in-Moved-clause-quiet : goal.returns-in-Moved-clause-quiet
returns-in-Moved-clause-quiet g c =
    let kind = kind_of g.B.Content.number (branch_data g.B.Content.extents g.B.Content.entries g.B.Content.cuts g.B.Content.table) g.B.Content.TELLS in
    let old = g.T.Turns.means c.args.turns.now in
    let new = g.T.Turns.means c.take_turn.new.turns in
    let saw = g.T.Turns.saw c.take_turn.new.turns in
    let made = c.take_turn.ensures in
    let seen = c.requires.seen in
    quiet_step kind old new (Flush c.args.parent c.args.child) c.take_turn.result (g.T.Turns.saw c.args.turns.now) saw made.same seen refl made.turn

pub returns-in-Moved-clause-holds : goal.returns-in-Moved-clause-holds
returns-in-Moved-clause-holds g c =
    let kind = kind_of g.B.Content.number (branch_data g.B.Content.extents g.B.Content.entries g.B.Content.cuts g.B.Content.table) g.B.Content.TELLS in
    let old = g.T.Turns.means c.args.turns.now in
    let new = g.T.Turns.means c.take_turn.new.turns in
    let saw = g.T.Turns.saw c.take_turn.new.turns in
    let made = c.take_turn.ensures in
    let seen = c.requires.seen in
    flush_kept kind old new seen.0 c.take_turn.result saw made.same c.args.parent c.args.child (made.turn seen.0 seen.1) (moved_not_done c.take_turn.result c.in-Moved.child c.in-Moved.is)

pub returns-in-Moved-clause-made : goal.returns-in-Moved-clause-made
returns-in-Moved-clause-made g c =
    let kind = kind_of g.B.Content.number (branch_data g.B.Content.extents g.B.Content.entries g.B.Content.cuts g.B.Content.table) g.B.Content.TELLS in
    let old = g.T.Turns.means c.args.turns.now in
    let new = g.T.Turns.means c.take_turn.new.turns in
    let saw = g.T.Turns.saw c.take_turn.new.turns in
    let made = c.take_turn.ensures in
    let seen = c.requires.seen in
    λ history had. made_step kind old new history (Flush c.args.parent c.args.child) c.take_turn.result saw (IsFlushTurn c.args.parent c.args.child flushing.Moved) refl (made.turn history had) ((made.turn history had).step, (made.turn history had).reply ∙ flush_moved kind old new history c.take_turn.result saw made.same c.args.parent c.args.child (made.turn history had) c.requires.holds c.in-Moved.child c.in-Moved.is)

pub returns-in-NeedsRoom-clause-quiet : goal.returns-in-NeedsRoom-clause-quiet
returns-in-NeedsRoom-clause-quiet g c =
    let kind = kind_of g.B.Content.number (branch_data g.B.Content.extents g.B.Content.entries g.B.Content.cuts g.B.Content.table) g.B.Content.TELLS in
    let old = g.T.Turns.means c.args.turns.now in
    let new = g.T.Turns.means c.take_turn.new.turns in
    let saw = g.T.Turns.saw c.take_turn.new.turns in
    let made = c.take_turn.ensures in
    let seen = c.requires.seen in
    quiet_step kind old new (Flush c.args.parent c.args.child) c.take_turn.result (g.T.Turns.saw c.args.turns.now) saw made.same seen refl made.turn

pub returns-in-NeedsRoom-clause-holds : goal.returns-in-NeedsRoom-clause-holds
returns-in-NeedsRoom-clause-holds g c =
    let kind = kind_of g.B.Content.number (branch_data g.B.Content.extents g.B.Content.entries g.B.Content.cuts g.B.Content.table) g.B.Content.TELLS in
    let old = g.T.Turns.means c.args.turns.now in
    let new = g.T.Turns.means c.take_turn.new.turns in
    let saw = g.T.Turns.saw c.take_turn.new.turns in
    let made = c.take_turn.ensures in
    let seen = c.requires.seen in
    flush_kept kind old new seen.0 c.take_turn.result saw made.same c.args.parent c.args.child (made.turn seen.0 seen.1) (room_not_done c.take_turn.result c.in-NeedsRoom.is)

pub returns-in-NeedsRoom-clause-made : goal.returns-in-NeedsRoom-clause-made
returns-in-NeedsRoom-clause-made g c =
    let kind = kind_of g.B.Content.number (branch_data g.B.Content.extents g.B.Content.entries g.B.Content.cuts g.B.Content.table) g.B.Content.TELLS in
    let old = g.T.Turns.means c.args.turns.now in
    let new = g.T.Turns.means c.take_turn.new.turns in
    let saw = g.T.Turns.saw c.take_turn.new.turns in
    let made = c.take_turn.ensures in
    let seen = c.requires.seen in
    λ history had. made_step kind old new history (Flush c.args.parent c.args.child) c.take_turn.result saw (IsFlushTurn c.args.parent c.args.child flushing.NeedsRoom) refl (made.turn history had) ((made.turn history had).step, (made.turn history had).reply ∙ c.in-NeedsRoom.is)

pub returns-in-NeedsCompact-clause-quiet : goal.returns-in-NeedsCompact-clause-quiet
returns-in-NeedsCompact-clause-quiet g c =
    let kind = kind_of g.B.Content.number (branch_data g.B.Content.extents g.B.Content.entries g.B.Content.cuts g.B.Content.table) g.B.Content.TELLS in
    let old = g.T.Turns.means c.args.turns.now in
    let new = g.T.Turns.means c.take_turn.new.turns in
    let saw = g.T.Turns.saw c.take_turn.new.turns in
    let made = c.take_turn.ensures in
    let seen = c.requires.seen in
    quiet_step kind old new (Flush c.args.parent c.args.child) c.take_turn.result (g.T.Turns.saw c.args.turns.now) saw made.same seen refl made.turn

pub returns-in-NeedsCompact-clause-holds : goal.returns-in-NeedsCompact-clause-holds
returns-in-NeedsCompact-clause-holds g c =
    let kind = kind_of g.B.Content.number (branch_data g.B.Content.extents g.B.Content.entries g.B.Content.cuts g.B.Content.table) g.B.Content.TELLS in
    let old = g.T.Turns.means c.args.turns.now in
    let new = g.T.Turns.means c.take_turn.new.turns in
    let saw = g.T.Turns.saw c.take_turn.new.turns in
    let made = c.take_turn.ensures in
    let seen = c.requires.seen in
    flush_kept kind old new seen.0 c.take_turn.result saw made.same c.args.parent c.args.child (made.turn seen.0 seen.1) (compact_not_done c.take_turn.result c.in-NeedsCompact.branches c.in-NeedsCompact.is)

pub returns-in-NeedsCompact-clause-made : goal.returns-in-NeedsCompact-clause-made
returns-in-NeedsCompact-clause-made g c =
    let kind = kind_of g.B.Content.number (branch_data g.B.Content.extents g.B.Content.entries g.B.Content.cuts g.B.Content.table) g.B.Content.TELLS in
    let old = g.T.Turns.means c.args.turns.now in
    let new = g.T.Turns.means c.take_turn.new.turns in
    let saw = g.T.Turns.saw c.take_turn.new.turns in
    let made = c.take_turn.ensures in
    let seen = c.requires.seen in
    λ history had. made_step kind old new history (Flush c.args.parent c.args.child) c.take_turn.result saw (IsFlushTurn c.args.parent c.args.child (flushing.NeedsCompact c.in-NeedsCompact.branches)) refl (made.turn history had) ((made.turn history had).step, (made.turn history had).reply ∙ c.in-NeedsCompact.is)

pub unreachable-requires : goal.unreachable-requires
unreachable-requires g c =
    let kind = kind_of g.B.Content.number (branch_data g.B.Content.extents g.B.Content.entries g.B.Content.cuts g.B.Content.table) g.B.Content.TELLS in
    let old = g.T.Turns.means c.args.turns.now in
    let new = g.T.Turns.means c.take_turn.new.turns in
    let saw = g.T.Turns.saw c.take_turn.new.turns in
    let made = c.take_turn.ensures in
    let seen = c.requires.seen in
    flush_answers kind old new seen.0 c.take_turn.result saw made.same c.args.parent c.args.child (made.turn seen.0 seen.1) c.requires.holds c.in_default.not-Done c.in_default.not-Moved c.in_default.not-NeedsRoom c.in_default.not-NeedsCompact

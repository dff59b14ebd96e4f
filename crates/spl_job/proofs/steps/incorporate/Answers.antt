use Rattle.std.proofs.Common.{◌<◌, ℕ, refl, subst, ◌∙◌}
use Rattle.spl_base.specs.declared.TheConstants.{ACTORS}
use Rattle.spl_state.specs.View.{branch_data}
use Rattle.spl_core.specs.declared.step.Step.TheVariants.{Incorporate}
use Rattle.spl_desk.specs.Holder.{kind_of}
use Rattle.spl_desk.proofs.Quiet.{made_step, quiet_step}
use Rattle.spl_job.specs.After.{IsHangTurn}
use Rattle.spl_job.specs.declared.steps.Hanging.TheVariants as hanging
use Rattle.spl_job.proofs.Hangs.{hang_answers, hang_done, hang_full, hang_older}
use Rattle.spl_job.proofs.steps.incorporate.Goals as goal

pub returns-in-Done-clause-holds : goal.returns-in-Done-clause-holds
returns-in-Done-clause-holds g c =
    let kind = kind_of g.B.Content.number (branch_data g.B.Content.extents g.B.Content.entries g.B.Content.cuts g.B.Content.table) g.B.Content.TELLS in
    let old = g.T.Turns.means c.args.turns.now in
    let new = g.T.Turns.means c.take_turn.new.turns in
    let saw = g.T.Turns.saw c.take_turn.new.turns in
    let made = c.take_turn.ensures in
    let seen = c.requires.seen in
    λ holding holds published. hang_done kind old new seen.0 c.take_turn.result saw made.same (made.turn seen.0 seen.1) c.requires.holds (subst (λ (n : ℕ). n < ACTORS) c.actor.ensures.value c.actor.ensures.known) c.in-Done.is holding holds

pub returns-in-Done-clause-quiet : goal.returns-in-Done-clause-quiet
returns-in-Done-clause-quiet g c =
    let kind = kind_of g.B.Content.number (branch_data g.B.Content.extents g.B.Content.entries g.B.Content.cuts g.B.Content.table) g.B.Content.TELLS in
    let old = g.T.Turns.means c.args.turns.now in
    let new = g.T.Turns.means c.take_turn.new.turns in
    let saw = g.T.Turns.saw c.take_turn.new.turns in
    let made = c.take_turn.ensures in
    let seen = c.requires.seen in
    quiet_step kind old new Incorporate c.take_turn.result (g.T.Turns.saw c.args.turns.now) saw made.same seen refl made.turn

pub returns-in-Done-clause-made : goal.returns-in-Done-clause-made
returns-in-Done-clause-made g c =
    let kind = kind_of g.B.Content.number (branch_data g.B.Content.extents g.B.Content.entries g.B.Content.cuts g.B.Content.table) g.B.Content.TELLS in
    let old = g.T.Turns.means c.args.turns.now in
    let new = g.T.Turns.means c.take_turn.new.turns in
    let saw = g.T.Turns.saw c.take_turn.new.turns in
    λ history had.
    let turn = c.take_turn.ensures.turn history had in
    made_step kind old new history Incorporate c.take_turn.result saw (IsHangTurn hanging.Done) refl turn (turn.step, turn.reply ∙ c.in-Done.is)

pub returns-in-NotOldest-clause-made : goal.returns-in-NotOldest-clause-made
returns-in-NotOldest-clause-made g c =
    let kind = kind_of g.B.Content.number (branch_data g.B.Content.extents g.B.Content.entries g.B.Content.cuts g.B.Content.table) g.B.Content.TELLS in
    let old = g.T.Turns.means c.args.turns.now in
    let new = g.T.Turns.means c.take_turn.new.turns in
    let saw = g.T.Turns.saw c.take_turn.new.turns in
    λ history had.
    let turn = c.take_turn.ensures.turn history had in
    made_step kind old new history Incorporate c.take_turn.result saw (IsHangTurn (hanging.NotOldest c.in-NotOldest.by)) refl turn (turn.step, (c.in-NotOldest.oldest, turn.reply ∙ c.in-NotOldest.is))

pub returns-in-NeedsFlush-clause-made : goal.returns-in-NeedsFlush-clause-made
returns-in-NeedsFlush-clause-made g c =
    let kind = kind_of g.B.Content.number (branch_data g.B.Content.extents g.B.Content.entries g.B.Content.cuts g.B.Content.table) g.B.Content.TELLS in
    let old = g.T.Turns.means c.args.turns.now in
    let new = g.T.Turns.means c.take_turn.new.turns in
    let saw = g.T.Turns.saw c.take_turn.new.turns in
    λ history had.
    let turn = c.take_turn.ensures.turn history had in
    made_step kind old new history Incorporate c.take_turn.result saw (IsHangTurn hanging.NeedsFlush) refl turn (turn.step, turn.reply ∙ c.in-NeedsFlush.is)

pub returns-in-NotOldest-clause-holds : goal.returns-in-NotOldest-clause-holds
returns-in-NotOldest-clause-holds g c =
    let kind = kind_of g.B.Content.number (branch_data g.B.Content.extents g.B.Content.entries g.B.Content.cuts g.B.Content.table) g.B.Content.TELLS in
    let old = g.T.Turns.means c.args.turns.now in
    let new = g.T.Turns.means c.take_turn.new.turns in
    let saw = g.T.Turns.saw c.take_turn.new.turns in
    let made = c.take_turn.ensures in
    let seen = c.requires.seen in
    λ holding holds published. hang_older kind old new seen.0 c.take_turn.result saw made.same (made.turn seen.0 seen.1) c.in-NotOldest.oldest c.in-NotOldest.by c.in-NotOldest.is holding holds

pub returns-in-NotOldest-clause-quiet : goal.returns-in-NotOldest-clause-quiet
returns-in-NotOldest-clause-quiet g c =
    let kind = kind_of g.B.Content.number (branch_data g.B.Content.extents g.B.Content.entries g.B.Content.cuts g.B.Content.table) g.B.Content.TELLS in
    let old = g.T.Turns.means c.args.turns.now in
    let new = g.T.Turns.means c.take_turn.new.turns in
    let saw = g.T.Turns.saw c.take_turn.new.turns in
    let made = c.take_turn.ensures in
    let seen = c.requires.seen in
    quiet_step kind old new Incorporate c.take_turn.result (g.T.Turns.saw c.args.turns.now) saw made.same seen refl made.turn

pub returns-in-NeedsFlush-clause-holds : goal.returns-in-NeedsFlush-clause-holds
returns-in-NeedsFlush-clause-holds g c =
    let kind = kind_of g.B.Content.number (branch_data g.B.Content.extents g.B.Content.entries g.B.Content.cuts g.B.Content.table) g.B.Content.TELLS in
    let old = g.T.Turns.means c.args.turns.now in
    let new = g.T.Turns.means c.take_turn.new.turns in
    let saw = g.T.Turns.saw c.take_turn.new.turns in
    let made = c.take_turn.ensures in
    let seen = c.requires.seen in
    λ holding holds published. hang_full kind old new seen.0 c.take_turn.result saw made.same (made.turn seen.0 seen.1) c.in-NeedsFlush.is holding holds

pub returns-in-NeedsFlush-clause-quiet : goal.returns-in-NeedsFlush-clause-quiet
returns-in-NeedsFlush-clause-quiet g c =
    let kind = kind_of g.B.Content.number (branch_data g.B.Content.extents g.B.Content.entries g.B.Content.cuts g.B.Content.table) g.B.Content.TELLS in
    let old = g.T.Turns.means c.args.turns.now in
    let new = g.T.Turns.means c.take_turn.new.turns in
    let saw = g.T.Turns.saw c.take_turn.new.turns in
    let made = c.take_turn.ensures in
    let seen = c.requires.seen in
    quiet_step kind old new Incorporate c.take_turn.result (g.T.Turns.saw c.args.turns.now) saw made.same seen refl made.turn

pub unreachable-requires : goal.unreachable-requires
unreachable-requires g c =
    let kind = kind_of g.B.Content.number (branch_data g.B.Content.extents g.B.Content.entries g.B.Content.cuts g.B.Content.table) g.B.Content.TELLS in
    let old = g.T.Turns.means c.args.turns.now in
    let new = g.T.Turns.means c.take_turn.new.turns in
    let saw = g.T.Turns.saw c.take_turn.new.turns in
    let made = c.take_turn.ensures in
    let seen = c.requires.seen in
    hang_answers kind old new seen.0 c.take_turn.result saw made.same (made.turn seen.0 seen.1) c.requires.holds c.in_default.not-Done c.in_default.not-NotOldest c.in_default.not-NeedsFlush

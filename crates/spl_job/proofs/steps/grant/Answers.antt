use Rattle.std.proofs.Common.{◌≡◌, refl}
use Rattle.spl_state.specs.View.{branch_data}
use Rattle.spl_state.specs.declared.reply.Reply.TheVariants as reply
use Rattle.spl_core.specs.declared.step.Step.TheVariants.{Grant}
use Rattle.spl_desk.specs.Holder.{kind_of}
use Rattle.spl_desk.proofs.Quiet.{answered_step, quiet_step}
use Rattle.spl_job.proofs.Grants.{grant_answers, grant_holds, grant_none}
use Rattle.spl_job.proofs.steps.grant.Goals as goal

pub returns-in-Granted-clause-holds : goal.returns-in-Granted-clause-holds
returns-in-Granted-clause-holds g c =
    let kind = kind_of g.B.Content.number (branch_data g.B.Content.extents g.B.Content.entries g.B.Content.cuts g.B.Content.table) g.B.Content.TELLS in
    let old = g.T.Turns.means c.args.turns.now in
    let new = g.T.Turns.means c.take_turn.new.turns in
    let saw = g.T.Turns.saw c.take_turn.new.turns in
    let made = c.take_turn.ensures in
    let seen = c.requires.seen in
    grant_holds kind old new seen.0 c.take_turn.result saw made.same (made.turn seen.0 seen.1) c.in-Granted.extent c.in-Granted.is

pub returns-in-Granted-clause-quiet : goal.returns-in-Granted-clause-quiet
returns-in-Granted-clause-quiet g c =
    let kind = kind_of g.B.Content.number (branch_data g.B.Content.extents g.B.Content.entries g.B.Content.cuts g.B.Content.table) g.B.Content.TELLS in
    let old = g.T.Turns.means c.args.turns.now in
    let new = g.T.Turns.means c.take_turn.new.turns in
    let saw = g.T.Turns.saw c.take_turn.new.turns in
    let made = c.take_turn.ensures in
    let seen = c.requires.seen in
    quiet_step kind old new Grant c.take_turn.result (g.T.Turns.saw c.args.turns.now) saw made.same seen refl made.turn

pub returns-in-NoExtent-clause-holds : goal.returns-in-NoExtent-clause-holds
returns-in-NoExtent-clause-holds g c =
    let kind = kind_of g.B.Content.number (branch_data g.B.Content.extents g.B.Content.entries g.B.Content.cuts g.B.Content.table) g.B.Content.TELLS in
    let old = g.T.Turns.means c.args.turns.now in
    let new = g.T.Turns.means c.take_turn.new.turns in
    let saw = g.T.Turns.saw c.take_turn.new.turns in
    let made = c.take_turn.ensures in
    let seen = c.requires.seen in
    grant_none kind old new seen.0 c.take_turn.result saw made.same (made.turn seen.0 seen.1) c.in-NoExtent.is

pub returns-in-NoExtent-clause-none : goal.returns-in-NoExtent-clause-none
returns-in-NoExtent-clause-none g c =
    let kind = kind_of g.B.Content.number (branch_data g.B.Content.extents g.B.Content.entries g.B.Content.cuts g.B.Content.table) g.B.Content.TELLS in
    let old = g.T.Turns.means c.args.turns.now in
    let new = g.T.Turns.means c.take_turn.new.turns in
    let saw = g.T.Turns.saw c.take_turn.new.turns in
    let made = c.take_turn.ensures in
    let seen = c.requires.seen in
    λ none history had. answered_step kind old new history Grant c.take_turn.result saw (λ answer. answer ≡ reply.NoExtent) refl (made.turn history had) c.in-NoExtent.is

pub returns-in-NoExtent-clause-quiet : goal.returns-in-NoExtent-clause-quiet
returns-in-NoExtent-clause-quiet g c =
    let kind = kind_of g.B.Content.number (branch_data g.B.Content.extents g.B.Content.entries g.B.Content.cuts g.B.Content.table) g.B.Content.TELLS in
    let old = g.T.Turns.means c.args.turns.now in
    let new = g.T.Turns.means c.take_turn.new.turns in
    let saw = g.T.Turns.saw c.take_turn.new.turns in
    let made = c.take_turn.ensures in
    let seen = c.requires.seen in
    quiet_step kind old new Grant c.take_turn.result (g.T.Turns.saw c.args.turns.now) saw made.same seen refl made.turn

pub unreachable-requires : goal.unreachable-requires
unreachable-requires g c =
    let kind = kind_of g.B.Content.number (branch_data g.B.Content.extents g.B.Content.entries g.B.Content.cuts g.B.Content.table) g.B.Content.TELLS in
    let old = g.T.Turns.means c.args.turns.now in
    let new = g.T.Turns.means c.take_turn.new.turns in
    let saw = g.T.Turns.saw c.take_turn.new.turns in
    let made = c.take_turn.ensures in
    let seen = c.requires.seen in
    grant_answers kind old new seen.0 c.take_turn.result saw made.same (made.turn seen.0 seen.1) c.requires.holds c.in_default.not-NoExtent c.in_default.not-Granted

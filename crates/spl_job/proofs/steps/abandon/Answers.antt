use Rattle.std.proofs.Common.{refl}
use Rattle.spl_state.specs.View.{branch_data}
use Rattle.spl_core.specs.declared.step.Step.TheVariants.{Abandon}
use Rattle.spl_desk.specs.Holder.{kind_of}
use Rattle.spl_desk.proofs.Quiet.{quiet_step}
use Rattle.spl_job.proofs.Nothing.{abandon_nothing, abandon_told}
use Rattle.spl_job.proofs.steps.abandon.Goals as goal

pub returns-clause-nothing : goal.returns-clause-nothing
returns-clause-nothing g c =
    let kind = kind_of g.B.Content.number (branch_data g.B.Content.extents g.B.Content.entries g.B.Content.cuts g.B.Content.table) g.B.Content.TELLS in
    let old = g.T.Turns.means c.args.turns.now in
    let new = g.T.Turns.means c.take_turn.new.turns in
    let saw = g.T.Turns.saw c.take_turn.new.turns in
    let made = c.take_turn.ensures in
    let seen = c.requires.seen in
    abandon_nothing kind old new seen.0 c.take_turn.result saw made.same (made.turn seen.0 seen.1)

pub returns-clause-quiet : goal.returns-clause-quiet
returns-clause-quiet g c =
    let kind = kind_of g.B.Content.number (branch_data g.B.Content.extents g.B.Content.entries g.B.Content.cuts g.B.Content.table) g.B.Content.TELLS in
    let old = g.T.Turns.means c.args.turns.now in
    let new = g.T.Turns.means c.take_turn.new.turns in
    let saw = g.T.Turns.saw c.take_turn.new.turns in
    let made = c.take_turn.ensures in
    let seen = c.requires.seen in
    quiet_step kind old new Abandon c.take_turn.result (g.T.Turns.saw c.args.turns.now) saw made.same seen refl made.turn

pub returns-clause-told : goal.returns-clause-told
returns-clause-told g c =
    let kind = kind_of g.B.Content.number (branch_data g.B.Content.extents g.B.Content.entries g.B.Content.cuts g.B.Content.table) g.B.Content.TELLS in
    let old = g.T.Turns.means c.args.turns.now in
    let new = g.T.Turns.means c.take_turn.new.turns in
    let saw = g.T.Turns.saw c.take_turn.new.turns in
    let made = c.take_turn.ensures in
    let seen = c.requires.seen in
    abandon_told kind old new seen.0 c.take_turn.result saw made.same (made.turn seen.0 seen.1)

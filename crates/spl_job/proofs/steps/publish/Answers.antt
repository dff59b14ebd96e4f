use Rattle.std.proofs.Common.{◌<◌, ℕ, Bool, refl, subst}
use Rattle.spl_base.specs.declared.TheConstants.{ACTORS}
use Rattle.spl_state.specs.View.{branch_data}
use Rattle.spl_core.specs.declared.step.Step.TheVariants.{Publish}
use Rattle.spl_desk.specs.Holder.{kind_of}
use Rattle.spl_desk.proofs.Quiet.{quiet_step}
use Rattle.spl_job.specs.Holding.{IsBranchOf}
use Rattle.spl_job.proofs.Publishes.{asks_for, publish_answers, publish_done, publish_memory}
use Rattle.spl_job.proofs.steps.publish.Goals as goal

pub returns-in-Done-clause-holds : goal.returns-in-Done-clause-holds
returns-in-Done-clause-holds g c =
    let kind = kind_of g.B.Content.number (branch_data g.B.Content.extents g.B.Content.entries g.B.Content.cuts g.B.Content.table) g.B.Content.TELLS in
    let old = g.T.Turns.means c.args.turns.now in
    let new = g.T.Turns.means c.take_turn.new.turns in
    let saw = g.T.Turns.saw c.take_turn.new.turns in
    let made = c.take_turn.ensures in
    let seen = c.requires.seen in
    publish_done kind old new seen.0 c.take_turn.result saw made.same c.args.branch (made.turn seen.0 seen.1) old.rule g.B.Content.TELLS (g.B.Content.table c.args.branch.value) c.requires.holds (subst (λ (n : ℕ). n < ACTORS) c.actor.ensures.value c.actor.ensures.known) c.in-Done.is

pub returns-in-Done-clause-quiet : goal.returns-in-Done-clause-quiet
returns-in-Done-clause-quiet g c =
    let kind = kind_of g.B.Content.number (branch_data g.B.Content.extents g.B.Content.entries g.B.Content.cuts g.B.Content.table) g.B.Content.TELLS in
    let old = g.T.Turns.means c.args.turns.now in
    let new = g.T.Turns.means c.take_turn.new.turns in
    let saw = g.T.Turns.saw c.take_turn.new.turns in
    let made = c.take_turn.ensures in
    let seen = c.requires.seen in
    quiet_step kind old new (Publish c.args.branch) c.take_turn.result (g.T.Turns.saw c.args.turns.now) saw made.same seen refl made.turn

pub returns-in-NoMemory-clause-holds : goal.returns-in-NoMemory-clause-holds
returns-in-NoMemory-clause-holds g c =
    let kind = kind_of g.B.Content.number (branch_data g.B.Content.extents g.B.Content.entries g.B.Content.cuts g.B.Content.table) g.B.Content.TELLS in
    let old = g.T.Turns.means c.args.turns.now in
    let new = g.T.Turns.means c.take_turn.new.turns in
    let saw = g.T.Turns.saw c.take_turn.new.turns in
    let made = c.take_turn.ensures in
    let seen = c.requires.seen in
    publish_memory kind old new seen.0 c.take_turn.result saw made.same c.args.branch (made.turn seen.0 seen.1) c.in-NoMemory.is

pub returns-in-NoMemory-clause-quiet : goal.returns-in-NoMemory-clause-quiet
returns-in-NoMemory-clause-quiet g c =
    let kind = kind_of g.B.Content.number (branch_data g.B.Content.extents g.B.Content.entries g.B.Content.cuts g.B.Content.table) g.B.Content.TELLS in
    let old = g.T.Turns.means c.args.turns.now in
    let new = g.T.Turns.means c.take_turn.new.turns in
    let saw = g.T.Turns.saw c.take_turn.new.turns in
    let made = c.take_turn.ensures in
    let seen = c.requires.seen in
    quiet_step kind old new (Publish c.args.branch) c.take_turn.result (g.T.Turns.saw c.args.turns.now) saw made.same seen refl made.turn

pub unreachable-requires : goal.unreachable-requires
unreachable-requires g c =
    let kind = kind_of g.B.Content.number (branch_data g.B.Content.extents g.B.Content.entries g.B.Content.cuts g.B.Content.table) g.B.Content.TELLS in
    let old = g.T.Turns.means c.args.turns.now in
    let new = g.T.Turns.means c.take_turn.new.turns in
    let saw = g.T.Turns.saw c.take_turn.new.turns in
    let made = c.take_turn.ensures in
    let seen = c.requires.seen in
    publish_answers kind old new seen.0 c.take_turn.result saw made.same c.args.branch (made.turn seen.0 seen.1) old.rule g.B.Content.TELLS (g.B.Content.table c.args.branch.value) c.requires.holds c.in_default.not-Done c.in_default.not-NoMemory

pub take_turn-requires-clause-knows : goal.take_turn-requires-clause-knows
take_turn-requires-clause-knows g c = λ tells.
    let holds = c.requires.holds in
    let old = g.T.Turns.means c.args.turns.now in
    let branch = c.args.branch.value in
    asks_for old.rule old holds.0 (g.B.Content.number branch) (g.B.Content.extents branch) (g.B.Content.table branch) holds.1
    (subst (λ (tells : Bool). IsBranchOf old.rule holds.0 tells (g.B.Content.number branch) (g.B.Content.extents branch) (g.B.Content.table branch)) tells holds.2)

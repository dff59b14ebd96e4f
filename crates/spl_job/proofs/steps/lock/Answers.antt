use Rattle.std.proofs.Common.{◌<◌, ◌∙◌, ℕ, true, false, refl, subst}
use Rattle.spl_base.specs.declared.TheConstants.{ACTORS}
use Rattle.spl_state.specs.View.{branch_data}
use Rattle.spl_core.specs.declared.step.Step.TheVariants.{Lock}
use Rattle.spl_desk.specs.Holder.{kind_of}
use Rattle.spl_desk.proofs.Quiet.{made_step, quiet_step}
use Rattle.spl_job.specs.Latching.{IsLockTurn}
use Rattle.spl_job.proofs.Latches.{lock_again, lock_answers, lock_done}
use Rattle.spl_job.proofs.steps.lock.Goals as goal

pub returns-in-Done-clause-holds : goal.returns-in-Done-clause-holds
returns-in-Done-clause-holds g c =
    let kind = kind_of g.B.Content.number (branch_data g.B.Content.extents g.B.Content.entries g.B.Content.cuts g.B.Content.table) g.B.Content.TELLS in
    let old = g.T.Turns.means c.args.turns.now in
    let new = g.T.Turns.means c.take_turn.new.turns in
    let saw = g.T.Turns.saw c.take_turn.new.turns in
    let made = c.take_turn.ensures in
    let seen = c.requires.seen in
    lock_done kind old new seen.0 c.take_turn.result saw made.same c.args.node (made.turn seen.0 seen.1) (subst (λ (n : ℕ). n < ACTORS) c.actor.ensures.value c.actor.ensures.known) c.requires.holds c.in-Done.is

pub returns-in-Done-clause-quiet : goal.returns-in-Done-clause-quiet
returns-in-Done-clause-quiet g c =
    let kind = kind_of g.B.Content.number (branch_data g.B.Content.extents g.B.Content.entries g.B.Content.cuts g.B.Content.table) g.B.Content.TELLS in
    let old = g.T.Turns.means c.args.turns.now in
    let new = g.T.Turns.means c.take_turn.new.turns in
    let saw = g.T.Turns.saw c.take_turn.new.turns in
    let made = c.take_turn.ensures in
    let seen = c.requires.seen in
    quiet_step kind old new (Lock c.args.node) c.take_turn.result (g.T.Turns.saw c.args.turns.now) saw made.same seen refl made.turn

pub returns-in-Again-clause-holds : goal.returns-in-Again-clause-holds
returns-in-Again-clause-holds g c =
    let kind = kind_of g.B.Content.number (branch_data g.B.Content.extents g.B.Content.entries g.B.Content.cuts g.B.Content.table) g.B.Content.TELLS in
    let old = g.T.Turns.means c.args.turns.now in
    let new = g.T.Turns.means c.take_turn.new.turns in
    let saw = g.T.Turns.saw c.take_turn.new.turns in
    let made = c.take_turn.ensures in
    let seen = c.requires.seen in
    lock_again kind old new seen.0 c.take_turn.result saw made.same c.args.node (made.turn seen.0 seen.1) (subst (λ (n : ℕ). n < ACTORS) c.actor.ensures.value c.actor.ensures.known) c.requires.holds c.in-Again.node c.in-Again.by c.in-Again.is

pub returns-in-Again-clause-quiet : goal.returns-in-Again-clause-quiet
returns-in-Again-clause-quiet g c =
    let kind = kind_of g.B.Content.number (branch_data g.B.Content.extents g.B.Content.entries g.B.Content.cuts g.B.Content.table) g.B.Content.TELLS in
    let old = g.T.Turns.means c.args.turns.now in
    let new = g.T.Turns.means c.take_turn.new.turns in
    let saw = g.T.Turns.saw c.take_turn.new.turns in
    let made = c.take_turn.ensures in
    let seen = c.requires.seen in
    quiet_step kind old new (Lock c.args.node) c.take_turn.result (g.T.Turns.saw c.args.turns.now) saw made.same seen refl made.turn

pub unreachable-requires : goal.unreachable-requires
unreachable-requires g c =
    let kind = kind_of g.B.Content.number (branch_data g.B.Content.extents g.B.Content.entries g.B.Content.cuts g.B.Content.table) g.B.Content.TELLS in
    let old = g.T.Turns.means c.args.turns.now in
    let new = g.T.Turns.means c.take_turn.new.turns in
    let saw = g.T.Turns.saw c.take_turn.new.turns in
    let made = c.take_turn.ensures in
    let seen = c.requires.seen in
    lock_answers kind old new seen.0 c.take_turn.result saw made.same c.args.node (made.turn seen.0 seen.1) (subst (λ (n : ℕ). n < ACTORS) c.actor.ensures.value c.actor.ensures.known) c.requires.holds c.in_default.not-Done c.in_default.not-Again

pub returns-in-Done-clause-made : goal.returns-in-Done-clause-made
returns-in-Done-clause-made g c =
    let kind = kind_of g.B.Content.number (branch_data g.B.Content.extents g.B.Content.entries g.B.Content.cuts g.B.Content.table) g.B.Content.TELLS in
    let old = g.T.Turns.means c.args.turns.now in
    let new = g.T.Turns.means c.take_turn.new.turns in
    let saw = g.T.Turns.saw c.take_turn.new.turns in
    let made = c.take_turn.ensures in
    let seen = c.requires.seen in
    λ history had. made_step kind old new history (Lock c.args.node) c.take_turn.result saw (IsLockTurn c.args.node true) refl (made.turn history had) ((made.turn history had).step, (made.turn history had).reply ∙ c.in-Done.is)

pub returns-in-Again-clause-made : goal.returns-in-Again-clause-made
returns-in-Again-clause-made g c =
    let kind = kind_of g.B.Content.number (branch_data g.B.Content.extents g.B.Content.entries g.B.Content.cuts g.B.Content.table) g.B.Content.TELLS in
    let old = g.T.Turns.means c.args.turns.now in
    let new = g.T.Turns.means c.take_turn.new.turns in
    let saw = g.T.Turns.saw c.take_turn.new.turns in
    let made = c.take_turn.ensures in
    let seen = c.requires.seen in
    λ history had. made_step kind old new history (Lock c.args.node) c.take_turn.result saw (IsLockTurn c.args.node false) refl (made.turn history had) ((made.turn history had).step, (c.in-Again.node, c.in-Again.by, (made.turn history had).reply ∙ c.in-Again.is))

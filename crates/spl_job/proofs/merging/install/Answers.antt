use Rattle.std.proofs.Common.{◌<◌, ◌∙◌, ℕ, refl, subst}
use Rattle.spl_base.specs.declared.TheConstants.{ACTORS}
use Rattle.spl_job.specs.declared.merging.Installed.TheVariants as installed
use Rattle.spl_state.specs.View.{branch_data}
use Rattle.spl_core.specs.declared.step.Step.TheVariants.{Install}
use Rattle.spl_desk.specs.Holder.{kind_of}
use Rattle.spl_desk.proofs.Quiet.{made_step, quiet_step}
use Rattle.spl_job.specs.Merging.{IsInstallTurn}
use Rattle.spl_job.proofs.Installs.{install_answers, install_done, install_elsewhere, install_next, may_end}
use Rattle.spl_job.proofs.merging.install.Goals as goal

pub returns-in-Next-clause-quiet : goal.returns-in-Next-clause-quiet
returns-in-Next-clause-quiet g c =
    let kind = kind_of g.B.Content.number (branch_data g.B.Content.extents g.B.Content.entries g.B.Content.cuts g.B.Content.table) g.B.Content.TELLS in
    let old = g.T.Turns.means c.args.turns.now in
    let new = g.T.Turns.means c.take_turn.new.turns in
    let saw = g.T.Turns.saw c.take_turn.new.turns in
    let made = c.take_turn.ensures in
    let seen = c.requires.seen in
    quiet_step kind old new (Install c.args.node c.args.output) c.take_turn.result (g.T.Turns.saw c.args.turns.now) saw made.same seen refl made.turn

pub returns-in-Next-clause-holds : goal.returns-in-Next-clause-holds
returns-in-Next-clause-holds g c =
    let kind = kind_of g.B.Content.number (branch_data g.B.Content.extents g.B.Content.entries g.B.Content.cuts g.B.Content.table) g.B.Content.TELLS in
    let old = g.T.Turns.means c.args.turns.now in
    let new = g.T.Turns.means c.take_turn.new.turns in
    let saw = g.T.Turns.saw c.take_turn.new.turns in
    let made = c.take_turn.ensures in
    let seen = c.requires.seen in
    λ holding number run holds job published writes. install_next kind old new seen.0 c.take_turn.result saw made.same c.args.node c.args.output (made.turn seen.0 seen.1) holding number run holds job published writes c.in-Next.node (subst (λ (n : ℕ). n < ACTORS) c.actor.ensures.value c.actor.ensures.known) c.in-Next.is

pub returns-in-Done-clause-quiet : goal.returns-in-Done-clause-quiet
returns-in-Done-clause-quiet g c =
    let kind = kind_of g.B.Content.number (branch_data g.B.Content.extents g.B.Content.entries g.B.Content.cuts g.B.Content.table) g.B.Content.TELLS in
    let old = g.T.Turns.means c.args.turns.now in
    let new = g.T.Turns.means c.take_turn.new.turns in
    let saw = g.T.Turns.saw c.take_turn.new.turns in
    let made = c.take_turn.ensures in
    let seen = c.requires.seen in
    quiet_step kind old new (Install c.args.node c.args.output) c.take_turn.result (g.T.Turns.saw c.args.turns.now) saw made.same seen refl made.turn

pub returns-in-Done-clause-holds : goal.returns-in-Done-clause-holds
returns-in-Done-clause-holds g c =
    let kind = kind_of g.B.Content.number (branch_data g.B.Content.extents g.B.Content.entries g.B.Content.cuts g.B.Content.table) g.B.Content.TELLS in
    let old = g.T.Turns.means c.args.turns.now in
    let new = g.T.Turns.means c.take_turn.new.turns in
    let saw = g.T.Turns.saw c.take_turn.new.turns in
    let made = c.take_turn.ensures in
    let seen = c.requires.seen in
    λ holding number run holds job published writes. install_done kind old new seen.0 c.take_turn.result saw made.same c.args.node c.args.output (made.turn seen.0 seen.1) holding number run holds job published writes (subst (λ (n : ℕ). n < ACTORS) c.actor.ensures.value c.actor.ensures.known) c.in-Done.is

pub returns-in-Elsewhere-clause-quiet : goal.returns-in-Elsewhere-clause-quiet
returns-in-Elsewhere-clause-quiet g c =
    let kind = kind_of g.B.Content.number (branch_data g.B.Content.extents g.B.Content.entries g.B.Content.cuts g.B.Content.table) g.B.Content.TELLS in
    let old = g.T.Turns.means c.args.turns.now in
    let new = g.T.Turns.means c.take_turn.new.turns in
    let saw = g.T.Turns.saw c.take_turn.new.turns in
    let made = c.take_turn.ensures in
    let seen = c.requires.seen in
    quiet_step kind old new (Install c.args.node c.args.output) c.take_turn.result (g.T.Turns.saw c.args.turns.now) saw made.same seen refl made.turn

pub returns-in-Elsewhere-clause-holds : goal.returns-in-Elsewhere-clause-holds
returns-in-Elsewhere-clause-holds g c =
    let kind = kind_of g.B.Content.number (branch_data g.B.Content.extents g.B.Content.entries g.B.Content.cuts g.B.Content.table) g.B.Content.TELLS in
    let old = g.T.Turns.means c.args.turns.now in
    let new = g.T.Turns.means c.take_turn.new.turns in
    let saw = g.T.Turns.saw c.take_turn.new.turns in
    let made = c.take_turn.ensures in
    let seen = c.requires.seen in
    λ holding number run holds job published writes. install_elsewhere kind old new seen.0 c.take_turn.result saw made.same c.args.node c.args.output (made.turn seen.0 seen.1) c.in-Elsewhere.next (subst (λ (n : ℕ). n < ACTORS) c.actor.ensures.value c.actor.ensures.known) c.in-Elsewhere.is holding holds

pub returns-in-Next-clause-made : goal.returns-in-Next-clause-made
returns-in-Next-clause-made g c =
    let kind = kind_of g.B.Content.number (branch_data g.B.Content.extents g.B.Content.entries g.B.Content.cuts g.B.Content.table) g.B.Content.TELLS in
    let old = g.T.Turns.means c.args.turns.now in
    let new = g.T.Turns.means c.take_turn.new.turns in
    let saw = g.T.Turns.saw c.take_turn.new.turns in
    let made = c.take_turn.ensures in
    let seen = c.requires.seen in
    λ history had. made_step kind old new history (Install c.args.node c.args.output) c.take_turn.result saw (IsInstallTurn c.args.node c.args.output (installed.Next c.in-Next.node)) refl (made.turn history had) ((made.turn history had).step, (made.turn history had).reply ∙ c.in-Next.is)

pub returns-in-Done-clause-made : goal.returns-in-Done-clause-made
returns-in-Done-clause-made g c =
    let kind = kind_of g.B.Content.number (branch_data g.B.Content.extents g.B.Content.entries g.B.Content.cuts g.B.Content.table) g.B.Content.TELLS in
    let old = g.T.Turns.means c.args.turns.now in
    let new = g.T.Turns.means c.take_turn.new.turns in
    let saw = g.T.Turns.saw c.take_turn.new.turns in
    let made = c.take_turn.ensures in
    let seen = c.requires.seen in
    λ history had. made_step kind old new history (Install c.args.node c.args.output) c.take_turn.result saw (IsInstallTurn c.args.node c.args.output installed.Done) refl (made.turn history had) ((made.turn history had).step, (made.turn history had).reply ∙ c.in-Done.is)

pub returns-in-Elsewhere-clause-made : goal.returns-in-Elsewhere-clause-made
returns-in-Elsewhere-clause-made g c =
    let kind = kind_of g.B.Content.number (branch_data g.B.Content.extents g.B.Content.entries g.B.Content.cuts g.B.Content.table) g.B.Content.TELLS in
    let old = g.T.Turns.means c.args.turns.now in
    let new = g.T.Turns.means c.take_turn.new.turns in
    let saw = g.T.Turns.saw c.take_turn.new.turns in
    let made = c.take_turn.ensures in
    let seen = c.requires.seen in
    λ history had. made_step kind old new history (Install c.args.node c.args.output) c.take_turn.result saw (IsInstallTurn c.args.node c.args.output (installed.Elsewhere c.in-Elsewhere.next)) refl (made.turn history had) ((made.turn history had).step, (made.turn history had).reply ∙ c.in-Elsewhere.is)

pub unreachable-requires : goal.unreachable-requires
unreachable-requires g c =
    let kind = kind_of g.B.Content.number (branch_data g.B.Content.extents g.B.Content.entries g.B.Content.cuts g.B.Content.table) g.B.Content.TELLS in
    let old = g.T.Turns.means c.args.turns.now in
    let new = g.T.Turns.means c.take_turn.new.turns in
    let saw = g.T.Turns.saw c.take_turn.new.turns in
    let made = c.take_turn.ensures in
    let seen = c.requires.seen in
    install_answers kind old new seen.0 c.take_turn.result saw made.same c.args.node c.args.output (made.turn seen.0 seen.1) c.requires.holds c.in_default.not-Done c.in_default.not-Next c.in_default.not-Elsewhere

pub take_turn-requires-clause-knows : goal.take_turn-requires-clause-knows
take_turn-requires-clause-knows g c = λ tells output. may_end (g.T.Turns.means c.args.turns.now) c.args.node c.args.output g.B.Content.TELLS c.requires.holds tells output

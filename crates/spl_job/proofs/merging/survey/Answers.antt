use Rattle.std.proofs.Common.{◌≡◌, ◌<◌, ◌∙◌, ℕ, refl, subst}
use Rattle.spl_base.specs.declared.TheConstants.{ACTORS}
use Rattle.std.specs.Prelude.{Ok}
use Rattle.spl_state.specs.declared.reply.Reply.TheVariants as reply
use Rattle.spl_state.specs.View.{branch_data}
use Rattle.spl_core.specs.declared.step.Step.TheVariants.{Survey}
use Rattle.spl_desk.specs.Holder.{kind_of}
use Rattle.spl_desk.proofs.Quiet.{answered_step, made_step, quiet_step}
use Rattle.spl_job.specs.Merging.{IsSurveyTurn}
use Rattle.spl_job.proofs.Children.{survey_children, survey_inner, survey_split}
use Rattle.spl_job.proofs.Merges.{survey_answers, survey_memory, survey_numbered, survey_shown}
use Rattle.spl_job.proofs.merging.survey.Goals as goal

pub returns-in-View-clause-quiet : goal.returns-in-View-clause-quiet
returns-in-View-clause-quiet g c =
    let kind = kind_of g.B.Content.number (branch_data g.B.Content.extents g.B.Content.entries g.B.Content.cuts g.B.Content.table) g.B.Content.TELLS in
    let old = g.T.Turns.means c.args.turns.now in
    let new = g.T.Turns.means c.take_turn.new.turns in
    let saw = g.T.Turns.saw c.take_turn.new.turns in
    let made = c.take_turn.ensures in
    let seen = c.requires.seen in
    quiet_step kind old new (Survey c.args.node) c.take_turn.result (g.T.Turns.saw c.args.turns.now) saw made.same seen refl made.turn

pub returns-in-View-clause-holds : goal.returns-in-View-clause-holds
returns-in-View-clause-holds g c =
    let kind = kind_of g.B.Content.number (branch_data g.B.Content.extents g.B.Content.entries g.B.Content.cuts g.B.Content.table) g.B.Content.TELLS in
    let old = g.T.Turns.means c.args.turns.now in
    let new = g.T.Turns.means c.take_turn.new.turns in
    let saw = g.T.Turns.saw c.take_turn.new.turns in
    let made = c.take_turn.ensures in
    let seen = c.requires.seen in
    survey_shown kind old new seen.0 c.take_turn.result saw made.same c.args.node (made.turn seen.0 seen.1) (subst (λ (n : ℕ). n < ACTORS) c.actor.ensures.value c.actor.ensures.known) c.in-View.view c.in-View.is

pub returns-in-View-clause-shown : goal.returns-in-View-clause-shown
returns-in-View-clause-shown g c =
    let kind = kind_of g.B.Content.number (branch_data g.B.Content.extents g.B.Content.entries g.B.Content.cuts g.B.Content.table) g.B.Content.TELLS in
    let old = g.T.Turns.means c.args.turns.now in
    let new = g.T.Turns.means c.take_turn.new.turns in
    let saw = g.T.Turns.saw c.take_turn.new.turns in
    let made = c.take_turn.ensures in
    let seen = c.requires.seen in
    λ history had. answered_step kind old new history (Survey c.args.node) c.take_turn.result saw (λ given. given ≡ reply.View c.in-View.view) refl (made.turn history had) c.in-View.is

pub returns-in-View-clause-numbered : goal.returns-in-View-clause-numbered
returns-in-View-clause-numbered g c =
    let kind = kind_of g.B.Content.number (branch_data g.B.Content.extents g.B.Content.entries g.B.Content.cuts g.B.Content.table) g.B.Content.TELLS in
    let old = g.T.Turns.means c.args.turns.now in
    let new = g.T.Turns.means c.take_turn.new.turns in
    let saw = g.T.Turns.saw c.take_turn.new.turns in
    let made = c.take_turn.ensures in
    let seen = c.requires.seen in
    survey_numbered kind old new seen.0 c.take_turn.result saw made.same c.args.node (made.turn seen.0 seen.1) c.in-View.view c.in-View.is

pub returns-in-View-clause-children : goal.returns-in-View-clause-children
returns-in-View-clause-children g c =
    let kind = kind_of g.B.Content.number (branch_data g.B.Content.extents g.B.Content.entries g.B.Content.cuts g.B.Content.table) g.B.Content.TELLS in
    let old = g.T.Turns.means c.args.turns.now in
    let new = g.T.Turns.means c.take_turn.new.turns in
    let saw = g.T.Turns.saw c.take_turn.new.turns in
    let made = c.take_turn.ensures in
    let seen = c.requires.seen in
    survey_children kind old new seen.0 c.take_turn.result saw made.same c.args.node (made.turn seen.0 seen.1) (subst (λ (n : ℕ). n < ACTORS) c.actor.ensures.value c.actor.ensures.known) c.requires.holds c.in-View.view c.in-View.is

pub returns-in-View-clause-inner : goal.returns-in-View-clause-inner
returns-in-View-clause-inner g c =
    let kind = kind_of g.B.Content.number (branch_data g.B.Content.extents g.B.Content.entries g.B.Content.cuts g.B.Content.table) g.B.Content.TELLS in
    let old = g.T.Turns.means c.args.turns.now in
    let new = g.T.Turns.means c.take_turn.new.turns in
    let saw = g.T.Turns.saw c.take_turn.new.turns in
    let made = c.take_turn.ensures in
    let seen = c.requires.seen in
    survey_inner kind old new seen.0 c.take_turn.result saw made.same c.args.node (made.turn seen.0 seen.1) (subst (λ (n : ℕ). n < ACTORS) c.actor.ensures.value c.actor.ensures.known) c.requires.holds c.in-View.view c.in-View.is

pub returns-in-View-clause-split : goal.returns-in-View-clause-split
returns-in-View-clause-split g c =
    let kind = kind_of g.B.Content.number (branch_data g.B.Content.extents g.B.Content.entries g.B.Content.cuts g.B.Content.table) g.B.Content.TELLS in
    let old = g.T.Turns.means c.args.turns.now in
    let new = g.T.Turns.means c.take_turn.new.turns in
    let saw = g.T.Turns.saw c.take_turn.new.turns in
    let made = c.take_turn.ensures in
    let seen = c.requires.seen in
    survey_split kind old new seen.0 c.take_turn.result saw made.same c.args.node (made.turn seen.0 seen.1) (subst (λ (n : ℕ). n < ACTORS) c.actor.ensures.value c.actor.ensures.known) c.requires.holds c.in-View.view c.in-View.is

pub returns-in-View-clause-made : goal.returns-in-View-clause-made
returns-in-View-clause-made g c =
    let kind = kind_of g.B.Content.number (branch_data g.B.Content.extents g.B.Content.entries g.B.Content.cuts g.B.Content.table) g.B.Content.TELLS in
    let old = g.T.Turns.means c.args.turns.now in
    let new = g.T.Turns.means c.take_turn.new.turns in
    let saw = g.T.Turns.saw c.take_turn.new.turns in
    let made = c.take_turn.ensures in
    let seen = c.requires.seen in
    λ history had. made_step kind old new history (Survey c.args.node) c.take_turn.result saw (IsSurveyTurn c.args.node (Ok c.in-View.view)) refl (made.turn history had) ((made.turn history had).step, (made.turn history had).reply ∙ c.in-View.is)

pub returns-in-NoMemory-clause-made : goal.returns-in-NoMemory-clause-made
returns-in-NoMemory-clause-made g c =
    let kind = kind_of g.B.Content.number (branch_data g.B.Content.extents g.B.Content.entries g.B.Content.cuts g.B.Content.table) g.B.Content.TELLS in
    let old = g.T.Turns.means c.args.turns.now in
    let new = g.T.Turns.means c.take_turn.new.turns in
    let saw = g.T.Turns.saw c.take_turn.new.turns in
    let made = c.take_turn.ensures in
    let seen = c.requires.seen in
    λ history had. made_step kind old new history (Survey c.args.node) c.take_turn.result saw (λ turn. (turn.step ≡ Survey c.args.node) × (turn.reply ≡ reply.NoMemory)) refl (made.turn history had) ((made.turn history had).step, (made.turn history had).reply ∙ c.in-NoMemory.is)

pub returns-in-NoMemory-clause-quiet : goal.returns-in-NoMemory-clause-quiet
returns-in-NoMemory-clause-quiet g c =
    let kind = kind_of g.B.Content.number (branch_data g.B.Content.extents g.B.Content.entries g.B.Content.cuts g.B.Content.table) g.B.Content.TELLS in
    let old = g.T.Turns.means c.args.turns.now in
    let new = g.T.Turns.means c.take_turn.new.turns in
    let saw = g.T.Turns.saw c.take_turn.new.turns in
    let made = c.take_turn.ensures in
    let seen = c.requires.seen in
    quiet_step kind old new (Survey c.args.node) c.take_turn.result (g.T.Turns.saw c.args.turns.now) saw made.same seen refl made.turn

pub returns-in-NoMemory-clause-holds : goal.returns-in-NoMemory-clause-holds
returns-in-NoMemory-clause-holds g c =
    let kind = kind_of g.B.Content.number (branch_data g.B.Content.extents g.B.Content.entries g.B.Content.cuts g.B.Content.table) g.B.Content.TELLS in
    let old = g.T.Turns.means c.args.turns.now in
    let new = g.T.Turns.means c.take_turn.new.turns in
    let saw = g.T.Turns.saw c.take_turn.new.turns in
    let made = c.take_turn.ensures in
    let seen = c.requires.seen in
    survey_memory kind old new seen.0 c.take_turn.result saw made.same c.args.node (made.turn seen.0 seen.1) c.in-NoMemory.is

pub unreachable-requires : goal.unreachable-requires
unreachable-requires g c =
    let kind = kind_of g.B.Content.number (branch_data g.B.Content.extents g.B.Content.entries g.B.Content.cuts g.B.Content.table) g.B.Content.TELLS in
    let old = g.T.Turns.means c.args.turns.now in
    let new = g.T.Turns.means c.take_turn.new.turns in
    let saw = g.T.Turns.saw c.take_turn.new.turns in
    let made = c.take_turn.ensures in
    let seen = c.requires.seen in
    survey_answers kind old new seen.0 c.take_turn.result saw made.same c.args.node (made.turn seen.0 seen.1) (subst (λ (n : ℕ). n < ACTORS) c.actor.ensures.value c.actor.ensures.known) c.requires.holds c.in_default.not-NoMemory c.in_default.not-View

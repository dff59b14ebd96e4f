use Rattle.std.proofs.Common.{◌≡◌, ◌<◌, ℕ, refl, subst}
use Rattle.spl_base.specs.declared.TheConstants.{ACTORS}
use Rattle.spl_state.specs.View.{branch_data}
use Rattle.spl_state.specs.declared.reply.Reply.TheVariants as reply
use Rattle.spl_core.specs.declared.step.Step.TheVariants.{PickFrozen}
use Rattle.spl_desk.specs.Holder.{kind_of}
use Rattle.spl_desk.proofs.Quiet.{answered_step, quiet_step}
use Rattle.spl_job.proofs.Picks.{pick_answers, pick_holds, pick_memory, pick_nothing}
use Rattle.spl_job.proofs.steps.pick.Goals as goal

pub returns-in-Picked-clause-picked : goal.returns-in-Picked-clause-picked
returns-in-Picked-clause-picked g c =
    let kind = kind_of g.B.Content.number (branch_data g.B.Content.extents g.B.Content.entries g.B.Content.cuts g.B.Content.table) g.B.Content.TELLS in
    let old = g.T.Turns.means c.args.turns.now in
    let new = g.T.Turns.means c.take_turn.new.turns in
    let saw = g.T.Turns.saw c.take_turn.new.turns in
    let made = c.take_turn.ensures in
    let seen = c.requires.seen in
    pick_holds kind old new seen.0 c.take_turn.result saw made.same (made.turn seen.0 seen.1) (subst (λ (n : ℕ). n < ACTORS) c.actor.ensures.value c.actor.ensures.known) c.requires.nothing c.in-Picked.number c.in-Picked.table c.in-Picked.is

pub returns-in-Picked-clause-quiet : goal.returns-in-Picked-clause-quiet
returns-in-Picked-clause-quiet g c =
    let kind = kind_of g.B.Content.number (branch_data g.B.Content.extents g.B.Content.entries g.B.Content.cuts g.B.Content.table) g.B.Content.TELLS in
    let old = g.T.Turns.means c.args.turns.now in
    let new = g.T.Turns.means c.take_turn.new.turns in
    let saw = g.T.Turns.saw c.take_turn.new.turns in
    let made = c.take_turn.ensures in
    let seen = c.requires.seen in
    quiet_step kind old new PickFrozen c.take_turn.result (g.T.Turns.saw c.args.turns.now) saw made.same seen refl made.turn

pub returns-in-Nothing-clause-picked : goal.returns-in-Nothing-clause-picked
returns-in-Nothing-clause-picked g c =
    let kind = kind_of g.B.Content.number (branch_data g.B.Content.extents g.B.Content.entries g.B.Content.cuts g.B.Content.table) g.B.Content.TELLS in
    let old = g.T.Turns.means c.args.turns.now in
    let new = g.T.Turns.means c.take_turn.new.turns in
    let saw = g.T.Turns.saw c.take_turn.new.turns in
    let made = c.take_turn.ensures in
    let seen = c.requires.seen in
    pick_nothing kind old new seen.0 c.take_turn.result saw made.same (made.turn seen.0 seen.1) (subst (λ (n : ℕ). n < ACTORS) c.actor.ensures.value c.actor.ensures.known) c.requires.nothing c.in-Nothing.is

pub returns-in-Nothing-clause-nothing : goal.returns-in-Nothing-clause-nothing
returns-in-Nothing-clause-nothing g c =
    let kind = kind_of g.B.Content.number (branch_data g.B.Content.extents g.B.Content.entries g.B.Content.cuts g.B.Content.table) g.B.Content.TELLS in
    let old = g.T.Turns.means c.args.turns.now in
    let new = g.T.Turns.means c.take_turn.new.turns in
    let saw = g.T.Turns.saw c.take_turn.new.turns in
    let made = c.take_turn.ensures in
    let seen = c.requires.seen in
    λ none history had. answered_step kind old new history PickFrozen c.take_turn.result saw (λ answer. answer ≡ reply.Nothing) refl (made.turn history had) c.in-Nothing.is

pub returns-in-Nothing-clause-quiet : goal.returns-in-Nothing-clause-quiet
returns-in-Nothing-clause-quiet g c =
    let kind = kind_of g.B.Content.number (branch_data g.B.Content.extents g.B.Content.entries g.B.Content.cuts g.B.Content.table) g.B.Content.TELLS in
    let old = g.T.Turns.means c.args.turns.now in
    let new = g.T.Turns.means c.take_turn.new.turns in
    let saw = g.T.Turns.saw c.take_turn.new.turns in
    let made = c.take_turn.ensures in
    let seen = c.requires.seen in
    quiet_step kind old new PickFrozen c.take_turn.result (g.T.Turns.saw c.args.turns.now) saw made.same seen refl made.turn

pub returns-in-NoMemory-clause-picked : goal.returns-in-NoMemory-clause-picked
returns-in-NoMemory-clause-picked g c =
    let kind = kind_of g.B.Content.number (branch_data g.B.Content.extents g.B.Content.entries g.B.Content.cuts g.B.Content.table) g.B.Content.TELLS in
    let old = g.T.Turns.means c.args.turns.now in
    let new = g.T.Turns.means c.take_turn.new.turns in
    let saw = g.T.Turns.saw c.take_turn.new.turns in
    let made = c.take_turn.ensures in
    let seen = c.requires.seen in
    pick_memory kind old new seen.0 c.take_turn.result saw made.same (made.turn seen.0 seen.1) (subst (λ (n : ℕ). n < ACTORS) c.actor.ensures.value c.actor.ensures.known) c.requires.nothing c.in-NoMemory.is

pub returns-in-NoMemory-clause-quiet : goal.returns-in-NoMemory-clause-quiet
returns-in-NoMemory-clause-quiet g c =
    let kind = kind_of g.B.Content.number (branch_data g.B.Content.extents g.B.Content.entries g.B.Content.cuts g.B.Content.table) g.B.Content.TELLS in
    let old = g.T.Turns.means c.args.turns.now in
    let new = g.T.Turns.means c.take_turn.new.turns in
    let saw = g.T.Turns.saw c.take_turn.new.turns in
    let made = c.take_turn.ensures in
    let seen = c.requires.seen in
    quiet_step kind old new PickFrozen c.take_turn.result (g.T.Turns.saw c.args.turns.now) saw made.same seen refl made.turn

pub unreachable-requires : goal.unreachable-requires
unreachable-requires g c =
    let kind = kind_of g.B.Content.number (branch_data g.B.Content.extents g.B.Content.entries g.B.Content.cuts g.B.Content.table) g.B.Content.TELLS in
    let old = g.T.Turns.means c.args.turns.now in
    let new = g.T.Turns.means c.take_turn.new.turns in
    let saw = g.T.Turns.saw c.take_turn.new.turns in
    let made = c.take_turn.ensures in
    let seen = c.requires.seen in
    pick_answers kind old new seen.0 c.take_turn.result saw made.same (made.turn seen.0 seen.1) (subst (λ (n : ℕ). n < ACTORS) c.actor.ensures.value c.actor.ensures.known) c.requires.nothing c.in_default.not-NoMemory c.in_default.not-Nothing c.in_default.not-Picked

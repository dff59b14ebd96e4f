use Rattle.std.proofs.Common.{◌≡◌, ◌∙◌, refl}
use Rattle.std.specs.Prelude.{Ok}
use Rattle.spl_state.specs.declared.reply.Reply.TheVariants as reply
use Rattle.spl_state.specs.View.{branch_data}
use Rattle.spl_core.specs.declared.step.Step.TheVariants.{Split}
use Rattle.spl_desk.specs.Holder.{kind_of}
use Rattle.spl_desk.proofs.Quiet.{made_step, quiet_step}
use Rattle.spl_job.specs.declared.growing.Splitting.TheVariants as splitting
use Rattle.spl_job.specs.Growing.{IsSplitTurn}
use Rattle.spl_job.specs.Merging.{split_in}
use Rattle.spl_job.proofs.Splits.{split_answers, split_away, split_done, split_due, split_inside, split_memory, split_moved, split_nodes, split_outside, split_pivots}
use Rattle.spl_job.proofs.growing.split.Goals as goal

pub returns-in-Done-clause-quiet : goal.returns-in-Done-clause-quiet
returns-in-Done-clause-quiet g c =
    let kind = kind_of g.B.Content.number (branch_data g.B.Content.extents g.B.Content.entries g.B.Content.cuts g.B.Content.table) g.B.Content.TELLS in
    let old = g.T.Turns.means c.args.turns.now in
    let new = g.T.Turns.means c.take_turn.new.turns in
    let saw = g.T.Turns.saw c.take_turn.new.turns in
    let made = c.take_turn.ensures in
    let seen = c.requires.seen in
    quiet_step kind old new (Split c.args.parent c.args.child c.args.key) c.take_turn.result (g.T.Turns.saw c.args.turns.now) saw made.same seen refl made.turn

pub returns-in-Moved-clause-quiet : goal.returns-in-Moved-clause-quiet
returns-in-Moved-clause-quiet g c =
    let kind = kind_of g.B.Content.number (branch_data g.B.Content.extents g.B.Content.entries g.B.Content.cuts g.B.Content.table) g.B.Content.TELLS in
    let old = g.T.Turns.means c.args.turns.now in
    let new = g.T.Turns.means c.take_turn.new.turns in
    let saw = g.T.Turns.saw c.take_turn.new.turns in
    let made = c.take_turn.ensures in
    let seen = c.requires.seen in
    quiet_step kind old new (Split c.args.parent c.args.child c.args.key) c.take_turn.result (g.T.Turns.saw c.args.turns.now) saw made.same seen refl made.turn

pub returns-in-Outside-clause-quiet : goal.returns-in-Outside-clause-quiet
returns-in-Outside-clause-quiet g c =
    let kind = kind_of g.B.Content.number (branch_data g.B.Content.extents g.B.Content.entries g.B.Content.cuts g.B.Content.table) g.B.Content.TELLS in
    let old = g.T.Turns.means c.args.turns.now in
    let new = g.T.Turns.means c.take_turn.new.turns in
    let saw = g.T.Turns.saw c.take_turn.new.turns in
    let made = c.take_turn.ensures in
    let seen = c.requires.seen in
    quiet_step kind old new (Split c.args.parent c.args.child c.args.key) c.take_turn.result (g.T.Turns.saw c.args.turns.now) saw made.same seen refl made.turn

pub returns-in-Pivots-clause-quiet : goal.returns-in-Pivots-clause-quiet
returns-in-Pivots-clause-quiet g c =
    let kind = kind_of g.B.Content.number (branch_data g.B.Content.extents g.B.Content.entries g.B.Content.cuts g.B.Content.table) g.B.Content.TELLS in
    let old = g.T.Turns.means c.args.turns.now in
    let new = g.T.Turns.means c.take_turn.new.turns in
    let saw = g.T.Turns.saw c.take_turn.new.turns in
    let made = c.take_turn.ensures in
    let seen = c.requires.seen in
    quiet_step kind old new (Split c.args.parent c.args.child c.args.key) c.take_turn.result (g.T.Turns.saw c.args.turns.now) saw made.same seen refl made.turn

pub returns-in-Nodes-clause-quiet : goal.returns-in-Nodes-clause-quiet
returns-in-Nodes-clause-quiet g c =
    let kind = kind_of g.B.Content.number (branch_data g.B.Content.extents g.B.Content.entries g.B.Content.cuts g.B.Content.table) g.B.Content.TELLS in
    let old = g.T.Turns.means c.args.turns.now in
    let new = g.T.Turns.means c.take_turn.new.turns in
    let saw = g.T.Turns.saw c.take_turn.new.turns in
    let made = c.take_turn.ensures in
    let seen = c.requires.seen in
    quiet_step kind old new (Split c.args.parent c.args.child c.args.key) c.take_turn.result (g.T.Turns.saw c.args.turns.now) saw made.same seen refl made.turn

pub returns-in-NoMemory-clause-quiet : goal.returns-in-NoMemory-clause-quiet
returns-in-NoMemory-clause-quiet g c =
    let kind = kind_of g.B.Content.number (branch_data g.B.Content.extents g.B.Content.entries g.B.Content.cuts g.B.Content.table) g.B.Content.TELLS in
    let old = g.T.Turns.means c.args.turns.now in
    let new = g.T.Turns.means c.take_turn.new.turns in
    let saw = g.T.Turns.saw c.take_turn.new.turns in
    let made = c.take_turn.ensures in
    let seen = c.requires.seen in
    quiet_step kind old new (Split c.args.parent c.args.child c.args.key) c.take_turn.result (g.T.Turns.saw c.args.turns.now) saw made.same seen refl made.turn

pub returns-in-Done-clause-holds : goal.returns-in-Done-clause-holds
returns-in-Done-clause-holds g c =
    let kind = kind_of g.B.Content.number (branch_data g.B.Content.extents g.B.Content.entries g.B.Content.cuts g.B.Content.table) g.B.Content.TELLS in
    let old = g.T.Turns.means c.args.turns.now in
    let new = g.T.Turns.means c.take_turn.new.turns in
    let saw = g.T.Turns.saw c.take_turn.new.turns in
    let made = c.take_turn.ensures in
    let seen = c.requires.seen in
    split_done kind old new seen.0 c.take_turn.result saw made.same c.args.parent c.args.child c.args.key (made.turn seen.0 seen.1) c.requires.holds c.in-Done.is

pub returns-in-Moved-clause-holds : goal.returns-in-Moved-clause-holds
returns-in-Moved-clause-holds g c =
    let kind = kind_of g.B.Content.number (branch_data g.B.Content.extents g.B.Content.entries g.B.Content.cuts g.B.Content.table) g.B.Content.TELLS in
    let old = g.T.Turns.means c.args.turns.now in
    let new = g.T.Turns.means c.take_turn.new.turns in
    let saw = g.T.Turns.saw c.take_turn.new.turns in
    let made = c.take_turn.ensures in
    let seen = c.requires.seen in
    split_away kind old new seen.0 c.take_turn.result saw made.same c.args.parent c.args.child c.args.key (made.turn seen.0 seen.1) c.requires.holds c.in-Moved.child c.in-Moved.is

pub returns-in-Outside-clause-holds : goal.returns-in-Outside-clause-holds
returns-in-Outside-clause-holds g c =
    let kind = kind_of g.B.Content.number (branch_data g.B.Content.extents g.B.Content.entries g.B.Content.cuts g.B.Content.table) g.B.Content.TELLS in
    let old = g.T.Turns.means c.args.turns.now in
    let new = g.T.Turns.means c.take_turn.new.turns in
    let saw = g.T.Turns.saw c.take_turn.new.turns in
    let made = c.take_turn.ensures in
    let seen = c.requires.seen in
    split_outside kind old new seen.0 c.take_turn.result saw made.same c.args.parent c.args.child c.args.key (made.turn seen.0 seen.1) c.requires.holds c.in-Outside.is

pub returns-in-Outside-clause-inside : goal.returns-in-Outside-clause-inside
returns-in-Outside-clause-inside g c =
    let kind = kind_of g.B.Content.number (branch_data g.B.Content.extents g.B.Content.entries g.B.Content.cuts g.B.Content.table) g.B.Content.TELLS in
    let old = g.T.Turns.means c.args.turns.now in
    let new = g.T.Turns.means c.take_turn.new.turns in
    let saw = g.T.Turns.saw c.take_turn.new.turns in
    let made = c.take_turn.ensures in
    let seen = c.requires.seen in
    λ due _. split_inside kind old new seen.0 c.take_turn.result saw made.same c.args.parent c.args.child c.args.key (made.turn seen.0 seen.1) c.requires.holds due c.in-Outside.is

pub returns-in-Pivots-clause-holds : goal.returns-in-Pivots-clause-holds
returns-in-Pivots-clause-holds g c =
    let kind = kind_of g.B.Content.number (branch_data g.B.Content.extents g.B.Content.entries g.B.Content.cuts g.B.Content.table) g.B.Content.TELLS in
    let old = g.T.Turns.means c.args.turns.now in
    let new = g.T.Turns.means c.take_turn.new.turns in
    let saw = g.T.Turns.saw c.take_turn.new.turns in
    let made = c.take_turn.ensures in
    let seen = c.requires.seen in
    split_pivots kind old new seen.0 c.take_turn.result saw made.same c.args.parent c.args.child c.args.key (made.turn seen.0 seen.1) c.requires.holds c.in-Pivots.pivots c.in-Pivots.is

pub returns-in-Nodes-clause-holds : goal.returns-in-Nodes-clause-holds
returns-in-Nodes-clause-holds g c =
    let kind = kind_of g.B.Content.number (branch_data g.B.Content.extents g.B.Content.entries g.B.Content.cuts g.B.Content.table) g.B.Content.TELLS in
    let old = g.T.Turns.means c.args.turns.now in
    let new = g.T.Turns.means c.take_turn.new.turns in
    let saw = g.T.Turns.saw c.take_turn.new.turns in
    let made = c.take_turn.ensures in
    let seen = c.requires.seen in
    split_nodes kind old new seen.0 c.take_turn.result saw made.same c.args.parent c.args.child c.args.key (made.turn seen.0 seen.1) c.requires.holds c.in-Nodes.nodes c.in-Nodes.is

pub returns-in-NoMemory-clause-holds : goal.returns-in-NoMemory-clause-holds
returns-in-NoMemory-clause-holds g c =
    let kind = kind_of g.B.Content.number (branch_data g.B.Content.extents g.B.Content.entries g.B.Content.cuts g.B.Content.table) g.B.Content.TELLS in
    let old = g.T.Turns.means c.args.turns.now in
    let new = g.T.Turns.means c.take_turn.new.turns in
    let saw = g.T.Turns.saw c.take_turn.new.turns in
    let made = c.take_turn.ensures in
    let seen = c.requires.seen in
    split_memory kind old new seen.0 c.take_turn.result saw made.same c.args.parent c.args.child c.args.key (made.turn seen.0 seen.1) c.requires.holds c.in-NoMemory.is

pub returns-in-Done-clause-made : goal.returns-in-Done-clause-made
returns-in-Done-clause-made g c =
    let kind = kind_of g.B.Content.number (branch_data g.B.Content.extents g.B.Content.entries g.B.Content.cuts g.B.Content.table) g.B.Content.TELLS in
    let old = g.T.Turns.means c.args.turns.now in
    let new = g.T.Turns.means c.take_turn.new.turns in
    let saw = g.T.Turns.saw c.take_turn.new.turns in
    let made = c.take_turn.ensures in
    let seen = c.requires.seen in
    λ history had. made_step kind old new history (Split c.args.parent c.args.child c.args.key) c.take_turn.result saw (IsSplitTurn old c.args.parent c.args.child c.args.key (Ok splitting.Done)) refl (made.turn history had) ((made.turn history had).step, split_due kind old new history c.take_turn.result saw made.same c.args.parent c.args.child c.args.key (made.turn history had) c.requires.holds, (made.turn history had).reply ∙ c.in-Done.is)

pub returns-in-Moved-clause-made : goal.returns-in-Moved-clause-made
returns-in-Moved-clause-made g c =
    let kind = kind_of g.B.Content.number (branch_data g.B.Content.extents g.B.Content.entries g.B.Content.cuts g.B.Content.table) g.B.Content.TELLS in
    let old = g.T.Turns.means c.args.turns.now in
    let new = g.T.Turns.means c.take_turn.new.turns in
    let saw = g.T.Turns.saw c.take_turn.new.turns in
    let made = c.take_turn.ensures in
    let seen = c.requires.seen in
    λ history had. made_step kind old new history (Split c.args.parent c.args.child c.args.key) c.take_turn.result saw (IsSplitTurn old c.args.parent c.args.child c.args.key (Ok splitting.Moved)) refl (made.turn history had) ((made.turn history had).step, split_due kind old new history c.take_turn.result saw made.same c.args.parent c.args.child c.args.key (made.turn history had) c.requires.holds, (made.turn history had).reply ∙ split_moved kind old new seen.0 c.take_turn.result saw made.same c.args.parent c.args.child c.args.key (made.turn seen.0 seen.1) c.requires.holds c.in-Moved.child c.in-Moved.is)

pub returns-in-Outside-clause-made : goal.returns-in-Outside-clause-made
returns-in-Outside-clause-made g c =
    let kind = kind_of g.B.Content.number (branch_data g.B.Content.extents g.B.Content.entries g.B.Content.cuts g.B.Content.table) g.B.Content.TELLS in
    let old = g.T.Turns.means c.args.turns.now in
    let new = g.T.Turns.means c.take_turn.new.turns in
    let saw = g.T.Turns.saw c.take_turn.new.turns in
    let made = c.take_turn.ensures in
    let seen = c.requires.seen in
    λ history had. made_step kind old new history (Split c.args.parent c.args.child c.args.key) c.take_turn.result saw (IsSplitTurn old c.args.parent c.args.child c.args.key (Ok splitting.Outside)) refl (made.turn history had) ((made.turn history had).step, split_due kind old new history c.take_turn.result saw made.same c.args.parent c.args.child c.args.key (made.turn history had) c.requires.holds, (made.turn history had).reply ∙ c.in-Outside.is)

pub returns-in-Pivots-clause-made : goal.returns-in-Pivots-clause-made
returns-in-Pivots-clause-made g c =
    let kind = kind_of g.B.Content.number (branch_data g.B.Content.extents g.B.Content.entries g.B.Content.cuts g.B.Content.table) g.B.Content.TELLS in
    let old = g.T.Turns.means c.args.turns.now in
    let new = g.T.Turns.means c.take_turn.new.turns in
    let saw = g.T.Turns.saw c.take_turn.new.turns in
    let made = c.take_turn.ensures in
    let seen = c.requires.seen in
    λ history had. made_step kind old new history (Split c.args.parent c.args.child c.args.key) c.take_turn.result saw (IsSplitTurn old c.args.parent c.args.child c.args.key (Ok splitting.Pivots)) refl (made.turn history had) ((made.turn history had).step, split_due kind old new history c.take_turn.result saw made.same c.args.parent c.args.child c.args.key (made.turn history had) c.requires.holds, (c.in-Pivots.pivots, (made.turn history had).reply ∙ c.in-Pivots.is))

pub returns-in-Nodes-clause-made : goal.returns-in-Nodes-clause-made
returns-in-Nodes-clause-made g c =
    let kind = kind_of g.B.Content.number (branch_data g.B.Content.extents g.B.Content.entries g.B.Content.cuts g.B.Content.table) g.B.Content.TELLS in
    let old = g.T.Turns.means c.args.turns.now in
    let new = g.T.Turns.means c.take_turn.new.turns in
    let saw = g.T.Turns.saw c.take_turn.new.turns in
    let made = c.take_turn.ensures in
    let seen = c.requires.seen in
    λ history had. made_step kind old new history (Split c.args.parent c.args.child c.args.key) c.take_turn.result saw (IsSplitTurn old c.args.parent c.args.child c.args.key (Ok splitting.Nodes)) refl (made.turn history had) ((made.turn history had).step, split_due kind old new history c.take_turn.result saw made.same c.args.parent c.args.child c.args.key (made.turn history had) c.requires.holds, (c.in-Nodes.nodes, (made.turn history had).reply ∙ c.in-Nodes.is))

pub returns-in-NoMemory-clause-made : goal.returns-in-NoMemory-clause-made
returns-in-NoMemory-clause-made g c =
    let kind = kind_of g.B.Content.number (branch_data g.B.Content.extents g.B.Content.entries g.B.Content.cuts g.B.Content.table) g.B.Content.TELLS in
    let old = g.T.Turns.means c.args.turns.now in
    let new = g.T.Turns.means c.take_turn.new.turns in
    let saw = g.T.Turns.saw c.take_turn.new.turns in
    let made = c.take_turn.ensures in
    let seen = c.requires.seen in
    λ history had. made_step kind old new history (Split c.args.parent c.args.child c.args.key) c.take_turn.result saw (λ turn. (turn.step ≡ Split c.args.parent c.args.child c.args.key) × (split_in turn.before c.args.child ≡ split_in old.at c.args.child) × (turn.reply ≡ reply.NoMemory)) refl (made.turn history had) ((made.turn history had).step, split_due kind old new history c.take_turn.result saw made.same c.args.parent c.args.child c.args.key (made.turn history had) c.requires.holds, (made.turn history had).reply ∙ c.in-NoMemory.is)

pub unreachable-requires : goal.unreachable-requires
unreachable-requires g c =
    let kind = kind_of g.B.Content.number (branch_data g.B.Content.extents g.B.Content.entries g.B.Content.cuts g.B.Content.table) g.B.Content.TELLS in
    let old = g.T.Turns.means c.args.turns.now in
    let new = g.T.Turns.means c.take_turn.new.turns in
    let saw = g.T.Turns.saw c.take_turn.new.turns in
    let made = c.take_turn.ensures in
    let seen = c.requires.seen in
    split_answers kind old new seen.0 c.take_turn.result saw made.same c.args.parent c.args.child c.args.key (made.turn seen.0 seen.1) c.requires.holds c.in_default.not-Done c.in_default.not-Moved c.in_default.not-Outside c.in_default.not-Pivots c.in_default.not-Nodes c.in_default.not-NoMemory

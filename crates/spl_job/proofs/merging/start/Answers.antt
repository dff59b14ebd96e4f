use Rattle.std.proofs.Common.{◌≡◌, ◌<◌, ◌∙◌, ℕ, refl, subst}
use Rattle.spl_base.specs.declared.TheConstants.{ACTORS}
use Rattle.spl_state.specs.declared.reply.Reply.TheVariants as reply
use Rattle.std.specs.Prelude.{Ok}
use Rattle.spl_job.specs.declared.merging.Started.TheVariants as started
use Rattle.spl_state.specs.View.{branch_data}
use Rattle.spl_core.specs.declared.step.Step.TheVariants.{Start}
use Rattle.spl_desk.specs.Holder.{kind_of}
use Rattle.spl_desk.proofs.Quiet.{made_step, quiet_step}
use Rattle.spl_job.specs.Merging.{IsStartTurn}
use Rattle.spl_job.proofs.Starts.{start_answers, start_asked, start_busy, start_crossed, start_gone, start_memory, start_ticket}
use Rattle.spl_job.proofs.merging.start.Goals as goal

pub returns-in-Ticket-clause-quiet : goal.returns-in-Ticket-clause-quiet
returns-in-Ticket-clause-quiet g c =
    let kind = kind_of g.B.Content.number (branch_data g.B.Content.extents g.B.Content.entries g.B.Content.cuts g.B.Content.table) g.B.Content.TELLS in
    let old = g.T.Turns.means c.args.turns.now in
    let new = g.T.Turns.means c.take_turn.new.turns in
    let saw = g.T.Turns.saw c.take_turn.new.turns in
    let made = c.take_turn.ensures in
    let seen = c.requires.seen in
    quiet_step kind old new (Start c.args.node c.args.first c.args.last) c.take_turn.result (g.T.Turns.saw c.args.turns.now) saw made.same seen refl made.turn

pub returns-in-Ticket-clause-holds : goal.returns-in-Ticket-clause-holds
returns-in-Ticket-clause-holds g c =
    let kind = kind_of g.B.Content.number (branch_data g.B.Content.extents g.B.Content.entries g.B.Content.cuts g.B.Content.table) g.B.Content.TELLS in
    let old = g.T.Turns.means c.args.turns.now in
    let new = g.T.Turns.means c.take_turn.new.turns in
    let saw = g.T.Turns.saw c.take_turn.new.turns in
    let made = c.take_turn.ensures in
    let seen = c.requires.seen in
    start_ticket kind old new seen.0 c.take_turn.result saw made.same c.args.node c.args.first c.args.last (made.turn seen.0 seen.1) c.in-Ticket.ticket c.in-Ticket.is (subst (λ (n : ℕ). n < ACTORS) c.actor.ensures.value c.actor.ensures.known)

pub returns-in-Ticket-clause-asked : goal.returns-in-Ticket-clause-asked
returns-in-Ticket-clause-asked g c =
    let kind = kind_of g.B.Content.number (branch_data g.B.Content.extents g.B.Content.entries g.B.Content.cuts g.B.Content.table) g.B.Content.TELLS in
    let old = g.T.Turns.means c.args.turns.now in
    let new = g.T.Turns.means c.take_turn.new.turns in
    let saw = g.T.Turns.saw c.take_turn.new.turns in
    let made = c.take_turn.ensures in
    let seen = c.requires.seen in
    start_asked kind old new seen.0 c.take_turn.result saw made.same c.args.node c.args.first c.args.last (made.turn seen.0 seen.1) c.in-Ticket.ticket c.in-Ticket.is

pub returns-in-Busy-clause-quiet : goal.returns-in-Busy-clause-quiet
returns-in-Busy-clause-quiet g c =
    let kind = kind_of g.B.Content.number (branch_data g.B.Content.extents g.B.Content.entries g.B.Content.cuts g.B.Content.table) g.B.Content.TELLS in
    let old = g.T.Turns.means c.args.turns.now in
    let new = g.T.Turns.means c.take_turn.new.turns in
    let saw = g.T.Turns.saw c.take_turn.new.turns in
    let made = c.take_turn.ensures in
    let seen = c.requires.seen in
    quiet_step kind old new (Start c.args.node c.args.first c.args.last) c.take_turn.result (g.T.Turns.saw c.args.turns.now) saw made.same seen refl made.turn

pub returns-in-Busy-clause-holds : goal.returns-in-Busy-clause-holds
returns-in-Busy-clause-holds g c =
    let kind = kind_of g.B.Content.number (branch_data g.B.Content.extents g.B.Content.entries g.B.Content.cuts g.B.Content.table) g.B.Content.TELLS in
    let old = g.T.Turns.means c.args.turns.now in
    let new = g.T.Turns.means c.take_turn.new.turns in
    let saw = g.T.Turns.saw c.take_turn.new.turns in
    let made = c.take_turn.ensures in
    let seen = c.requires.seen in
    start_busy kind old new seen.0 c.take_turn.result saw made.same c.args.node c.args.first c.args.last (made.turn seen.0 seen.1) c.in-Busy.by c.in-Busy.is

pub returns-in-Gone-clause-quiet : goal.returns-in-Gone-clause-quiet
returns-in-Gone-clause-quiet g c =
    let kind = kind_of g.B.Content.number (branch_data g.B.Content.extents g.B.Content.entries g.B.Content.cuts g.B.Content.table) g.B.Content.TELLS in
    let old = g.T.Turns.means c.args.turns.now in
    let new = g.T.Turns.means c.take_turn.new.turns in
    let saw = g.T.Turns.saw c.take_turn.new.turns in
    let made = c.take_turn.ensures in
    let seen = c.requires.seen in
    quiet_step kind old new (Start c.args.node c.args.first c.args.last) c.take_turn.result (g.T.Turns.saw c.args.turns.now) saw made.same seen refl made.turn

pub returns-in-Gone-clause-holds : goal.returns-in-Gone-clause-holds
returns-in-Gone-clause-holds g c =
    let kind = kind_of g.B.Content.number (branch_data g.B.Content.extents g.B.Content.entries g.B.Content.cuts g.B.Content.table) g.B.Content.TELLS in
    let old = g.T.Turns.means c.args.turns.now in
    let new = g.T.Turns.means c.take_turn.new.turns in
    let saw = g.T.Turns.saw c.take_turn.new.turns in
    let made = c.take_turn.ensures in
    let seen = c.requires.seen in
    start_gone kind old new seen.0 c.take_turn.result saw made.same c.args.node c.args.first c.args.last (made.turn seen.0 seen.1) c.in-Gone.last c.in-Gone.oldest c.in-Gone.is

pub returns-in-Crossed-clause-quiet : goal.returns-in-Crossed-clause-quiet
returns-in-Crossed-clause-quiet g c =
    let kind = kind_of g.B.Content.number (branch_data g.B.Content.extents g.B.Content.entries g.B.Content.cuts g.B.Content.table) g.B.Content.TELLS in
    let old = g.T.Turns.means c.args.turns.now in
    let new = g.T.Turns.means c.take_turn.new.turns in
    let saw = g.T.Turns.saw c.take_turn.new.turns in
    let made = c.take_turn.ensures in
    let seen = c.requires.seen in
    quiet_step kind old new (Start c.args.node c.args.first c.args.last) c.take_turn.result (g.T.Turns.saw c.args.turns.now) saw made.same seen refl made.turn

pub returns-in-Crossed-clause-holds : goal.returns-in-Crossed-clause-holds
returns-in-Crossed-clause-holds g c =
    let kind = kind_of g.B.Content.number (branch_data g.B.Content.extents g.B.Content.entries g.B.Content.cuts g.B.Content.table) g.B.Content.TELLS in
    let old = g.T.Turns.means c.args.turns.now in
    let new = g.T.Turns.means c.take_turn.new.turns in
    let saw = g.T.Turns.saw c.take_turn.new.turns in
    let made = c.take_turn.ensures in
    let seen = c.requires.seen in
    start_crossed kind old new seen.0 c.take_turn.result saw made.same c.args.node c.args.first c.args.last (made.turn seen.0 seen.1) c.in-Crossed.child c.in-Crossed.mark c.in-Crossed.is

pub returns-in-NoMemory-clause-quiet : goal.returns-in-NoMemory-clause-quiet
returns-in-NoMemory-clause-quiet g c =
    let kind = kind_of g.B.Content.number (branch_data g.B.Content.extents g.B.Content.entries g.B.Content.cuts g.B.Content.table) g.B.Content.TELLS in
    let old = g.T.Turns.means c.args.turns.now in
    let new = g.T.Turns.means c.take_turn.new.turns in
    let saw = g.T.Turns.saw c.take_turn.new.turns in
    let made = c.take_turn.ensures in
    let seen = c.requires.seen in
    quiet_step kind old new (Start c.args.node c.args.first c.args.last) c.take_turn.result (g.T.Turns.saw c.args.turns.now) saw made.same seen refl made.turn

pub returns-in-NoMemory-clause-holds : goal.returns-in-NoMemory-clause-holds
returns-in-NoMemory-clause-holds g c =
    let kind = kind_of g.B.Content.number (branch_data g.B.Content.extents g.B.Content.entries g.B.Content.cuts g.B.Content.table) g.B.Content.TELLS in
    let old = g.T.Turns.means c.args.turns.now in
    let new = g.T.Turns.means c.take_turn.new.turns in
    let saw = g.T.Turns.saw c.take_turn.new.turns in
    let made = c.take_turn.ensures in
    let seen = c.requires.seen in
    start_memory kind old new seen.0 c.take_turn.result saw made.same c.args.node c.args.first c.args.last (made.turn seen.0 seen.1) c.in-NoMemory.is

pub returns-in-Ticket-clause-made : goal.returns-in-Ticket-clause-made
returns-in-Ticket-clause-made g c =
    let kind = kind_of g.B.Content.number (branch_data g.B.Content.extents g.B.Content.entries g.B.Content.cuts g.B.Content.table) g.B.Content.TELLS in
    let old = g.T.Turns.means c.args.turns.now in
    let new = g.T.Turns.means c.take_turn.new.turns in
    let saw = g.T.Turns.saw c.take_turn.new.turns in
    let made = c.take_turn.ensures in
    let seen = c.requires.seen in
    λ history had. made_step kind old new history (Start c.args.node c.args.first c.args.last) c.take_turn.result saw (IsStartTurn c.args.node c.args.first c.args.last (Ok (started.Ticket c.in-Ticket.ticket))) refl (made.turn history had) ((made.turn history had).step, (made.turn history had).reply ∙ c.in-Ticket.is)

pub returns-in-Busy-clause-made : goal.returns-in-Busy-clause-made
returns-in-Busy-clause-made g c =
    let kind = kind_of g.B.Content.number (branch_data g.B.Content.extents g.B.Content.entries g.B.Content.cuts g.B.Content.table) g.B.Content.TELLS in
    let old = g.T.Turns.means c.args.turns.now in
    let new = g.T.Turns.means c.take_turn.new.turns in
    let saw = g.T.Turns.saw c.take_turn.new.turns in
    let made = c.take_turn.ensures in
    let seen = c.requires.seen in
    λ history had. made_step kind old new history (Start c.args.node c.args.first c.args.last) c.take_turn.result saw (IsStartTurn c.args.node c.args.first c.args.last (Ok (started.Busy c.in-Busy.by))) refl (made.turn history had) ((made.turn history had).step, (made.turn history had).reply ∙ c.in-Busy.is)

pub returns-in-Gone-clause-made : goal.returns-in-Gone-clause-made
returns-in-Gone-clause-made g c =
    let kind = kind_of g.B.Content.number (branch_data g.B.Content.extents g.B.Content.entries g.B.Content.cuts g.B.Content.table) g.B.Content.TELLS in
    let old = g.T.Turns.means c.args.turns.now in
    let new = g.T.Turns.means c.take_turn.new.turns in
    let saw = g.T.Turns.saw c.take_turn.new.turns in
    let made = c.take_turn.ensures in
    let seen = c.requires.seen in
    λ history had. made_step kind old new history (Start c.args.node c.args.first c.args.last) c.take_turn.result saw (IsStartTurn c.args.node c.args.first c.args.last (Ok started.Gone)) refl (made.turn history had) ((made.turn history had).step, (c.in-Gone.last, c.in-Gone.oldest, (made.turn history had).reply ∙ c.in-Gone.is))

pub returns-in-Crossed-clause-made : goal.returns-in-Crossed-clause-made
returns-in-Crossed-clause-made g c =
    let kind = kind_of g.B.Content.number (branch_data g.B.Content.extents g.B.Content.entries g.B.Content.cuts g.B.Content.table) g.B.Content.TELLS in
    let old = g.T.Turns.means c.args.turns.now in
    let new = g.T.Turns.means c.take_turn.new.turns in
    let saw = g.T.Turns.saw c.take_turn.new.turns in
    let made = c.take_turn.ensures in
    let seen = c.requires.seen in
    λ history had. made_step kind old new history (Start c.args.node c.args.first c.args.last) c.take_turn.result saw (IsStartTurn c.args.node c.args.first c.args.last (Ok started.Crossed)) refl (made.turn history had) ((made.turn history had).step, (c.in-Crossed.child, c.in-Crossed.mark, (made.turn history had).reply ∙ c.in-Crossed.is))

pub returns-in-NoMemory-clause-made : goal.returns-in-NoMemory-clause-made
returns-in-NoMemory-clause-made g c =
    let kind = kind_of g.B.Content.number (branch_data g.B.Content.extents g.B.Content.entries g.B.Content.cuts g.B.Content.table) g.B.Content.TELLS in
    let old = g.T.Turns.means c.args.turns.now in
    let new = g.T.Turns.means c.take_turn.new.turns in
    let saw = g.T.Turns.saw c.take_turn.new.turns in
    let made = c.take_turn.ensures in
    let seen = c.requires.seen in
    λ history had. made_step kind old new history (Start c.args.node c.args.first c.args.last) c.take_turn.result saw (λ turn. (turn.step ≡ Start c.args.node c.args.first c.args.last) × (turn.reply ≡ reply.NoMemory)) refl (made.turn history had) ((made.turn history had).step, (made.turn history had).reply ∙ c.in-NoMemory.is)

pub unreachable-requires : goal.unreachable-requires
unreachable-requires g c =
    let kind = kind_of g.B.Content.number (branch_data g.B.Content.extents g.B.Content.entries g.B.Content.cuts g.B.Content.table) g.B.Content.TELLS in
    let old = g.T.Turns.means c.args.turns.now in
    let new = g.T.Turns.means c.take_turn.new.turns in
    let saw = g.T.Turns.saw c.take_turn.new.turns in
    let made = c.take_turn.ensures in
    let seen = c.requires.seen in
    start_answers kind old new seen.0 c.take_turn.result saw made.same c.args.node c.args.first c.args.last (made.turn seen.0 seen.1) (subst (λ (n : ℕ). n < ACTORS) c.actor.ensures.value c.actor.ensures.known) c.requires.holds c.in_default.not-Ticket c.in_default.not-Busy c.in_default.not-Gone c.in_default.not-Crossed c.in_default.not-NoMemory

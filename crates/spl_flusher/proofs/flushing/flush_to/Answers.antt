use Rattle.std.proofs.Common.{Option, subst, sym}
use Rattle.spl_message.specs.History.{History}
use Rattle.spl_state.specs.View.{branch_data}
use Rattle.spl_desk.specs.Holder.{kind_of}
use Rattle.spl_desk.specs.Quiet.{WasMade}
use Rattle.spl_desk.proofs.Quiet.{made_before, quiet_then}
use Rattle.spl_job.specs.declared.flushing.Flushing.{Flushing}
use Rattle.spl_job.specs.Flushing.{IsFlushTurn}
use Rattle.spl_enter.proofs.Refusals.{made_so}
use Rattle.spl_flusher.specs.declared.flushed.Flushed.{Flushed}
use Rattle.spl_flusher.specs.Flushes.{ShowsFlush, ShowsTry}
use Rattle.spl_flusher.proofs.Outcomes.{shows_outcome}
use Rattle.spl_flusher.proofs.flushing.flush_to.Goals as goal

pub returns-in-Ok-Some-clause-quiet : goal.returns-in-Ok-Some-clause-quiet
returns-in-Ok-Some-clause-quiet g c =
    let kind = kind_of g.B.Content.number (branch_data g.B.Content.extents g.B.Content.entries g.B.Content.cuts g.B.Content.table) g.B.Content.TELLS in
    quiet_then kind (g.T.Turns.means c.args.turns.now) (g.T.Turns.means c.try_flush.new.turns) (g.T.Turns.means c.abandon.new.turns)
    (g.T.Turns.saw c.args.turns.now) (g.T.Turns.saw c.try_flush.new.turns) (g.T.Turns.saw c.abandon.new.turns)
    c.try_flush.ensures.quiet c.abandon.ensures.quiet

pub returns-in-Err-clause-quiet : goal.returns-in-Err-clause-quiet
returns-in-Err-clause-quiet g c =
    let kind = kind_of g.B.Content.number (branch_data g.B.Content.extents g.B.Content.entries g.B.Content.cuts g.B.Content.table) g.B.Content.TELLS in
    quiet_then kind (g.T.Turns.means c.args.turns.now) (g.T.Turns.means c.try_flush.new.turns) (g.T.Turns.means c.abandon-in-Err.new.turns)
    (g.T.Turns.saw c.args.turns.now) (g.T.Turns.saw c.try_flush.new.turns) (g.T.Turns.saw c.abandon-in-Err.new.turns)
    c.try_flush.ensures.quiet c.abandon-in-Err.ensures.quiet

pub returns-in-Ok-Some-clause-made : goal.returns-in-Ok-Some-clause-made
returns-in-Ok-Some-clause-made g c =
    let kind = kind_of g.B.Content.number (branch_data g.B.Content.extents g.B.Content.entries g.B.Content.cuts g.B.Content.table) g.B.Content.TELLS in
    let old = g.T.Turns.means c.args.turns.now in
    let mid = g.T.Turns.means c.try_flush.new.turns in
    let new = g.T.Turns.means c.abandon.new.turns in
    let saw = g.T.Turns.saw c.args.turns.now in
    let between = g.T.Turns.saw c.try_flush.new.turns in
    let sees = g.T.Turns.saw c.abandon.new.turns in
    let flushing = c.in-Ok-Some.flushing in
    let tried : (history : History) → saw history → WasMade kind old history mid between (IsFlushTurn c.args.parent c.args.child flushing) =
    subst (λ (r : Option Flushing). (history : History) → saw history → WasMade kind old history mid between (ShowsTry c.args.parent c.args.child r)) c.in-Ok-Some.field-0-is c.in-Ok-Some.ensures.made in
    λ history had.
    made_so kind old history new sees (IsFlushTurn c.args.parent c.args.child flushing) (ShowsFlush c.args.parent c.args.child c.outcome_of.result)
    (λ turn is. subst (λ (f : Flushed). ShowsFlush c.args.parent c.args.child f turn) (sym c.outcome_of.ensures) (shows_outcome c.args.parent c.args.child flushing turn is))
    (made_before kind old mid new saw between sees (IsFlushTurn c.args.parent c.args.child flushing) c.try_flush.ensures.quiet.same tried c.abandon.ensures.quiet history had)

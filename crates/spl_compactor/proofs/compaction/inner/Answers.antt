use Rattle.std.proofs.Common.{◌≡◌, refl, subst, inr}
use Rattle.std.specs.Prelude.{Ok}
use Rattle.spl_branch.specs.Branch.{Branch, table_of}
use Rattle.spl_desk.specs.Branches.{branch_kind}
use Rattle.spl_desk.proofs.Quiet.{counts_same, quiet_then}
use Rattle.spl_job.specs.declared.merging.Started.{Started}
use Rattle.spl_job.specs.declared.merging.Started.TheVariants as started
use Rattle.spl_job.proofs.Nothing.{nothing_holds}
use Rattle.spl_job.specs.Merging.{AfterStart, IsStartTurn}
use Rattle.spl_compactor.specs.Compacting.{told_by}
use Rattle.spl_compactor.specs.declared.compacted.Compacted.TheVariants as compacted
use Rattle.spl_compactor.specs.Outcomes.{ShowsCompacted}
use Rattle.spl_compactor.proofs.Begins.{had, had_still, is_started, worked_least}
use Rattle.spl_compactor.proofs.Ends.{asked_before, asked_so, compacted_behind}
use Rattle.spl_compactor.proofs.Stops.{made_weaker, stopped_behind}
use Rattle.spl_compactor.proofs.compaction.inner.Given.{Over}
use Rattle.spl_compactor.proofs.compaction.inner.Goals as goal
use Rattle.spl_compactor.proofs.compaction.inner.Goals.{In_ok-ticket}

pub start-requires-clause-holds : goal.start-requires-clause-holds
start-requires-clause-holds g c =
    let old = g.T.Turns.means c.args.desk.now.turns in
    (had old, nothing_holds old c.requires.nothing, refl, inr c.requires.known)

-- what the actor has after it asked
after : (g : Over) (c : In_ok-ticket g) (answer : Started Branch) → c.in_ok-ticket.field-0 ≡ answer → AfterStart (λ (branch : Branch). branch.number) table_of (g.T.Turns.means c.start.new.turns) (had (g.T.Turns.means c.args.desk.now.turns)) (Ok answer)
after g c answer is =
    let old = g.T.Turns.means c.args.desk.now.turns in
    subst (λ (one : Started Branch). AfterStart (λ (branch : Branch). branch.number) table_of (g.T.Turns.means c.start.new.turns) (had old) (Ok one)) is
    (c.in_ok-ticket.ensures.holds (had old) (nothing_holds old c.requires.nothing))

pub work-requires-clause-started : goal.work-requires-clause-started
work-requires-clause-started g c κs within =
    let old = g.T.Turns.means c.args.desk.now.turns in
    let mid = g.T.Turns.means c.start.new.turns in
    let is = after g (goal.at.work-requires-clause-started g c).In_ok-ticket (started.Ticket c.in-Ticket.ticket) c.in-Ticket.is in
    (is.0, is.2, is_started old mid c.in-Ticket.ticket is)

pub returns-in-Ticket-clause-quiet : goal.returns-in-Ticket-clause-quiet
returns-in-Ticket-clause-quiet g c =
    let kind = branch_kind g.P.Seal.Seal.TELLS in
    let old = g.T.Turns.means c.args.desk.now.turns in
    let saw = g.T.Turns.saw c.args.desk.now.turns in
    let mid = g.T.Turns.means c.start.new.turns in
    let between = g.T.Turns.saw c.start.new.turns in
    let new = g.T.Turns.means c.work.new.desk.turns in
    let sees = g.T.Turns.saw c.work.new.desk.turns in
    quiet_then kind old mid new saw between sees c.start.ensures.quiet c.work.ensures.quiet

pub returns-in-Ticket-clause-worked : goal.returns-in-Ticket-clause-worked
returns-in-Ticket-clause-worked g c =
    let old = g.T.Turns.means c.args.desk.now.turns in
    let mid = g.T.Turns.means c.start.new.turns in
    let new = g.T.Turns.means c.work.new.desk.turns in
    let is = after g (goal.at.returns-in-Ticket-clause-worked g c).In_ok-ticket (started.Ticket c.in-Ticket.ticket) c.in-Ticket.is in
    worked_least new (told_by old) is.0 c.work.result is.1 (c.work.ensures.worked is.0 is.2 (is_started old mid c.in-Ticket.ticket is))

pub returns-in-Ticket-clause-made : goal.returns-in-Ticket-clause-made
returns-in-Ticket-clause-made g c =
    let kind = branch_kind g.P.Seal.Seal.TELLS in
    let old = g.T.Turns.means c.args.desk.now.turns in
    let saw = g.T.Turns.saw c.args.desk.now.turns in
    let mid = g.T.Turns.means c.start.new.turns in
    let between = g.T.Turns.saw c.start.new.turns in
    let new = g.T.Turns.means c.work.new.desk.turns in
    let sees = g.T.Turns.saw c.work.new.desk.turns in
    compacted_behind kind old mid new saw between sees c.args.node c.args.first c.args.last c.work.result c.start.ensures.quiet c.work.ensures.made

pub returns-in-Ticket-clause-asked : goal.returns-in-Ticket-clause-asked
returns-in-Ticket-clause-asked g c =
    let kind = branch_kind g.P.Seal.Seal.TELLS in
    let old = g.T.Turns.means c.args.desk.now.turns in
    let saw = g.T.Turns.saw c.args.desk.now.turns in
    let mid = g.T.Turns.means c.start.new.turns in
    let between = g.T.Turns.saw c.start.new.turns in
    let new = g.T.Turns.means c.work.new.desk.turns in
    let sees = g.T.Turns.saw c.work.new.desk.turns in
    asked_before kind old mid new saw between sees c.args.node c.args.first c.args.last c.work.result c.start.ensures.quiet
    (asked_so kind old mid saw between c.args.node c.args.first c.args.last c.in_ok-ticket.field-0 c.in_ok-ticket.ensures.made)
    c.work.ensures.quiet

pub returns-in-Ticket-clause-cause : goal.returns-in-Ticket-clause-cause
returns-in-Ticket-clause-cause g c =
    let kind = branch_kind g.P.Seal.Seal.TELLS in
    let old = g.T.Turns.means c.args.desk.now.turns in
    let saw = g.T.Turns.saw c.args.desk.now.turns in
    let mid = g.T.Turns.means c.start.new.turns in
    let between = g.T.Turns.saw c.start.new.turns in
    let new = g.T.Turns.means c.work.new.desk.turns in
    let sees = g.T.Turns.saw c.work.new.desk.turns in
    let before = g.P.Port.counts c.args.desk.now.port.now in
    stopped_behind kind old mid new saw between sees c.work.result before before (g.P.Port.counts c.work.new.desk.port.now)
    c.start.ensures.quiet (counts_same before) c.work.ensures.cause

pub returns-in-Busy-clause-worked : goal.returns-in-Busy-clause-worked
returns-in-Busy-clause-worked g c =
    had_still (g.T.Turns.means c.args.desk.now.turns) (g.T.Turns.means c.start.new.turns)
    (after g (goal.at.returns-in-Busy-clause-worked g c).In_ok-ticket (started.Busy c.in-Busy.by) c.in-Busy.is)

pub returns-in-Gone-clause-worked : goal.returns-in-Gone-clause-worked
returns-in-Gone-clause-worked g c =
    had_still (g.T.Turns.means c.args.desk.now.turns) (g.T.Turns.means c.start.new.turns)
    (after g (goal.at.returns-in-Gone-clause-worked g c).In_ok-ticket started.Gone c.in-Gone.is)

pub returns-in-Crossed-clause-worked : goal.returns-in-Crossed-clause-worked
returns-in-Crossed-clause-worked g c =
    had_still (g.T.Turns.means c.args.desk.now.turns) (g.T.Turns.means c.start.new.turns)
    (after g (goal.at.returns-in-Crossed-clause-worked g c).In_ok-ticket started.Crossed c.in-Crossed.is)

pub returns-in-Busy-clause-made : goal.returns-in-Busy-clause-made
returns-in-Busy-clause-made g c = λ history had.
    let kind = branch_kind g.P.Seal.Seal.TELLS in
    let old = g.T.Turns.means c.args.desk.now.turns in
    made_weaker kind old history (g.T.Turns.means c.start.new.turns) (g.T.Turns.saw c.start.new.turns)
    (IsStartTurn c.args.node c.args.first c.args.last (Ok c.in_ok-ticket.field-0)) (ShowsCompacted c.args.node c.args.first c.args.last compacted.Busy)
    (λ turn is. (c.in-Busy.by, subst (λ (s : Started Branch). IsStartTurn c.args.node c.args.first c.args.last (Ok s) turn) c.in-Busy.is is)) (c.in_ok-ticket.ensures.made history had)

pub returns-in-Busy-clause-asked : goal.returns-in-Busy-clause-asked
returns-in-Busy-clause-asked g c =
    asked_so (branch_kind g.P.Seal.Seal.TELLS) (g.T.Turns.means c.args.desk.now.turns) (g.T.Turns.means c.start.new.turns) (g.T.Turns.saw c.args.desk.now.turns) (g.T.Turns.saw c.start.new.turns)
    c.args.node c.args.first c.args.last c.in_ok-ticket.field-0 c.in_ok-ticket.ensures.made

pub returns-in-Gone-clause-made : goal.returns-in-Gone-clause-made
returns-in-Gone-clause-made g c = λ history had.
    let kind = branch_kind g.P.Seal.Seal.TELLS in
    let old = g.T.Turns.means c.args.desk.now.turns in
    made_weaker kind old history (g.T.Turns.means c.start.new.turns) (g.T.Turns.saw c.start.new.turns)
    (IsStartTurn c.args.node c.args.first c.args.last (Ok c.in_ok-ticket.field-0)) (ShowsCompacted c.args.node c.args.first c.args.last compacted.Gone)
    (λ turn is. subst (λ (s : Started Branch). IsStartTurn c.args.node c.args.first c.args.last (Ok s) turn) c.in-Gone.is is) (c.in_ok-ticket.ensures.made history had)

pub returns-in-Gone-clause-asked : goal.returns-in-Gone-clause-asked
returns-in-Gone-clause-asked g c =
    asked_so (branch_kind g.P.Seal.Seal.TELLS) (g.T.Turns.means c.args.desk.now.turns) (g.T.Turns.means c.start.new.turns) (g.T.Turns.saw c.args.desk.now.turns) (g.T.Turns.saw c.start.new.turns)
    c.args.node c.args.first c.args.last c.in_ok-ticket.field-0 c.in_ok-ticket.ensures.made

pub returns-in-Crossed-clause-made : goal.returns-in-Crossed-clause-made
returns-in-Crossed-clause-made g c = λ history had.
    let kind = branch_kind g.P.Seal.Seal.TELLS in
    let old = g.T.Turns.means c.args.desk.now.turns in
    made_weaker kind old history (g.T.Turns.means c.start.new.turns) (g.T.Turns.saw c.start.new.turns)
    (IsStartTurn c.args.node c.args.first c.args.last (Ok c.in_ok-ticket.field-0)) (ShowsCompacted c.args.node c.args.first c.args.last compacted.Crossed)
    (λ turn is. subst (λ (s : Started Branch). IsStartTurn c.args.node c.args.first c.args.last (Ok s) turn) c.in-Crossed.is is) (c.in_ok-ticket.ensures.made history had)

pub returns-in-Crossed-clause-asked : goal.returns-in-Crossed-clause-asked
returns-in-Crossed-clause-asked g c =
    asked_so (branch_kind g.P.Seal.Seal.TELLS) (g.T.Turns.means c.args.desk.now.turns) (g.T.Turns.means c.start.new.turns) (g.T.Turns.saw c.args.desk.now.turns) (g.T.Turns.saw c.start.new.turns)
    c.args.node c.args.first c.args.last c.in_ok-ticket.field-0 c.in_ok-ticket.ensures.made

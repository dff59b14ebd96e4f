use Rattle.std.proofs.Common.{◌≡◌, ◌≤◌, ◌<◌, ◌∙◌, ℕ, Bool, true, Option, Some, None, refl, sym, ap, subst, inl, inr, arith}
use Rattle.std.specs.Prelude.{Ok, IfOk, IfSome}
use Rattle.spl_desk.specs.Branches.{branch_kind}
use Rattle.spl_desk.specs.Quiet.{HasWorkCause}
use Rattle.spl_desk.proofs.Quiet.{cause_behind, counts_on, counts_same, made_before, made_behind, quiet_none, quiet_then}
use Rattle.spl_worker.proofs.Parts.{gone_on, if_err_same, on_ok, passed_on, relieved_on, still_named, still_way, stopped_on, turns_worked, went_on, worked_on}
use Rattle.spl_worker.specs.Reliefs.{Flushes, Made}
use Rattle.spl_worker.specs.Stale.{ShowsStale}
use Rattle.spl_worker.proofs.Shown.{flush_busy, flush_done, flush_moved, made_so}
use Rattle.spl_worker.proofs.Parts.{turn_cause}
use Rattle.spl_flusher.specs.Flushes.{ShowsFlush}
use Rattle.spl_flusher.specs.declared.flushed.Flushed.{Flushed}
use Rattle.spl_flusher.specs.declared.flushed.Flushed.TheVariants as flushed
use Rattle.spl_worker.proofs.passing.flush.Goals as goal

pub returns-in_err-flush_to-clause-worked : goal.returns-in_err-flush_to-clause-worked
returns-in_err-flush_to-clause-worked g c =
    let kind = branch_kind g.P.Seal.Seal.TELLS in
    let old = g.T.Turns.means c.args.desk.now.turns in
    let was = g.T.Turns.saw c.args.desk.now.turns in
    let before = g.P.Port.counts c.args.desk.now.port.now in
    let new = g.T.Turns.means c.flush_to.new.turns in
    let sees = g.T.Turns.saw c.flush_to.new.turns in
    let after = before in
    turns_worked kind old new was sees before c.flush_to.ensures.quiet c.flush_to.ensures.nothing

pub returns-in_err-tidy-in-Done-clause-worked : goal.returns-in_err-tidy-in-Done-clause-worked
returns-in_err-tidy-in-Done-clause-worked g c =
    let kind = branch_kind g.P.Seal.Seal.TELLS in
    let old = g.T.Turns.means c.args.desk.now.turns in
    let was = g.T.Turns.saw c.args.desk.now.turns in
    let before = g.P.Port.counts c.args.desk.now.port.now in
    let mid = g.T.Turns.means c.flush_to.new.turns in
    let between = g.T.Turns.saw c.flush_to.new.turns in
    let counts = before in
    let new = g.T.Turns.means c.tidy.new.desk.turns in
    let sees = g.T.Turns.saw c.tidy.new.desk.turns in
    let after = g.P.Port.counts c.tidy.new.desk.port.now in
    worked_on kind old mid new was between sees before counts after (turns_worked kind old mid was between before c.flush_to.ensures.quiet c.flush_to.ensures.nothing) (c.tidy.ensures.worked)

pub returns-in_err-tidy-in-Done-clause-cause : goal.returns-in_err-tidy-in-Done-clause-cause
returns-in_err-tidy-in-Done-clause-cause g c =
    let kind = branch_kind g.P.Seal.Seal.TELLS in
    let old = g.T.Turns.means c.args.desk.now.turns in
    let was = g.T.Turns.saw c.args.desk.now.turns in
    let before = g.P.Port.counts c.args.desk.now.port.now in
    let mid = g.T.Turns.means c.flush_to.new.turns in
    let between = g.T.Turns.saw c.flush_to.new.turns in
    let counts = before in
    let new = g.T.Turns.means c.tidy.new.desk.turns in
    let sees = g.T.Turns.saw c.tidy.new.desk.turns in
    let after = g.P.Port.counts c.tidy.new.desk.port.now in
    if_err_same c.from_residual-in_err-tidy-in-Done.result c.in_err-tidy-in-Done.field-0.0 (HasWorkCause kind old was new sees before after) c.from_residual-in_err-tidy-in-Done.ensures.1
    (cause_behind kind old mid new was between sees before counts after c.in_err-tidy-in-Done.field-0.0 c.flush_to.ensures.quiet (counts_same before) c.in_err-tidy-in-Done.ensures.cause)

pub returns-in_ok-tidy-in-Done-clause-worked : goal.returns-in_ok-tidy-in-Done-clause-worked
returns-in_ok-tidy-in-Done-clause-worked g c =
    let kind = branch_kind g.P.Seal.Seal.TELLS in
    let old = g.T.Turns.means c.args.desk.now.turns in
    let was = g.T.Turns.saw c.args.desk.now.turns in
    let before = g.P.Port.counts c.args.desk.now.port.now in
    let mid = g.T.Turns.means c.flush_to.new.turns in
    let between = g.T.Turns.saw c.flush_to.new.turns in
    let counts = before in
    let new = g.T.Turns.means c.tidy.new.desk.turns in
    let sees = g.T.Turns.saw c.tidy.new.desk.turns in
    let after = g.P.Port.counts c.tidy.new.desk.port.now in
    worked_on kind old mid new was between sees before counts after (turns_worked kind old mid was between before c.flush_to.ensures.quiet c.flush_to.ensures.nothing) (c.tidy.ensures.worked)

pub returns-in_ok-tidy-in-Done-clause-went : goal.returns-in_ok-tidy-in-Done-clause-went
returns-in_ok-tidy-in-Done-clause-went g c =
    let kind = branch_kind g.P.Seal.Seal.TELLS in
    let old = g.T.Turns.means c.args.desk.now.turns in
    let was = g.T.Turns.saw c.args.desk.now.turns in
    let before = g.P.Port.counts c.args.desk.now.port.now in
    let mid = g.T.Turns.means c.flush_to.new.turns in
    let between = g.T.Turns.saw c.flush_to.new.turns in
    let counts = before in
    let new = g.T.Turns.means c.tidy.new.desk.turns in
    let sees = g.T.Turns.saw c.tidy.new.desk.turns in
    let after = g.P.Port.counts c.tidy.new.desk.port.now in
    gone_on old mid new (record { few = c.in_ok-flush_to.ensures.ok_few; told = c.in_ok-flush_to.ensures.told }) c.in_ok-tidy-in-Done.ensures.went

pub returns-in_ok-tidy-in-Done-clause-made : goal.returns-in_ok-tidy-in-Done-clause-made
returns-in_ok-tidy-in-Done-clause-made g c =
    let kind = branch_kind g.P.Seal.Seal.TELLS in
    let old = g.T.Turns.means c.args.desk.now.turns in
    let was = g.T.Turns.saw c.args.desk.now.turns in
    let before = g.P.Port.counts c.args.desk.now.port.now in
    let mid = g.T.Turns.means c.flush_to.new.turns in
    let between = g.T.Turns.saw c.flush_to.new.turns in
    let counts = before in
    let new = g.T.Turns.means c.tidy.new.desk.turns in
    let sees = g.T.Turns.saw c.tidy.new.desk.turns in
    let after = g.P.Port.counts c.tidy.new.desk.port.now in
    made_before kind old mid new was between sees Flushes c.flush_to.ensures.quiet.same
    (λ history saw. made_so kind old history mid between (ShowsFlush c.args.node c.args.way.child flushed.Done) Flushes (flush_done c.args.node c.args.way.child)
    (subst (λ (x : Flushed). Made kind old was mid between (ShowsFlush c.args.node c.args.way.child x)) c.in-Done.is c.in_ok-flush_to.ensures.made history saw))
    c.tidy.ensures.worked.quiet

pub returns-in-NeedsRoom-clause-worked : goal.returns-in-NeedsRoom-clause-worked
returns-in-NeedsRoom-clause-worked g c =
    let kind = branch_kind g.P.Seal.Seal.TELLS in
    let old = g.T.Turns.means c.args.desk.now.turns in
    let was = g.T.Turns.saw c.args.desk.now.turns in
    let before = g.P.Port.counts c.args.desk.now.port.now in
    let new = g.T.Turns.means c.flush_to.new.turns in
    let sees = g.T.Turns.saw c.flush_to.new.turns in
    let after = before in
    turns_worked kind old new was sees before c.flush_to.ensures.quiet c.flush_to.ensures.nothing

pub returns-in-NeedsRoom-clause-went : goal.returns-in-NeedsRoom-clause-went
returns-in-NeedsRoom-clause-went g c =
    record { few = c.in_ok-flush_to.ensures.ok_few; told = c.in_ok-flush_to.ensures.told }

pub returns-in-NeedsRoom-clause-made : goal.returns-in-NeedsRoom-clause-made
returns-in-NeedsRoom-clause-made g c =
    let told = c.in_ok-flush_to.ensures.told in
    let below = c.requires.way.child in
    omega (arith, told, below)

pub returns-in-Some-clause-worked : goal.returns-in-Some-clause-worked
returns-in-Some-clause-worked g c =
    let kind = branch_kind g.P.Seal.Seal.TELLS in
    let old = g.T.Turns.means c.args.desk.now.turns in
    let was = g.T.Turns.saw c.args.desk.now.turns in
    let before = g.P.Port.counts c.args.desk.now.port.now in
    let mid = g.T.Turns.means c.flush_to.new.turns in
    let between = g.T.Turns.saw c.flush_to.new.turns in
    let counts = before in
    let new = g.T.Turns.means c.merge_run.new.desk.turns in
    let sees = g.T.Turns.saw c.merge_run.new.desk.turns in
    let after = g.P.Port.counts c.merge_run.new.desk.port.now in
    worked_on kind old mid new was between sees before counts after (turns_worked kind old mid was between before c.flush_to.ensures.quiet c.flush_to.ensures.nothing) (c.merge_run.ensures.worked)

pub returns-in-Some-clause-made : goal.returns-in-Some-clause-made
returns-in-Some-clause-made g c =
    let kind = branch_kind g.P.Seal.Seal.TELLS in
    let old = g.T.Turns.means c.args.desk.now.turns in
    let was = g.T.Turns.saw c.args.desk.now.turns in
    let before = g.P.Port.counts c.args.desk.now.port.now in
    let mid = g.T.Turns.means c.flush_to.new.turns in
    let between = g.T.Turns.saw c.flush_to.new.turns in
    let counts = before in
    let new = g.T.Turns.means c.merge_run.new.desk.turns in
    let sees = g.T.Turns.saw c.merge_run.new.desk.turns in
    let after = g.P.Port.counts c.merge_run.new.desk.port.now in
    passed_on kind old mid new was between sees c.merge_run.result c.flush_to.ensures.quiet c.merge_run.ensures.made

pub returns-in-Some-clause-cause : goal.returns-in-Some-clause-cause
returns-in-Some-clause-cause g c =
    let kind = branch_kind g.P.Seal.Seal.TELLS in
    let old = g.T.Turns.means c.args.desk.now.turns in
    let was = g.T.Turns.saw c.args.desk.now.turns in
    let before = g.P.Port.counts c.args.desk.now.port.now in
    let mid = g.T.Turns.means c.flush_to.new.turns in
    let between = g.T.Turns.saw c.flush_to.new.turns in
    let counts = before in
    let new = g.T.Turns.means c.merge_run.new.desk.turns in
    let sees = g.T.Turns.saw c.merge_run.new.desk.turns in
    let after = g.P.Port.counts c.merge_run.new.desk.port.now in
    stopped_on kind old mid new was between sees c.merge_run.result before counts after c.flush_to.ensures.quiet (counts_same before) c.merge_run.ensures.cause

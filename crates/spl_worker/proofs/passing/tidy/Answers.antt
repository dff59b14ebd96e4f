use Rattle.std.proofs.Common.{◌≡◌, ◌≤◌, ◌<◌, ◌∙◌, ℕ, Bool, true, Option, Some, None, refl, sym, ap, subst, inl, inr, arith}
use Rattle.std.specs.Prelude.{Ok, IfOk, IfSome}
use Rattle.spl_desk.specs.Branches.{branch_kind}
use Rattle.spl_desk.specs.Quiet.{HasWorkCause}
use Rattle.spl_desk.proofs.Quiet.{cause_behind, counts_on, counts_same, made_before, made_behind, quiet_none, quiet_then}
use Rattle.spl_worker.proofs.Parts.{gone_on, if_err_same, on_ok, passed_on, relieved_on, still_named, still_way, stopped_on, turns_worked, went_on, worked_on}
use Rattle.spl_worker.proofs.passing.tidy.Goals as goal

pub returns-in_err-view-clause-worked : goal.returns-in_err-view-clause-worked
returns-in_err-view-clause-worked g c =
    let kind = branch_kind g.P.Seal.Seal.TELLS in
    let old = g.T.Turns.means c.args.desk.now.turns in
    let was = g.T.Turns.saw c.args.desk.now.turns in
    let before = g.P.Port.counts c.args.desk.now.port.now in
    let new = g.T.Turns.means c.look.new.turns in
    let sees = g.T.Turns.saw c.look.new.turns in
    let after = before in
    turns_worked kind old new was sees before c.look.ensures.quiet c.look.ensures.nothing

pub returns-in_default-clause-worked : goal.returns-in_default-clause-worked
returns-in_default-clause-worked g c =
    let kind = branch_kind g.P.Seal.Seal.TELLS in
    let old = g.T.Turns.means c.args.desk.now.turns in
    let was = g.T.Turns.saw c.args.desk.now.turns in
    let before = g.P.Port.counts c.args.desk.now.port.now in
    let new = g.T.Turns.means c.look.new.turns in
    let sees = g.T.Turns.saw c.look.new.turns in
    let after = before in
    turns_worked kind old new was sees before c.look.ensures.quiet c.look.ensures.nothing

pub returns-in_default-clause-went : goal.returns-in_default-clause-went
returns-in_default-clause-went g c =
    record { few = c.look.ensures.few; told = c.in_ok-view.ensures.more }

pub returns-in_err-merge_run-clause-worked : goal.returns-in_err-merge_run-clause-worked
returns-in_err-merge_run-clause-worked g c =
    let kind = branch_kind g.P.Seal.Seal.TELLS in
    let old = g.T.Turns.means c.args.desk.now.turns in
    let was = g.T.Turns.saw c.args.desk.now.turns in
    let before = g.P.Port.counts c.args.desk.now.port.now in
    let mid = g.T.Turns.means c.look.new.turns in
    let between = g.T.Turns.saw c.look.new.turns in
    let counts = before in
    let new = g.T.Turns.means c.merge_run.new.desk.turns in
    let sees = g.T.Turns.saw c.merge_run.new.desk.turns in
    let after = g.P.Port.counts c.merge_run.new.desk.port.now in
    worked_on kind old mid new was between sees before counts after (turns_worked kind old mid was between before c.look.ensures.quiet c.look.ensures.nothing) (c.merge_run.ensures.worked)

pub returns-in_err-merge_run-clause-cause : goal.returns-in_err-merge_run-clause-cause
returns-in_err-merge_run-clause-cause g c =
    let kind = branch_kind g.P.Seal.Seal.TELLS in
    let old = g.T.Turns.means c.args.desk.now.turns in
    let was = g.T.Turns.saw c.args.desk.now.turns in
    let before = g.P.Port.counts c.args.desk.now.port.now in
    let mid = g.T.Turns.means c.look.new.turns in
    let between = g.T.Turns.saw c.look.new.turns in
    let counts = before in
    let new = g.T.Turns.means c.merge_run.new.desk.turns in
    let sees = g.T.Turns.saw c.merge_run.new.desk.turns in
    let after = g.P.Port.counts c.merge_run.new.desk.port.now in
    if_err_same c.from_residual-in_err-merge_run.result c.in_err-merge_run.field-0.0 (HasWorkCause kind old was new sees before after) c.from_residual-in_err-merge_run.ensures.1
    (cause_behind kind old mid new was between sees before counts after c.in_err-merge_run.field-0.0 c.look.ensures.quiet (counts_same before) c.in_err-merge_run.ensures.cause)

pub returns-clause-worked : goal.returns-clause-worked
returns-clause-worked g c =
    let kind = branch_kind g.P.Seal.Seal.TELLS in
    let old = g.T.Turns.means c.args.desk.now.turns in
    let was = g.T.Turns.saw c.args.desk.now.turns in
    let before = g.P.Port.counts c.args.desk.now.port.now in
    let mid = g.T.Turns.means c.look.new.turns in
    let between = g.T.Turns.saw c.look.new.turns in
    let counts = before in
    let new = g.T.Turns.means c.merge_run.new.desk.turns in
    let sees = g.T.Turns.saw c.merge_run.new.desk.turns in
    let after = g.P.Port.counts c.merge_run.new.desk.port.now in
    worked_on kind old mid new was between sees before counts after (turns_worked kind old mid was between before c.look.ensures.quiet c.look.ensures.nothing) (c.merge_run.ensures.worked)

pub returns-clause-went : goal.returns-clause-went
returns-clause-went g c =
    let kind = branch_kind g.P.Seal.Seal.TELLS in
    let old = g.T.Turns.means c.args.desk.now.turns in
    let was = g.T.Turns.saw c.args.desk.now.turns in
    let before = g.P.Port.counts c.args.desk.now.port.now in
    let mid = g.T.Turns.means c.look.new.turns in
    let between = g.T.Turns.saw c.look.new.turns in
    let counts = before in
    let new = g.T.Turns.means c.merge_run.new.desk.turns in
    let sees = g.T.Turns.saw c.merge_run.new.desk.turns in
    let after = g.P.Port.counts c.merge_run.new.desk.port.now in
    gone_on old mid new (record { few = c.look.ensures.few; told = c.in_ok-view.ensures.more }) c.in_ok-merge_run.ensures.went

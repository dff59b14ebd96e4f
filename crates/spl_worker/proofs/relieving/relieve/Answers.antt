use Rattle.std.proofs.Common.{◌≡◌, ◌≤◌, ◌<◌, ◌∙◌, ℕ, Bool, true, Option, Some, None, refl, sym, ap, subst, inl, inr, arith}
use Rattle.std.specs.Prelude.{Ok, IfOk, IfSome}
use Rattle.spl_desk.specs.Branches.{branch_kind}
use Rattle.spl_desk.specs.Quiet.{HasWorkCause}
use Rattle.spl_desk.proofs.Quiet.{cause_behind, counts_on, counts_same, made_before, made_behind, quiet_none, quiet_then}
use Rattle.spl_worker.proofs.Parts.{gone_on, if_err_same, on_ok, passed_on, relieved_on, still_named, still_way, stopped_on, turns_worked, went_on, worked_on}
use Rattle.spl_worker.specs.Rooms.{ShowsFew}
use Rattle.spl_worker.specs.Plans.{IsPlanFor}
use Rattle.spl_worker.proofs.Shown.{made_so}
use Rattle.spl_worker.proofs.Ways.{planned}
use Rattle.spl_worker.specs.declared.plan.Plan.{Plan}
use Rattle.spl_worker.proofs.relieving.relieve.Goals as goal

pub returns-in_err-view-clause-worked : goal.returns-in_err-view-clause-worked
returns-in_err-view-clause-worked g c =
    let kind = branch_kind g.P.Seal.Seal.TELLS in
    let old = g.T.Turns.means c.args.desk.now.turns in
    let was = g.T.Turns.saw c.args.desk.now.turns in
    let before = g.P.Port.counts c.args.desk.now.port.now in
    let new = g.T.Turns.means c.look.new.turns in
    let sees = g.T.Turns.saw c.look.new.turns in
    let after = before in
    turns_worked kind old new was sees before c.look.ensures.quiet c.look.ensures.nothing

pub carry_out-requires-clause-planned : goal.carry_out-requires-clause-planned
carry_out-requires-clause-planned g c κs within =
    planned (g.T.Turns.means c.look.new.turns) c.args.node c.in_ok-view.view c.in-Some.plan c.in_ok-view.ensures.told c.in_ok-view.ensures.children
    (subst (λ (p : Option Plan). IfSome p (IsPlanFor c.in_ok-view.view)) c.in-Some.is c.plan_of.ensures.for_view)

pub returns-in-Some-clause-worked : goal.returns-in-Some-clause-worked
returns-in-Some-clause-worked g c =
    let kind = branch_kind g.P.Seal.Seal.TELLS in
    let old = g.T.Turns.means c.args.desk.now.turns in
    let was = g.T.Turns.saw c.args.desk.now.turns in
    let before = g.P.Port.counts c.args.desk.now.port.now in
    let mid = g.T.Turns.means c.look.new.turns in
    let between = g.T.Turns.saw c.look.new.turns in
    let counts = before in
    let new = g.T.Turns.means c.carry_out.new.desk.turns in
    let sees = g.T.Turns.saw c.carry_out.new.desk.turns in
    let after = g.P.Port.counts c.carry_out.new.desk.port.now in
    worked_on kind old mid new was between sees before counts after (turns_worked kind old mid was between before c.look.ensures.quiet c.look.ensures.nothing) (c.carry_out.ensures.worked)

pub returns-in-Some-clause-went : goal.returns-in-Some-clause-went
returns-in-Some-clause-went g c =
    let kind = branch_kind g.P.Seal.Seal.TELLS in
    let old = g.T.Turns.means c.args.desk.now.turns in
    let was = g.T.Turns.saw c.args.desk.now.turns in
    let before = g.P.Port.counts c.args.desk.now.port.now in
    let mid = g.T.Turns.means c.look.new.turns in
    let between = g.T.Turns.saw c.look.new.turns in
    let counts = before in
    let new = g.T.Turns.means c.carry_out.new.desk.turns in
    let sees = g.T.Turns.saw c.carry_out.new.desk.turns in
    let after = g.P.Port.counts c.carry_out.new.desk.port.now in
    went_on old mid new c.carry_out.result (record { few = c.look.ensures.few; told = c.in_ok-view.ensures.more }) c.carry_out.ensures.went

pub returns-in-Some-clause-left : goal.returns-in-Some-clause-left
returns-in-Some-clause-left g c =
    let kind = branch_kind g.P.Seal.Seal.TELLS in
    let old = g.T.Turns.means c.args.desk.now.turns in
    let was = g.T.Turns.saw c.args.desk.now.turns in
    let before = g.P.Port.counts c.args.desk.now.port.now in
    let mid = g.T.Turns.means c.look.new.turns in
    let between = g.T.Turns.saw c.look.new.turns in
    let counts = before in
    let new = g.T.Turns.means c.carry_out.new.desk.turns in
    let sees = g.T.Turns.saw c.carry_out.new.desk.turns in
    let after = g.P.Port.counts c.carry_out.new.desk.port.now in
    let first = c.in_ok-view.ensures.left in
    let later = c.carry_out.ensures.worked.quiet.same.turns in
    on_ok c.carry_out.result (omega (arith, first, later))

pub returns-in-Some-clause-made : goal.returns-in-Some-clause-made
returns-in-Some-clause-made g c =
    let kind = branch_kind g.P.Seal.Seal.TELLS in
    let old = g.T.Turns.means c.args.desk.now.turns in
    let was = g.T.Turns.saw c.args.desk.now.turns in
    let before = g.P.Port.counts c.args.desk.now.port.now in
    let mid = g.T.Turns.means c.look.new.turns in
    let between = g.T.Turns.saw c.look.new.turns in
    let counts = before in
    let new = g.T.Turns.means c.carry_out.new.desk.turns in
    let sees = g.T.Turns.saw c.carry_out.new.desk.turns in
    let after = g.P.Port.counts c.carry_out.new.desk.port.now in
    relieved_on kind old mid new was between sees c.args.node c.args.least c.carry_out.result c.look.ensures.quiet c.carry_out.ensures.made

pub returns-in-Some-clause-cause : goal.returns-in-Some-clause-cause
returns-in-Some-clause-cause g c =
    let kind = branch_kind g.P.Seal.Seal.TELLS in
    let old = g.T.Turns.means c.args.desk.now.turns in
    let was = g.T.Turns.saw c.args.desk.now.turns in
    let before = g.P.Port.counts c.args.desk.now.port.now in
    let mid = g.T.Turns.means c.look.new.turns in
    let between = g.T.Turns.saw c.look.new.turns in
    let counts = before in
    let new = g.T.Turns.means c.carry_out.new.desk.turns in
    let sees = g.T.Turns.saw c.carry_out.new.desk.turns in
    let after = g.P.Port.counts c.carry_out.new.desk.port.now in
    stopped_on kind old mid new was between sees c.carry_out.result before counts after c.look.ensures.quiet (counts_same before) c.carry_out.ensures.cause

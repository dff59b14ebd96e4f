use Rattle.std.proofs.Common.{◌≡◌, ◌≤◌, ◌<◌, ◌∙◌, ℕ, Bool, true, Option, Some, None, refl, sym, ap, subst, inl, inr, arith}
use Rattle.std.specs.Prelude.{Ok, IfOk, IfSome}
use Rattle.spl_desk.specs.Branches.{branch_kind}
use Rattle.spl_desk.specs.Quiet.{HasWorkCause}
use Rattle.spl_desk.proofs.Quiet.{cause_behind, counts_on, counts_same, made_before, made_behind, quiet_none, quiet_then}
use Rattle.spl_worker.proofs.Parts.{gone_on, if_err_same, on_ok, passed_on, relieved_on, still_named, still_way, stopped_on, turns_worked, went_on, worked_on}
use Rattle.spl_worker.specs.Reliefs.{WasRelieved}
use Rattle.spl_worker.specs.Works.{WasWork, work_of}
use Rattle.spl_worker.proofs.Parts.{search_named}
use Rattle.spl_worker.proofs.Shown.{work_behind, work_shown}
use Rattle.spl_worker.specs.declared.work.Work.{Work}
use Rattle.spl_worker.proofs.working.work_from_root.Goals as goal

pub returns-in_err-relief-clause-worked : goal.returns-in_err-relief-clause-worked
returns-in_err-relief-clause-worked g c =
    let kind = branch_kind g.P.Seal.Seal.TELLS in
    let old = g.T.Turns.means c.args.desk.now.turns in
    let was = g.T.Turns.saw c.args.desk.now.turns in
    let before = g.P.Port.counts c.args.desk.now.port.now in
    let mid = g.T.Turns.means c.work.desk.turns in
    let between = g.T.Turns.saw c.work.desk.turns in
    let counts = g.P.Port.counts c.work.desk.port.now in
    let new = g.T.Turns.means c.relieve.new.desk.turns in
    let sees = g.T.Turns.saw c.relieve.new.desk.turns in
    let after = g.P.Port.counts c.relieve.new.desk.port.now in
    worked_on kind old mid new was between sees before counts after c.work.invariant.worked c.relieve.ensures.worked

pub returns-in_err-relief-clause-cause : goal.returns-in_err-relief-clause-cause
returns-in_err-relief-clause-cause g c =
    let kind = branch_kind g.P.Seal.Seal.TELLS in
    let old = g.T.Turns.means c.args.desk.now.turns in
    let was = g.T.Turns.saw c.args.desk.now.turns in
    let before = g.P.Port.counts c.args.desk.now.port.now in
    let mid = g.T.Turns.means c.work.desk.turns in
    let between = g.T.Turns.saw c.work.desk.turns in
    let counts = g.P.Port.counts c.work.desk.port.now in
    let new = g.T.Turns.means c.relieve.new.desk.turns in
    let sees = g.T.Turns.saw c.relieve.new.desk.turns in
    let after = g.P.Port.counts c.relieve.new.desk.port.now in
    if_err_same c.from_residual.result c.in_err-relief.field-0.0 (HasWorkCause kind old was new sees before after) c.from_residual.ensures.1
    (cause_behind kind old mid new was between sees before counts after c.in_err-relief.field-0.0 c.work.invariant.worked.quiet c.work.invariant.worked.port c.in_err-relief.ensures.cause)

pub work-preserved : goal.work-preserved
work-preserved g c =
    let kind = branch_kind g.P.Seal.Seal.TELLS in
    let old = g.T.Turns.means c.args.desk.now.turns in
    let was = g.T.Turns.saw c.args.desk.now.turns in
    let before = g.P.Port.counts c.args.desk.now.port.now in
    let mid = g.T.Turns.means c.work.desk.turns in
    let between = g.T.Turns.saw c.work.desk.turns in
    let counts = g.P.Port.counts c.work.desk.port.now in
    let new = g.T.Turns.means c.relieve.new.desk.turns in
    let sees = g.T.Turns.saw c.relieve.new.desk.turns in
    let after = g.P.Port.counts c.relieve.new.desk.port.now in
    record {
      worked = worked_on kind old mid new was between sees before counts after c.work.invariant.worked c.relieve.ensures.worked;
      went = gone_on old mid new c.work.invariant.went c.in_ok-relief.ensures.went;
      ready = c.relieve.ensures.ready;
      law = c.relieve.ensures.law ∙ c.work.invariant.law;
      pager = c.relieve.ensures.pager ∙ c.work.invariant.pager;
      device = c.relieve.ensures.device ∙ c.work.invariant.device;
      faults = c.in_ok-relief.ensures.faults ∙ c.work.invariant.faults;
      named = search_named kind mid new between sees c.work.at c.least_at.result c.in-Some.next c.in_ok-relief.relief (sym c.next_of.ensures ∙ c.in-Some.is) c.in_ok-relief.ensures.made;
    }

pub returns-in-None-clause-worked : goal.returns-in-None-clause-worked
returns-in-None-clause-worked g c =
    let kind = branch_kind g.P.Seal.Seal.TELLS in
    let old = g.T.Turns.means c.args.desk.now.turns in
    let was = g.T.Turns.saw c.args.desk.now.turns in
    let before = g.P.Port.counts c.args.desk.now.port.now in
    let mid = g.T.Turns.means c.work.desk.turns in
    let between = g.T.Turns.saw c.work.desk.turns in
    let counts = g.P.Port.counts c.work.desk.port.now in
    let new = g.T.Turns.means c.relieve.new.desk.turns in
    let sees = g.T.Turns.saw c.relieve.new.desk.turns in
    let after = g.P.Port.counts c.relieve.new.desk.port.now in
    worked_on kind old mid new was between sees before counts after c.work.invariant.worked c.relieve.ensures.worked

pub returns-in-None-clause-made : goal.returns-in-None-clause-made
returns-in-None-clause-made g c =
    let kind = branch_kind g.P.Seal.Seal.TELLS in
    let old = g.T.Turns.means c.args.desk.now.turns in
    let was = g.T.Turns.saw c.args.desk.now.turns in
    let before = g.P.Port.counts c.args.desk.now.port.now in
    let mid = g.T.Turns.means c.work.desk.turns in
    let between = g.T.Turns.saw c.work.desk.turns in
    let counts = g.P.Port.counts c.work.desk.port.now in
    let new = g.T.Turns.means c.relieve.new.desk.turns in
    let sees = g.T.Turns.saw c.relieve.new.desk.turns in
    let after = g.P.Port.counts c.relieve.new.desk.port.now in
    let least = c.args.least in
    let relief = c.in_ok-relief.relief in
    subst (λ (w : Work). WasWork kind old was new sees least w) (sym c.work_of.ensures)
    (work_behind kind old mid new was between sees least (work_of relief) c.work.invariant.worked.quiet
    (work_shown kind mid new between sees c.work.at least relief (sym c.next_of.ensures ∙ c.in-None.is)
    (subst (λ (n : ℕ). WasRelieved kind mid between new sees c.work.at n relief) c.least_at.ensures c.in_ok-relief.ensures.made)))

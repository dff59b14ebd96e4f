use Rattle.std.proofs.Common.{◌≡◌, ◌≤◌, ◌<◌, ◌∙◌, ℕ, Bool, true, Option, Some, None, refl, sym, ap, subst, inl, inr, arith}
use Rattle.std.specs.Prelude.{Ok, IfOk, IfSome}
use Rattle.spl_desk.specs.Branches.{branch_kind}
use Rattle.spl_desk.specs.Quiet.{HasWorkCause}
use Rattle.spl_desk.proofs.Quiet.{cause_behind, counts_on, counts_same, made_before, made_behind, quiet_none, quiet_then}
use Rattle.spl_worker.proofs.Parts.{gone_on, if_err_same, on_ok, passed_on, relieved_on, still_named, still_way, stopped_on, turns_worked, went_on, worked_on}
use Rattle.spl_worker.specs.Reliefs.{WasPassed}
use Rattle.spl_worker.proofs.Shown.{raised_shows}
use Rattle.spl_worker.proofs.Parts.{grow_cause}
use Rattle.spl_worker.specs.declared.relief.Relief.{Relief}
use Rattle.spl_worker.proofs.relieving.raise.Goals as goal

pub returns-in_err-raise_root-clause-worked : goal.returns-in_err-raise_root-clause-worked
returns-in_err-raise_root-clause-worked g c =
    let kind = branch_kind g.P.Seal.Seal.TELLS in
    let old = g.T.Turns.means c.args.desk.now.turns in
    let was = g.T.Turns.saw c.args.desk.now.turns in
    let before = g.P.Port.counts c.args.desk.now.port.now in
    let new = g.T.Turns.means c.raise_root.new.turns in
    let sees = g.T.Turns.saw c.raise_root.new.turns in
    let after = before in
    turns_worked kind old new was sees before c.raise_root.ensures.quiet c.raise_root.ensures.nothing

pub returns-clause-worked : goal.returns-clause-worked
returns-clause-worked g c =
    let kind = branch_kind g.P.Seal.Seal.TELLS in
    let old = g.T.Turns.means c.args.desk.now.turns in
    let was = g.T.Turns.saw c.args.desk.now.turns in
    let before = g.P.Port.counts c.args.desk.now.port.now in
    let new = g.T.Turns.means c.raise_root.new.turns in
    let sees = g.T.Turns.saw c.raise_root.new.turns in
    let after = before in
    turns_worked kind old new was sees before c.raise_root.ensures.quiet c.raise_root.ensures.nothing

pub returns-in_err-raise_root-clause-cause : goal.returns-in_err-raise_root-clause-cause
returns-in_err-raise_root-clause-cause g c =
    let kind = branch_kind g.P.Seal.Seal.TELLS in
    let old = g.T.Turns.means c.args.desk.now.turns in
    let was = g.T.Turns.saw c.args.desk.now.turns in
    let before = g.P.Port.counts c.args.desk.now.port.now in
    let new = g.T.Turns.means c.raise_root.new.turns in
    let sees = g.T.Turns.saw c.raise_root.new.turns in
    let after = before in
    if_err_same c.from_residual.result c.in_err-raise_root.field-0.0 (HasWorkCause kind old was new sees before after) c.from_residual.ensures.1
    (grow_cause kind old new was sees before after c.in_err-raise_root.field-0.0 c.in_err-raise_root.ensures.cause)

pub returns-clause-went : goal.returns-clause-went
returns-clause-went g c =
    record { few = c.in_ok-raise_root.ensures.ok_few; told = c.in_ok-raise_root.ensures.told }

pub returns-clause-made : goal.returns-clause-made
returns-clause-made g c =
    let kind = branch_kind g.P.Seal.Seal.TELLS in
    let old = g.T.Turns.means c.args.desk.now.turns in
    let was = g.T.Turns.saw c.args.desk.now.turns in
    let before = g.P.Port.counts c.args.desk.now.port.now in
    let new = g.T.Turns.means c.raise_root.new.turns in
    let sees = g.T.Turns.saw c.raise_root.new.turns in
    let after = before in
    subst (λ (r : Relief). WasPassed kind old was new sees r) (sym c.raised_relief.ensures)
    (raised_shows c.in_ok-raise_root.field-0 kind old new was sees c.in_ok-raise_root.ensures.made)

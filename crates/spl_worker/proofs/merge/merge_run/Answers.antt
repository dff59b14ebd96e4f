use Rattle.std.proofs.Common.{◌≡◌, ◌≤◌, ◌<◌, ◌∙◌, ℕ, Bool, true, Option, Some, None, refl, sym, ap, subst, inl, inr, arith}
use Rattle.std.specs.Prelude.{Ok, IfOk, IfSome}
use Rattle.spl_desk.specs.Branches.{branch_kind}
use Rattle.spl_desk.specs.Quiet.{HasWorkCause}
use Rattle.spl_desk.proofs.Quiet.{cause_behind, counts_on, counts_same, made_before, made_behind, quiet_none, quiet_then}
use Rattle.spl_worker.proofs.Parts.{gone_on, if_err_same, on_ok, passed_on, relieved_on, still_named, still_way, stopped_on, turns_worked, went_on, worked_on}
use Rattle.spl_worker.specs.Reliefs.{WasPassed}
use Rattle.spl_worker.proofs.Shown.{merged_shows}
use Rattle.spl_worker.specs.declared.relief.Relief.{Relief}
use Rattle.spl_worker.proofs.merge.merge_run.Goals as goal

pub returns-in_err-compact-clause-worked : goal.returns-in_err-compact-clause-worked
returns-in_err-compact-clause-worked g c =
    let kind = branch_kind g.P.Seal.Seal.TELLS in
    let old = g.T.Turns.means c.args.desk.now.turns in
    let was = g.T.Turns.saw c.args.desk.now.turns in
    let before = g.P.Port.counts c.args.desk.now.port.now in
    let new = g.T.Turns.means c.compact.new.desk.turns in
    let sees = g.T.Turns.saw c.compact.new.desk.turns in
    let after = g.P.Port.counts c.compact.new.desk.port.now in
    record { quiet = c.compact.ensures.quiet; nothing = c.compact.ensures.nothing; port = c.compact.ensures.port }

pub returns-clause-worked : goal.returns-clause-worked
returns-clause-worked g c =
    let kind = branch_kind g.P.Seal.Seal.TELLS in
    let old = g.T.Turns.means c.args.desk.now.turns in
    let was = g.T.Turns.saw c.args.desk.now.turns in
    let before = g.P.Port.counts c.args.desk.now.port.now in
    let new = g.T.Turns.means c.compact.new.desk.turns in
    let sees = g.T.Turns.saw c.compact.new.desk.turns in
    let after = g.P.Port.counts c.compact.new.desk.port.now in
    record { quiet = c.compact.ensures.quiet; nothing = c.compact.ensures.nothing; port = c.compact.ensures.port }

pub returns-clause-went : goal.returns-clause-went
returns-clause-went g c =
    record { few = c.in_ok-compact.ensures.ok_few; told = c.in_ok-compact.ensures.told }

pub returns-clause-made : goal.returns-clause-made
returns-clause-made g c =
    let kind = branch_kind g.P.Seal.Seal.TELLS in
    let old = g.T.Turns.means c.args.desk.now.turns in
    let was = g.T.Turns.saw c.args.desk.now.turns in
    let before = g.P.Port.counts c.args.desk.now.port.now in
    let new = g.T.Turns.means c.compact.new.desk.turns in
    let sees = g.T.Turns.saw c.compact.new.desk.turns in
    let after = g.P.Port.counts c.compact.new.desk.port.now in
    subst (λ (r : Relief). WasPassed kind old was new sees r) (sym c.merged_relief.ensures)
    (merged_shows c.args.node c.args.run.first c.args.run.last c.in_ok-compact.field-0 kind old new was sees c.in_ok-compact.ensures.made)

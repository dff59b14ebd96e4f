use Rattle.std.proofs.Common.{◌≡◌, ◌≤◌, ◌<◌, ◌∙◌, ℕ, Bool, true, Option, Some, None, refl, sym, ap, subst, inl, inr, arith}
use Rattle.std.specs.Prelude.{Ok, IfOk, IfSome}
use Rattle.spl_desk.specs.Branches.{branch_kind}
use Rattle.spl_desk.specs.Quiet.{HasWorkCause}
use Rattle.spl_desk.proofs.Quiet.{cause_behind, counts_on, counts_same, made_before, made_behind, quiet_none, quiet_then}
use Rattle.spl_worker.proofs.Parts.{gone_on, if_err_same, on_ok, passed_on, relieved_on, still_named, still_way, stopped_on, turns_worked, went_on, worked_on}
use Rattle.spl_worker.proofs.passing.pass_down.Goals as goal

pub returns-in_err-below-clause-worked : goal.returns-in_err-below-clause-worked
returns-in_err-below-clause-worked g c =
    let kind = branch_kind g.P.Seal.Seal.TELLS in
    let old = g.T.Turns.means c.args.desk.now.turns in
    let was = g.T.Turns.saw c.args.desk.now.turns in
    let before = g.P.Port.counts c.args.desk.now.port.now in
    let new = g.T.Turns.means c.look.new.turns in
    let sees = g.T.Turns.saw c.look.new.turns in
    let after = before in
    turns_worked kind old new was sees before c.look.ensures.quiet c.look.ensures.nothing

pub go_down-requires-clause-way : goal.go_down-requires-clause-way
go_down-requires-clause-way g c κs within =
    still_way (g.T.Turns.means c.args.desk.now.turns) (g.T.Turns.means c.look.new.turns) c.args.node c.args.way c.in_ok-below.ensures.more c.requires.way

pub returns-clause-worked : goal.returns-clause-worked
returns-clause-worked g c =
    let kind = branch_kind g.P.Seal.Seal.TELLS in
    let old = g.T.Turns.means c.args.desk.now.turns in
    let was = g.T.Turns.saw c.args.desk.now.turns in
    let before = g.P.Port.counts c.args.desk.now.port.now in
    let mid = g.T.Turns.means c.look.new.turns in
    let between = g.T.Turns.saw c.look.new.turns in
    let counts = before in
    let new = g.T.Turns.means c.go_down.new.desk.turns in
    let sees = g.T.Turns.saw c.go_down.new.desk.turns in
    let after = g.P.Port.counts c.go_down.new.desk.port.now in
    worked_on kind old mid new was between sees before counts after (turns_worked kind old mid was between before c.look.ensures.quiet c.look.ensures.nothing) (c.go_down.ensures.worked)

pub returns-clause-went : goal.returns-clause-went
returns-clause-went g c =
    let kind = branch_kind g.P.Seal.Seal.TELLS in
    let old = g.T.Turns.means c.args.desk.now.turns in
    let was = g.T.Turns.saw c.args.desk.now.turns in
    let before = g.P.Port.counts c.args.desk.now.port.now in
    let mid = g.T.Turns.means c.look.new.turns in
    let between = g.T.Turns.saw c.look.new.turns in
    let counts = before in
    let new = g.T.Turns.means c.go_down.new.desk.turns in
    let sees = g.T.Turns.saw c.go_down.new.desk.turns in
    let after = g.P.Port.counts c.go_down.new.desk.port.now in
    went_on old mid new c.go_down.result (record { few = c.look.ensures.few; told = c.in_ok-below.ensures.more }) c.go_down.ensures.went

pub returns-clause-made : goal.returns-clause-made
returns-clause-made g c =
    let kind = branch_kind g.P.Seal.Seal.TELLS in
    let old = g.T.Turns.means c.args.desk.now.turns in
    let was = g.T.Turns.saw c.args.desk.now.turns in
    let before = g.P.Port.counts c.args.desk.now.port.now in
    let mid = g.T.Turns.means c.look.new.turns in
    let between = g.T.Turns.saw c.look.new.turns in
    let counts = before in
    let new = g.T.Turns.means c.go_down.new.desk.turns in
    let sees = g.T.Turns.saw c.go_down.new.desk.turns in
    let after = g.P.Port.counts c.go_down.new.desk.port.now in
    passed_on kind old mid new was between sees c.go_down.result c.look.ensures.quiet c.go_down.ensures.made

pub returns-clause-cause : goal.returns-clause-cause
returns-clause-cause g c =
    let kind = branch_kind g.P.Seal.Seal.TELLS in
    let old = g.T.Turns.means c.args.desk.now.turns in
    let was = g.T.Turns.saw c.args.desk.now.turns in
    let before = g.P.Port.counts c.args.desk.now.port.now in
    let mid = g.T.Turns.means c.look.new.turns in
    let between = g.T.Turns.saw c.look.new.turns in
    let counts = before in
    let new = g.T.Turns.means c.go_down.new.desk.turns in
    let sees = g.T.Turns.saw c.go_down.new.desk.turns in
    let after = g.P.Port.counts c.go_down.new.desk.port.now in
    stopped_on kind old mid new was between sees c.go_down.result before counts after c.look.ensures.quiet (counts_same before) c.go_down.ensures.cause

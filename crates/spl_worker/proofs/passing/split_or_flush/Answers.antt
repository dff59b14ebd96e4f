use Rattle.std.proofs.Common.{◌≡◌, ◌≤◌, ◌<◌, ◌∙◌, ℕ, Bool, true, Option, Some, None, refl, sym, ap, subst, inl, inr, arith}
use Rattle.std.specs.Prelude.{Ok, IfOk, IfSome}
use Rattle.spl_desk.specs.Branches.{branch_kind}
use Rattle.spl_desk.specs.Quiet.{HasWorkCause}
use Rattle.spl_desk.proofs.Quiet.{cause_behind, counts_on, counts_same, made_before, made_behind, quiet_none, quiet_then}
use Rattle.spl_worker.proofs.Parts.{gone_on, if_err_same, on_ok, passed_on, relieved_on, still_named, still_way, stopped_on, turns_worked, went_on, worked_on}
use Rattle.spl_worker.specs.Reliefs.{Grows, Made}
use Rattle.spl_worker.specs.Stale.{ShowsStale}
use Rattle.spl_worker.proofs.Shown.{child_busy, child_grows, child_moved, child_unneeded, made_so}
use Rattle.spl_worker.proofs.Parts.{grow_cause}
use Rattle.spl_grower.specs.Ends.{IsChildEnd}
use Rattle.spl_grower.specs.declared.grown.Grown.{Grown}
use Rattle.spl_grower.specs.declared.grown.Grown.TheVariants as grown
use Rattle.spl_worker.proofs.passing.split_or_flush.Goals as goal

pub returns-in_err-split_child-clause-worked : goal.returns-in_err-split_child-clause-worked
returns-in_err-split_child-clause-worked g c =
    let kind = branch_kind g.P.Seal.Seal.TELLS in
    let old = g.T.Turns.means c.args.desk.now.turns in
    let was = g.T.Turns.saw c.args.desk.now.turns in
    let before = g.P.Port.counts c.args.desk.now.port.now in
    let new = g.T.Turns.means c.split_child.new.turns in
    let sees = g.T.Turns.saw c.split_child.new.turns in
    let after = before in
    turns_worked kind old new was sees before c.split_child.ensures.quiet c.split_child.ensures.nothing

pub returns-in_err-split_child-clause-cause : goal.returns-in_err-split_child-clause-cause
returns-in_err-split_child-clause-cause g c =
    let kind = branch_kind g.P.Seal.Seal.TELLS in
    let old = g.T.Turns.means c.args.desk.now.turns in
    let was = g.T.Turns.saw c.args.desk.now.turns in
    let before = g.P.Port.counts c.args.desk.now.port.now in
    let new = g.T.Turns.means c.split_child.new.turns in
    let sees = g.T.Turns.saw c.split_child.new.turns in
    let after = before in
    if_err_same c.from_residual.result c.in_err-split_child.field-0.0 (HasWorkCause kind old was new sees before after) c.from_residual.ensures.1
    (grow_cause kind old new was sees before after c.in_err-split_child.field-0.0 c.in_err-split_child.ensures.cause)

pub returns-in-Done-clause-worked : goal.returns-in-Done-clause-worked
returns-in-Done-clause-worked g c =
    let kind = branch_kind g.P.Seal.Seal.TELLS in
    let old = g.T.Turns.means c.args.desk.now.turns in
    let was = g.T.Turns.saw c.args.desk.now.turns in
    let before = g.P.Port.counts c.args.desk.now.port.now in
    let new = g.T.Turns.means c.split_child.new.turns in
    let sees = g.T.Turns.saw c.split_child.new.turns in
    let after = before in
    turns_worked kind old new was sees before c.split_child.ensures.quiet c.split_child.ensures.nothing

pub returns-in-Done-clause-went : goal.returns-in-Done-clause-went
returns-in-Done-clause-went g c =
    record { few = c.in_ok-split_child.ensures.ok_few; told = c.in_ok-split_child.ensures.told }

pub returns-in-Done-clause-made : goal.returns-in-Done-clause-made
returns-in-Done-clause-made g c = λ history saw.
    let kind = branch_kind g.P.Seal.Seal.TELLS in
    let old = g.T.Turns.means c.args.desk.now.turns in
    let was = g.T.Turns.saw c.args.desk.now.turns in
    let before = g.P.Port.counts c.args.desk.now.port.now in
    let new = g.T.Turns.means c.split_child.new.turns in
    let sees = g.T.Turns.saw c.split_child.new.turns in
    let after = before in
    made_so kind old history new sees (IsChildEnd c.args.node c.args.way.child grown.Done) Grows (child_grows c.args.node c.args.way.child)
    (subst (λ (x : Grown). Made kind old was new sees (IsChildEnd c.args.node c.args.way.child x)) c.in-Done.is c.in_ok-split_child.ensures.made history saw)

pub flush_where_room-requires-clause-way : goal.flush_where_room-requires-clause-way
flush_where_room-requires-clause-way g c κs within =
    still_way (g.T.Turns.means c.args.desk.now.turns) (g.T.Turns.means c.split_child.new.turns) c.args.node c.args.way c.in_ok-split_child.ensures.told c.requires.way

pub returns-in-Full-clause-worked : goal.returns-in-Full-clause-worked
returns-in-Full-clause-worked g c =
    let kind = branch_kind g.P.Seal.Seal.TELLS in
    let old = g.T.Turns.means c.args.desk.now.turns in
    let was = g.T.Turns.saw c.args.desk.now.turns in
    let before = g.P.Port.counts c.args.desk.now.port.now in
    let mid = g.T.Turns.means c.split_child.new.turns in
    let between = g.T.Turns.saw c.split_child.new.turns in
    let counts = before in
    let new = g.T.Turns.means c.flush_where_room.new.desk.turns in
    let sees = g.T.Turns.saw c.flush_where_room.new.desk.turns in
    let after = g.P.Port.counts c.flush_where_room.new.desk.port.now in
    worked_on kind old mid new was between sees before counts after (turns_worked kind old mid was between before c.split_child.ensures.quiet c.split_child.ensures.nothing) (c.flush_where_room.ensures.worked)

pub returns-in-Full-clause-went : goal.returns-in-Full-clause-went
returns-in-Full-clause-went g c =
    let kind = branch_kind g.P.Seal.Seal.TELLS in
    let old = g.T.Turns.means c.args.desk.now.turns in
    let was = g.T.Turns.saw c.args.desk.now.turns in
    let before = g.P.Port.counts c.args.desk.now.port.now in
    let mid = g.T.Turns.means c.split_child.new.turns in
    let between = g.T.Turns.saw c.split_child.new.turns in
    let counts = before in
    let new = g.T.Turns.means c.flush_where_room.new.desk.turns in
    let sees = g.T.Turns.saw c.flush_where_room.new.desk.turns in
    let after = g.P.Port.counts c.flush_where_room.new.desk.port.now in
    went_on old mid new c.flush_where_room.result (record { few = c.in_ok-split_child.ensures.ok_few; told = c.in_ok-split_child.ensures.told }) c.flush_where_room.ensures.went

pub returns-in-Full-clause-made : goal.returns-in-Full-clause-made
returns-in-Full-clause-made g c =
    let kind = branch_kind g.P.Seal.Seal.TELLS in
    let old = g.T.Turns.means c.args.desk.now.turns in
    let was = g.T.Turns.saw c.args.desk.now.turns in
    let before = g.P.Port.counts c.args.desk.now.port.now in
    let mid = g.T.Turns.means c.split_child.new.turns in
    let between = g.T.Turns.saw c.split_child.new.turns in
    let counts = before in
    let new = g.T.Turns.means c.flush_where_room.new.desk.turns in
    let sees = g.T.Turns.saw c.flush_where_room.new.desk.turns in
    let after = g.P.Port.counts c.flush_where_room.new.desk.port.now in
    passed_on kind old mid new was between sees c.flush_where_room.result c.split_child.ensures.quiet c.flush_where_room.ensures.made

pub returns-in-Full-clause-cause : goal.returns-in-Full-clause-cause
returns-in-Full-clause-cause g c =
    let kind = branch_kind g.P.Seal.Seal.TELLS in
    let old = g.T.Turns.means c.args.desk.now.turns in
    let was = g.T.Turns.saw c.args.desk.now.turns in
    let before = g.P.Port.counts c.args.desk.now.port.now in
    let mid = g.T.Turns.means c.split_child.new.turns in
    let between = g.T.Turns.saw c.split_child.new.turns in
    let counts = before in
    let new = g.T.Turns.means c.flush_where_room.new.desk.turns in
    let sees = g.T.Turns.saw c.flush_where_room.new.desk.turns in
    let after = g.P.Port.counts c.flush_where_room.new.desk.port.now in
    stopped_on kind old mid new was between sees c.flush_where_room.result before counts after c.split_child.ensures.quiet (counts_same before) c.flush_where_room.ensures.cause

pub returns-in-Unneeded-clause-worked : goal.returns-in-Unneeded-clause-worked
returns-in-Unneeded-clause-worked g c =
    let kind = branch_kind g.P.Seal.Seal.TELLS in
    let old = g.T.Turns.means c.args.desk.now.turns in
    let was = g.T.Turns.saw c.args.desk.now.turns in
    let before = g.P.Port.counts c.args.desk.now.port.now in
    let new = g.T.Turns.means c.split_child.new.turns in
    let sees = g.T.Turns.saw c.split_child.new.turns in
    let after = before in
    turns_worked kind old new was sees before c.split_child.ensures.quiet c.split_child.ensures.nothing

pub returns-in-Unneeded-clause-went : goal.returns-in-Unneeded-clause-went
returns-in-Unneeded-clause-went g c =
    record { few = c.in_ok-split_child.ensures.ok_few; told = c.in_ok-split_child.ensures.told }

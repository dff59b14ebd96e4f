use Rattle.std.proofs.Common.{◌≡◌, ◌≤◌, ◌<◌, ◌∙◌, ℕ, Bool, true, Option, Some, None, refl, sym, ap, subst, inl, inr, arith}
use Rattle.std.specs.Prelude.{Ok, IfOk, IfSome}
use Rattle.spl_desk.specs.Branches.{branch_kind}
use Rattle.spl_desk.specs.Quiet.{HasWorkCause}
use Rattle.spl_desk.proofs.Quiet.{cause_behind, counts_on, counts_same, made_before, made_behind, quiet_none, quiet_then}
use Rattle.spl_worker.proofs.Parts.{gone_on, if_err_same, on_ok, passed_on, relieved_on, still_named, still_way, stopped_on, turns_worked, went_on, worked_on}
use Rattle.spl_bundle.specs.declared.bundles.TheConstants.{MAX_LISTS}
use Rattle.spl_state.specs.declared.reply.Reply.TheVariants.{Nothing}
use Rattle.spl_packer.specs.Outcomes.{ShowsPacked, WasPacked}
use Rattle.spl_packer.specs.declared.packed.Packed.{Packed}
use Rattle.spl_packer.specs.declared.packed.Packed.TheVariants as packed
use Rattle.spl_worker.specs.Stale.{ShowsStale}
use Rattle.spl_worker.specs.Works.{WasWork}
use Rattle.spl_worker.proofs.Shown.{busy_shown, hung_stale, made_so, works_on}
use Rattle.spl_worker.specs.declared.work.Work.{Work}
use Rattle.spl_worker.proofs.working.work_once.Goals as goal

pub returns-in_err-work_from_root-in-NeedsFlush-clause-quiet : goal.returns-in_err-work_from_root-in-NeedsFlush-clause-quiet
returns-in_err-work_from_root-in-NeedsFlush-clause-quiet g c =
    let kind = branch_kind g.P.Seal.Seal.TELLS in
    let old = g.T.Turns.means c.args.desk.now.turns in
    let was = g.T.Turns.saw c.args.desk.now.turns in
    let before = g.P.Port.counts c.args.desk.now.port.now in
    let mid = g.T.Turns.means c.pack.new.desk.turns in
    let between = g.T.Turns.saw c.pack.new.desk.turns in
    let counts = g.P.Port.counts c.pack.new.desk.port.now in
    let new = g.T.Turns.means c.work_from_root.new.desk.turns in
    let sees = g.T.Turns.saw c.work_from_root.new.desk.turns in
    let after = g.P.Port.counts c.work_from_root.new.desk.port.now in
    quiet_then kind old mid new was between sees c.pack.ensures.quiet c.work_from_root.ensures.worked.quiet

pub returns-in_err-work_from_root-in-NeedsFlush-clause-cause : goal.returns-in_err-work_from_root-in-NeedsFlush-clause-cause
returns-in_err-work_from_root-in-NeedsFlush-clause-cause g c =
    let kind = branch_kind g.P.Seal.Seal.TELLS in
    let old = g.T.Turns.means c.args.desk.now.turns in
    let was = g.T.Turns.saw c.args.desk.now.turns in
    let before = g.P.Port.counts c.args.desk.now.port.now in
    let mid = g.T.Turns.means c.pack.new.desk.turns in
    let between = g.T.Turns.saw c.pack.new.desk.turns in
    let counts = g.P.Port.counts c.pack.new.desk.port.now in
    let new = g.T.Turns.means c.work_from_root.new.desk.turns in
    let sees = g.T.Turns.saw c.work_from_root.new.desk.turns in
    let after = g.P.Port.counts c.work_from_root.new.desk.port.now in
    if_err_same c.from_residual-in_err-work_from_root-in-NeedsFlush.result c.in_err-work_from_root-in-NeedsFlush.field-0.0 (HasWorkCause kind old was new sees before after) c.from_residual-in_err-work_from_root-in-NeedsFlush.ensures.1
    (cause_behind kind old mid new was between sees before counts after c.in_err-work_from_root-in-NeedsFlush.field-0.0 c.pack.ensures.quiet c.pack.ensures.port c.in_err-work_from_root-in-NeedsFlush.ensures.cause)

pub returns-in-Done-clause-made : goal.returns-in-Done-clause-made
returns-in-Done-clause-made g c =
    let kind = branch_kind g.P.Seal.Seal.TELLS in
    let old = g.T.Turns.means c.args.desk.now.turns in
    let was = g.T.Turns.saw c.args.desk.now.turns in
    let before = g.P.Port.counts c.args.desk.now.port.now in
    let new = g.T.Turns.means c.pack.new.desk.turns in
    let sees = g.T.Turns.saw c.pack.new.desk.turns in
    let after = g.P.Port.counts c.pack.new.desk.port.now in
    subst (λ (p : Packed). WasPacked kind old was new sees p) c.in-Done.is c.in_ok-pack.ensures.made

pub returns-in-NotOldest-clause-made : goal.returns-in-NotOldest-clause-made
returns-in-NotOldest-clause-made g c = λ history saw.
    let kind = branch_kind g.P.Seal.Seal.TELLS in
    let old = g.T.Turns.means c.args.desk.now.turns in
    let was = g.T.Turns.saw c.args.desk.now.turns in
    let before = g.P.Port.counts c.args.desk.now.port.now in
    let new = g.T.Turns.means c.pack.new.desk.turns in
    let sees = g.T.Turns.saw c.pack.new.desk.turns in
    let after = g.P.Port.counts c.pack.new.desk.port.now in
    made_so kind old history new sees (ShowsPacked packed.NotOldest) ShowsStale hung_stale (subst (λ (p : Packed). WasPacked kind old was new sees p) c.in-NotOldest.is c.in_ok-pack.ensures.made history saw)

pub returns-in_ok-work_from_root-in-NeedsFlush-clause-quiet : goal.returns-in_ok-work_from_root-in-NeedsFlush-clause-quiet
returns-in_ok-work_from_root-in-NeedsFlush-clause-quiet g c =
    let kind = branch_kind g.P.Seal.Seal.TELLS in
    let old = g.T.Turns.means c.args.desk.now.turns in
    let was = g.T.Turns.saw c.args.desk.now.turns in
    let before = g.P.Port.counts c.args.desk.now.port.now in
    let mid = g.T.Turns.means c.pack.new.desk.turns in
    let between = g.T.Turns.saw c.pack.new.desk.turns in
    let counts = g.P.Port.counts c.pack.new.desk.port.now in
    let new = g.T.Turns.means c.work_from_root.new.desk.turns in
    let sees = g.T.Turns.saw c.work_from_root.new.desk.turns in
    let after = g.P.Port.counts c.work_from_root.new.desk.port.now in
    quiet_then kind old mid new was between sees c.pack.ensures.quiet c.work_from_root.ensures.worked.quiet

pub returns-in_ok-work_from_root-in-NeedsFlush-clause-made : goal.returns-in_ok-work_from_root-in-NeedsFlush-clause-made
returns-in_ok-work_from_root-in-NeedsFlush-clause-made g c =
    let kind = branch_kind g.P.Seal.Seal.TELLS in
    let old = g.T.Turns.means c.args.desk.now.turns in
    let was = g.T.Turns.saw c.args.desk.now.turns in
    let before = g.P.Port.counts c.args.desk.now.port.now in
    let mid = g.T.Turns.means c.pack.new.desk.turns in
    let between = g.T.Turns.saw c.pack.new.desk.turns in
    let counts = g.P.Port.counts c.pack.new.desk.port.now in
    let new = g.T.Turns.means c.work_from_root.new.desk.turns in
    let sees = g.T.Turns.saw c.work_from_root.new.desk.turns in
    let after = g.P.Port.counts c.work_from_root.new.desk.port.now in
    subst (λ (w : Work). WasWork kind old was new sees 12 w) (sym c.unless_idle.ensures)
    (busy_shown kind old mid new was between sees MAX_LISTS 12 c.in_ok-work_from_root-in-NeedsFlush.field-0 c.pack.ensures.quiet (subst (λ (p : Packed). WasPacked kind old was mid between p) c.in-NeedsFlush.is c.in_ok-pack.ensures.made) c.work_from_root.ensures.worked.quiet c.in_ok-work_from_root-in-NeedsFlush.ensures.made)

pub returns-in-Nothing-clause-quiet : goal.returns-in-Nothing-clause-quiet
returns-in-Nothing-clause-quiet g c =
    let kind = branch_kind g.P.Seal.Seal.TELLS in
    let old = g.T.Turns.means c.args.desk.now.turns in
    let was = g.T.Turns.saw c.args.desk.now.turns in
    let before = g.P.Port.counts c.args.desk.now.port.now in
    let mid = g.T.Turns.means c.pack.new.desk.turns in
    let between = g.T.Turns.saw c.pack.new.desk.turns in
    let counts = g.P.Port.counts c.pack.new.desk.port.now in
    let new = g.T.Turns.means c.work_from_root-in-Nothing.new.desk.turns in
    let sees = g.T.Turns.saw c.work_from_root-in-Nothing.new.desk.turns in
    let after = g.P.Port.counts c.work_from_root-in-Nothing.new.desk.port.now in
    quiet_then kind old mid new was between sees c.pack.ensures.quiet c.work_from_root-in-Nothing.ensures.worked.quiet

pub returns-in-Nothing-clause-made : goal.returns-in-Nothing-clause-made
returns-in-Nothing-clause-made g c =
    let kind = branch_kind g.P.Seal.Seal.TELLS in
    let old = g.T.Turns.means c.args.desk.now.turns in
    let was = g.T.Turns.saw c.args.desk.now.turns in
    let before = g.P.Port.counts c.args.desk.now.port.now in
    let mid = g.T.Turns.means c.pack.new.desk.turns in
    let between = g.T.Turns.saw c.pack.new.desk.turns in
    let counts = g.P.Port.counts c.pack.new.desk.port.now in
    let new = g.T.Turns.means c.work_from_root-in-Nothing.new.desk.turns in
    let sees = g.T.Turns.saw c.work_from_root-in-Nothing.new.desk.turns in
    let after = g.P.Port.counts c.work_from_root-in-Nothing.new.desk.port.now in
    works_on kind old mid new was between sees 12 c.work_from_root-in-Nothing.result c.pack.ensures.quiet c.work_from_root-in-Nothing.ensures.made

pub returns-in-Nothing-clause-nothing_there : goal.returns-in-Nothing-clause-nothing_there
returns-in-Nothing-clause-nothing_there g c = λ running is.
    let kind = branch_kind g.P.Seal.Seal.TELLS in
    let old = g.T.Turns.means c.args.desk.now.turns in
    let was = g.T.Turns.saw c.args.desk.now.turns in
    let before = g.P.Port.counts c.args.desk.now.port.now in
    let mid = g.T.Turns.means c.pack.new.desk.turns in
    let between = g.T.Turns.saw c.pack.new.desk.turns in
    let counts = g.P.Port.counts c.pack.new.desk.port.now in
    let new = g.T.Turns.means c.work_from_root-in-Nothing.new.desk.turns in
    let sees = g.T.Turns.saw c.work_from_root-in-Nothing.new.desk.turns in
    let after = g.P.Port.counts c.work_from_root-in-Nothing.new.desk.port.now in
    made_before kind old mid new was between sees (λ turn. turn.reply ≡ Nothing) c.pack.ensures.quiet.same (subst (λ (p : Packed). WasPacked kind old was mid between p) c.in-Nothing.is c.in_ok-pack.ensures.made) c.work_from_root-in-Nothing.ensures.worked.quiet

pub returns-in-Nothing-clause-cause : goal.returns-in-Nothing-clause-cause
returns-in-Nothing-clause-cause g c =
    let kind = branch_kind g.P.Seal.Seal.TELLS in
    let old = g.T.Turns.means c.args.desk.now.turns in
    let was = g.T.Turns.saw c.args.desk.now.turns in
    let before = g.P.Port.counts c.args.desk.now.port.now in
    let mid = g.T.Turns.means c.pack.new.desk.turns in
    let between = g.T.Turns.saw c.pack.new.desk.turns in
    let counts = g.P.Port.counts c.pack.new.desk.port.now in
    let new = g.T.Turns.means c.work_from_root-in-Nothing.new.desk.turns in
    let sees = g.T.Turns.saw c.work_from_root-in-Nothing.new.desk.turns in
    let after = g.P.Port.counts c.work_from_root-in-Nothing.new.desk.port.now in
    stopped_on kind old mid new was between sees c.work_from_root-in-Nothing.result before counts after c.pack.ensures.quiet c.pack.ensures.port c.work_from_root-in-Nothing.ensures.cause

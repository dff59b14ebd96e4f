use Rattle.std.proofs.Common.{◌≡◌, ◌≤◌, ◌<◌, ◌∙◌, ℕ, Bool, true, Option, Some, None, refl, sym, ap, subst, inl, inr, arith}
use Rattle.std.specs.Prelude.{Ok, IfOk, IfSome}
use Rattle.spl_desk.specs.Branches.{branch_kind}
use Rattle.spl_desk.specs.Quiet.{HasWorkCause}
use Rattle.spl_desk.proofs.Quiet.{cause_behind, counts_on, counts_same, made_before, made_behind, quiet_none, quiet_then}
use Rattle.spl_worker.proofs.Parts.{gone_on, if_err_same, on_ok, passed_on, relieved_on, still_named, still_way, stopped_on, turns_worked, went_on, worked_on}
use Rattle.spl_packer.specs.Outcomes.{ShowsPacked, WasPacked}
use Rattle.spl_packer.specs.declared.packed.Packed.{Packed}
use Rattle.spl_packer.specs.declared.packed.Packed.TheVariants as packed
use Rattle.spl_worker.specs.Rooms.{MakesWay}
use Rattle.spl_worker.proofs.Shown.{made_so, way_free, way_made}
use Rattle.spl_worker.proofs.memtable_room.make_memtable_room.Goals as goal

pub returns-in_err-pack-clause-quiet : goal.returns-in_err-pack-clause-quiet
returns-in_err-pack-clause-quiet g c =
    let kind = branch_kind g.P.Seal.Seal.TELLS in
    let old = g.T.Turns.means c.args.desk.now.turns in
    let was = g.T.Turns.saw c.args.desk.now.turns in
    let before = g.P.Port.counts c.args.desk.now.port.now in
    let mid = g.T.Turns.means c.room.desk.turns in
    let between = g.T.Turns.saw c.room.desk.turns in
    let counts = g.P.Port.counts c.room.desk.port.now in
    let new = g.T.Turns.means c.pack.new.desk.turns in
    let sees = g.T.Turns.saw c.pack.new.desk.turns in
    let after = g.P.Port.counts c.pack.new.desk.port.now in
    quiet_then kind old mid new was between sees c.room.invariant.worked.quiet c.pack.ensures.quiet

pub returns-in_err-pack-clause-cause : goal.returns-in_err-pack-clause-cause
returns-in_err-pack-clause-cause g c =
    let kind = branch_kind g.P.Seal.Seal.TELLS in
    let old = g.T.Turns.means c.args.desk.now.turns in
    let was = g.T.Turns.saw c.args.desk.now.turns in
    let before = g.P.Port.counts c.args.desk.now.port.now in
    let mid = g.T.Turns.means c.room.desk.turns in
    let between = g.T.Turns.saw c.room.desk.turns in
    let counts = g.P.Port.counts c.room.desk.port.now in
    let new = g.T.Turns.means c.pack.new.desk.turns in
    let sees = g.T.Turns.saw c.pack.new.desk.turns in
    let after = g.P.Port.counts c.pack.new.desk.port.now in
    if_err_same c.from_residual.result c.in_err-pack.field-0.0 (HasWorkCause kind old was new sees before after) c.from_residual.ensures.1
    (cause_behind kind old mid new was between sees before counts after c.in_err-pack.field-0.0 c.room.invariant.worked.quiet c.room.invariant.worked.port c.in_err-pack.ensures.cause)

pub returns-in-Done-clause-quiet : goal.returns-in-Done-clause-quiet
returns-in-Done-clause-quiet g c =
    let kind = branch_kind g.P.Seal.Seal.TELLS in
    let old = g.T.Turns.means c.args.desk.now.turns in
    let was = g.T.Turns.saw c.args.desk.now.turns in
    let before = g.P.Port.counts c.args.desk.now.port.now in
    let mid = g.T.Turns.means c.room.desk.turns in
    let between = g.T.Turns.saw c.room.desk.turns in
    let counts = g.P.Port.counts c.room.desk.port.now in
    let new = g.T.Turns.means c.pack.new.desk.turns in
    let sees = g.T.Turns.saw c.pack.new.desk.turns in
    let after = g.P.Port.counts c.pack.new.desk.port.now in
    quiet_then kind old mid new was between sees c.room.invariant.worked.quiet c.pack.ensures.quiet

pub returns-in-Done-clause-made : goal.returns-in-Done-clause-made
returns-in-Done-clause-made g c =
    let kind = branch_kind g.P.Seal.Seal.TELLS in
    let old = g.T.Turns.means c.args.desk.now.turns in
    let was = g.T.Turns.saw c.args.desk.now.turns in
    let before = g.P.Port.counts c.args.desk.now.port.now in
    let mid = g.T.Turns.means c.room.desk.turns in
    let between = g.T.Turns.saw c.room.desk.turns in
    let counts = g.P.Port.counts c.room.desk.port.now in
    let new = g.T.Turns.means c.pack.new.desk.turns in
    let sees = g.T.Turns.saw c.pack.new.desk.turns in
    let after = g.P.Port.counts c.pack.new.desk.port.now in
    made_behind kind old mid new was between sees MakesWay c.room.invariant.worked.quiet
    (λ history saw. elim c.in-Done.is [
      | inl done ↦ made_so kind mid history new sees (ShowsPacked packed.Done) MakesWay way_made (subst (λ (p : Packed). WasPacked kind mid between new sees p) done c.in_ok-pack.ensures.made history saw)
      | inr none ↦ made_so kind mid history new sees (ShowsPacked packed.Nothing) MakesWay way_free (subst (λ (p : Packed). WasPacked kind mid between new sees p) none c.in_ok-pack.ensures.made history saw)
    ])

pub room-preserved-in-NotOldest : goal.room-preserved-in-NotOldest
room-preserved-in-NotOldest g c =
    let kind = branch_kind g.P.Seal.Seal.TELLS in
    let old = g.T.Turns.means c.args.desk.now.turns in
    let was = g.T.Turns.saw c.args.desk.now.turns in
    let before = g.P.Port.counts c.args.desk.now.port.now in
    let mid = g.T.Turns.means c.room.desk.turns in
    let between = g.T.Turns.saw c.room.desk.turns in
    let counts = g.P.Port.counts c.room.desk.port.now in
    let new = g.T.Turns.means c.pack.new.desk.turns in
    let sees = g.T.Turns.saw c.pack.new.desk.turns in
    let after = g.P.Port.counts c.pack.new.desk.port.now in
    let one = c.room.invariant.few in
    let more = c.in_ok-pack.ensures.ok_few in
    record {
      worked = worked_on kind old mid new was between sees before counts after c.room.invariant.worked (record { quiet = c.pack.ensures.quiet; nothing = c.pack.ensures.nothing; port = c.pack.ensures.port });
      few = omega (arith, one, more);
      ready = c.pack.ensures.ready;
      law = c.pack.ensures.law ∙ c.room.invariant.law;
      pager = c.pack.ensures.pager ∙ c.room.invariant.pager;
      device = c.pack.ensures.device ∙ c.room.invariant.device;
      faults = c.in_ok-pack.ensures.faults ∙ c.room.invariant.faults;
    }

pub returns-in_err-make_room-in-NeedsFlush-clause-quiet : goal.returns-in_err-make_room-in-NeedsFlush-clause-quiet
returns-in_err-make_room-in-NeedsFlush-clause-quiet g c =
    let kind = branch_kind g.P.Seal.Seal.TELLS in
    let old = g.T.Turns.means c.args.desk.now.turns in
    let was = g.T.Turns.saw c.args.desk.now.turns in
    let before = g.P.Port.counts c.args.desk.now.port.now in
    let mid = g.T.Turns.means c.pack.new.desk.turns in
    let between = g.T.Turns.saw c.pack.new.desk.turns in
    let counts = g.P.Port.counts c.pack.new.desk.port.now in
    let new = g.T.Turns.means c.make_room.new.desk.turns in
    let sees = g.T.Turns.saw c.make_room.new.desk.turns in
    let after = g.P.Port.counts c.make_room.new.desk.port.now in
    let head = g.T.Turns.means c.room.desk.turns in
    let seen = g.T.Turns.saw c.room.desk.turns in
    let tally = g.P.Port.counts c.room.desk.port.now in
    let first = worked_on kind old head mid was seen between before tally counts c.room.invariant.worked (record { quiet = c.pack.ensures.quiet; nothing = c.pack.ensures.nothing; port = c.pack.ensures.port }) in
    quiet_then kind old mid new was between sees first.quiet c.make_room.ensures.quiet

pub returns-in_err-make_room-in-NeedsFlush-clause-cause : goal.returns-in_err-make_room-in-NeedsFlush-clause-cause
returns-in_err-make_room-in-NeedsFlush-clause-cause g c =
    let kind = branch_kind g.P.Seal.Seal.TELLS in
    let old = g.T.Turns.means c.args.desk.now.turns in
    let was = g.T.Turns.saw c.args.desk.now.turns in
    let before = g.P.Port.counts c.args.desk.now.port.now in
    let mid = g.T.Turns.means c.pack.new.desk.turns in
    let between = g.T.Turns.saw c.pack.new.desk.turns in
    let counts = g.P.Port.counts c.pack.new.desk.port.now in
    let new = g.T.Turns.means c.make_room.new.desk.turns in
    let sees = g.T.Turns.saw c.make_room.new.desk.turns in
    let after = g.P.Port.counts c.make_room.new.desk.port.now in
    let head = g.T.Turns.means c.room.desk.turns in
    let seen = g.T.Turns.saw c.room.desk.turns in
    let tally = g.P.Port.counts c.room.desk.port.now in
    let first = worked_on kind old head mid was seen between before tally counts c.room.invariant.worked (record { quiet = c.pack.ensures.quiet; nothing = c.pack.ensures.nothing; port = c.pack.ensures.port }) in
    if_err_same c.from_residual-in_err-make_room-in-NeedsFlush.result c.in_err-make_room-in-NeedsFlush.field-0.0 (HasWorkCause kind old was new sees before after) c.from_residual-in_err-make_room-in-NeedsFlush.ensures.1
    (cause_behind kind old mid new was between sees before counts after c.in_err-make_room-in-NeedsFlush.field-0.0 first.quiet first.port c.in_err-make_room-in-NeedsFlush.ensures.cause)

pub room-preserved : goal.room-preserved
room-preserved g c =
    let kind = branch_kind g.P.Seal.Seal.TELLS in
    let old = g.T.Turns.means c.args.desk.now.turns in
    let was = g.T.Turns.saw c.args.desk.now.turns in
    let before = g.P.Port.counts c.args.desk.now.port.now in
    let mid = g.T.Turns.means c.pack.new.desk.turns in
    let between = g.T.Turns.saw c.pack.new.desk.turns in
    let counts = g.P.Port.counts c.pack.new.desk.port.now in
    let new = g.T.Turns.means c.make_room.new.desk.turns in
    let sees = g.T.Turns.saw c.make_room.new.desk.turns in
    let after = g.P.Port.counts c.make_room.new.desk.port.now in
    let head = g.T.Turns.means c.room.desk.turns in
    let seen = g.T.Turns.saw c.room.desk.turns in
    let tally = g.P.Port.counts c.room.desk.port.now in
    let one = c.room.invariant.few in
    let two = c.in_ok-pack.ensures.ok_few in
    let more = c.in_ok-make_room-in-NeedsFlush.ensures.ok_few in
    record {
      worked = worked_on kind old mid new was between sees before counts after (worked_on kind old head mid was seen between before tally counts c.room.invariant.worked (record { quiet = c.pack.ensures.quiet; nothing = c.pack.ensures.nothing; port = c.pack.ensures.port })) (record { quiet = c.make_room.ensures.quiet; nothing = c.make_room.ensures.nothing; port = c.make_room.ensures.port });
      few = omega (arith, one, two, more);
      ready = c.make_room.ensures.ready;
      law = c.make_room.ensures.law ∙ c.pack.ensures.law ∙ c.room.invariant.law;
      pager = c.make_room.ensures.pager ∙ c.pack.ensures.pager ∙ c.room.invariant.pager;
      device = c.make_room.ensures.device ∙ c.pack.ensures.device ∙ c.room.invariant.device;
      faults = c.in_ok-make_room-in-NeedsFlush.ensures.faults ∙ c.in_ok-pack.ensures.faults ∙ c.room.invariant.faults;
    }

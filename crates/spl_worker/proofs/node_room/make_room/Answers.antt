use Rattle.std.proofs.Common.{◌≡◌, ◌≤◌, ◌<◌, ◌∙◌, ℕ, Bool, true, Option, Some, None, refl, sym, ap, subst, inl, inr, arith}
use Rattle.std.specs.Prelude.{Ok, IfOk, IfSome}
use Rattle.spl_bundle.specs.declared.bundles.TheConstants.{MAX_LISTS}
use Rattle.spl_desk.specs.Branches.{branch_kind}
use Rattle.spl_desk.specs.Quiet.{HasWorkCause}
use Rattle.spl_desk.proofs.Quiet.{cause_behind, counts_on, counts_same, made_before, made_behind, quiet_none, quiet_then}
use Rattle.spl_worker.proofs.Parts.{gone_on, if_err_same, on_ok, passed_on, relieved_on, still_named, still_way, stopped_on, turns_worked, went_on, worked_on}
use Rattle.spl_worker.specs.Plans.{IsNamed}
use Rattle.spl_worker.specs.Reliefs.{WasRelieved}
use Rattle.spl_worker.specs.Rooms.{ShowsRoom}
use Rattle.spl_worker.proofs.Parts.{next_named}
use Rattle.spl_worker.proofs.Shown.{room_shown}
use Rattle.spl_worker.proofs.node_room.make_room.Goals as goal

pub room-init : goal.room-init
room-init g c =
    record {
      worked = turns_worked (branch_kind g.P.Seal.Seal.TELLS) (g.T.Turns.means c.args.desk.now.turns) (g.T.Turns.means c.args.desk.now.turns) (g.T.Turns.saw c.args.desk.now.turns) (g.T.Turns.saw c.args.desk.now.turns) (g.P.Port.counts c.args.desk.now.port.now)
          (quiet_none (branch_kind g.P.Seal.Seal.TELLS) (g.T.Turns.means c.args.desk.now.turns) (g.T.Turns.saw c.args.desk.now.turns) c.requires.seen) c.requires.nothing;
      went = record { few = omega arith; told = omega arith };
      ready = c.requires.ready;
      law = refl;
      pager = refl;
      device = refl;
      faults = refl;
      named = c.requires.known;
    }

pub returns-in_err-relief-clause-quiet : goal.returns-in_err-relief-clause-quiet
returns-in_err-relief-clause-quiet g c =
    let kind = branch_kind g.P.Seal.Seal.TELLS in
    let old = g.T.Turns.means c.args.desk.now.turns in
    let was = g.T.Turns.saw c.args.desk.now.turns in
    let before = g.P.Port.counts c.args.desk.now.port.now in
    let mid = g.T.Turns.means c.room.desk.turns in
    let between = g.T.Turns.saw c.room.desk.turns in
    let counts = g.P.Port.counts c.room.desk.port.now in
    let new = g.T.Turns.means c.relieve.new.desk.turns in
    let sees = g.T.Turns.saw c.relieve.new.desk.turns in
    let after = g.P.Port.counts c.relieve.new.desk.port.now in
    quiet_then kind old mid new was between sees c.room.invariant.worked.quiet c.relieve.ensures.worked.quiet

pub returns-in_err-relief-clause-port : goal.returns-in_err-relief-clause-port
returns-in_err-relief-clause-port g c =
    let kind = branch_kind g.P.Seal.Seal.TELLS in
    let old = g.T.Turns.means c.args.desk.now.turns in
    let was = g.T.Turns.saw c.args.desk.now.turns in
    let before = g.P.Port.counts c.args.desk.now.port.now in
    let mid = g.T.Turns.means c.room.desk.turns in
    let between = g.T.Turns.saw c.room.desk.turns in
    let counts = g.P.Port.counts c.room.desk.port.now in
    let new = g.T.Turns.means c.relieve.new.desk.turns in
    let sees = g.T.Turns.saw c.relieve.new.desk.turns in
    let after = g.P.Port.counts c.relieve.new.desk.port.now in
    counts_on before counts after c.room.invariant.worked.port c.relieve.ensures.worked.port

pub returns-in_err-relief-clause-cause : goal.returns-in_err-relief-clause-cause
returns-in_err-relief-clause-cause g c =
    let kind = branch_kind g.P.Seal.Seal.TELLS in
    let old = g.T.Turns.means c.args.desk.now.turns in
    let was = g.T.Turns.saw c.args.desk.now.turns in
    let before = g.P.Port.counts c.args.desk.now.port.now in
    let mid = g.T.Turns.means c.room.desk.turns in
    let between = g.T.Turns.saw c.room.desk.turns in
    let counts = g.P.Port.counts c.room.desk.port.now in
    let new = g.T.Turns.means c.relieve.new.desk.turns in
    let sees = g.T.Turns.saw c.relieve.new.desk.turns in
    let after = g.P.Port.counts c.relieve.new.desk.port.now in
    if_err_same c.from_residual.result c.in_err-relief.field-0.0 (HasWorkCause kind old was new sees before after) c.from_residual.ensures.1
    (cause_behind kind old mid new was between sees before counts after c.in_err-relief.field-0.0 c.room.invariant.worked.quiet c.room.invariant.worked.port c.in_err-relief.ensures.cause)

pub room-preserved : goal.room-preserved
room-preserved g c =
    let kind = branch_kind g.P.Seal.Seal.TELLS in
    let old = g.T.Turns.means c.args.desk.now.turns in
    let was = g.T.Turns.saw c.args.desk.now.turns in
    let before = g.P.Port.counts c.args.desk.now.port.now in
    let mid = g.T.Turns.means c.room.desk.turns in
    let between = g.T.Turns.saw c.room.desk.turns in
    let counts = g.P.Port.counts c.room.desk.port.now in
    let new = g.T.Turns.means c.relieve.new.desk.turns in
    let sees = g.T.Turns.saw c.relieve.new.desk.turns in
    let after = g.P.Port.counts c.relieve.new.desk.port.now in
    let went = gone_on old mid new c.room.invariant.went c.in_ok-relief.ensures.went in
    record {
      worked = worked_on kind old mid new was between sees before counts after c.room.invariant.worked c.relieve.ensures.worked;
      went = went;
      ready = c.relieve.ensures.ready;
      law = c.relieve.ensures.law ∙ c.room.invariant.law;
      pager = c.relieve.ensures.pager ∙ c.room.invariant.pager;
      device = c.relieve.ensures.device ∙ c.room.invariant.device;
      faults = c.in_ok-relief.ensures.faults ∙ c.room.invariant.faults;
      named = subst (λ (n : ℕ). IsNamed new n) (sym c.next_for-at.ensures) (next_named kind mid new between sees c.args.node c.room.at MAX_LISTS c.in_ok-relief.relief (still_named old new c.args.node went.told c.requires.known) (still_named mid new c.room.at c.in_ok-relief.ensures.went.told c.room.invariant.named) c.in_ok-relief.ensures.made);
    }

pub returns-then-has_room-clause-quiet : goal.returns-then-has_room-clause-quiet
returns-then-has_room-clause-quiet g c =
    let kind = branch_kind g.P.Seal.Seal.TELLS in
    let old = g.T.Turns.means c.args.desk.now.turns in
    let was = g.T.Turns.saw c.args.desk.now.turns in
    let mid = g.T.Turns.means c.room.desk.turns in
    let between = g.T.Turns.saw c.room.desk.turns in
    let new = g.T.Turns.means c.relieve.new.desk.turns in
    let sees = g.T.Turns.saw c.relieve.new.desk.turns in
    quiet_then kind old mid new was between sees c.room.invariant.worked.quiet c.relieve.ensures.worked.quiet

pub returns-then-has_room-clause-made : goal.returns-then-has_room-clause-made
returns-then-has_room-clause-made g c =
    let kind = branch_kind g.P.Seal.Seal.TELLS in
    let old = g.T.Turns.means c.args.desk.now.turns in
    let was = g.T.Turns.saw c.args.desk.now.turns in
    let mid = g.T.Turns.means c.room.desk.turns in
    let between = g.T.Turns.saw c.room.desk.turns in
    let new = g.T.Turns.means c.relieve.new.desk.turns in
    let sees = g.T.Turns.saw c.relieve.new.desk.turns in
    let relief = c.in_ok-relief.relief in
    made_behind kind old mid new was between sees (ShowsRoom c.args.node) c.room.invariant.worked.quiet
    (room_shown kind mid new between sees c.args.node relief (sym c.has_room.ensures ∙ c.if-has_room.true)
    (subst (λ (n : ℕ). WasRelieved kind mid between new sees n MAX_LISTS relief) c.if-at-node.true c.in_ok-relief.ensures.made))

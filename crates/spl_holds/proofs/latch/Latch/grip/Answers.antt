use Rattle.std.proofs.Common.{◌≢◌, Some}
use Rattle.spl_holds.specs.Word.{owner_of}
use Rattle.spl_holds.proofs.LatchLemmas.{claimant_has, writer_has, reader_has, other_has, not_claimant, not_writer, not_nobody}
use Rattle.spl_holds.proofs.latch.Latch.grip.Goals as goal
use Rattle.spl_holds.proofs.latch.Latch.grip.Goals.{in_default-via-in-Claimant+else-owner-actor, in_default-via-in-Writer+else-owner-actor-2, in_default-via-in_default}

pub returns-in-Claimant : goal.returns-in-Claimant
returns-in-Claimant c =
    rw (← c.self.view_is) (claimant_has _ _ _ _ c.requires c.in-Claimant.is c.if-owner-actor.true)

pub returns-in-Writer : goal.returns-in-Writer
returns-in-Writer c =
    rw (← c.self.view_is) (writer_has _ _ _ _ c.requires c.in-Writer.is c.if-owner-actor-2.true)

pub returns-in_default : goal.returns-in_default
returns-in_default c =
    let other : owner_of c.self.inside.owner ≢ Some c.args.actor =
    elim c.in_default.branch [
      | in_default-via-in-Claimant+else-owner-actor w ↦ not_claimant _ _ _ w.in-Claimant.is w.if-owner-actor.false
      | in_default-via-in-Writer+else-owner-actor-2 w ↦ not_writer _ _ _ w.in-Writer.is w.if-owner-actor-2.false
      | in_default-via-in_default w ↦ not_nobody _ _ w.in_default.is
    ] in
    rw (← c.self.view_is) (reader_has _ _ _ c.requires other c.if-self-actor-eq1.true)

pub returns-in_default-2 : goal.returns-in_default-2
returns-in_default-2 c =
    let other : owner_of c.self.inside.owner ≢ Some c.args.actor =
    elim c.in_default.branch [
      | in_default-via-in-Claimant+else-owner-actor w ↦ not_claimant _ _ _ w.in-Claimant.is w.if-owner-actor.false
      | in_default-via-in-Writer+else-owner-actor-2 w ↦ not_writer _ _ _ w.in-Writer.is w.if-owner-actor-2.false
      | in_default-via-in_default w ↦ not_nobody _ _ w.in_default.is
    ] in
    rw (← c.self.view_is) (other_has _ _ _ c.requires other c.if-self-actor-eq1.false)

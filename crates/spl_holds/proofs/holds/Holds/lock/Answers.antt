use Rattle.std.proofs.Common.{◌≡◌, ◌<◌, length, refl, ap, ◌∙◌}
use Rattle.spl_holds.specs.declared.grip.Grip.TheVariants.{Claim, Write}
use Rattle.spl_holds.specs.Grip.{is_held}
use Rattle.spl_holds.specs.Holds.{grip_of}
use Rattle.spl_holds.proofs.TallyLemmas.{IsKept-moved, Moves-lock, tally_of}
use Rattle.spl_holds.proofs.holds.Holds.lock.Goals as goal

pub invariant_of-self-2 : goal.invariant_of-self-2
invariant_of-self-2 c =
    let claimed : grip_of c.self.inside.latches.items c.args.actor c.args.node ≡ Claim = rw c.self.view_is c.requires.claimed in
    let exists : c.args.node < length c.self.inside.latches.items = rw c.self.view_is c.requires.exists in
    let tally = tally_of _ _ _ c.args.actor c.index_mut-tally.result.now c.self.invariant c.requires.known c.index_mut-tally.ensures.value in
    IsKept-moved _ _ _ c.args.actor c.args.node Claim Write _ _ c.index_mut-tally.result.now c.lock-2.new.self c.self.invariant c.requires.known exists c.index_mut-latch.ensures.value c.in_ok-lock.ensures.ok c.lock.ensures.latched claimed c.index_mut-tally.ensures.value
    (Moves-lock c.index_mut-tally.result.now c.lock-2.new.self c.args.node c.lock-2.ensures.reads c.lock-2.ensures.claims c.lock-2.ensures.writes c.lock-2.ensures.nodes (tally.nodes c.args.node ∙ ap is_held claimed))

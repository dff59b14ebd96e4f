use Rattle.std.proofs.Common.{◌≡◌, ◌<◌, length, refl, subst, sym, arith}
use Rattle.spl_holds.specs.declared.grip.Grip.TheVariants.{Free, Read}
use Rattle.spl_holds.specs.Holds.{grip_of}
use Rattle.spl_holds.proofs.TallyLemmas.{IsKept-moved, Moves-add, within_tally}
use Rattle.spl_holds.proofs.holds.Holds.read.Goals as goal

pub invariant_of-self-2 : goal.invariant_of-self-2
invariant_of-self-2 c =
    let free : grip_of c.self.inside.latches.items c.args.actor c.args.node ≡ Free = rw c.self.view_is c.requires.free in
    let exists : c.args.node < length c.self.inside.latches.items = rw c.self.view_is c.requires.exists in
    let within = within_tally _ _ _ c.args.actor c.args.node c.index_mut-tally.result.now c.self.invariant c.requires.known exists c.index_mut-tally.ensures.value in
    IsKept-moved _ _ _ c.args.actor c.args.node Free Read _ _ c.index_mut-tally.result.now c.add.new.self c.self.invariant c.requires.known exists c.index_mut-latch.ensures.value c.in_ok-read.ensures.ok c.read.ensures.latched free c.index_mut-tally.ensures.value
    (Moves-add c.index_mut-tally.result.now c.add.new.self c.args.node Read c.add.ensures.counts c.add.ensures.nodes within refl)

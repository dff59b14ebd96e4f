use Rattle.std.proofs.Common.{◌≡◌, ◌≢◌, ◌<◌, ◌≤◌, length, Some, true, slice_get, refl, ap, sym, ◌∙◌, arith, rules}
use Rattle.spl_numbers.specs.Numbers.{one_if}
use Rattle.spl_holds.specs.declared.counts.Counts.{Counts}
use Rattle.spl_holds.specs.declared.grip.Grip.TheVariants.{Free}
use Rattle.spl_holds.specs.Grip.{is_read, is_claim, is_write, is_held}
use Rattle.spl_holds.specs.Holds.{grip_of}
use Rattle.spl_holds.proofs.TallyLemmas.{IsKept-moved, Moves-drop, tally_of, within_tally, counted, left_free, grip_of-lent, held_from, held_node}
use Rattle.spl_holds.proofs.holds.Holds.leave.Goals as goal

pub returns-then-eq-clause-left : goal.returns-then-eq-clause-left
returns-then-eq-clause-left c =
    let exists : c.args.node < length c.self.inside.latches.items = rw c.self.view_is c.requires.exists in
    let had = grip_of-lent c.self.inside.latches.items c.args.actor c.args.node c.index_mut-latch.result.now c.grip-grip.result c.index_mut-latch.ensures.value exists c.grip-grip.ensures in
    let free : c.grip-grip.result ≡ Free = search rules in
    rw (← c.self.view_is) (left_free c.self.inside.latches.items c.args.actor c.args.node _ c.index_mut-latch.ensures.value exists (had ∙ free))

pub drop-requires-clause-reads : goal.drop-requires-clause-reads
drop-requires-clause-reads c =
    let exists : c.args.node < length c.self.inside.latches.items = rw c.self.view_is c.requires.exists in
    let had = grip_of-lent c.self.inside.latches.items c.args.actor c.args.node c.index_mut-latch.result.now c.grip-grip.result c.index_mut-latch.ensures.value exists c.grip-grip.ensures in
    let tally = tally_of _ _ _ c.args.actor c.index_mut-tally.result.now c.self.invariant c.requires.known c.index_mut-tally.ensures.value in
    rw (ap (λ (counts : Counts). counts.reads) tally.counts) (rw had at (counted is_read c.self.inside.latches.items c.args.actor c.args.node exists))

pub drop-requires-clause-claims : goal.drop-requires-clause-claims
drop-requires-clause-claims c =
    let exists : c.args.node < length c.self.inside.latches.items = rw c.self.view_is c.requires.exists in
    let had = grip_of-lent c.self.inside.latches.items c.args.actor c.args.node c.index_mut-latch.result.now c.grip-grip.result c.index_mut-latch.ensures.value exists c.grip-grip.ensures in
    let tally = tally_of _ _ _ c.args.actor c.index_mut-tally.result.now c.self.invariant c.requires.known c.index_mut-tally.ensures.value in
    rw (ap (λ (counts : Counts). counts.claims) tally.counts) (rw had at (counted is_claim c.self.inside.latches.items c.args.actor c.args.node exists))

pub drop-requires-clause-writes : goal.drop-requires-clause-writes
drop-requires-clause-writes c =
    let exists : c.args.node < length c.self.inside.latches.items = rw c.self.view_is c.requires.exists in
    let had = grip_of-lent c.self.inside.latches.items c.args.actor c.args.node c.index_mut-latch.result.now c.grip-grip.result c.index_mut-latch.ensures.value exists c.grip-grip.ensures in
    let tally = tally_of _ _ _ c.args.actor c.index_mut-tally.result.now c.self.invariant c.requires.known c.index_mut-tally.ensures.value in
    rw (ap (λ (counts : Counts). counts.writes) tally.counts) (rw had at (counted is_write c.self.inside.latches.items c.args.actor c.args.node exists))

pub drop-requires-clause-held : goal.drop-requires-clause-held
drop-requires-clause-held c =
    let exists : c.args.node < length c.self.inside.latches.items = rw c.self.view_is c.requires.exists in
    let had = grip_of-lent c.self.inside.latches.items c.args.actor c.args.node c.index_mut-latch.result.now c.grip-grip.result c.index_mut-latch.ensures.value exists c.grip-grip.ensures in
    let some : c.grip-grip.result ≢ Free = search rules in
    held_node _ _ _ c.args.actor c.args.node c.index_mut-tally.result.now c.self.invariant c.requires.known exists c.index_mut-tally.ensures.value (ap is_held had ∙ held_from c.grip-grip.result some)

pub invariant_of-self-2 : goal.invariant_of-self-2
invariant_of-self-2 c =
    let exists : c.args.node < length c.self.inside.latches.items = rw c.self.view_is c.requires.exists in
    let had = grip_of-lent c.self.inside.latches.items c.args.actor c.args.node c.index_mut-latch.result.now c.grip-grip.result c.index_mut-latch.ensures.value exists c.grip-grip.ensures in
    let within = within_tally _ _ _ c.args.actor c.args.node c.index_mut-tally.result.now c.self.invariant c.requires.known exists c.index_mut-tally.ensures.value in
    IsKept-moved _ _ _ c.args.actor c.args.node c.grip-grip.result Free _ _ c.index_mut-tally.result.now c.drop.new.self c.self.invariant c.requires.known exists c.index_mut-latch.ensures.value c.leave.ensures.left c.leave.ensures.latched had c.index_mut-tally.ensures.value
    (Moves-drop c.index_mut-tally.result.now c.drop.new.self c.args.node c.grip-grip.result c.drop.ensures.counts c.drop.ensures.nodes within)

use Rattle.std.proofs.Common.{◌∙◌, ap, arith, length, false}
use Rattle.spl_numbers.proofs.BitLemmas.{written}
use Rattle.spl_numbers.proofs.LevelLemmas.{places, count_fits, number_within, members_in-set, AreLevels-insert}
use Rattle.spl_numbers.proofs.numbers.Numbers.insert.Goals as goal

pub set_bit-requires : goal.set_bit-requires
set_bit-requires c =
    let within = places _ _ _ _ _ c.args.number false c.self.invariant (rw c.self.view_is c.requires) in
    rw c.deref_mut.ensures.value within.0

pub set_bit-requires-2 : goal.set_bit-requires-2
set_bit-requires-2 c =
    let within = places _ _ _ _ _ c.args.number false c.self.invariant (rw c.self.view_is c.requires) in
    rw c.deref_mut-2.ensures.value within.1

pub set_bit-requires-3 : goal.set_bit-requires-3
set_bit-requires-3 c =
    let within = places _ _ _ _ _ c.args.number false c.self.invariant (rw c.self.view_is c.requires) in
    rw c.deref_mut-3.ensures.value within.2

pub overflow_add-self : goal.overflow_add-self
overflow_add-self c = omega (arith, count_fits _ _ _ _ _ c.self.invariant)

pub invariant_of-self : goal.invariant_of-self
invariant_of-self c =
    let low = written c.self.inside.members _ _ c.args.number _ c.deref_mut.ensures.value c.set_bit.ensures in
    let mid = written c.self.inside.words _ _ _ _ c.deref_mut-2.ensures.value c.set_bit-2.ensures in
    let top = written c.self.inside.groups _ _ _ _ c.deref_mut-3.ensures.value c.set_bit-3.ensures in
    AreLevels-insert _ _ _ _ _ _ _ _ c.args.number c.self.invariant (rw c.self.view_is c.requires) low mid top

pub returns : goal.returns
returns c =
    let low = written c.self.inside.members _ _ c.args.number _ c.deref_mut.ensures.value c.set_bit.ensures in
    let within = number_within c.self.inside.members.items c.self.inside.limit c.args.number false (rw c.self.view_is c.requires) in
    rw (← c.self.view_is) (members_in-set _ _ _ c.args.number _ low within)

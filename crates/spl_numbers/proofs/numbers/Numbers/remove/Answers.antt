use Rattle.std.proofs.Common.{◌≡◌, ◌≢◌, ◌∙◌, ap, arith, refl, rules, sym, true, false, Vec, Global, IsTrue, ◌↔◌, ℕ, get_or, ◌/◌}
use Rattle.std.specs.Vec.{with_items}
use Rattle.spl_numbers.specs.Levels.{members_in}
use Rattle.spl_numbers.specs.Bits.{ChangesBit}
use Rattle.std.proofs.lemmas.Bool.{true≢false}
use Rattle.spl_numbers.proofs.BitLemmas.{written, whole}
use Rattle.spl_numbers.proofs.LevelLemmas.{places, count_fits, number_within, size_of-some, members_in-set, AreLevels-remove, Kept, Word, Group}
use Rattle.spl_numbers.proofs.numbers.Numbers.remove.Goals as goal
use Rattle.spl_numbers.proofs.numbers.Numbers.remove.Goals.{else-clear_bit-via-then-clear_bit+else-clear_bit-2, else-clear_bit-via-else-clear_bit}

pub overflow_sub-self : goal.overflow_sub-self
overflow_sub-self c = omega (arith, c.self.invariant.counted, size_of-some (members_in c.self.inside.members.items c.self.inside.limit) c.args.number (rw c.self.view_is c.requires))

pub clear_bit-requires : goal.clear_bit-requires
clear_bit-requires c =
    let within = places _ _ _ _ _ c.args.number true c.self.invariant (rw c.self.view_is c.requires) in
    rw c.deref_mut.ensures.value within.0

pub clear_bit-requires-then-clear_bit : goal.clear_bit-requires-then-clear_bit
clear_bit-requires-then-clear_bit c =
    let within = places _ _ _ _ _ c.args.number true c.self.invariant (rw c.self.view_is c.requires) in
    rw c.deref_mut-then-clear_bit.ensures.value within.1

pub clear_bit-requires-then-clear_bit-2 : goal.clear_bit-requires-then-clear_bit-2
clear_bit-requires-then-clear_bit-2 c =
    let within = places _ _ _ _ _ c.args.number true c.self.invariant (rw c.self.view_is c.requires) in
    rw c.deref_mut-then-clear_bit-2.ensures.value within.2

pub invariant_of-self : goal.invariant_of-self
invariant_of-self c =
    let low = written c.self.inside.members _ _ c.args.number _ c.deref_mut.ensures.value c.clear_bit.ensures.cleared in
    let mid = written c.self.inside.words _ _ _ _ c.deref_mut-then-clear_bit.ensures.value c.clear_bit-then-clear_bit.ensures.cleared in
    let top = written c.self.inside.groups _ _ _ _ c.deref_mut-then-clear_bit-2.ensures.value c.clear_bit-then-clear_bit-2.ensures.cleared in
    let members_are = whole c.self.inside.members _ _ _ _ c.deref_mut.ensures.value c.clear_bit.ensures.cleared in
    let words_are = whole c.self.inside.words _ _ _ _ c.deref_mut-then-clear_bit.ensures.value c.clear_bit-then-clear_bit.ensures.cleared in
    let zero = c.clear_bit.ensures.empty.0 c.if-clear_bit.true in
    let none = c.clear_bit-then-clear_bit.ensures.empty.0 c.if-clear_bit-2.true in
    AreLevels-remove _ _ _ _ _ _ _ _ c.args.number c.self.invariant (rw c.self.view_is c.requires) low
    (Group (rw members_are zero) mid (rw words_are none) top)

pub invariant_of-self-else-clear_bit-2 : goal.invariant_of-self-else-clear_bit-2
invariant_of-self-else-clear_bit-2 c =
    let low = written c.self.inside.members _ _ c.args.number _ c.deref_mut.ensures.value c.clear_bit.ensures.cleared in
    let mid = written c.self.inside.words _ _ _ _ c.deref_mut-then-clear_bit.ensures.value c.clear_bit-then-clear_bit.ensures.cleared in
    let members_are = whole c.self.inside.members _ _ _ _ c.deref_mut.ensures.value c.clear_bit.ensures.cleared in
    let words_are = whole c.self.inside.words _ _ _ _ c.deref_mut-then-clear_bit.ensures.value c.clear_bit-then-clear_bit.ensures.cleared in
    let zero = c.clear_bit.ensures.empty.0 c.if-clear_bit.true in
    AreLevels-remove _ _ _ _ _ _ _ _ c.args.number c.self.invariant (rw c.self.view_is c.requires) low
    (Word (rw members_are zero) mid (λ none. true≢false (sym (c.clear_bit-then-clear_bit.ensures.empty.1 (rw words_are at none)) ∙ c.if-clear_bit-2.false)) refl)

pub invariant_of-self-else-clear_bit : goal.invariant_of-self-else-clear_bit
invariant_of-self-else-clear_bit c =
    let low = written c.self.inside.members _ _ c.args.number _ c.deref_mut.ensures.value c.clear_bit.ensures.cleared in
    let members_are = whole c.self.inside.members _ _ _ _ c.deref_mut.ensures.value c.clear_bit.ensures.cleared in
    AreLevels-remove _ _ _ _ _ _ _ _ c.args.number c.self.invariant (rw c.self.view_is c.requires) low
    (Kept (λ zero. true≢false (sym (c.clear_bit.ensures.empty.1 (rw members_are at zero)) ∙ c.if-clear_bit.false)) refl refl)

pub returns-then-clear_bit-2 : goal.returns-then-clear_bit-2
returns-then-clear_bit-2 c =
    let low = written c.self.inside.members _ _ c.args.number _ c.deref_mut.ensures.value c.clear_bit.ensures.cleared in
    let within = number_within c.self.inside.members.items c.self.inside.limit c.args.number true (rw c.self.view_is c.requires) in
    rw (← c.self.view_is) (members_in-set _ _ _ c.args.number _ low within)

pub returns-else-clear_bit : goal.returns-else-clear_bit
returns-else-clear_bit c =
    let low = written c.self.inside.members _ _ c.args.number _ c.deref_mut.ensures.value c.clear_bit.ensures.cleared in
    let within = number_within c.self.inside.members.items c.self.inside.limit c.args.number true (rw c.self.view_is c.requires) in
    let left = members_in-set _ _ _ c.args.number _ low within in
    elim c.else-clear_bit.branch [
      | else-clear_bit-via-then-clear_bit+else-clear_bit-2 w ↦ w.self-is ∙ rw (← c.self.view_is) left
      | else-clear_bit-via-else-clear_bit w ↦ w.self-is ∙ rw (← c.self.view_is) left
    ]

use Rattle.std.proofs.Common.{◌≡◌, ◌<◌, ◌+◌, ◌*◌, ◌^◌, ℕ, length, get_or, w64, Some, true, false, ◌∙◌, arith, refl, sym, slice_get}
use Rattle.std.specs.Int.{trailing_zeros}
use Rattle.std.proofs.lemmas.Bool.{true≢false}
use Rattle.std.proofs.lemmas.List.{get_or_default}
use Rattle.spl_numbers.specs.Bits.{bit}
use Rattle.spl_numbers.specs.Levels.{members_in}
use Rattle.spl_numbers.proofs.LevelLemmas.{next_within, next_bit, top_bit, member_from_bit, none_where_no_group, size_of-some}
use Rattle.spl_numbers.proofs.numbers.Numbers.any.Goals as goal

above_zero : (n : ℕ) → 0 < n → n ≡ 0 → ⊥
above_zero n some zero = omega arith

pub returns-then-top-eq0-clause-none : goal.returns-then-top-eq0-clause-none
returns-then-top-eq0-clause-none c =
    let h = c.self.invariant in
    let zero : get_or c.self.inside.groups.items 0 0 ≡ 0 =
    get_or_default c.self.inside.groups.items 0 0 c.index-top.result.now (omega (arith, h.group_words)) ∙ sym c.index-top.ensures ∙ c.if-top-eq0.true in
    rw (← c.self.view_is) (λ _. none_where_no_group c.self.inside.members.items c.self.inside.words.items c.self.inside.groups.items c.self.inside.limit c.self.inside.count h zero, λ _. refl)

pub index-requires : goal.index-requires
index-requires c =
    let h = c.self.invariant in
    let top = top_bit c.self.inside.groups.items c.index-top.result.now h.group_words c.index-top.ensures c.if-top-eq0.false (omega arith) in
    let within : trailing_zeros w64 c.index-top.result.now < length c.self.inside.words.items = next_within _ c.self.inside.groups.items _ h.second top in
    omega (arith, c.self.inside.words.ok.0)

pub index-requires-2 : goal.index-requires-2
index-requires-2 c =
    let h = c.self.invariant in
    let top = top_bit c.self.inside.groups.items c.index-top.result.now h.group_words c.index-top.ensures c.if-top-eq0.false (omega arith) in
    let middle = next_bit c.self.inside.words.items c.self.inside.groups.items _ c.index.result.now h.second top c.index.ensures (omega arith) in
    let within : trailing_zeros w64 c.index-top.result.now * 64 + trailing_zeros w64 c.index.result.now < length c.self.inside.members.items = next_within _ c.self.inside.words.items _ h.first middle in
    omega (arith, c.self.inside.members.ok.0)

pub returns-clause-found : goal.returns-clause-found
returns-clause-found c =
    let h = c.self.invariant in
    let top = top_bit c.self.inside.groups.items c.index-top.result.now h.group_words c.index-top.ensures c.if-top-eq0.false (omega arith) in
    let middle = next_bit c.self.inside.words.items c.self.inside.groups.items _ c.index.result.now h.second top c.index.ensures (omega arith) in
    let low = next_bit c.self.inside.members.items c.self.inside.words.items _ c.index-2.result.now h.first middle c.index-2.ensures (omega arith) in
    rw (← c.self.view_is) (member_from_bit _ _ _ _ _ _ h low)

pub returns-clause-none : goal.returns-clause-none
returns-clause-none c =
    let h = c.self.invariant in
    let top = top_bit c.self.inside.groups.items c.index-top.result.now h.group_words c.index-top.ensures c.if-top-eq0.false (omega arith) in
    let middle = next_bit c.self.inside.words.items c.self.inside.groups.items _ c.index.result.now h.second top c.index.ensures (omega arith) in
    let low = next_bit c.self.inside.members.items c.self.inside.words.items _ c.index-2.result.now h.first middle c.index-2.ensures (omega arith) in
    let some = size_of-some (members_in c.self.inside.members.items c.self.inside.limit) _ (member_from_bit _ _ _ _ _ _ h low) in
    rw (← c.self.view_is) (λ wrong. absurd (true≢false wrong), λ zero. absurd (above_zero _ some zero))

use Rattle.std.proofs.Common.{◌≡◌, ℕ, suc, ◌+◌, max, List, set, true, ◌==◌, nat_lt, sym, ap, ap₂, subst, ◌∙◌, arith}
use Rattle.spl_quotient.specs.Slot.{Slot}
use Rattle.spl_quotient.specs.Table.{Table}
use Rattle.spl_quotient.specs.Filling.{IsFilled, Gains}
use Rattle.spl_quotient.proofs.Filled.{laid_slots, laid_more}
use Rattle.spl_quotient.proofs.lay.lay_one.Goals as goal

-- what is written are the slots of the lemma
slots_are : (c : goal.After-put-2) → c.put-2.new.self.slots ≡ laid_slots c.args.table.now.slots c.args.next c.args.last c.args.home c.args.remainder c.continues-continuation.result c.requires.filled c.requires.order c.requires.room c.requires.within
slots_are c =
    let home = c.args.home in
    let mark = c.occupied.ensures ∙ ap (λ (slot : Slot). let marked : Slot = record slot { occupied = true } in marked) c.slot_at-slot.ensures.value in
    let marked = ap (λ (table : Table). table.slots) c.put.ensures ∙ ap (set c.args.table.now.slots home) mark in
    let piece = c.new.ensures ∙ ap (λ (place : ℕ). let new : Slot = record { remainder = c.args.remainder; occupied = home == place; continuation = c.continues-continuation.result; shifted = nat_lt home place } in new) c.max-place.ensures in
    ap (λ (table : Table). table.slots) c.put-2.ensures
    ∙ ap₂ (λ (slots : List Slot) (place : ℕ). set slots place c.new.result) marked c.max-place.ensures
    ∙ ap (set _ (max c.args.next home)) piece

pub returns-clause-filled : goal.returns-clause-filled
returns-clause-filled c =
    let laid = laid_more c.args.table.now.slots c.args.next c.args.last c.args.home c.args.remainder c.continues-continuation.result c.requires.filled c.requires.order c.requires.room c.requires.within c.continues-continuation.ensures.yes c.continues-continuation.ensures.no in
    let end : suc (max c.args.next c.args.home) ≡ c.max-place.result + 1 = omega (arith, c.max-place.ensures) in
    subst (λ slots. IsFilled slots (c.max-place.result + 1) c.args.home) (sym (slots_are c)) (
    subst (λ n. IsFilled (laid_slots c.args.table.now.slots c.args.next c.args.last c.args.home c.args.remainder c.continues-continuation.result c.requires.filled c.requires.order c.requires.room c.requires.within) n c.args.home) end laid.0
    )

pub returns-clause-gains : goal.returns-clause-gains
returns-clause-gains c =
    let laid = laid_more c.args.table.now.slots c.args.next c.args.last c.args.home c.args.remainder c.continues-continuation.result c.requires.filled c.requires.order c.requires.room c.requires.within c.continues-continuation.ensures.yes c.continues-continuation.ensures.no in
    subst (λ slots. Gains c.args.table.now.slots slots c.args.home c.args.remainder) (sym (slots_are c)) laid.1

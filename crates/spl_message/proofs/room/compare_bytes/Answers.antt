-- Eight bytes decide, or the bytes behind them do.
use Rattle.std.proofs.Common.{◌≡◌, ◌+◌, ◌*◌, ◌≤◌, arith, length, take, ap, ◌∙◌, sym, ℕ, drop}
use Rattle.std.specs.Cmp.Lexicographic.{slice_cmp}
use Rattle.std.specs.Ordering.{nat_cmp}
use Rattle.spl_message.specs.Room.{worth}
use Rattle.spl_message.proofs.Words.{decided, passed}
use Rattle.spl_message.proofs.room.compare_bytes.Goals as goal

pub returns-then-ne : goal.returns-then-ne
returns-then-ne c =
    let bytes = c.args.bytes.now in
    let others = c.args.others.now in
    let place : ℕ = 8 * c.loop-i.i in
    let within : place + 8 ≤ length bytes = omega arith in
    decided bytes others place within c.requires c.word_at.ensures.bytes c.word_at-in-loop-i.ensures.bytes c.cmp-order.result
    (c.cmp-order.ensures ∙ ap (λ n. nat_cmp n c.word_at-in-loop-i.result) c.word_at.ensures.value ∙ ap (λ n. nat_cmp (worth (take 8 (drop place bytes))) n) c.word_at-in-loop-i.ensures.value)
    (sym c.if-ne.true ∙ c.ne.ensures)
    ∙ sym c.loop-i.invariant

pub loop-i-preserved : goal.loop-i-preserved
loop-i-preserved c =
    let bytes = c.args.bytes.now in
    let others = c.args.others.now in
    let place : ℕ = 8 * c.loop-i.i in
    let within : place + 8 ≤ length bytes = omega arith in
    let next : place + 8 ≡ 8 * (c.loop-i.i + 1) = omega arith in
    c.loop-i.invariant
    ∙ passed bytes others place within c.requires c.word_at.ensures.bytes c.word_at-in-loop-i.ensures.bytes c.cmp-order.result
    (c.cmp-order.ensures ∙ ap (λ n. nat_cmp n c.word_at-in-loop-i.result) c.word_at.ensures.value ∙ ap (λ n. nat_cmp (worth (take 8 (drop place bytes))) n) c.word_at-in-loop-i.ensures.value)
    (sym c.if-ne.false ∙ c.ne.ensures)
    ∙ ap (λ (n : ℕ). slice_cmp nat_cmp (drop n bytes) (drop n others)) next

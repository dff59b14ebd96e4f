use Rattle.std.proofs.Common.{◌≡◌, ℕ, List, drop, ◌+◌, false, true, ap, sym, ◌∙◌}
use Rattle.spl_message.specs.declared.message.Message.{Message}
use Rattle.spl_message.specs.Span.{is_before}
use Rattle.spl_page.specs.Lent.{entry_lent}
use Rattle.spl_page.specs.Tables.{leaf_table}
use Rattle.spl_scan.specs.Search.{found, is_next}
use Rattle.spl_scan.proofs.Ahead.{met_found, met_other, met_past, not_false, not_true}
use Rattle.spl_scan.proofs.met.next_of.Goals as goal

pub returns-then-is_past : goal.returns-then-is_past
returns-then-is_past c =
    let span = c.args.span.now in
    let entry : List ℕ × Message = entry_lent c.in-Some.entry in
    let before : is_before span.to c.key_of-key.result ≡ false =
    not_true _ (sym c.is_past.ensures ∙ c.if-is_past.true) in
    let at_key : is_before span.to entry.0 ≡ false = ap (is_before span.to) (sym c.key_of-key.ensures)
    ∙ before in
    c.loop-at.invariant ∙ met_past span c.args.last.now (leaf_table c.args.leaf.now.bytes) c.loop-at.at entry
    (sym c.in-Some.ensures) at_key

pub returns-then-comes : goal.returns-then-comes
returns-then-comes c =
    let span = c.args.span.now in
    let last = c.args.last.now in
    let table = leaf_table c.args.leaf.now.bytes in
    let entry : List ℕ × Message = entry_lent c.in-Some.entry in
    let key = c.key_of-key.ensures in
    let before : is_before span.to entry.0 ≡ true = ap (is_before span.to) (sym key)
    ∙ not_false _ (sym c.is_past.ensures ∙ c.if-is_past.false) in
    let next : is_next span last entry.0 ≡ true = ap (is_next span last) (sym key) ∙ sym c.comes.ensures
    ∙ c.if-comes.true in
    c.loop-at.invariant ∙ met_found span last table c.loop-at.at entry (sym c.in-Some.ensures) before next
    ∙ ap (λ (k : List ℕ). found (k, entry.1) (drop (c.loop-at.at + 1) table)) (sym key)
    ∙ ap (λ (m : Message). found (c.key_of-key.result, m) (drop (c.loop-at.at + 1) table))
    (sym c.in_ok-message.ensures.ok)

pub loop-at-preserved : goal.loop-at-preserved
loop-at-preserved c =
    let span = c.args.span.now in
    let last = c.args.last.now in
    let entry : List ℕ × Message = entry_lent c.in-Some.entry in
    let key = c.key_of-key.ensures in
    let before : is_before span.to entry.0 ≡ true = ap (is_before span.to) (sym key)
    ∙ not_false _ (sym c.is_past.ensures ∙ c.if-is_past.false) in
    let next : is_next span last entry.0 ≡ false = ap (is_next span last) (sym key) ∙ sym c.comes.ensures
    ∙ c.if-comes.false in
    c.loop-at.invariant ∙ met_other span last (leaf_table c.args.leaf.now.bytes) c.loop-at.at entry
    (sym c.in-Some.ensures) before next

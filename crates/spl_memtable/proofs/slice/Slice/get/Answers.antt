use Rattle.std.proofs.Common.{cond, None, ap, sym, ◌∙◌}
use Rattle.spl_message.specs.Table.{Table, message_at}
use Rattle.spl_message.proofs.Tables.{message_at-part_of}
use Rattle.spl_memtable.specs.declared.slice.Part.{Part}
use Rattle.spl_memtable.specs.Slice.{shown}
use Rattle.spl_memtable.proofs.slice.Slice.get.Goals as goal

pub returns-then-holds : goal.returns-then-holds
returns-then-holds c =
    let frozen = c.in-Shared.frozen.value in
    let span = c.in-Shared.span in
    let key = c.args.key.now in
    c.get.ensures
    ∙ ap (λ (table : Table). message_at table key) c.deref-then-holds.ensures
    ∙ sym (message_at-part_of span frozen key ∙ ap (λ b. cond b (message_at frozen key) None) (sym c.holds.ensures ∙ c.if-holds.true))
    ∙ ap (λ (part : Part). message_at (shown part) key) (sym c.in-Shared.is)
    ∙ ap (λ (table : Table). message_at table key) c.self.view_is

pub returns-else-holds : goal.returns-else-holds
returns-else-holds c =
    let frozen = c.in-Shared.frozen.value in
    let span = c.in-Shared.span in
    let key = c.args.key.now in
    sym (message_at-part_of span frozen key ∙ ap (λ b. cond b (message_at frozen key) None) (sym c.holds.ensures ∙ c.if-holds.false))
    ∙ ap (λ (part : Part). message_at (shown part) key) (sym c.in-Shared.is)
    ∙ ap (λ (table : Table). message_at table key) c.self.view_is

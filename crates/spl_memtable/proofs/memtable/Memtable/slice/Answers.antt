use Rattle.std.proofs.Common.{◌++◌, ap, sym, ◌∙◌}
use Rattle.std.proofs.lemmas.List.{append-nil}
use Rattle.spl_message.specs.Entries.{Entries}
use Rattle.spl_message.specs.Table.{Table, as_table, message_at}
use Rattle.spl_message.proofs.Tables.{message_at-part_of}
use Rattle.spl_memtable.proofs.memtable.Memtable.slice.Goals as goal

pub returns-clause-messages : goal.returns-clause-messages
returns-clause-messages c = λ key.
    let read = sym (append-nil c.loop-key.entries.items) ∙ ap (λ (rest : Entries). c.loop-key.entries.items ++ rest) (sym c.in-None.ensures.steps.0) ∙ c.loop-key.invariant in
    ap (λ (table : Table). message_at table key) (c.of.ensures ∙ ap as_table read)
    ∙ message_at-part_of c.args.span.now c.args.self.now key

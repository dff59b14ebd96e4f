use Rattle.std.proofs.Common.{ap, ◌∙◌}
use Rattle.spl_message.specs.Table.{Table, message_at, part_of}
use Rattle.spl_message.proofs.Tables.{message_at-part_of}
use Rattle.spl_memtable.proofs.frozen.Frozen.slice.Goals as goal

pub returns-clause-messages : goal.returns-clause-messages
returns-clause-messages c = λ key.
    ap (λ (table : Table). message_at table key) (c.shared.ensures ∙ ap (λ (table : Table). part_of c.args.span.now table) c.in_ok-frozen.ensures.cases)
    ∙ message_at-part_of c.args.span.now c.args.self.now.value key

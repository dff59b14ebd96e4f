use Rattle.std.proofs.Common.{filter, subst, sym, ap, ◌∙◌}
use Rattle.spl_message.specs.Entries.{Entries, AreEntries}
use Rattle.spl_message.specs.Span.{is_before, is_from}
use Rattle.spl_message.specs.Table.{Table}
use Rattle.spl_memtable.proofs.Parts.{AreEntries-filter, AreEntries-part_in, filter-filter, part_in}
use Rattle.spl_memtable.proofs.memtable.Memtable.entries.Goals as goal

pub of_range-requires : goal.of_range-requires
of_range-requires c =
    subst AreEntries (sym c.entries_from.ensures.start) (AreEntries-filter (is_from c.args.span.now.from) c.self.inside.entries.entries c.entries_from.ensures.order)

pub returns-clause-value : goal.returns-clause-value
returns-clause-value c =
    let span = c.args.span.now in
    c.of_range.ensures
    ∙ ap (λ (es : Entries). filter (λ e. is_before span.to e.0) es) c.entries_from.ensures.start
    ∙ filter-filter span c.self.inside.entries.entries
    ∙ ap (λ (table : Table). part_in span table.messages) c.self.view_is

pub returns-clause-order : goal.returns-clause-order
returns-clause-order c =
    subst (λ (table : Table). AreEntries (part_in c.args.span.now table.messages)) c.self.view_is (AreEntries-part_in c.args.span.now c.self.inside.entries.entries c.entries_from.ensures.order)

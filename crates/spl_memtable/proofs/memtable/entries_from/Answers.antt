use Rattle.std.proofs.Common.{◌≡◌, List, ℕ, filter, Option, subst, sym, ◌∙◌}
use Rattle.spl_message.specs.Span.{is_from}
use Rattle.spl_memtable.proofs.Parts.{from_start}
use Rattle.spl_memtable.proofs.memtable.entries_from.Goals as goal
use Rattle.spl_memtable.proofs.memtable.entries_from.Goals.{in-Some, in-None}

pub returns-clause-start : goal.returns-clause-start
returns-clause-start c = elim c.match-start.branch [
  | in-Some w ↦
      let between = rw w.start-is at (c.range.ensures.between tt) in
      subst (λ (start : Option (List ℕ)). c.range.result ≡ filter (λ entry. is_from start entry.0) c.args.entries.now.entries) (sym w.in-Some.is) (between ∙ from_start w.in-Some.key c.args.entries.now.entries)
  | in-None w ↦
      let between = rw w.start-is at (c.range.ensures.between tt) in
      subst (λ (start : Option (List ℕ)). c.range.result ≡ filter (λ entry. is_from start entry.0) c.args.entries.now.entries) (sym w.in-None.is) between
]

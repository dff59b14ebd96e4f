use Rattle.std.proofs.Common.{◌≡◌, ap, ◌∙◌}
use Rattle.spl_message.proofs.Tables.{part_of-open}
use Rattle.spl_tables.specs.Memtables.{FrozenData}
use Rattle.spl_tables.proofs.frozen_table.FrozenTable.pick.Goals as goal

pub returns-clause-given : goal.returns-clause-given
returns-clause-given c = record {
  number = ap (λ (frozen : FrozenData). frozen.number) c.self.view_is;
  table = c.in_ok-table.ensures.part ∙ part_of-open c.self.inside.table.value ∙ ap (λ (frozen : FrozenData). frozen.table) c.self.view_is;
}

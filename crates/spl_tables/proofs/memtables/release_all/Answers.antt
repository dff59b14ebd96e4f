use Rattle.std.proofs.Common.{ℕ, ◌<◌, length, get_or, set, arith, ap, ◌∙◌}
use Rattle.std.proofs.lemmas.List.{get_or_default}
use Rattle.std.proofs.lemmas.List.Edits.{map_over_more}
use Rattle.spl_tables.specs.Memtables.{FrozenData, released_by}
use Rattle.spl_tables.proofs.memtables.release_all.Goals as goal

pub loop-table-preserved : goal.loop-table-preserved
loop-table-preserved c =
    let tables = c.loop-table.tables in
    let i = c.loop-table.table-index in
    let table = get_or tables i c.table-item.result in
    let within : i < length c.args.tables.now = omega arith in
    let inside : i < length tables = omega (arith, c.loop-table.auto.tables) in
    ap (λ (new : FrozenData). set tables i new) c.release.ensures
    ∙ map_over_more (released_by c.args.actor) c.args.tables.now tables i table within c.loop-table.invariant (get_or_default tables i c.table-item.result table inside)

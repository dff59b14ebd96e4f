use Rattle.std.proofs.Common.{◌++◌, ◌∷◌, [], List, map, sym, ap, subst, ◌∙◌, arith}
use Rattle.std.specs.Prelude.{sum_by}
use Rattle.spl_message.specs.declared.message.Message.{Message}
use Rattle.spl_message.specs.Key.{AreRising}
use Rattle.spl_port.specs.Page.{LeafRow}
use Rattle.spl_page.specs.LeafPage.{leaf_entry_length, leaf_row_of}
use Rattle.spl_page.specs.Tables.{leaf_size}
use Rattle.spl_page.specs.Writer.{leaf_rows_written}
use Rattle.spl_page.proofs.LeafText.{row_of, size_is}
use Rattle.spl_page.proofs.Lists.{fits, rises, taken}
use Rattle.spl_page.proofs.leaf_page.write_entries.Goals as goal

pub push_entry-requires-clause-rising : goal.push_entry-requires-clause-rising
push_entry-requires-clause-rising c =
    let entry = c.entry-item.result in
    let rising = rises leaf_row_of c.args.entries.now c.loop-entry.entry-index entry c.loop-entry-test.true c.entry-item.is (λ (row : LeafRow). row.key) c.requires.rising in
    subst (λ (message : Message). AreRising (map (λ row. row.key) (leaf_rows_written c.loop-entry.page ++ row_of entry.key message ∷ []))) (sym c.of.ensures)
    (subst (λ (rows : List LeafRow). AreRising (map (λ row. row.key) (rows ++ leaf_row_of entry ∷ []))) (sym c.loop-entry.invariant) rising)

pub push_entry-requires-clause-fits : goal.push_entry-requires-clause-fits
push_entry-requires-clause-fits c =
    let entry = c.entry-item.result in
    let room = fits leaf_row_of c.args.entries.now c.loop-entry.entry-index entry c.loop-entry-test.true c.entry-item.is leaf_size c.requires.fits in
    omega (arith, room, ap (sum_by leaf_size) c.loop-entry.invariant, size_is entry.key entry.message, ap (leaf_entry_length entry.key) c.of.ensures)

pub loop-entry-preserved : goal.loop-entry-preserved
loop-entry-preserved c =
    let entry = c.entry-item.result in
    c.in_ok-push_entry.ensures.ok
    ∙ ap (λ (message : Message). leaf_rows_written c.loop-entry.page ++ row_of entry.key message ∷ []) c.of.ensures
    ∙ ap (λ (rows : List LeafRow). rows ++ leaf_row_of entry ∷ []) c.loop-entry.invariant
    ∙ taken leaf_row_of c.args.entries.now c.loop-entry.entry-index entry c.loop-entry-test.true c.entry-item.is

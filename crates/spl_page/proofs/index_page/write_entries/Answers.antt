use Rattle.std.proofs.Common.{◌++◌, ◌∷◌, [], List, sym, ap, subst, ◌∙◌, arith}
use Rattle.spl_message.specs.Key.{AreRising}
use Rattle.spl_port.specs.Page.{IndexRow}
use Rattle.spl_page.specs.IndexPage.{index_row_of}
use Rattle.spl_page.specs.Tables.{child_keys, children_length}
use Rattle.spl_page.proofs.IndexText.{size}
use Rattle.spl_page.proofs.Lists.{fits, rises, taken}
use Rattle.spl_page.proofs.index_page.write_entries.Goals as goal

pub push_child-requires-clause-rising : goal.push_child-requires-clause-rising
push_child-requires-clause-rising c =
    let entry = c.entry-item.result in
    let rising = rises index_row_of c.args.entries.now c.loop-entry.entry-index entry c.loop-entry-test.true c.entry-item.is (λ (row : IndexRow). row.key) c.requires.rising in
    subst (λ (rows : List IndexRow). AreRising (child_keys (rows ++ index_row_of entry ∷ []))) (sym c.loop-entry.invariant) rising

pub push_child-requires-clause-fits : goal.push_child-requires-clause-fits
push_child-requires-clause-fits c =
    let entry = c.entry-item.result in
    let room = fits index_row_of c.args.entries.now c.loop-entry.entry-index entry c.loop-entry-test.true c.entry-item.is size c.requires.fits in
    omega (arith, room, ap children_length c.loop-entry.invariant)

pub loop-entry-preserved : goal.loop-entry-preserved
loop-entry-preserved c =
    let entry = c.entry-item.result in
    c.in_ok-push_child.ensures.ok
    ∙ ap (λ (rows : List IndexRow). rows ++ index_row_of entry ∷ []) c.loop-entry.invariant
    ∙ taken index_row_of c.args.entries.now c.loop-entry.entry-index entry c.loop-entry-test.true c.entry-item.is

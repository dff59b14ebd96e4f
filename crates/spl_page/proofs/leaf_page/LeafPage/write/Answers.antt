use Rattle.std.proofs.Common.{◌≡◌, List, ℕ, None, length, ap, subst, ◌∙◌, arith}
use Rattle.std.proofs.lemmas.List.{length-map}
use Rattle.spl_port.specs.Page.{IsLeafPage, LeafRow, is_rising, kind_fault, leaf_row, leaf_row_length}
use Rattle.spl_page.specs.declared.leaf_entry.LeafEntry.{LeafEntry}
use Rattle.spl_page.specs.LeafPage.{leaf_keys, leaf_length, leaf_row_of, leaf_rows_of}
use Rattle.spl_page.specs.Sound.{entries_of, page_rows}
use Rattle.spl_page.specs.Writer.{leaf_rows_written}
use Rattle.spl_page.proofs.LeafReading.{is_page, length_is, rises}
use Rattle.spl_page.proofs.Lists.{if_ok_both}
use Rattle.spl_page.proofs.leaf_page.LeafPage.write.Goals as goal

pub write_entries-requires-clause-rising : goal.write_entries-requires-clause-rising
write_entries-requires-clause-rising c =
    rises c.as_slice.result.now (ap (λ (es : List LeafEntry). is_rising (leaf_keys es)) c.as_slice.ensures.value ∙ c.self.invariant.rising)

pub write_entries-requires-clause-empty : goal.write_entries-requires-clause-empty
write_entries-requires-clause-empty c = ap leaf_rows_written c.new-page.ensures

pub write_entries-requires-clause-fits : goal.write_entries-requires-clause-fits
write_entries-requires-clause-fits c =
    omega (arith, length_is c.as_slice.result.now, ap leaf_length (c.as_slice.ensures.value ∙ c.self.view_is), c.requires.fits)

pub finish-requires-clause-some : goal.finish-requires-clause-some
finish-requires-clause-some c =
    let written = ap (λ (rows : List LeafRow). length rows) c.in_ok-write_entries.ensures in
    let listed = ap (λ (es : List LeafEntry). length es) (c.as_slice.ensures.value ∙ c.self.view_is) in
    omega (arith, written, length-map c.as_slice.result.now leaf_row_of, listed, c.requires.entries)

pub finish-requires-clause-places : goal.finish-requires-clause-places
finish-requires-clause-places c = λ k d lt. tt

pub returns : goal.returns
returns c =
    let entries = c.as_slice.result.now in
    let is = c.as_slice.ensures.value ∙ c.self.view_is in
    if_ok_both c.finish.result
    (λ (page : List ℕ). kind_fault 76 (λ row. row.key) (page_rows leaf_row leaf_row_length page) c.args.at page ≡ None)
    (λ page. entries_of leaf_row leaf_row_length page ≡ leaf_rows_written c.write_entries.new.page)
    (λ page. IsLeafPage c.args.at page (leaf_rows_of c.args.self.now))
    (λ page sound are. subst (λ (es : List LeafEntry). IsLeafPage c.args.at page (leaf_rows_of es)) is (is_page c.args.at page entries sound (are ∙ c.in_ok-write_entries.ensures)))
    c.finish.ensures.page c.finish.ensures.entries

use Rattle.std.proofs.Common.{◌≡◌, ◌<◌, List, ℕ, None, length, sym, ap, subst, ◌∙◌, arith}
use Rattle.std.specs.Prelude.{All}
use Rattle.std.proofs.lemmas.List.{length-map}
use Rattle.spl_port.specs.Page.{IsIndexPage, IndexRow, index_row, index_row_length, is_rising, kind_fault}
use Rattle.spl_page.specs.declared.index_entry.IndexEntry.{IndexEntry}
use Rattle.spl_page.specs.IndexPage.{first_keys, index_length, index_row_of, index_rows_of}
use Rattle.spl_page.specs.Sound.{entries_of, page_rows}
use Rattle.spl_page.specs.Writer.{rows_written, written_children}
use Rattle.spl_page.proofs.IndexText.{are, none_written}
use Rattle.spl_page.proofs.IndexReading.{is_page, length_is, places, rises}
use Rattle.spl_page.proofs.Lists.{if_ok_both}
use Rattle.spl_page.proofs.index_page.IndexPage.write.Goals as goal

pub write_entries-requires-clause-rising : goal.write_entries-requires-clause-rising
write_entries-requires-clause-rising c =
    rises c.as_slice.result.now (ap (λ (es : List IndexEntry). is_rising (first_keys es)) c.as_slice.ensures.value ∙ c.self.invariant.rising)

pub write_entries-requires-clause-empty : goal.write_entries-requires-clause-empty
write_entries-requires-clause-empty c = ap written_children c.new-page.ensures ∙ none_written

pub write_entries-requires-clause-fits : goal.write_entries-requires-clause-fits
write_entries-requires-clause-fits c =
    omega (arith, length_is c.as_slice.result.now, ap index_length (c.as_slice.ensures.value ∙ c.self.view_is), c.requires.fits)

pub finish-requires-clause-some : goal.finish-requires-clause-some
finish-requires-clause-some c =
    let written = ap (λ (rows : List IndexRow). length rows) (sym (are c.write_entries.new.page) ∙ c.in_ok-write_entries.ensures) in
    let listed = ap (λ (es : List IndexEntry). length es) (c.as_slice.ensures.value ∙ c.self.view_is) in
    omega (arith, written, length-map c.as_slice.result.now index_row_of, listed, c.requires.entries)

pub finish-requires-clause-places : goal.finish-requires-clause-places
finish-requires-clause-places c =
    let is = c.as_slice.ensures.value ∙ c.self.view_is in
    subst (All (λ (row : IndexRow). row.child < c.args.at.page)) (sym c.in_ok-write_entries.ensures ∙ are c.write_entries.new.page)
    (places c.args.at.page c.as_slice.result.now (subst (All (λ (entry : IndexEntry). entry.child < c.args.at.page)) (sym is) c.requires.children))

pub returns : goal.returns
returns c =
    let entries = c.as_slice.result.now in
    let is = c.as_slice.ensures.value ∙ c.self.view_is in
    if_ok_both c.finish.result
    (λ (page : List ℕ). kind_fault 73 (λ row. row.key) (page_rows (index_row c.args.at.page) index_row_length page) c.args.at page ≡ None)
    (λ page. entries_of (index_row c.args.at.page) index_row_length page ≡ rows_written index_row index_row_length c.write_entries.new.page)
    (λ page. IsIndexPage c.args.at page (index_rows_of c.args.self.now))
    (λ page sound found. subst (λ (es : List IndexEntry). IsIndexPage c.args.at page (index_rows_of es)) is (is_page c.args.at page entries sound (found ∙ sym (are c.write_entries.new.page) ∙ c.in_ok-write_entries.ensures)))
    c.finish.ensures.page c.finish.ensures.entries

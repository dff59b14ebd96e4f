use Rattle.std.proofs.Common.{◌≡◌, eqb, true, length, List, ℕ, None, ap, ◌∙◌, arith}
use Rattle.std.specs.Prelude.{slice_index}
use Rattle.std.proofs.lemmas.Result.{IfOk-weaker, on_err_weaker, on_ok_weaker}
use Rattle.spl_message.specs.Entries.{Entries}
use Rattle.spl_port.specs.Page.{kind_fault, leaf_fault, leaf_row, leaf_row_length}
use Rattle.spl_port.specs.Seal.{begins_leaf}
use Rattle.spl_page.specs.Sound.{entries_of, page_rows}
use Rattle.spl_page.specs.Tables.{leaf_table}
use Rattle.spl_page.specs.Writer.{leaf_rows_written, written_table}
use Rattle.spl_page.proofs.LeafText.{counted, no_fault, none_written, table_is}
use Rattle.spl_page.proofs.leaf_writer.LeafWriter.finish.Goals as goal

pub finish-requires-clause-some : goal.finish-requires-clause-some
finish-requires-clause-some c = omega (arith, c.requires.entries, counted c.self.inside.page, ap (λ (t : Entries). length t) c.self.view_is)

pub finish-requires-clause-places : goal.finish-requires-clause-places
finish-requires-clause-places c = λ k d lt. tt

pub returns-clause-page : goal.returns-clause-page
returns-clause-page c =
    IfOk-weaker c.finish.result (λ (page : List ℕ). kind_fault 76 (λ row. row.key) (page_rows leaf_row leaf_row_length page) c.args.at page ≡ None)
    (λ page. leaf_fault c.args.at page ≡ None) (λ page is. no_fault c.args.at page is) c.finish.ensures.page

pub returns-clause-table : goal.returns-clause-table
returns-clause-table c =
    IfOk-weaker c.finish.result (λ (page : List ℕ). entries_of leaf_row leaf_row_length page ≡ leaf_rows_written c.self.inside.page)
    (λ page. leaf_table page ≡ c.args.self.now) (λ page is. table_is c.self.inside.page page is ∙ c.self.view_is) c.finish.ensures.entries

pub returns-clause-kind : goal.returns-clause-kind
returns-clause-kind c =
    IfOk-weaker c.finish.result (λ (page : List ℕ). slice_index page 0 ≡ 76) (λ page. begins_leaf page ≡ true) (λ page is. ap (λ (n : ℕ). eqb n 76) is) c.finish.ensures.kind

pub returns-clause-most : goal.returns-clause-most
returns-clause-most c =
    omega (arith, c.finish.ensures.counted, c.finish.ensures.most, counted c.self.inside.page, ap (λ (t : Entries). length t) c.self.view_is)

pub returns-clause-ok : goal.returns-clause-ok
returns-clause-ok c = on_ok_weaker c.finish.result (λ is. ap written_table is ∙ none_written) c.finish.ensures.ok

pub returns-clause-err : goal.returns-clause-err
returns-clause-err c = on_err_weaker c.finish.result (λ is. ap written_table is ∙ c.self.view_is) c.finish.ensures.err

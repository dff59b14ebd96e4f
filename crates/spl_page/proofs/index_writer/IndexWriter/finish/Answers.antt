use Rattle.std.proofs.Common.{◌≡◌, ◌<◌, eqb, false, length, List, ℕ, None, sym, ap, subst, ◌∙◌, arith}
use Rattle.std.specs.Prelude.{All, slice_index}
use Rattle.std.proofs.lemmas.Result.{IfOk-weaker, on_err_weaker, on_ok_weaker}
use Rattle.spl_port.specs.Page.{IndexRow, index_fault, index_row, index_row_length, kind_fault}
use Rattle.spl_port.specs.Seal.{begins_leaf}
use Rattle.spl_page.specs.Sound.{entries_of, page_rows}
use Rattle.spl_page.specs.Tables.{children}
use Rattle.spl_page.specs.Writer.{rows_written, written_children}
use Rattle.spl_page.proofs.IndexText.{are, children_are, no_fault, none_written}
use Rattle.spl_page.proofs.index_writer.IndexWriter.finish.Goals as goal

pub finish-requires-clause-some : goal.finish-requires-clause-some
finish-requires-clause-some c =
    omega (arith, c.requires.entries, ap (λ (rows : List IndexRow). length rows) (sym (are c.self.inside.page) ∙ c.self.view_is))

pub finish-requires-clause-places : goal.finish-requires-clause-places
finish-requires-clause-places c =
    subst (All (λ (row : IndexRow). row.child < c.args.at.page)) (sym c.self.view_is ∙ are c.self.inside.page) c.requires.children

pub returns-clause-page : goal.returns-clause-page
returns-clause-page c =
    IfOk-weaker c.finish.result (λ (page : List ℕ). kind_fault 73 (λ row. row.key) (page_rows (index_row c.args.at.page) index_row_length page) c.args.at page ≡ None)
    (λ page. index_fault c.args.at page ≡ None) (λ page is. no_fault c.args.at page is) c.finish.ensures.page

pub returns-clause-children : goal.returns-clause-children
returns-clause-children c =
    IfOk-weaker c.finish.result (λ (page : List ℕ). entries_of (index_row c.args.at.page) index_row_length page ≡ rows_written index_row index_row_length c.self.inside.page)
    (λ page. children c.args.at.page page ≡ c.args.self.now) (λ page is. children_are c.self.inside.page c.args.at.page page is ∙ c.self.view_is) c.finish.ensures.entries

pub returns-clause-kind : goal.returns-clause-kind
returns-clause-kind c =
    IfOk-weaker c.finish.result (λ (page : List ℕ). slice_index page 0 ≡ 73) (λ page. begins_leaf page ≡ false) (λ page is. ap (λ (n : ℕ). eqb n 76) is) c.finish.ensures.kind

pub returns-clause-ok : goal.returns-clause-ok
returns-clause-ok c = on_ok_weaker c.finish.result (λ is. ap written_children is ∙ none_written) c.finish.ensures.ok

pub returns-clause-err : goal.returns-clause-err
returns-clause-err c = on_err_weaker c.finish.result (λ is. ap written_children is ∙ c.self.view_is) c.finish.ensures.err

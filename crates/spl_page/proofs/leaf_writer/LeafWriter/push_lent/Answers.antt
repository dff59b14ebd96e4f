use Rattle.std.proofs.Common.{◌++◌, ◌∷◌, [], List, ℕ, sym, ap, subst, ◌∙◌, arith}
use Rattle.std.proofs.lemmas.Result.{on_err_weaker, on_ok_weaker}
use Rattle.spl_message.specs.declared.message.Message.{Message}
use Rattle.spl_message.specs.Entries.{AreEntries, Entries}
use Rattle.spl_page.specs.Lent.{message_lent}
use Rattle.spl_page.specs.Tables.{table_length}
use Rattle.spl_page.specs.Writer.{written_table}
use Rattle.spl_page.proofs.LeafText.{rises_next, sized, table_push}
use Rattle.spl_page.proofs.leaf_writer.LeafWriter.push_lent.Goals as goal

pub push_entry-requires-clause-rising : goal.push_entry-requires-clause-rising
push_entry-requires-clause-rising c =
    let entry : List ℕ × Message = (c.args.key.now, message_lent c.args.message) in
    rises_next c.self.inside.page c.args.key.now (message_lent c.args.message) (subst (λ (t : Entries). AreEntries (t ++ entry ∷ [])) (sym c.self.view_is) c.requires.rising)

pub push_entry-requires-clause-fits : goal.push_entry-requires-clause-fits
push_entry-requires-clause-fits c =
    let used = ap table_length (sym c.self.view_is) ∙ sized c.self.inside.page in
    omega (arith, used, c.requires.fits)

pub returns-clause-ok : goal.returns-clause-ok
returns-clause-ok c =
    let entry : List ℕ × Message = (c.args.key.now, message_lent c.args.message) in
    on_ok_weaker c.push_entry.result
    (λ is. table_push c.self.inside.page c.push_entry.new.page c.args.key.now (message_lent c.args.message) is ∙ ap (λ (t : Entries). t ++ entry ∷ []) c.self.view_is)
    c.push_entry.ensures.ok

pub returns-clause-err : goal.returns-clause-err
returns-clause-err c = on_err_weaker c.push_entry.result (λ is. ap written_table is ∙ c.self.view_is) c.push_entry.ensures.err

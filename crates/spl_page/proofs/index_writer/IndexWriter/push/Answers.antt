use Rattle.std.proofs.Common.{◌++◌, ◌∷◌, [], List, sym, ap, subst, ◌∙◌, arith}
use Rattle.std.proofs.lemmas.Result.{on_err_weaker, on_ok_weaker}
use Rattle.spl_message.specs.Key.{AreRising}
use Rattle.spl_port.specs.Page.{IndexRow}
use Rattle.spl_page.specs.Tables.{child_keys, children_length}
use Rattle.spl_page.specs.Writer.{written_children}
use Rattle.spl_page.proofs.index_writer.IndexWriter.push.Goals as goal

pub push_child-requires-clause-rising : goal.push_child-requires-clause-rising
push_child-requires-clause-rising c =
    let row : IndexRow = record { child = c.args.child; key = c.args.first.now } in
    subst (λ (rows : List IndexRow). AreRising (child_keys (rows ++ row ∷ []))) (sym c.self.view_is) c.requires.rising

pub push_child-requires-clause-fits : goal.push_child-requires-clause-fits
push_child-requires-clause-fits c = omega (arith, ap children_length c.self.view_is, c.requires.fits)

pub returns-clause-ok : goal.returns-clause-ok
returns-clause-ok c =
    let row : IndexRow = record { child = c.args.child; key = c.args.first.now } in
    on_ok_weaker c.push_child.result (λ is. is ∙ ap (λ (rows : List IndexRow). rows ++ row ∷ []) c.self.view_is) c.push_child.ensures.ok

pub returns-clause-err : goal.returns-clause-err
returns-clause-err c = on_err_weaker c.push_child.result (λ is. ap written_children is ∙ c.self.view_is) c.push_child.ensures.err

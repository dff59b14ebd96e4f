use Rattle.std.proofs.Common.{◌++◌, ◌∷◌, [], List, sym, subst}
use Rattle.spl_message.specs.Key.{AreRising}
use Rattle.spl_port.specs.Page.{IndexRow}
use Rattle.spl_page.specs.Tables.{child_keys}
use Rattle.spl_page.proofs.Rising.{one_rises}
use Rattle.spl_page.proofs.tests.child_written.Goals as goal

pub push-requires-clause-rising : goal.push-requires-clause-rising
push-requires-clause-rising c =
    let row : IndexRow = record { child = 1; key = c.args.first.now } in
    subst (λ (rows : List IndexRow). AreRising (child_keys (rows ++ row ∷ []))) (sym c.new-page.ensures) (one_rises c.args.first.now)

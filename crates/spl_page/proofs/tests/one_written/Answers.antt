use Rattle.std.proofs.Common.{◌++◌, ◌∷◌, [], List, ℕ, sym, subst}
use Rattle.spl_message.specs.declared.message.Message.{Message}
use Rattle.spl_message.specs.Entries.{AreEntries, Entries}
use Rattle.spl_page.proofs.Rising.{one_rises}
use Rattle.spl_page.proofs.tests.one_written.Goals as goal

pub push-requires-clause-rising : goal.push-requires-clause-rising
push-requires-clause-rising c =
    let entry : List ℕ × Message = (c.args.key.now, c.args.message.now) in
    subst (λ (table : Entries). AreEntries (table ++ entry ∷ [])) (sym c.new-page.ensures) (one_rises c.args.key.now)

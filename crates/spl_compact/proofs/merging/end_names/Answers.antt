use Rattle.spl_compact.proofs.Accounting.{goes, goes_on_twice}
use Rattle.spl_compact.proofs.merging.end_names.Goals as goal

pub returns-clause-names : goal.returns-clause-names
returns-clause-names g c =
    goes_on_twice _ _ _ _ _ _ _ (goes _ _ _ _ c.let_go_all.ensures.fewer c.let_go_all.ensures.branches c.let_go_all.ensures.granted)
    (goes _ _ _ _ c.let_go_all-2.ensures.fewer c.let_go_all-2.ensures.branches c.let_go_all-2.ensures.granted)

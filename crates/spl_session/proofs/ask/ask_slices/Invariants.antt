use Rattle.std.proofs.Common.{◌≤◌, [], ◌++◌, length}
use Rattle.spl_message.specs.Table.{Table}
use Rattle.spl_session.specs.Asking.{Folds}
use Rattle.spl_session.proofs.Asking.{from}
use Rattle.spl_session.proofs.ask.ask_slices.Given as goal

abbrev pub invariant-loop-left : goal.invariant-loop-left
invariant-loop-left g l = (l.left ≤ length l.parts) × Folds (g.L.MergeLaw.rule l.law) l.key (from (g.L.MergeLaw.rule l.law) l.key (λ (table : Table). table) l.parts l.left ++ []) l.found

abbrev pub decreases-loop-left : goal.decreases-loop-left
decreases-loop-left g l = l.left

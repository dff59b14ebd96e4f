use Rattle.spl_core.proofs.Standings.{empty_stands}
use Rattle.spl_core.proofs.engine.Core.new.Goals as goal

pub returns-clause-stands : goal.returns-clause-stands
returns-clause-stands g c = λ rule. empty_stands rule _ c.args.extents c.args.callers _ c.in_ok-new.ensures

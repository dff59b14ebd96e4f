use Rattle.spl_range.proofs.Ends.{ends_at}
use Rattle.spl_range.proofs.gather.is_end.Goals as goal

pub returns-in-Some : goal.returns-in-Some
returns-in-Some c = λ holds. ends_at c.args.span.now c.args.end.now c.in-Some.end c.in-Some.is (c.is_key.ensures holds) c.requires

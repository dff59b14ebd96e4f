use Rattle.std.proofs.Common.{sym}
use Rattle.spl_numbers.proofs.LevelLemmas.{length-members_in}
use Rattle.spl_numbers.proofs.numbers.Numbers.limit.Goals as goal

pub returns : goal.returns
returns c = rw (← c.self.view_is) (sym (length-members_in c.self.inside.members.items c.self.inside.limit))

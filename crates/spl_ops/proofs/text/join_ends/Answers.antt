use Rattle.std.proofs.Common.{rules}
use Rattle.std.proofs.lemmas.Slice.{overwrites}
use Rattle.spl_ops.proofs.Ends.{cut_first}
use Rattle.spl_ops.proofs.text.join_ends.Goals as goal

pub returns : goal.returns
returns c = search (rules, overwrites, cut_first)

use Rattle.std.proofs.Common.{arith, sym}
use Rattle.std.proofs.lemmas.List.{take_all}
use Rattle.spl_script.proofs.reader.within_limit.Goals as goal

pub returns-else-bytes-gt-INPUT_LIMIT : goal.returns-else-bytes-gt-INPUT_LIMIT
returns-else-bytes-gt-INPUT_LIMIT c = sym (take_all 16777217 _ (omega arith))

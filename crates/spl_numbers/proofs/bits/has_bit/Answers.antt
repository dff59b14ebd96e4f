use Rattle.spl_numbers.proofs.BitLemmas.{bit_by_shift}
use Rattle.spl_numbers.proofs.bits.has_bit.Goals as goal

pub returns : goal.returns
returns c = bit_by_shift _ _

use Rattle.std.proofs.Common.{w64, ap, eqb, arith}
use Rattle.std.proofs.lemmas.Nat.Bits.{bit_at_clear_same, bit_at_clear_other}
use Rattle.spl_numbers.proofs.BitLemmas.{changes_bit}
use Rattle.spl_numbers.proofs.bits.clear_bit.Goals as goal

pub returns-clause-cleared : goal.returns-clause-cleared
returns-clause-cleared c =
    changes_bit _ _ _ _ c.requires
    (ap (λ b. eqb b 1) (bit_at_clear_same w64 _ _ (omega arith)))
    (λ i within apart. bit_at_clear_other w64 _ _ (omega arith) i within apart)

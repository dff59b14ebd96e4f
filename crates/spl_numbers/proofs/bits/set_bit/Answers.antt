use Rattle.std.proofs.Common.{w64, ap, eqb, refl, arith}
use Rattle.std.proofs.lemmas.Nat.Bits.{bit_at_set_same, bit_at_set_other}
use Rattle.spl_numbers.proofs.BitLemmas.{changes_bit}
use Rattle.spl_numbers.proofs.bits.set_bit.Goals as goal

pub returns : goal.returns
returns c =
    changes_bit _ _ _ _ c.requires
    (ap (λ b. eqb b 1) (bit_at_set_same w64 _ _ (omega arith)))
    (λ i within apart. bit_at_set_other w64 _ _ (omega arith) i apart)

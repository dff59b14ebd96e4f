use Rattle.std.proofs.Common.{◌≡◌, eqb, take}
use Rattle.std.specs.List.{list_all}
use Rattle.spl_page.proofs.frame.is_zeros.Given as goal

abbrev pub invariant-loop-byte : goal.invariant-loop-byte
invariant-loop-byte l = l.all ≡ list_all (λ byte. eqb byte 0) (take l.byte-index l.bytes)

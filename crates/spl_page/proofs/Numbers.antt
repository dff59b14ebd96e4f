-- The numbers of the page grammar are those that `byteorder` reads.
use Rattle.std.proofs.Common.{◌≡◌, ℕ, zero, suc, ◌+◌, ◌-◌, List, length, take, drop, refl, ap, ◌∙◌, arith}
use Rattle.std.proofs.lemmas.List.{get_or-drop}
use Rattle.std.proofs.lemmas.Grind.{common_steps}
use Rattle.byteorder.specs.Endian.{big_from}
use Rattle.spl_port.specs.Page.{number_at}

number_from : (i j n : ℕ) (bytes : List ℕ) → big_from j n (drop i bytes) ≡ number_at (i + j) n bytes
number_from i j zero bytes = refl
number_from i j (suc n) bytes =
    let byte = get_or-drop i bytes j 0 in
    let next : i + suc j ≡ suc (i + j) = omega arith in
    let more = number_from i (suc j) n bytes in
    rw (byte, more, next) refl

-- what a slice from a place on has
pub rest_is : (i : ℕ) (bytes : List ℕ) → take (length bytes - i) (drop i bytes) ≡ drop i bytes
rest_is i bytes = grind (arith, common_steps)

-- the number from a place on is the one in front of the slice from that place on
pub number_is : (i n : ℕ) (bytes : List ℕ) → big_from 0 n (take (length bytes - i) (drop i bytes)) ≡ number_at i n bytes
number_is i n bytes =
    let e : i + 0 ≡ i = omega arith in
    ap (big_from 0 n) (rest_is i bytes) ∙ number_from i 0 n bytes ∙ ap (λ (k : ℕ). number_at k n bytes) e

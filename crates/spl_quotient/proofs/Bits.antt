-- How many bits hashes and fingerprints have.
use Rattle.std.proofs.Common.{◌≡◌, ℕ, ◌+◌, ◌-◌, ◌*◌, ◌/◌, ◌^◌, ◌<◌, ◌≤◌, List, sym, ap, ◌∙◌, arith}
use Rattle.std.proofs.Math.Nat.{div-lt_iff_lt-mul}
use Rattle.std.proofs.lemmas.Nat.{pow-add, pow_pos}
use Rattle.spl_message.proofs.Hashes.{fnv_below}
use Rattle.spl_quotient.specs.Fnv.{fnv_of, fingerprint_of}

-- the bits that are kept and those that are shifted out are 64
pub shifted_below : (hash q : ℕ) → q ≤ 52 → hash < 2 ^ 64 → hash / 2 ^ (52 - q) < 2 ^ (q + 12)
shifted_below hash q most below =
    let bits : q + 12 + (52 - q) ≡ 64 = omega arith in
    let whole = sym (pow-add 2 (q + 12) (52 - q)) ∙ ap (λ (n : ℕ). 2 ^ n) bits in
    let in_all : hash < 2 ^ (q + 12) * 2 ^ (52 - q) = rw whole below in
    (div-lt_iff_lt-mul (pow_pos (52 - q))).1 in_all

pub fingerprint_below : (q : ℕ) (key : List ℕ) → q ≤ 52 → fingerprint_of q key < 2 ^ (q + 12)
unfolding fingerprint_of
fingerprint_below q key most = shifted_below (fnv_of key) q most (fnv_below key)

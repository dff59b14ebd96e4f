-- The spots of fingerprints: each has its own.
use Rattle.std.proofs.Common.{◌≡◌, ℕ, ◌+◌, ◌-◌, ◌*◌, ◌/◌, ◌%◌, ◌^◌, ◌<◌, ◌≤◌, ◌↔◌, List, length, get_or, map, mul_assoc, sym, ap, subst, ◌∙◌, arith}
use Rattle.std.specs.Prelude.{All, Contains, bit_and}
use Rattle.std.proofs.Math.Nat.{add-mul-mod_self_left, mod-eq_of_lt, mod-lt}
use Rattle.std.proofs.Math.Pow.{mod-mod-pow}
use Rattle.std.proofs.lemmas.List.{length-map, get_or-map}
use Rattle.std.proofs.lemmas.Nat.{and_mask, div-mul-add, mul-mod_first, pow-add, pow_pos}
use Rattle.spl_quotient.specs.declared.prints.TheConstants.{SCATTER}
use Rattle.spl_quotient.specs.Spot.{spot_of}

-- q + 12 bits and the others are 64
whole : (q : ℕ) → q ≤ 52 → 2 ^ (q + 12) * 2 ^ (52 - q) ≡ 2 ^ 64
whole q most = let bits : q + 12 + (52 - q) ≡ 64 = omega arith in sym (pow-add 2 (q + 12) (52 - q)) ∙ ap (λ (n : ℕ). 2 ^ n) bits

pub spot-below : (q print : ℕ) → spot_of q print < 2 ^ (q + 12)
unfolding spot_of
spot-below q print = mod-lt (print * SCATTER) (pow_pos (q + 12))

-- the low q + 12 bits of a product
mask : (m k : ℕ) → 0 < k → ((m + 1) * k - 1) / k ≡ m
mask m k some =
    let parts : (m + 1) * k - 1 ≡ m * k + (k - 1) = omega arith in
    ap (λ (n : ℕ). n / k) parts ∙ div-mul-add m k (k - 1) (omega arith)

pub spot_is : (q print : ℕ) → q ≤ 52 → bit_and (print * SCATTER % 2 ^ 64) (18446744073709551615 / 2 ^ (52 - q)) ≡ spot_of q print
unfolding spot_of
spot_is q print most =
    let ones : 18446744073709551615 / 2 ^ (52 - q) ≡ 2 ^ (q + 12) - 1 =
    ap (λ (n : ℕ). (n - 1) / 2 ^ (52 - q)) (sym (whole q most))
    ∙ ap (λ (n : ℕ). (n * 2 ^ (52 - q) - 1) / 2 ^ (52 - q)) (let some = pow_pos (q + 12) in omega arith)
    ∙ mask (2 ^ (q + 12) - 1) (2 ^ (52 - q)) (pow_pos (52 - q)) in
    let bits : 52 - q + (q + 12) ≡ 64 = omega arith in
    ap (λ (n : ℕ). bit_and (print * SCATTER % 2 ^ 64) n) ones
    ∙ and_mask (print * SCATTER % 2 ^ 64) (q + 12)
    ∙ ap (λ (n : ℕ). print * SCATTER % 2 ^ n % 2 ^ (q + 12)) (sym bits)
    ∙ mod-mod-pow (print * SCATTER) (52 - q) (q + 12)

-- what SCATTER is multiplied by to give one more than a multiple of 2 ^ 64
abbrev inverse : ℕ
inverse = 17428512612931826493

-- the fingerprint is given back by its spot
back : (q print : ℕ) → q ≤ 52 → print < 2 ^ (q + 12) → spot_of q print * inverse % 2 ^ (q + 12) ≡ print
unfolding spot_of
back q print most below =
    let more : print * SCATTER * inverse ≡ print + 2 ^ 64 * (print * 10771413168148108919) = omega arith in
    let times : print * SCATTER * inverse ≡ print + 2 ^ (q + 12) * (2 ^ (52 - q) * (print * 10771413168148108919)) =
    more
    ∙ ap (λ (n : ℕ). print + n * (print * 10771413168148108919)) (sym (whole q most))
    ∙ ap (λ (n : ℕ). print + n) (mul_assoc (2 ^ (q + 12)) (2 ^ (52 - q)) (print * 10771413168148108919)) in
    mul-mod_first (print * SCATTER) inverse (2 ^ (q + 12))
    ∙ ap (λ (n : ℕ). n % 2 ^ (q + 12)) times
    ∙ add-mul-mod_self_left print (2 ^ (q + 12)) (2 ^ (52 - q) * (print * 10771413168148108919))
    ∙ mod-eq_of_lt below

pub own_spot : (q a b : ℕ) → q ≤ 52 → a < 2 ^ (q + 12) → b < 2 ^ (q + 12) → spot_of q a ≡ spot_of q b → a ≡ b
own_spot q a b most a_below b_below same = sym (back q a most a_below) ∙ ap (λ (n : ℕ). n * inverse % 2 ^ (q + 12)) same ∙ back q b most b_below

-- a fingerprint is among some exactly if its spot is among theirs
pub spotted : (prints : List ℕ) (q : ℕ) → q ≤ 52 → All (λ print. print < 2 ^ (q + 12)) prints → (print : ℕ)
    → print < 2 ^ (q + 12) → Contains (map (spot_of q) prints) (spot_of q print) → Contains prints print
spotted prints q most bits print below (k, within, is) =
    let inside : k < length prints = rw (length-map prints (spot_of q)) at within in
    let here : get_or (map (spot_of q) prints) k (spot_of q print) ≡ spot_of q (get_or prints k print) = get_or-map (spot_of q) prints k print (spot_of q print) inside in
    (k, inside, own_spot q (get_or prints k print) print most (bits k print inside) below (sym here ∙ is))

pub spotted_back : (prints : List ℕ) (q : ℕ) → q ≤ 52 → All (λ print. print < 2 ^ (q + 12)) prints → (print : ℕ)
    → Contains prints print → (print < 2 ^ (q + 12)) × Contains (map (spot_of q) prints) (spot_of q print)
spotted_back prints q most bits print (k, within, is) = (
  subst (λ (n : ℕ). n < 2 ^ (q + 12)) is (bits k print within),
  (k, rw (length-map prints (spot_of q)) within, get_or-map (spot_of q) prints k print (spot_of q print) within ∙ ap (spot_of q) is),
)

-- Fewer keys are above a greater key.
use Rattle.std.proofs.Common.{◌≡◌, ℕ, zero, suc, ◌+◌, ◌*◌, ◌-◌, ◌<◌, ◌≤◌, Bool, true, false, cond, nat_lt, ◌==◌, List, [], ◌∷◌, length, Option, None, Some, Ordering, refl, ap, ◌∙◌, sym, arith, mul_comm}
use Rattle.std.proofs.lemmas.Bool.Decides.{nat_tests}
use Rattle.std.proofs.lemmas.List.Elements.{All-head, All-tail}
use Rattle.std.proofs.lemmas.Nat.{mul-add-lt}
use Rattle.std.specs.declared.cmp.Ordering.TheVariants.{Less, Equal, Greater}
use Rattle.std.specs.Cmp.Lexicographic.{slice_cmp}
use Rattle.std.specs.List.{All}
use Rattle.std.specs.Ordering.{nat_cmp, is_lt, ordering_then}
use Rattle.spl_message.specs.Key.{IsKey}
use Rattle.spl_merge.specs.Merger.{IsAbove}
use Rattle.spl_streams.specs.Above.{all_above, count_above, keys_left}

less : (o : Ordering) → is_lt o ≡ true → o ≡ Less
less Less h = refl
less Equal h = cc
less Greater h = cc

-- a first digit, and what follows it
digit : (a h w b : ℕ) → a < h → b < w → b + a * w < h * w
digit a h w b above within =
    let sum = mul-add-lt a w b h above within in
    let turned = mul_comm h w in
    omega (arith, sum, turned)

most : (n : ℕ) (bytes : List ℕ) → count_above n bytes ≤ all_above n
unfolding count_above all_above
most zero bytes = omega arith
most (suc n) [] = omega arith
most (suc n) (byte ∷ bytes) =
    let rest = most n bytes in
    let all = digit (255 - byte) 256 (1 + all_above n) (count_above n bytes) (omega arith) (omega (arith, rest)) in
    omega (arith, all)

-- the first of two numbers is below the second, or they are the same and the rest decides
by_first : (x y : ℕ) (rest : Ordering) → ordering_then (nat_cmp x y) rest ≡ Less → (b : Bool) → nat_lt x y ≡ b →
    (e : Bool) → (x == y) ≡ e → (P : Type 0) → (nat_lt x y ≡ true → P) → ((x == y) ≡ true → rest ≡ Less → P) → P
by_first x y rest is true below e same P first later = first below
by_first x y rest is false below true same P first later =
    later same (sym (ap (λ b. ordering_then (cond b Less (cond (x == y) Equal Greater)) rest) below
    ∙ ap (λ e. ordering_then (cond e Equal Greater) rest) same) ∙ is)
by_first x y rest is false below false same P first later = cc (
  is,
  ap (λ b. ordering_then (cond b Less (cond (x == y) Equal Greater)) rest) below
      ∙ ap (λ e. ordering_then (cond e Equal Greater) rest) same,
)

fewer : (n : ℕ) (xs ys : List ℕ) → length ys ≤ n → All (λ byte. byte < 256) ys → slice_cmp nat_cmp xs ys ≡ Less →
    count_above n ys < count_above n xs
unfolding count_above all_above
fewer zero [] [] long bytes is = cc
fewer zero (x ∷ xs) [] long bytes is = cc
fewer zero xs (y ∷ ys) long bytes is = absurd (omega arith)
fewer (suc n) [] [] long bytes is = cc
fewer (suc n) [] (y ∷ ys) long bytes is =
    let rest = most n ys in
    let all = digit (255 - y) 256 (1 + all_above n) (count_above n ys) (omega arith) (omega (arith, rest)) in
    omega (arith, all)
fewer (suc n) (x ∷ xs) [] long bytes is = cc
fewer (suc n) (x ∷ xs) (y ∷ ys) long bytes is =
    by_first x y (slice_cmp nat_cmp xs ys) is (nat_lt x y) refl (x == y) refl
    (count_above n ys + (255 - y) * (1 + all_above n) < count_above n xs + (255 - x) * (1 + all_above n))
    (λ below.
    let byte = All-head (λ byte. byte < 256) y ys bytes in
    let rest = most n ys in
    let order : x < y = grind (arith, nat_tests) in
    let all = digit (255 - y) (255 - x) (1 + all_above n) (count_above n ys) (omega (arith, byte, order)) (omega (arith, rest)) in
    omega (arith, all))
    (λ same later.
    let alike : x ≡ y = grind (arith, nat_tests) in
    let rest = fewer n xs ys (omega (arith, long)) (All-tail (λ byte. byte < 256) y ys bytes) later in
    let digits : (255 - y) * (1 + all_above n) ≡ (255 - x) * (1 + all_above n) =
    ap (λ d. (255 - d) * (1 + all_above n)) (sym alike) in
    omega (arith, rest, digits))

-- a key above the last one leaves fewer keys
pub keys_fewer : (last : Option (List ℕ)) (key : List ℕ) → IsKey key → IsAbove last key → keys_left (Some key) < keys_left last
keys_fewer None key is above = let all = most 64 key in omega (arith, all)
keys_fewer (Some last) key is above = fewer 64 last key is.1 is.2 (less (slice_cmp nat_cmp last key) above)

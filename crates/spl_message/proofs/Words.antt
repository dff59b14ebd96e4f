-- Bytes compare as the numbers that they write, and rooms as the bytes at their front.
use Rattle.std.proofs.Common.{◌≡◌, ℕ, zero, suc, ◌+◌, ◌-◌, ◌*◌, ◌^◌, ◌<◌, ◌≤◌, arith, get_or, length, length-append, length-drop, length-take-le, take, drop, take-append-drop, true, false, ◌==◌, not, replicate, List, [], ◌∷◌, ◌++◌, Ordering, refl, ap, ◌∙◌, sym, subst}
use Rattle.std.proofs.Math.Nat.{mul-le-mul_right, pow-suc}
use Rattle.std.proofs.lemmas.List.{drop-drop, get_or_default, length-replicate, take_all}
use Rattle.std.proofs.lemmas.List.Elements.{All-drop, All-head, All-tail, All-take}
use Rattle.std.proofs.lemmas.Cmp.{nat_list_cmp_total, ranked, tied_itself}
use Rattle.std.specs.Array.{IsFirstChunk}
use Rattle.std.specs.Cmp.{nat_cmp_is}
use Rattle.std.specs.Cmp.Lexicographic.{slice_cmp}
use Rattle.std.specs.Int.{w64, from_be_bytes}
use Rattle.std.specs.Ordering.{nat_cmp, ordering_index, ordering_then}
use Rattle.std.specs.declared.cmp.Ordering.TheVariants.{Less, Equal, Greater}
use Rattle.spl_message.specs.Room.{AreBytes, IsRoom, length_again, padded, padded_again, worth}

first_decides : (order rest : Ordering) → true ≡ not (ordering_index order == 1) → ordering_then order rest ≡ order
first_decides Less rest unequal = refl
first_decides Equal rest unequal = cc
first_decides Greater rest unequal = refl

rest_decides : (order rest : Ordering) → false ≡ not (ordering_index order == 1) → ordering_then order rest ≡ rest
rest_decides Less rest equal = cc
rest_decides Equal rest equal = refl
rest_decides Greater rest equal = cc

abbrev IsByte : ℕ → Type 0
IsByte byte = byte < 256

then_then : (a b c : Ordering) → ordering_then a (ordering_then b c) ≡ ordering_then (ordering_then a b) c
then_then Less b c = refl
then_then Equal b c = refl
then_then Greater b c = refl

worth-below : (xs : List ℕ) → AreBytes xs → worth xs < 256 ^ length xs
worth-below [] bytes = omega arith
worth-below (x ∷ xs) bytes =
    let rest = worth-below xs (All-tail IsByte x xs bytes) in
    let digits : (x + 1) * 256 ^ length xs ≤ 256 * 256 ^ length xs = mul-le-mul_right (256 ^ length xs) (omega (arith, All-head IsByte x xs bytes)) in
    omega (arith, rest, digits, pow-suc 256 (length xs))

-- of two numbers the first digit decides, unless it is the same
digits_below : (x y w a b : ℕ) → x < y → a < w → x * w + a < y * w + b
digits_below x y w a b below small =
    let more : (x + 1) * w ≤ y * w = mul-le-mul_right w (omega arith) in omega arith

nat_cmp-add : (n a b : ℕ) (o : Ordering) → o ≡ nat_cmp a b → nat_cmp (n + a) (n + b) ≡ o
nat_cmp-add n a b Less is = let below : a < b = ranked a b Less is in sym (nat_cmp_is (n + a) (n + b) Less (omega arith))
nat_cmp-add n a b Equal is = let same : a ≡ b = ranked a b Equal is in sym (nat_cmp_is (n + a) (n + b) Equal (omega arith))
nat_cmp-add n a b Greater is = let above : b < a = ranked a b Greater is in sym (nat_cmp_is (n + a) (n + b) Greater (omega arith))

nat_cmp-suc : (a b : ℕ) (o : Ordering) → o ≡ nat_cmp a b → nat_cmp (suc a) (suc b) ≡ o
nat_cmp-suc a b Less is = let below : a < b = ranked a b Less is in sym (nat_cmp_is (suc a) (suc b) Less (omega arith))
nat_cmp-suc a b Equal is = let same : a ≡ b = ranked a b Equal is in sym (nat_cmp_is (suc a) (suc b) Equal (omega arith))
nat_cmp-suc a b Greater is = let above : b < a = ranked a b Greater is in sym (nat_cmp_is (suc a) (suc b) Greater (omega arith))

nat_cmp-digits : (x y w a b : ℕ) → a < w → b < w → (o : Ordering) → o ≡ nat_cmp x y → nat_cmp (x * w + a) (y * w + b) ≡ ordering_then o (nat_cmp a b)
nat_cmp-digits x y w a b small other Less is = sym (nat_cmp_is (x * w + a) (y * w + b) Less (digits_below x y w a b (ranked x y Less is) small))
nat_cmp-digits x y w a b small other Equal is =
    let same : x ≡ y = ranked x y Equal is in
    ap (λ n. nat_cmp (n * w + a) (y * w + b)) same ∙ nat_cmp-add (y * w) a b (nat_cmp a b) refl
nat_cmp-digits x y w a b small other Greater is = sym (nat_cmp_is (x * w + a) (y * w + b) Greater (digits_below y x w b a (ranked x y Greater is) other))

pub nat_cmp-worth : (xs ys : List ℕ) → length xs ≡ length ys → AreBytes xs → AreBytes ys → nat_cmp (worth xs) (worth ys) ≡ slice_cmp nat_cmp xs ys
nat_cmp-worth [] [] same bytes others = refl
nat_cmp-worth [] (y ∷ ys) same bytes others = absurd (omega arith)
nat_cmp-worth (x ∷ xs) [] same bytes others = absurd (omega arith)
nat_cmp-worth (x ∷ xs) (y ∷ ys) same bytes others =
    let alike : length xs ≡ length ys = omega arith in
    let below = worth-below ys (All-tail IsByte y ys others) in
    ap (λ n. nat_cmp (x * 256 ^ length xs + worth xs) (y * 256 ^ n + worth ys)) (sym alike)
    ∙ nat_cmp-digits x y (256 ^ length xs) (worth xs) (worth ys) (worth-below xs (All-tail IsByte x xs bytes)) (subst (λ n. worth ys < 256 ^ n) (sym alike) below) (nat_cmp x y) refl
    ∙ ap (λ o. ordering_then (nat_cmp x y) o) (nat_cmp-worth xs ys alike (All-tail IsByte x xs bytes) (All-tail IsByte y ys others))

pub from_be_bytes-worth : (xs : List ℕ) → length xs ≡ 8 → from_be_bytes w64 xs ≡ worth xs
from_be_bytes-worth [] len = absurd (omega arith)
from_be_bytes-worth (a ∷ []) len = absurd (omega arith)
from_be_bytes-worth (a ∷ b ∷ []) len = absurd (omega arith)
from_be_bytes-worth (a ∷ b ∷ c ∷ []) len = absurd (omega arith)
from_be_bytes-worth (a ∷ b ∷ c ∷ d ∷ []) len = absurd (omega arith)
from_be_bytes-worth (a ∷ b ∷ c ∷ d ∷ e ∷ []) len = absurd (omega arith)
from_be_bytes-worth (a ∷ b ∷ c ∷ d ∷ e ∷ f ∷ []) len = absurd (omega arith)
from_be_bytes-worth (a ∷ b ∷ c ∷ d ∷ e ∷ f ∷ g ∷ []) len = absurd (omega arith)
from_be_bytes-worth (a ∷ b ∷ c ∷ d ∷ e ∷ f ∷ g ∷ h ∷ []) len = omega arith
from_be_bytes-worth (a ∷ b ∷ c ∷ d ∷ e ∷ f ∷ g ∷ h ∷ i ∷ more) len = absurd (omega arith)

-- of two lists the first part decides, unless it is the same
pub slice_cmp-append : (xs ys more others : List ℕ) → length xs ≡ length ys → slice_cmp nat_cmp (xs ++ more) (ys ++ others) ≡ ordering_then (slice_cmp nat_cmp xs ys) (slice_cmp nat_cmp more others)
slice_cmp-append [] [] more others same = refl
slice_cmp-append [] (y ∷ ys) more others same = absurd (omega arith)
slice_cmp-append (x ∷ xs) [] more others same = absurd (omega arith)
slice_cmp-append (x ∷ xs) (y ∷ ys) more others same =
    ap (λ o. ordering_then (nat_cmp x y) o) (slice_cmp-append xs ys more others (omega arith))
    ∙ then_then (nat_cmp x y) (slice_cmp nat_cmp xs ys) (slice_cmp nat_cmp more others)

module _ (xs ys : List ℕ) (place : ℕ) (within : place + 8 ≤ length xs) (same : length xs ≡ length ys)
    (bytes : AreBytes (take 8 (drop place xs))) (others : AreBytes (take 8 (drop place ys))) where
  -- from the place on eight bytes decide, unless they are the same
  abbrev left : ℕ
  left = worth (take 8 (drop place xs))

  abbrev right : ℕ
  right = worth (take 8 (drop place ys))

  abbrev rest : Ordering
  rest = slice_cmp nat_cmp (drop (place + 8) xs) (drop (place + 8) ys)

  by_word : slice_cmp nat_cmp (drop place xs) (drop place ys) ≡ ordering_then (nat_cmp left right) rest
  by_word =
      let long : length (take 8 (drop place xs)) ≡ 8 = length-take-le 8 (drop place xs) (omega (arith, length-drop place xs)) in
      let other_long : length (take 8 (drop place ys)) ≡ 8 = length-take-le 8 (drop place ys) (omega (arith, length-drop place ys)) in
      ap (λ (zs : List ℕ). slice_cmp nat_cmp zs (drop place ys)) (sym (take-append-drop 8 (drop place xs)))
      ∙ ap (λ (zs : List ℕ). slice_cmp nat_cmp (take 8 (drop place xs) ++ drop 8 (drop place xs)) zs) (sym (take-append-drop 8 (drop place ys)))
      ∙ slice_cmp-append (take 8 (drop place xs)) (take 8 (drop place ys)) (drop 8 (drop place xs)) (drop 8 (drop place ys)) (long ∙ sym other_long)
      ∙ ap (λ (o : Ordering). ordering_then o (slice_cmp nat_cmp (drop 8 (drop place xs)) (drop 8 (drop place ys)))) (sym (nat_cmp-worth (take 8 (drop place xs)) (take 8 (drop place ys)) (long ∙ sym other_long) bytes others))
      ∙ ap (λ (zs : List ℕ). ordering_then (nat_cmp left right) (slice_cmp nat_cmp zs (drop 8 (drop place ys)))) (drop-drop 8 place xs)
      ∙ ap (λ (zs : List ℕ). ordering_then (nat_cmp left right) (slice_cmp nat_cmp (drop (place + 8) xs) zs)) (drop-drop 8 place ys)

  pub decided : (order : Ordering) → order ≡ nat_cmp left right → true ≡ not (ordering_index order == 1) → order ≡ slice_cmp nat_cmp (drop place xs) (drop place ys)
  decided order is unequal = sym (by_word ∙ ap (λ o. ordering_then o rest) (sym is) ∙ first_decides order rest unequal)

  pub passed : (order : Ordering) → order ≡ nat_cmp left right → false ≡ not (ordering_index order == 1) → slice_cmp nat_cmp (drop place xs) (drop place ys) ≡ rest
  passed order is equal = by_word ∙ ap (λ o. ordering_then o rest) (sym is) ∙ rest_decides order rest equal

-- zeros are not above as many other numbers
one_zero_first : (z : ℕ) (rest : Ordering) → ordering_then rest Less ≡ Less → (o : Ordering) → o ≡ nat_cmp 0 z → ordering_then (ordering_then o rest) Less ≡ Less
one_zero_first z rest first Less is = refl
one_zero_first z rest first Equal is = first
one_zero_first z rest first Greater is = let below : z < 0 = ranked 0 z Greater is in absurd (omega arith)

zeros_first : (k : ℕ) (zs : List ℕ) → length zs ≡ k → ordering_then (slice_cmp nat_cmp (replicate {A = ℕ} k 0) zs) Less ≡ Less
zeros_first zero [] len = refl
zeros_first zero (z ∷ zs) len = absurd (omega arith)
zeros_first (suc k) [] len = absurd (omega arith)
zeros_first (suc k) (z ∷ zs) len = one_zero_first z (slice_cmp nat_cmp (replicate {A = ℕ} k 0) zs) (zeros_first k zs (omega arith)) (nat_cmp 0 z) refl

one_zero_last : (z : ℕ) (rest : Ordering) → ordering_then rest Greater ≡ Greater → (o : Ordering) → o ≡ nat_cmp z 0 → ordering_then (ordering_then o rest) Greater ≡ Greater
one_zero_last z rest last Less is = let below : z < 0 = ranked z 0 Less is in absurd (omega arith)
one_zero_last z rest last Equal is = last
one_zero_last z rest last Greater is = refl

zeros_last : (k : ℕ) (zs : List ℕ) → length zs ≡ k → ordering_then (slice_cmp nat_cmp zs (replicate {A = ℕ} k 0)) Greater ≡ Greater
zeros_last zero [] len = refl
zeros_last zero (z ∷ zs) len = absurd (omega arith)
zeros_last (suc k) [] len = absurd (omega arith)
zeros_last (suc k) (z ∷ zs) len = one_zero_last z (slice_cmp nat_cmp zs (replicate {A = ℕ} k 0)) (zeros_last k zs (omega arith)) (nat_cmp z 0) refl

-- what stands in front of zeros up to one size compares as the whole, and where that is the same as its length
fronts : (xs ys : List ℕ) (k l : ℕ) → length xs + k ≡ length ys + l
    → ordering_then (slice_cmp nat_cmp (xs ++ replicate k 0) (ys ++ replicate l 0)) (nat_cmp (length xs) (length ys)) ≡ slice_cmp nat_cmp xs ys
fronts [] [] k l same =
    let alike : l ≡ k = omega arith in
    ap (λ n. ordering_then (slice_cmp nat_cmp (replicate {A = ℕ} k 0) (replicate n 0)) (nat_cmp 0 0)) alike
    ∙ ap (λ o. ordering_then o Equal) (tied_itself nat_list_cmp_total (replicate {A = ℕ} k 0))
fronts [] (y ∷ ys) k l same =
    ap (λ o. ordering_then (slice_cmp nat_cmp (replicate {A = ℕ} k 0) ((y ∷ ys) ++ replicate l 0)) o) (sym (nat_cmp_is 0 (suc (length ys)) Less (omega arith)))
    ∙ zeros_first k ((y ∷ ys) ++ replicate l 0) (omega (arith, length-append (y ∷ ys) (replicate {A = ℕ} l 0), length-replicate {A = ℕ} l 0))
fronts (x ∷ xs) [] k l same =
    ap (λ o. ordering_then (slice_cmp nat_cmp ((x ∷ xs) ++ replicate k 0) (replicate {A = ℕ} l 0)) o) (sym (nat_cmp_is (suc (length xs)) 0 Greater (omega arith)))
    ∙ zeros_last l ((x ∷ xs) ++ replicate k 0) (omega (arith, length-append (x ∷ xs) (replicate {A = ℕ} k 0), length-replicate {A = ℕ} k 0))
fronts (x ∷ xs) (y ∷ ys) k l same =
    ap (λ o. ordering_then (ordering_then (nat_cmp x y) (slice_cmp nat_cmp (xs ++ replicate k 0) (ys ++ replicate l 0))) o) (nat_cmp-suc (length xs) (length ys) (nat_cmp (length xs) (length ys)) refl)
    ∙ sym (then_then (nat_cmp x y) (slice_cmp nat_cmp (xs ++ replicate k 0) (ys ++ replicate l 0)) (nat_cmp (length xs) (length ys)))
    ∙ ap (λ o. ordering_then (nat_cmp x y) o) (fronts xs ys k l (omega arith))

-- rooms of one size compare as their bytes
pub rooms : (size : ℕ) (room other : List ℕ) (len other_len : ℕ) → IsRoom size room len → IsRoom size other other_len
    → ordering_then (slice_cmp nat_cmp room other) (nat_cmp len other_len) ≡ slice_cmp nat_cmp (take len room) (take other_len other)
rooms size room other len other_len is also =
    let whole = padded_again size room len is.0 is.1 is.2 in
    let other_whole = padded_again size other other_len also.0 also.1 also.2 in
    let count = length_again size room len is.0 is.1 in
    let other_count = length_again size other other_len also.0 also.1 in
    let all = fronts (take len room) (take other_len other) (size - length (take len room)) (size - length (take other_len other)) (omega (arith, count, other_count, is.0, also.0)) in
    subst (λ (o : Ordering). o ≡ slice_cmp nat_cmp (take len room) (take other_len other))
    (ap (λ (n : ℕ). ordering_then (slice_cmp nat_cmp (padded size (take len room)) (padded size (take other_len other))) (nat_cmp n (length (take other_len other)))) count
    ∙ ap (λ (n : ℕ). ordering_then (slice_cmp nat_cmp (padded size (take len room)) (padded size (take other_len other))) (nat_cmp len n)) other_count
    ∙ ap (λ (bytes : List ℕ). ordering_then (slice_cmp nat_cmp bytes (padded size (take other_len other))) (nat_cmp len other_len)) whole
    ∙ ap (λ (bytes : List ℕ). ordering_then (slice_cmp nat_cmp room bytes) (nat_cmp len other_len)) other_whole)
    all

-- eight bytes of a list
pub eight : (bytes : List ℕ) (place : ℕ) (word : List ℕ) (n : ℕ) → place + 8 ≤ length bytes → IsFirstChunk (take (length bytes - place) (drop place bytes)) word 8 → n ≡ from_be_bytes w64 word → n ≡ worth (take 8 (drop place bytes))
eight bytes place word n within first is =
    let whole : take (length bytes - place) (drop place bytes) ≡ drop place bytes = take_all (length bytes - place) (drop place bytes) (omega (arith, length-drop place bytes)) in
    let same : word ≡ take 8 (drop place bytes) = first.same ∙ ap (take 8) whole in
    is ∙ ap (from_be_bytes w64) same ∙ from_be_bytes-worth (take 8 (drop place bytes)) (length-take-le 8 (drop place bytes) (omega (arith, length-drop place bytes)))

all_bytes : (bytes : List ℕ) → ((i : ℕ) → get_or bytes i 0 < 256) → AreBytes bytes
all_bytes bytes each = λ k d below. subst (λ (n : ℕ). n < 256) (sym (get_or_default bytes k d 0 below)) (each k)

pub eight_bytes : (bytes : List ℕ) (place : ℕ) → ((i : ℕ) → get_or bytes i 0 < 256) → AreBytes (take 8 (drop place bytes))
eight_bytes bytes place each = All-take IsByte 8 (drop place bytes) (All-drop IsByte place bytes (all_bytes bytes each))

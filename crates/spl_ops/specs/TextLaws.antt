-- The greatest of three texts, and the last bytes of three texts in a row, however they are grouped.
use Rattle.std.proofs.Common.{◌≡◌, ℕ, ◌+◌, ◌-◌, ◌<◌, ◌≤◌, ◌⊎◌, inl, inr, Bool, true, false, cond, List, ◌++◌, length, drop, Some, None, Ordering, refl, ap, ◌∙◌, sym, arith}
use Rattle.std.proofs.lemmas.Bool.{cases_lt}
use Rattle.std.proofs.lemmas.Cmp.{nat_list_cmp_total, upto}
use Rattle.std.proofs.lemmas.List.{length-drop, length-append, drop-drop, drop-append-le, append_assoc}
use Rattle.std.proofs.Math.Seq.{drop-append-add}
use Rattle.std.specs.declared.cmp.Ordering.TheVariants.{Less, Equal, Greater}
use Rattle.std.specs.Cmp.Lexicographic.{slice_cmp}
use Rattle.std.specs.Ordering.{nat_cmp, is_lt, is_gt, ordering_reverse}
use Rattle.spl_message.specs.Cell.{Cell, IsCell, IsValue}
use Rattle.spl_message.specs.Key.{is_below}
use Rattle.spl_ops.specs.Texts.{greater, greater_at, end_of}

-- ---- the greater of two

below_is_less : (o : Ordering) → is_lt o ≡ true → o ≡ Less
below_is_less Less e = refl
below_is_less Equal e = absurd (cc)
below_is_less Greater e = absurd (cc)

turned : (o : Ordering) → is_gt (ordering_reverse o) ≡ is_lt o
turned Less = refl
turned Equal = refl
turned Greater = refl

below_over : (x y z : List ℕ) → is_below x y ≡ true → is_below y z ≡ true → is_below x z ≡ true
below_over x y z xy yz = ap is_lt (nat_list_cmp_total.trans x y z (below_is_less _ xy) (below_is_less _ yz))

above_back : (x y : List ℕ) → is_gt (slice_cmp nat_cmp y x) ≡ is_below x y
above_back x y = ap is_gt (nat_list_cmp_total.antisymm y x) ∙ turned (slice_cmp nat_cmp x y)

not_below_over : (x y z : List ℕ) → is_below x y ≡ false → is_below y z ≡ false → is_below x z ≡ false
not_below_over x y z xy yz =
    sym (above_back x z) ∙ upto nat_list_cmp_total z y x (above_back y z ∙ yz) (above_back x y ∙ xy)

greater_again : (x y z : List ℕ) → greater (greater x y) z ≡ greater x (greater y z)
greater_again x y z = by (is_below x y) (is_below y z) refl refl
  where
    by : (first second : Bool) → is_below x y ≡ first → is_below y z ≡ second →
        greater (cond first y x) z ≡ greater x (cond second z y)
    by true true xy yz = ap (λ t. cond t z y) yz ∙ sym (ap (λ t. cond t z x) (below_over x y z xy yz))
    by true false xy yz = ap (λ t. cond t z y) yz ∙ sym (ap (λ t. cond t y x) xy)
    by false true xy yz = refl
    by false false xy yz = ap (λ t. cond t z x) (not_below_over x y z xy yz) ∙ sym (ap (λ t. cond t y x) xy)

pub greater_agrees : (cell : Cell) (older newer : List ℕ) →
    greater_at (Some (greater_at cell older)) newer ≡ greater_at cell (greater older newer)
greater_agrees None older newer = refl
greater_agrees (Some bytes) older newer = greater_again bytes older newer

pub greater_is_value : (older newer : List ℕ) → IsValue older → IsValue newer → IsValue (greater older newer)
greater_is_value older newer is_older is_newer = by (is_below older newer)
  where
    by : (below : Bool) → IsValue (cond below newer older)
    by true = is_newer
    by false = is_older

pub greater_at_is_value : (cell : Cell) (operand : List ℕ) →
    IsCell cell → IsValue operand → IsValue (greater_at cell operand)
greater_at_is_value None operand is_cell is_operand = is_operand
greater_at_is_value (Some bytes) operand is_cell is_operand =
    greater_is_value bytes operand is_cell is_operand

-- ---- the end

-- of the first text no more than its end matters
end_first : (a b : List ℕ) → end_of (end_of a ++ b) ≡ end_of (a ++ b)
end_first a b =
    let skip = length a - 512 in
    let moved : drop skip a ++ b ≡ drop skip (a ++ b) = sym (drop-append-le skip a b (omega arith)) in
    let size : length (drop skip a ++ b) ≡ (length a - skip) + length b =
    length-append (drop skip a) b ∙ ap (λ n. n + length b) (length-drop skip a) in
    let whole : length (a ++ b) ≡ length a + length b = length-append a b in
    ap (λ l. drop (length (drop skip a ++ b) - 512) l) moved
    ∙ drop-drop (length (drop skip a ++ b) - 512) skip (a ++ b)
    ∙ ap (λ n. drop n (a ++ b)) (omega arith)

-- nor of the second
end_second : (a b : List ℕ) → end_of (a ++ end_of b) ≡ end_of (a ++ b)
end_second a b = by (cases_lt 512 (length b))
  where
    by : (512 < length b) ⊎ (length b ≤ 512) → end_of (a ++ end_of b) ≡ end_of (a ++ b)
    by (inl long) =
        let skip = length b - 512 in
        let size : length (a ++ drop skip b) ≡ length a + (length b - skip) =
        length-append a (drop skip b) ∙ ap (λ n. length a + n) (length-drop skip b) in
        let whole : length (a ++ b) ≡ length a + length b = length-append a b in
        let first : length (a ++ drop skip b) - 512 ≡ length a + 0 = omega arith in
        let second : length (a ++ b) - 512 ≡ length a + skip = omega arith in
        ap (λ n. drop n (a ++ drop skip b)) first
        ∙ drop-append-add a (drop skip b) 0
        ∙ sym (drop-append-add a b skip)
        ∙ ap (λ n. drop n (a ++ b)) (sym second)
    by (inr short) =
        let none : length b - 512 ≡ 0 = omega arith in
        ap (λ n. end_of (a ++ drop n b)) none

pub end_agrees : (x older newer : List ℕ) →
    end_of (end_of (x ++ older) ++ newer) ≡ end_of (x ++ end_of (older ++ newer))
end_agrees x older newer =
    end_first (x ++ older) newer
    ∙ ap end_of (append_assoc x older newer)
    ∙ sym (end_second x (older ++ newer))

pub end_is_value : (bytes : List ℕ) → IsValue (end_of bytes)
end_is_value bytes = omega (arith, length-drop (length bytes - 512) bytes)

-- The bytes of a key and one zero byte, in the order of the keys.
use Rattle.std.proofs.Common.{◌≡◌, ℕ, zero, suc, ◌+◌, ◌-◌, ◌<◌, arith, length, take, replicate, true, false, List, [], ◌∷◌, ◌++◌, Ordering, refl, ap, ◌∙◌, sym, subst}
use Rattle.std.proofs.Math.Seq.{take-append-add}
use Rattle.std.proofs.lemmas.Bool.{false≢true}
use Rattle.std.proofs.lemmas.Cmp.{nat_cmp_total, ranked, tied_itself}
use Rattle.std.specs.declared.cmp.Ordering.TheVariants.{Less, Equal, Greater}
use Rattle.std.specs.Cmp.Lexicographic.{slice_cmp}
use Rattle.std.specs.Ordering.{nat_cmp, is_lt, ordering_then, ordering_reverse}
use Rattle.spl_message.specs.Bound.{IsLeastAbove}
use Rattle.spl_message.specs.Key.{is_below}
use Rattle.spl_message.specs.Room.{padded}

-- nothing is below no bytes
none_below : (ys : List ℕ) → is_lt (slice_cmp nat_cmp ys []) ≡ false
none_below [] = refl
none_below (y ∷ ys) = refl

above_key : (key : List ℕ) → is_below key (key ++ 0 ∷ []) ≡ true
above_key [] = refl
above_key (x ∷ xs) = ap (λ o. is_lt (ordering_then o (slice_cmp nat_cmp xs (xs ++ 0 ∷ [])))) (tied_itself nat_cmp_total x) ∙ above_key xs

-- whatever begins with a byte is not below one zero byte
not_below_zero : (y : ℕ) (ys : List ℕ) (o : Ordering) → nat_cmp 0 y ≡ o → is_lt (ordering_then (ordering_reverse o) (slice_cmp nat_cmp ys [])) ≡ false
not_below_zero y ys Less is = refl
not_below_zero y ys Equal is = none_below ys
not_below_zero y ys Greater is = let below : y < 0 = ranked 0 y Greater (sym is) in absurd (omega arith)

-- of two that begin alike the rest decides
not_below_more : (xs ys : List ℕ) (o : Ordering) → is_lt (ordering_then o (slice_cmp nat_cmp xs ys)) ≡ true → (is_below xs ys ≡ true → is_below ys (xs ++ 0 ∷ []) ≡ false) →
    is_lt (ordering_then (ordering_reverse o) (slice_cmp nat_cmp ys (xs ++ 0 ∷ []))) ≡ false
not_below_more xs ys Less above rest = refl
not_below_more xs ys Equal above rest = rest above
not_below_more xs ys Greater above rest = absurd (false≢true above)

not_below : (key other : List ℕ) → is_below key other ≡ true → is_below other (key ++ 0 ∷ []) ≡ false
not_below [] [] above = absurd (false≢true above)
not_below [] (y ∷ ys) above = ap (λ o. is_lt (ordering_then o (slice_cmp nat_cmp ys []))) (nat_cmp_total.antisymm y 0) ∙ not_below_zero y ys (nat_cmp 0 y) refl
not_below (x ∷ xs) [] above = absurd (false≢true above)
not_below (x ∷ xs) (y ∷ ys) above =
    ap (λ o. is_lt (ordering_then o (slice_cmp nat_cmp ys (xs ++ 0 ∷ [])))) (nat_cmp_total.antisymm y x) ∙ not_below_more xs ys (nat_cmp x y) above (not_below xs ys)

pub least_above : (key bytes : List ℕ) → bytes ≡ key ++ 0 ∷ [] → IsLeastAbove key bytes
least_above key bytes is = subst (IsLeastAbove key) (sym is) (record { above = above_key key; least = not_below key })

one_zero : (n : ℕ) → 0 < n → take 1 (replicate {A = ℕ} n 0) ≡ 0 ∷ []
one_zero zero some = absurd (omega arith)
one_zero (suc n) some = refl

-- a room's bytes and the first zero behind them
pub padded_more : (size : ℕ) (bytes room : List ℕ) → length bytes < size → room ≡ padded size bytes → take (length bytes + 1) room ≡ bytes ++ 0 ∷ []
padded_more size bytes room short is =
    ap (take (length bytes + 1)) is
    ∙ take-append-add bytes (replicate (size - length bytes) 0) 1
    ∙ ap (λ rest. bytes ++ rest) (one_zero (size - length bytes) (omega arith))

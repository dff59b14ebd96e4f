-- What a change of one bit leaves, and which bits a word of 0 and another have.
use Rattle.std.proofs.Common.{◌≡◌, ◌≢◌, ℕ, ◌+◌, ◌*◌, ◌^◌, ◌/◌, ◌%◌, ◌<◌, ◌≤◌, List, length, get_or, set, slice_index, replicate, Vec, Bool, true, false, eqb, w64, bit_and, refl, ⊎_elim, ap, sym, subst, ◌∙◌, arith}
use Rattle.std.specs.Int.{bit_at, trailing_zeros}
use Rattle.std.specs.Vec.{with_items}
use Rattle.std.proofs.lemmas.List.{length-set, get_or-set_same, get_or-set_other, get_or_past, length-replicate, get_or-replicate, with_items_is}
use Rattle.std.proofs.lemmas.Nat.Bits.{bit_at-zero, bit_at-lt, bit_at-trailing_zeros, shr_and_one}
use Rattle.std.proofs.lemmas.Bool.{cases_eq, cases_lt}
use Rattle.std.proofs.lemmas.Bool.Decides.{nat_tests}
use Rattle.spl_numbers.specs.Bits.{bit, ChangesBit}

same_place : (at other : ℕ) → other / 64 ≡ at / 64 → other % 64 ≡ at % 64 → other ≡ at
same_place at other word place = omega arith

-- a word whose bit became this one, and whose other bits stayed
pub changes_bit : (words : List ℕ) (at word : ℕ) (now : Bool) → at / 64 < length words → eqb (bit_at word (at % 64)) 1 ≡ now → ((i : ℕ) → i < 64 → i ≢ at % 64 → bit_at word i ≡ bit_at (get_or words (at / 64) 0) i) → ChangesBit words (set words (at / 64) word) at now
unfolding bit
changes_bit words at word now within this others =
    record {
      words = length-set words (at / 64) word;
      this_bit = rw (get_or-set_same words (at / 64) word 0 within) this;
      other_bits = λ other apart.
          ⊎_elim
          (λ (same : other / 64 ≡ at / 64).
          rw (same, get_or-set_same words (at / 64) word 0 within)
          (ap (λ b. eqb b 1) (others (other % 64) (omega arith) (λ place. apart (same_place at other same place)))))
          (λ elsewhere. rw (get_or-set_other words (at / 64) (other / 64) word 0 elsewhere) refl)
          (cases_eq (other / 64) (at / 64));
      other_words = λ other elsewhere. get_or-set_other words (at / 64) other word 0 elsewhere;
    }

pub bit_by_shift : (words : List ℕ) (at : ℕ) → eqb (bit_and (get_or words (at / 64) 0 / 2 ^ (at % 64)) 1) 1 ≡ bit words at
unfolding bit
bit_by_shift words at = ap (λ b. eqb b 1) (shr_and_one (get_or words (at / 64) 0) (at % 64))

-- a word of 0 has no bit
pub bit_of_zero : (words : List ℕ) (at : ℕ) → get_or words (at / 64) 0 ≡ 0 → bit words at ≡ false
unfolding bit
bit_of_zero words at zero = rw (zero, bit_at-zero (at % 64)) refl

pub zero_at : (n k : ℕ) → slice_index (replicate n 0) k ≡ 0
zero_at n k =
    let zero : ℕ = 0 in
    ⊎_elim (λ (within : k < n). get_or-replicate n k zero zero within) (λ (past : n ≤ k). get_or_past (replicate n zero) k zero (omega (arith, length-replicate n zero))) (cases_lt k n)

pub bit-zeros : (n at : ℕ) → bit (replicate n 0) at ≡ false
bit-zeros n at = bit_of_zero (replicate n 0) at (zero_at n (at / 64))

-- a word that is not 0 has its lowest bit
pub bit_lowest : (words : List ℕ) (word at : ℕ) → get_or words word 0 ≢ 0 → get_or words word 0 < 2 ^ 64 → at ≡ word * 64 + trailing_zeros w64 (get_or words word 0) → bit words at ≡ true
unfolding bit
bit_lowest words word at some fits place =
    let lowest = bit_at-trailing_zeros w64 (get_or words word 0) (omega arith) fits in
    let word_is : at / 64 ≡ word = omega (arith, lowest.0) in
    let rest_is : at % 64 ≡ trailing_zeros w64 (get_or words word 0) = omega (arith, lowest.0) in
    rw (word_is, rest_is, lowest.1) refl

-- and it is one of the words
pub word_within : (words : List ℕ) (word : ℕ) → get_or words word 0 ≢ 0 → word < length words
word_within words word some =
    ⊎_elim (λ within. within) (λ past. absurd (some (get_or_past words word 0 past))) (cases_lt word (length words))

-- what a call wrote into a vector's elements
pub written : {Z : Type 0} (v : Vec ℕ Z) (now new : List ℕ) (at : ℕ) (here : Bool) → now ≡ v.items → ChangesBit now new at here → ChangesBit v.items (with_items v new).items at here
written v now new at here was h =
    subst (λ items. ChangesBit v.items items at here) (sym (with_items_is v new (h.words ∙ ap length was ∙ sym v.ok.0))) (subst (λ items. ChangesBit items new at here) was h)

pub whole : {Z : Type 0} (v : Vec ℕ Z) (now new : List ℕ) (at : ℕ) (here : Bool) → now ≡ v.items → ChangesBit now new at here → (with_items v new).items ≡ new
whole v now new at here was h = with_items_is v new (h.words ∙ ap length was ∙ sym v.ok.0)

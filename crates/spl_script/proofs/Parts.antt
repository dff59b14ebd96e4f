-- What the first separator cuts off, and what lists of one and of two items are.
use Rattle.std.proofs.Common.{◌≡◌, ℕ, ◌+◌, ◌-◌, ◌<◌, ◌≤◌, Bool, true, false, cond, ltb, List, [], ◌∷◌, length, get_or, take, drop, Some, None, Ok, Err, refl, ap, ◌∙◌, sym, arith, length-drop, ltb-false}
use Rattle.std.proofs.lemmas.List.{take_all}
use Rattle.std.proofs.lemmas.List.Quantifiers.{position-Some}
use Rattle.std.proofs.lemmas.List.Splits.{slice_split_first, slice_split_none}
use Rattle.std.proofs.lemmas.List.Sums.{position_or_len_is, fails_before_first}
use Rattle.spl_script.specs.Names.{caller_of}
use Rattle.spl_script.specs.Verb.{only, both, fields_of, asked, deed_of}
use Rattle.spl_script.specs.Reason.{◌>>=◌, told}
use Rattle.spl_script.specs.declared.reason.LineWhy.TheVariants.{Caller}
use Rattle.std.specs.List.{slice_split, onto_first, position, position_or_len}

pub split_some : (p : ℕ → Bool) (xs : List ℕ) (i : ℕ) → position p xs ≡ Some i → slice_split p xs ≡ take i xs ∷ slice_split p (take (length xs - (i + 1)) (drop (i + 1) xs))
split_some p xs i found =
    let facts : (i < length xs) × (p (get_or xs i 0) ≡ true) × ((k : ℕ) → k < i → p (get_or xs k 0) ≡ false) = position-Some p xs i 0 found in
    let within : i ≤ length xs = omega arith in
    let place : position_or_len p xs ≡ i = position_or_len_is p xs i 0 within facts.2 (λ _. facts.1) in
    let there : position_or_len p xs < length xs = omega arith in
    let rest : take (length xs - (i + 1)) (drop (i + 1) xs) ≡ drop (i + 1) xs = take_all _ _ (omega (arith, length-drop (i + 1) xs)) in
    slice_split_first p xs 0 there
    ∙ ap (λ n. take n xs ∷ slice_split p (drop (n + 1) xs)) place
    ∙ ap (λ r. take i xs ∷ slice_split p r) (sym rest)

pub split_none : (p : ℕ → Bool) (xs : List ℕ) → position p xs ≡ None → slice_split p xs ≡ xs ∷ []
split_none p xs absent = slice_split_none p xs (λ k d below. fails_before_first p xs k d (omega (arith, past (ltb (position_or_len p xs) (length xs)) refl absent)))
  where
    past : (b : Bool) → ltb (position_or_len p xs) (length xs) ≡ b → cond b (Some (position_or_len p xs)) None ≡ None → length xs ≤ position_or_len p xs
    past true test none = cc
    past false test none = ltb-false _ _ test

-- there is always a first part
pub first_of_parts : (p : ℕ → Bool) (xs : List ℕ) → (first : List ℕ) × (rest : List (List ℕ)) × (slice_split p xs ≡ first ∷ rest)
first_of_parts p [] = ([], [], refl)
first_of_parts p (x ∷ xs) = at (p x) (first_of_parts p xs)
  where
    at : (b : Bool) → (first : List ℕ) × (rest : List (List ℕ)) × (slice_split p xs ≡ first ∷ rest) → (first : List ℕ) × (rest : List (List ℕ)) × (cond b ([] ∷ slice_split p xs) (onto_first x (slice_split p xs)) ≡ first ∷ rest)
    at true parts = ([], slice_split p xs, refl)
    at false parts = (x ∷ parts.0, parts.1, ap (onto_first x) parts.2)

pub only_of_more : (x : List ℕ) (p : ℕ → Bool) (xs : List ℕ) → only (x ∷ slice_split p xs) ≡ None
only_of_more x p xs = let parts = first_of_parts p xs in rw parts.2 refl

pub both_of_one : (x : List ℕ) → both (x ∷ []) ≡ None
both_of_one x = refl

pub both_of_more : (x y : List ℕ) (p : ℕ → Bool) (xs : List ℕ) → both (x ∷ y ∷ slice_split p xs) ≡ None
both_of_more x y p xs = let parts = first_of_parts p xs in rw parts.2 refl

pub asks_no_caller : (callers : ℕ) (text first : List ℕ) (p : ℕ → Bool) (rest : List ℕ) → fields_of text ≡ first ∷ slice_split p rest → caller_of callers first ≡ None → asked callers (fields_of text) ≡ Err Caller
asks_no_caller callers text first p rest fields none =
    let parts = first_of_parts p rest in
    let split : fields_of text ≡ first ∷ parts.0 ∷ parts.1 = fields ∙ ap (λ r. first ∷ r) parts.2 in
    ap (asked callers) split
    ∙ ap (λ o. told Caller o >>= λ caller. deed_of parts.0 parts.1 >>= λ deed. Ok (record { caller = caller; deed = deed })) none

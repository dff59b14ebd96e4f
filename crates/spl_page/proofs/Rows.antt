-- Entries that are read one after the other.
use Rattle.std.proofs.Common.{◌≡◌, ℕ, suc, ◌+◌, ◌-◌, ◌<◌, ◌≤◌, List, [], ◌∷◌, ◌++◌, Option, Some, None, drop, refl, ap, ◌∙◌, append_assoc, arith}
use Rattle.std.specs.Option.{option_map}
use Rattle.std.proofs.lemmas.List.{append-nil}
use Rattle.spl_port.specs.Page.{Rows, rows_of}

-- entries that were read before, and those that are still read
abbrev pub behind : {R : Type 0} → List R → Option (Rows R) → Option (Rows R)
behind front found = option_map (λ more. record { rows = front ++ more.rows; rest = more.rest }) found

abbrev pub whole : {R : Type 0} → List R → List ℕ → Rows R
whole rows rest = record { rows = rows; rest = rest }

pub starts : {R : Type 0} (found : Option (Rows R)) → found ≡ behind [] found
starts None = refl
starts (Some found) = refl

regroup : {R : Type 0} (front : List R) (r : R) (found : Option (Rows R))
    → behind front (option_map (λ more. record { rows = r ∷ more.rows; rest = more.rest }) found) ≡ behind (front ++ r ∷ []) found
regroup front r None = refl
regroup front r (Some found) = ap (λ rows. Some (whole rows found.rest)) (simp append_assoc)

-- one more entry is there
pub goes_on : {R : Type 0} (row : List ℕ → Option R) (row_length : List ℕ → ℕ) (front : List R) (count i : ℕ) (bytes : List ℕ) (r : R) (total : Option (Rows R))
    → i < count → row bytes ≡ Some r → total ≡ behind front (rows_of row row_length (count - i) bytes)
    → total ≡ behind (front ++ r ∷ []) (rows_of row row_length (count - (i + 1)) (drop (row_length bytes) bytes))
goes_on row row_length front count i bytes r total lt here so_far =
    let k : count - i ≡ suc (count - (i + 1)) = omega arith in
    let one : behind front (rows_of row row_length (count - i) bytes) ≡ behind (front ++ r ∷ []) (rows_of row row_length (count - (i + 1)) (drop (row_length bytes) bytes)) =
    rw (k, here) (regroup front r (rows_of row row_length (count - (i + 1)) (drop (row_length bytes) bytes))) in
    so_far ∙ one

-- one more entry is not there
pub stops : {R : Type 0} (row : List ℕ → Option R) (row_length : List ℕ → ℕ) (front : List R) (count i : ℕ) (bytes : List ℕ) (total : Option (Rows R))
    → i < count → row bytes ≡ None → total ≡ behind front (rows_of row row_length (count - i) bytes) → total ≡ None
stops row row_length front count i bytes total lt here so_far =
    let k : count - i ≡ suc (count - (i + 1)) = omega arith in
    let one : behind front (rows_of row row_length (count - i) bytes) ≡ None = rw (k, here) refl in
    so_far ∙ one

-- all are there
pub ends : {R : Type 0} (row : List ℕ → Option R) (row_length : List ℕ → ℕ) (front : List R) (count i : ℕ) (bytes : List ℕ) (total : Option (Rows R))
    → count ≤ i → total ≡ behind front (rows_of row row_length (count - i) bytes) → total ≡ Some (whole front bytes)
ends row row_length front count i bytes total le so_far =
    let k : count - i ≡ 0 = omega arith in
    let one : behind front (rows_of row row_length (count - i) bytes) ≡ Some (whole front bytes) = rw k (ap (λ rows. Some (whole rows bytes)) (append-nil front)) in
    so_far ∙ one

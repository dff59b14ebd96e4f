-- What contracts say of a set, which they see as a list that says of each number whether it is in the set.
use Rattle.std.specs.Prelude.{◌≡◌, ℕ, ◌==◌, if◌then◌else◌, List, Bool, false, slice_index_or, count_by}

-- whether the number is in the set
abbrev pub has : List Bool → ℕ → Bool
has members number = slice_index_or members number false

-- how many numbers the set has
abbrev pub size_of : List Bool → ℕ
size_of members = count_by (λ member. member) members

-- how often the number stands in the list
abbrev pub times : List ℕ → ℕ → ℕ
times numbers number = count_by (λ other. other == number) numbers

abbrev pub one_if : Bool → ℕ
one_if holds = if holds then 1 else 0

-- the list has each number of the set once, and no other
abbrev pub ListsEach : List ℕ → List Bool → Type 0
ListsEach numbers members = (number : ℕ) → times numbers number ≡ one_if (has members number)

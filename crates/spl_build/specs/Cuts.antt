-- Where a branch may be cut.
use Rattle.std.specs.Prelude.{ℕ, ◌%◌, ◌==◌, nat_lt, ◌&&◌, if◌then◌else◌, List, [], ◌∷◌, ◌++◌}

-- the cuts with the key of this rank, which is one of them if its rank is a multiple of 1,024 above 0
abbrev pub cuts_with : List (List ℕ) → ℕ → List ℕ → List (List ℕ)
cuts_with cuts rank key = if nat_lt 0 rank && (rank % 1024 == 0) then cuts ++ key ∷ [] else cuts

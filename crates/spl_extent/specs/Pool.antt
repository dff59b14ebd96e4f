-- What contracts say of a pool, which they see as the list of its extents' owners.
use Rattle.std.specs.Prelude.{ℕ, ◌==◌, if◌then◌else◌, List, map, Bool, true, false, count_by}
use Rattle.spl_extent.specs.declared.owner.Owner.{Owner}
use Rattle.spl_extent.specs.declared.owner.Owner.TheVariants.{Free, Granted, Held}

abbrev pub is_free : Owner → Bool
is_free Free = true
is_free (Granted actor) = false
is_free (Held branch) = false

-- how many extents are free
abbrev pub free_count : List Owner → ℕ
free_count owners = count_by is_free owners

abbrev pub is_granted : ℕ → Owner → Bool
is_granted actor Free = false
is_granted actor (Granted to) = to == actor
is_granted actor (Held branch) = false

-- which extents the actor was granted: a list that says so of each, by the extents' numbers
abbrev pub granted_to : List Owner → ℕ → List Bool
granted_to owners actor = map (is_granted actor) owners

-- the owners where each extent that the actor was granted is free, and each other has its owner
abbrev pub without_grants : List Owner → ℕ → List Owner
without_grants owners actor = map (λ owner. if is_granted actor owner then Free else owner) owners

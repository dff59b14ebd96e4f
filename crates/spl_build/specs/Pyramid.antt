-- The levels of a tree of pages, by how many pages each has.
use Rattle.std.specs.Prelude.{◌≡◌, ℕ, zero, suc, ◌+◌, ◌*◌, ◌<◌, ◌≤◌}

-- So many pages are over so many others, of which there are at least two. Each is packed: it has at most 680 children, and at least 59,
-- but for the last one, which has the rest.
pub record AreOver (top count : ℕ) : Type 0 where
  pub two : 2 ≤ count
  pub packed : 59 * top < count + 59
  pub few : count ≤ 680 * top

-- so many pages stand so many levels over the leaf pages, and so many pages are in the levels below them
abbrev pub IsPyramid : ℕ → ℕ → ℕ → ℕ → Type 0
IsPyramid leaves zero top below = (top ≡ leaves) × (below ≡ 0)
IsPyramid leaves (suc height) top below =
    (count : ℕ) × (lower : ℕ) × IsPyramid leaves height count lower × AreOver top count × (below ≡ lower + count)

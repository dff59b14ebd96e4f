-- Pages in memory, as a draft and a seal have them.
use Rattle.std.specs.Prelude.{ℕ, ◌+◌, Bool, if◌then◌else◌, List, [], map, Some, None}
use Rattle.std.specs.List.{slice_index_or}
use Rattle.spl_port.specs.declared.at.At.{At}
use Rattle.spl_port.specs.Seal.{Sealed, begins_leaf}

-- the extent, the branch, the number in the branch of the first page, and the pages
pub record PageStack : Type 0 where
  pub extent : ℕ
  pub branch : ℕ
  pub first : ℕ
  pub pages : List (List ℕ)

-- what it means to a port that tells its pages, or does not
abbrev pub meaning : Bool → PageStack → Sealed
meaning tells stack = record {
  extent = stack.extent;
  branch = stack.branch;
  first = stack.first;
  leaves = map begins_leaf stack.pages;
  told = if tells then Some stack.pages else None;
}

-- the place of a page
abbrev pub place_of : PageStack → ℕ → At
place_of stack page = record {
  extent = stack.extent;
  branch = stack.branch;
  page = stack.first + page;
  leaf = begins_leaf (slice_index_or stack.pages page []);
}

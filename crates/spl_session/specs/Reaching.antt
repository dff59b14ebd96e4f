-- How many turns a lookup takes at most, and how many pages it reads.
use Rattle.std.specs.Prelude.{◌≡◌, ℕ, ◌+◌, ◌≤◌, Bool, true, List, []}
use Rattle.spl_port.specs.Counts.{Counts}
use Rattle.spl_branch.specs.Branch.{Branch}
use Rattle.spl_branch.specs.Reading.{reach_of}
use Rattle.spl_desk.specs.Turn.{Turn}
use Rattle.spl_desk.specs.Walk.{calls_in}
use Rattle.spl_down.specs.Arrivals.{arrivals_in, others_than_again, reach_in, top_in}

-- By these turns of a lookup and at most so many more.
pub record IsWithinReach (tells : Bool) (key : List ℕ) (before after : Counts) (more : ℕ) (turns : List (Turn Branch)) : Type 0 where
  -- where devices tell their pages it read at most the levels of each branch of its sights whose filter admits the key
  pub reads : tells ≡ true → after.reads ≤ before.reads + reach_in reach_of key turns
  -- and nothing where its descent did not begin
  pub unread : arrivals_in turns ≡ [] → after.reads ≡ before.reads
  -- but for those answered `Again` it made a turn for each node from the root down, and one to end its descent
  pub few : others_than_again turns ≤ top_in turns + 2 + more

-- On the way down from a node so many turns are left of those that may be made, and so many of the reads that may be made beside
-- those in the branches of these turns' sights. No turn is a call that has a place.
pub record IsWay (tells : Bool) (key : List ℕ) (actor : ℕ) (before after : Counts) (left most unread most_read : ℕ) (turns : List (Turn Branch)) : Type 0 where
  pub calls : calls_in actor turns ≡ []
  pub few : others_than_again turns + left ≤ most
  pub reads : tells ≡ true → after.reads + unread ≤ before.reads + (most_read + reach_in reach_of key turns)

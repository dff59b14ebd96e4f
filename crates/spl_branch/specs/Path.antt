-- The way down to a key by pages that a pager gave, on every device.
use Rattle.std.specs.Prelude.{◌≡◌, ℕ, ◌-◌, List, [], ◌∷◌, Option, Some, None}
use Rattle.spl_message.specs.declared.message.Message.{Message}
use Rattle.spl_port.specs.Counts.{Counts, Shown}
use Rattle.spl_port.specs.Page.{page_fault}
use Rattle.spl_branch.specs.Branch.{Branch}
use Rattle.spl_branch.specs.Pages.{page_total}
use Rattle.spl_branch.specs.Reading.{IsPlaceOf}
use Rattle.spl_branch.specs.Visiting.{child_in, message_on, start_on}

-- what a pager gives: the pages that a call of it gave which took the port's counts from the first to the second
abbrev pub Gives : Type 1
Gives = Counts → Counts → Shown → Type 0

-- a page that a pager gave, and the port's counts after that call
pub record Given : Type 0 where
  pub shown : Shown
  pub after : Counts

-- it is the page of the branch with this number, in the page grammar for its place, and was given by a call that began at these counts
pub record IsGiven (gives : Gives) (branch : Branch) (page : ℕ) (before : Counts) (given : Given) : Type 0 where
  pub shown : gives before given.after given.shown
  pub place : IsPlaceOf branch.parts given.shown.at
  pub number : given.shown.at.page ≡ page
  pub sound : page_fault given.shown.at given.shown.bytes ≡ None

-- the way ends, or goes on at a child
abbrev pub GoesOn : Option ℕ → Type 0 → (ℕ → Type 0) → Type 0
GoesOn None ends more = ends
GoesOn (Some child) ends more = more child

-- from this page on, each page names the next one for the key, and the last one names none
abbrev pub LeadsTo : Gives → Branch → List ℕ → ℕ → Counts → Counts → List Given → Shown → Type 0
LeadsTo gives branch key page before after [] last = ⊥
LeadsTo gives branch key page before after (given ∷ path) last =
    IsGiven gives branch page before given
    × GoesOn (child_in given.shown key) ((path ≡ []) × (given.after ≡ after) × (given.shown ≡ last))
    (λ child. LeadsTo gives branch key child given.after after path last)

-- a way leads down from the root, and ends at this page
abbrev pub EndsAt : Gives → Branch → List ℕ → Counts → Counts → Shown → Type 0
EndsAt gives branch key before after last = (path : List Given) × LeadsTo gives branch key (page_total branch.parts - 1) before after path last

-- the message was found where a way down from the root ends
abbrev pub IsFoundBy : Gives → Branch → List ℕ → Counts → Counts → Option Message → Type 0
IsFoundBy gives branch key before after found = (last : Shown) × EndsAt gives branch key before after last × (found ≡ message_on last key)

-- the leaf page with this number follows from where a way down from the root ends
abbrev pub IsStartBy : Gives → Branch → List ℕ → Counts → Counts → ℕ → Type 0
IsStartBy gives branch key before after number = (last : Shown) × EndsAt gives branch key before after last × (number ≡ start_on last key)

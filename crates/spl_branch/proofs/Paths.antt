-- The way down to a key, on every device: the pages that the pager gave lead from the root to where it stands.
use Rattle.std.proofs.Common.{◌≡◌, ℕ, ◌+◌, ◌-◌, ◌<◌, ◌≤◌, List, [], ◌∷◌, Option, Some, None, refl, sym, ◌∙◌, subst, arith}
use Rattle.spl_port.specs.Counts.{Counts, Shown}
use Rattle.spl_port.specs.Port.{ReadsOne}
use Rattle.spl_branch.specs.Branch.{Branch, IsBranch}
use Rattle.spl_branch.specs.Pages.{page_total}
use Rattle.spl_branch.specs.Path.{EndsAt, Given, Gives, GoesOn, IsGiven, LeadsTo}
use Rattle.spl_branch.specs.Visiting.{child_in}
use Rattle.spl_branch.proofs.PartPages.{some_pages}

-- a way that leads on from this page is one down from the root
pub record IsOnPath (gives : Gives) (branch : Branch) (key : List ℕ) (page : ℕ) (start now : Counts) : Type 0 where
  pub faults : now.faults ≡ start.faults
  pub reads : now.reads + page + 1 ≤ start.reads + page_total branch.parts
  pub path : (after : Counts) (path : List Given) (last : Shown) → LeadsTo gives branch key page now after path last → EndsAt gives branch key start after last

module _ (gives : Gives) (branch : Branch) (key : List ℕ) where
  pub path_starts : (pages : ℕ) (counts : Counts) → IsBranch branch → pages ≡ page_total branch.parts → IsOnPath gives branch key (pages - 1) counts counts
  path_starts pages counts is whole =
      let root : pages - 1 ≡ page_total branch.parts - 1 = omega (arith, whole) in
      record {
        faults = refl;
        reads = omega (arith, some_pages branch is, whole);
        path = λ after path last leads. (path, subst (λ (page : ℕ). LeadsTo gives branch key page counts after path last) root leads);
      }

  module _ (page : ℕ) (start now after : Counts) (on : IsOnPath gives branch key page start now) (one : ReadsOne now after) where
    pub path_goes_on : (shown : Shown) (child : ℕ) → after.faults ≡ now.faults → child < page → IsGiven gives branch page now (record { shown = shown; after = after })
        → child_in shown key ≡ Some child → IsOnPath gives branch key child start after
    path_goes_on shown child quiet below given named = record {
      faults = quiet ∙ on.faults;
      reads = omega (arith, on.reads, one.one, below);
      path = λ end path last leads.
          on.path end (record { shown = shown; after = after } ∷ path) last (
            given,
            subst (λ next. GoesOn next ((path ≡ []) × (after ≡ end) × (shown ≡ last)) (λ child. LeadsTo gives branch key child after end path last)) (sym named) leads,
          );
    }

    pub path_ends : (shown : Shown) → IsGiven gives branch page now (record { shown = shown; after = after }) → child_in shown key ≡ None → EndsAt gives branch key start after shown
    path_ends shown given none =
        on.path after (record { shown = shown; after = after } ∷ []) shown (
          given,
          subst (λ next. GoesOn next (◌≡◌ {A = List Given} [] [] × (after ≡ after) × (shown ≡ shown)) (λ child. LeadsTo gives branch key child after after [] shown)) (sym none) (refl, refl, refl),
        )

    pub path_most : after.reads ≤ start.reads + page_total branch.parts
    path_most = omega (arith, on.reads, one.one)

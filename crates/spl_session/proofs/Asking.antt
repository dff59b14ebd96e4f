-- One message for those of several tables, newest first.
use Rattle.std.proofs.Common.{◌≡◌, ℕ, suc, ◌+◌, ◌≤◌, Bool, true, List, [], ◌∷◌, ◌++◌, Option, Some, None, length, map, get_or, drop, take, refl, sym, ap, subst, ◌∙◌, append_assoc, take-append-drop, arith}
use Rattle.std.specs.Prelude.{option_to_list, sum_by}
use Rattle.std.proofs.Math.Seq.{drop-cons}
use Rattle.std.proofs.lemmas.Bool.{false≢true}
use Rattle.std.proofs.lemmas.Grind.{flat_map-append}
use Rattle.std.proofs.lemmas.List.{map-append}
use Rattle.std.proofs.lemmas.List.Sums.{fold-append, sum_by-cons, sum_by-drop_more, sum_by-take-drop}
use Rattle.spl_message.specs.declared.message.Message.{Message}
use Rattle.spl_message.specs.declared.message.Message.TheVariants.{Insert, Delete, Update}
use Rattle.spl_message.specs.Cell.{Cell}
use Rattle.spl_message.specs.Message.{act, act_all, combine}
use Rattle.spl_message.specs.Rule.{Rule}
use Rattle.spl_message.specs.Table.{Table, chain, message_at}
use Rattle.spl_message.proofs.Messages.{act-combine}
use Rattle.spl_port.specs.Counts.{Counts}
use Rattle.spl_branch.specs.declared.fault.BranchFault.{BranchFault}
use Rattle.spl_branch.specs.declared.fault.BranchFault.TheVariants as branch_fault
use Rattle.spl_branch.specs.Branch.{Branch}
use Rattle.spl_branch.specs.Pages.{AreTold}
use Rattle.spl_branch.specs.Reading.{HasBranchCause}
use Rattle.spl_session.specs.Asking.{Folds, HasReadCause, decides, of_branch}

module _ (rule : Rule) (key : List ℕ) where
  -- one after the other
  pub acts_on : (cell : Cell) (first second : List Message) → act_all rule key cell (first ++ second) ≡ act_all rule key (act_all rule key cell first) second
  acts_on cell first second = fold-append (act rule key) cell first second

  -- behind what decides, it does not matter what lay below
  pub decided_same : (found : Option Message) → decides found ≡ true → (cell other : Cell) → act_all rule key cell (option_to_list found) ≡ act_all rule key other (option_to_list found)
  decided_same None is cell other = absurd (false≢true is)
  decided_same (Some (Insert value)) is cell other = refl
  decided_same (Some Delete) is cell other = refl
  decided_same (Some (Update operand)) is cell other = absurd (false≢true is)

  pub combined : (older newer : Message) → Folds rule key (older ∷ newer ∷ []) (Some (combine rule key older newer))
  combined older newer cell = act-combine rule key cell older newer

  -- the message of one more table
  pub one_more : (older newer found : Option Message) (rest : List Message) → Folds rule key (option_to_list older ++ option_to_list newer) found → Folds rule key rest newer → Folds rule key (option_to_list older ++ rest) found
  one_more older newer found rest both one cell =
      both cell
      ∙ acts_on cell (option_to_list older) (option_to_list newer)
      ∙ one (act_all rule key cell (option_to_list older))
      ∙ sym (acts_on cell (option_to_list older) rest)

  module _ {X : Type 0} (table : X → Table) where
    abbrev pub from : List X → ℕ → List Message
    from xs left = chain (map table (drop left xs)) key

    pub next_older : (xs : List X) (left n : ℕ) (x : X) (rest : List Message) (newer found : Option Message) → n ≡ suc left → n ≤ length xs → Folds rule key (option_to_list (message_at (table (get_or xs left x)) key) ++ option_to_list newer) found → Folds rule key (from xs n ++ rest) newer → Folds rule key (from xs left ++ rest) found
    next_older xs left n x rest newer found is within both one =
        let here : drop left xs ≡ get_or xs left x ∷ drop n xs = drop-cons xs left x (omega arith) ∙ ap (λ (k : ℕ). get_or xs left x ∷ drop k xs) (sym is) in
        let older = message_at (table (get_or xs left x)) key in
        let all : option_to_list older ++ (from xs n ++ rest) ≡ from xs left ++ rest =
        sym (append_assoc (option_to_list older) (from xs n) rest) ∙ ap (λ (ys : List X). chain (map table ys) key ++ rest) (sym here) in
        subst (λ (ms : List Message). Folds rule key ms found) all (one_more older newer found (from xs n ++ rest) both one)

    -- what decides does not need the older ones
    pub decided_from : (xs : List X) (left : ℕ) (rest : List Message) (found : Option Message) → decides found ≡ true → Folds rule key (from xs left ++ rest) found → Folds rule key (chain (map table xs) key ++ rest) found
    decided_from xs left rest found is one cell =
        let older = chain (map table (take left xs)) key in
        let parts : older ++ from xs left ≡ chain (map table xs) key =
        sym (flat_map-append (λ t. option_to_list (message_at t key)) (map table (take left xs)) (map table (drop left xs)))
        ∙ ap (λ (ts : List Table). chain ts key) (sym (map-append table (take left xs) (drop left xs)) ∙ ap (map table) (take-append-drop left xs)) in
        decided_same found is cell (act_all rule key cell older)
        ∙ one (act_all rule key cell older)
        ∙ sym (acts_on cell older (from xs left ++ rest))
        ∙ ap (act_all rule key cell) (sym (append_assoc older (from xs left) rest) ∙ ap (λ (ms : List Message). ms ++ rest) parts)

-- a sum over the values of a list
pub sum_by-mapped : {X Y : Type 0} (f : Y → ℕ) (g : X → Y) (xs : List X) → sum_by f (map g xs) ≡ sum_by (λ x. f (g x)) xs
sum_by-mapped f g [] = refl
sum_by-mapped f g (x ∷ xs) =
    sum_by-cons f (g x) (map g xs) ∙ ap (λ (n : ℕ). f (g x) + n) (sum_by-mapped f g xs) ∙ sym (sum_by-cons (λ y. f (g y)) x xs)

module _ {X : Type 0} (f : X → ℕ) (xs : List X) where
  -- the part of a list from a place on has no greater sum
  pub sum_from : (left start now : ℕ) → now ≤ start + sum_by f (drop left xs) → now ≤ start + sum_by f xs
  sum_from left start now below = let parts = sum_by-take-drop f xs left in omega (arith, below, parts)

  -- and one more entry
  pub sum_before : (left n : ℕ) (x : X) (start now later : ℕ) → n ≡ suc left → n ≤ length xs → now ≤ start + sum_by f (drop n xs) → later ≤ now + f (get_or xs left x) → later ≤ start + sum_by f (drop left xs)
  sum_before left n x start now later is within below more =
      let next = sum_by-drop_more f xs left x (omega arith) in
      let same : sum_by f (drop (left + 1) xs) ≡ sum_by f (drop n xs) = ap (λ (k : ℕ). sum_by f (drop k xs)) (omega arith) in
      omega (arith, next, same, below, more)

-- what stopped the look into a branch stopped the call; where devices tell their pages, no page is damaged
pub read_cause : (tells : Bool) (branch : Branch) (before after : Counts) (fault : BranchFault) → (tells ≡ true → AreTold branch.parts) → HasBranchCause branch before after fault → HasReadCause tells before after (of_branch fault)
read_cause tells branch before after branch_fault.Fault told cause = cause
read_cause tells branch before after (branch_fault.Damaged damage) told cause = ((λ is. cause.untold (told is)), (branch, cause))
read_cause tells branch before after branch_fault.NoMemory told cause = tt

-- Keys that rise, with some of them left out and with one more.
use Rattle.std.proofs.Common.{◌≡◌, ℕ, true, sym, IfSome, List, [], ◌∷◌, ◌++◌, Option, Some, None, refl, subst}
use Rattle.std.specs.Cmp.Lexicographic.{slice_cmp}
use Rattle.std.specs.declared.cmp.Ordering.TheVariants.{Less}
use Rattle.std.specs.List.{AllByRecursion, last_or}
use Rattle.std.specs.List.Sorted.{IsStrictlySortedBy}
use Rattle.std.specs.Ordering.{nat_cmp}
use Rattle.spl_message.specs.Key.{AreRising, is_below}
use Rattle.spl_branch.proofs.GrowingLists.{all_back}
use Rattle.spl_branch.proofs.GrowingTable.{rising_back, rising_push}

all_without : {X : Type 0} (P : X → Type 0) (xs : List X) (y : X) (ys zs : List X) → AllByRecursion P (xs ++ y ∷ (ys ++ zs)) → AllByRecursion P (xs ++ y ∷ zs)
all_without P [] y ys zs all = (all.0, all_back P ys zs all.1)
all_without P (x ∷ xs) y ys zs all = (all.0, all_without P xs y ys zs all.1)

-- keys without some of the middle
pub rising_without : (xs : List (List ℕ)) (y : List ℕ) (ys zs : List (List ℕ)) → AreRising (xs ++ y ∷ (ys ++ zs)) → AreRising (xs ++ y ∷ zs)
unfolding IsStrictlySortedBy
rising_without [] y ys zs rising = (all_back (λ z. slice_cmp nat_cmp y z ≡ Less) ys zs rising.0, rising_back ys zs rising.1)
rising_without (x ∷ xs) y ys zs rising = (all_without (λ z. slice_cmp nat_cmp x z ≡ Less) xs y ys zs rising.0, rising_without xs y ys zs rising.1)

pub last_push : {X : Type 0} (o : Option X) (xs : List X) (x : X) → last_or o (xs ++ x ∷ []) ≡ Some x
last_push o [] x = refl
last_push o (y ∷ xs) x = last_push (Some y) xs x

-- a key above the last one
pub rising_more : (keys : List (List ℕ)) (key next : List ℕ) → AreRising (keys ++ key ∷ []) → is_below key next ≡ true → AreRising ((keys ++ key ∷ []) ++ next ∷ [])
rising_more keys key next rising above =
    rising_push (keys ++ key ∷ []) next rising
    (subst (λ (o : Option (List ℕ)). IfSome o (λ last. is_below last next ≡ true)) (sym (last_push None keys key)) above)

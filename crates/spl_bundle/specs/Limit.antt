-- What is printed of a list that is not taken.
use Rattle.std.specs.Prelude.{ℕ, List, ◌++◌, codes, decimal}
use Rattle.spl_bundle.specs.declared.limit.Limit.{Limit}
use Rattle.spl_bundle.specs.declared.limit.Limit.TheVariants.{Lists, Branches}

abbrev pub limit_text : Limit → List ℕ
limit_text (Lists lists) = codes "there are " ++ decimal lists ++ codes " lists already"
limit_text (Branches branches) = codes "a list of " ++ decimal branches ++ codes " branches is too long"

-- Short lists of keys are in order.
use Rattle.std.proofs.Common.{ℕ, List, [], ◌∷◌}
use Rattle.std.specs.List.Sorted.{IsStrictlySortedBy}
use Rattle.spl_message.specs.Key.{AreRising}

pub one_rising : (key : List ℕ) → AreRising (key ∷ [])
unfolding IsStrictlySortedBy
one_rising key = (tt, tt)

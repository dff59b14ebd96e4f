-- How an actor comes to write two nodes.
use Rattle.std.specs.Prelude.{◌⊎◌, ℕ, Bool, if◌then◌else◌}
use Rattle.spl_holds.specs.declared.grip.Grip.TheVariants.{Write}
use Rattle.spl_desk.specs.Turn.{Turn}
use Rattle.spl_job.specs.Holding.{Holding, with_grip}
use Rattle.spl_job.specs.Latching.{IsRefusal}

-- the actor writes both nodes, or has what it had
abbrev pub after_both : Holding → ℕ → ℕ → Bool → Holding
after_both holding parent child made =
    if made then with_grip (with_grip holding parent Write) child Write else holding

-- in this turn somebody was in the way at one of the nodes
abbrev pub IsRefusalOf : {B : Type 0} → ℕ → ℕ → Turn B → Type 0
IsRefusalOf parent child turn = IsRefusal parent turn ⊎ IsRefusal child turn

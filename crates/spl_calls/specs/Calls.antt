-- What the two closures of a caller answer. A call may always run out of memory.
use Rattle.std.specs.Prelude.{◌≡◌, ℕ, List, Option, Result, IfOk}
use Rattle.std.specs.Borrow.{Bor}
use Rattle.std.specs.Option.{option_copied}
use Rattle.spl_message.specs.Rule.{Rule}

-- each value that a call answers is the join of the rule
abbrev pub JoinsBy : {G E : Type 0} → Rule →
    (G → Bor (List ℕ) → Bor (List ℕ) → Bor (List ℕ) → Result (List ℕ) E → Type 0) → Type 0
JoinsBy {G} {E} rule answers =
    (alloc : G) (key older newer : Bor (List ℕ)) (result : Result (List ℕ) E) →
    answers alloc key older newer result →
    IfOk result (λ value. value ≡ rule.join key.now older.now newer.now)

-- each value that a call answers is what the rule makes of the cell
abbrev pub AppliesBy : {G E : Type 0} → Rule →
    (G → Bor (List ℕ) → Option (Bor (List ℕ)) → Bor (List ℕ) → Result (List ℕ) E → Type 0) → Type 0
AppliesBy {G} {E} rule answers =
    (alloc : G) (key : Bor (List ℕ)) (old : Option (Bor (List ℕ))) (operand : Bor (List ℕ)) →
    (result : Result (List ℕ) E) →
    answers alloc key old operand result →
    IfOk result (λ value. value ≡ rule.apply key.now (option_copied old) operand.now)

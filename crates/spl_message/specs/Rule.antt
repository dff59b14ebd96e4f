-- The rule of a merge law, as data: what the operand of an update makes of a cell.
use Rattle.std.specs.Prelude.{◌≡◌, ℕ, List, Some, refl}
use Rattle.spl_message.specs.Cell.{Cell, IsCell, IsValue}

pub record Rule : Type 0 where
  -- the value that an operand makes of the key's cell
  pub apply : List ℕ → Cell → List ℕ → List ℕ
  -- the one operand that stands for two, of which the older comes first
  pub join : List ℕ → List ℕ → List ℕ → List ℕ
  -- the law: applying two operands in turn is applying their join
  pub agrees : (key : List ℕ) (cell : Cell) (older newer : List ℕ) → apply key (Some (apply key cell older)) newer ≡ apply key cell (join key older newer)
  -- of values come values
  pub applies_within : (key : List ℕ) (cell : Cell) (operand : List ℕ) → IsCell cell → IsValue operand → IsValue (apply key cell operand)
  pub joins_within : (key older newer : List ℕ) → IsValue older → IsValue newer → IsValue (join key older newer)

-- the rule in which the newest operand is the value
abbrev pub newest : Rule
newest = record {
  apply = λ key cell operand. operand;
  join = λ key older newer. newer;
  agrees = λ key cell older newer. refl;
  applies_within = λ key cell operand is_cell is_value. is_value;
  joins_within = λ key older newer is_older is_newer. is_newer;
}

-- The rules of the laws: what each makes of a cell and an operand, and of two operands. The key has no part.
use Rattle.std.specs.Prelude.{ℕ, ◌++◌, decimal}
use Rattle.spl_message.specs.Rule.{Rule}
use Rattle.spl_ops.specs.declared.kind.Kind.{Kind}
use Rattle.spl_ops.specs.declared.kind.Kind.TheVariants.{Add, Max, Tail, Capped}
use Rattle.spl_ops.specs.Numbers.{number_of, number_at}
use Rattle.spl_ops.specs.Sums.{added, capped_sum}
use Rattle.spl_ops.specs.Texts.{greater, greater_at, end_of, bytes_at}
use Rattle.spl_ops.specs.SumLaws.{added_agrees, capped_agrees, added_is_value, capped_is_value}
use Rattle.spl_ops.specs.TextLaws.{greater_agrees, greater_at_is_value, greater_is_value, end_agrees, end_is_value}

-- the sum of the numbers, which wraps at 2^64
abbrev pub add : Rule
add = record {
  apply = λ key cell operand. decimal (added (number_at cell) (number_of operand));
  join = λ key older newer. decimal (added (number_of older) (number_of newer));
  agrees = λ key cell older newer. added_agrees (number_at cell) older newer;
  applies_within = λ key cell operand is_cell is_value. added_is_value (number_at cell) operand;
  joins_within = λ key older newer is_older is_newer. added_is_value (number_of older) newer;
}

-- the greatest by bytes
abbrev pub max : Rule
max = record {
  apply = λ key cell operand. greater_at cell operand;
  join = λ key older newer. greater older newer;
  agrees = λ key cell older newer. greater_agrees cell older newer;
  applies_within = λ key cell operand is_cell is_value. greater_at_is_value cell operand is_cell is_value;
  joins_within = λ key older newer is_older is_newer. greater_is_value older newer is_older is_newer;
}

-- the last 512 bytes of the cell followed by the operand
abbrev pub tail : Rule
tail = record {
  apply = λ key cell operand. end_of (bytes_at cell ++ operand);
  join = λ key older newer. end_of (older ++ newer);
  agrees = λ key cell older newer. end_agrees (bytes_at cell) older newer;
  applies_within = λ key cell operand is_cell is_value. end_is_value (bytes_at cell ++ operand);
  joins_within = λ key older newer is_older is_newer. end_is_value (older ++ newer);
}

-- the sum of the numbers, at most the cap
abbrev pub capped : ℕ → Rule
capped cap = record {
  apply = λ key cell operand. decimal (capped_sum cap (number_at cell) (number_of operand));
  join = λ key older newer. decimal (capped_sum cap (number_of older) (number_of newer));
  agrees = λ key cell older newer. capped_agrees cap (number_at cell) older newer;
  applies_within = λ key cell operand is_cell is_value. capped_is_value cap (number_at cell) operand;
  joins_within = λ key older newer is_older is_newer. capped_is_value cap (number_of older) newer;
}

abbrev pub rule_of : Kind → Rule
rule_of Add = add
rule_of Max = max
rule_of Tail = tail
rule_of (Capped cap) = capped cap

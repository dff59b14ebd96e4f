use Rattle.std.proofs.Common.{◌≡◌, ◌≤◌, ◌<◌, true, take}
use Rattle.std.specs.Char.{is_ascii_digit}
use Rattle.std.specs.List.{list_all}
use Rattle.std.specs.Str.Parse.{digits_value}
use Rattle.spl_script.proofs.names.read_caller.Given as goal

-- the digits so far spell the number, which is below the number of callers once there is a digit
abbrev pub invariant-loop-byte : goal.invariant-loop-byte
invariant-loop-byte l =
    record {
      digits : list_all is_ascii_digit (take l.byte-index l.field) ≡ true;
      value : digits_value 10 (take l.byte-index l.field) ≡ l.number;
      small : l.number ≤ l.callers;
      below : 0 < l.byte-index → l.number < l.callers;
    }

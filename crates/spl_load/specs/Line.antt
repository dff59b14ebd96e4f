-- The line that tells of a run.
use Rattle.std.specs.Prelude.{ℕ, Bool, true, false, List, ◌++◌, codes, count_by, decimal, is_some}
use Rattle.std.specs.Int.{w64, to_be_bytes}
use Rattle.hex.specs.Hex.{encode_lower}
use Rattle.spl_message.specs.declared.answer.Answer.{Answer}
use Rattle.spl_message.specs.declared.answer.Answer.TheVariants.{Done, Missing, Value, Pairs, Stopped}
use Rattle.spl_message.specs.declared.call.Call.{Call}
use Rattle.spl_message.specs.declared.call.Call.TheVariants.{Put, Look, Piece}
use Rattle.spl_message.specs.Fnv.{fnv_of}
use Rattle.spl_report.specs.declared.report.Row.{Row}
use Rattle.spl_report.specs.ReportText.{report_text}
use Rattle.spl_load.specs.declared.line.Figures.{Figures}

abbrev pub is_value : Answer → Bool
is_value Done = false
is_value Missing = false
is_value (Value value) = true
is_value (Pairs end pairs) = false
is_value (Stopped cause) = false

abbrev pub is_missing : Answer → Bool
is_missing Done = false
is_missing Missing = true
is_missing (Value value) = false
is_missing (Pairs end pairs) = false
is_missing (Stopped cause) = false

-- whether it is a lookup, and its answer passes the test
abbrev pub looks_up : (Answer → Bool) → Call → Answer → Bool
looks_up test (Put key message) answer = false
looks_up test (Look key) answer = test answer
looks_up test (Piece span) answer = false

-- the lookups that were answered with a value, and those that were answered without one
abbrev pub is_found : Row → Bool
is_found row = looks_up is_value row.call row.answer

abbrev pub is_missed : Row → Bool
is_missed row = looks_up is_missing row.call row.answer

-- the rows that have a place, the lookups with and without a value, the hash of the report, the pages and the leaves
abbrev pub figures_of : List Row → ℕ → ℕ → Figures
figures_of rows pages leaves = record {
  rows = count_by (λ row. is_some row.place) rows;
  found = count_by is_found rows;
  none = count_by is_missed rows;
  digest = fnv_of (report_text rows);
  pages = pages;
  leaves = leaves;
}

-- the eight bytes of a number, the highest first, each in two lower-case hexadecimal digits
abbrev pub hex_text : ℕ → List ℕ
hex_text number = encode_lower (to_be_bytes w64 number)

abbrev pub line_text : Figures → List ℕ
line_text figures =
    codes "rows " ++ decimal figures.rows ++ codes " found " ++ decimal figures.found ++ codes " none " ++ decimal figures.none
    ++ codes " digest " ++ hex_text figures.digest ++ codes " pages " ++ decimal figures.pages ++ codes " leaves " ++ decimal figures.leaves ++ codes "\n"

-- the line of a run with these rows, which wrote so many pages and left so many leaves
abbrev pub load_text : List Row → ℕ → ℕ → List ℕ
load_text rows pages leaves = line_text (figures_of rows pages leaves)

-- The text of a script: a line for each of its lines, in the one spelling that is written.
use Rattle.std.specs.Prelude.{ℕ, ◌<◌, ◌≤◌, ◌^◌, IfSome, All, List, ◌++◌, length, flat_map, codes, decimal, Option, None, Some}
use Rattle.spl_message.specs.declared.call.Call.{Call}
use Rattle.spl_message.specs.declared.call.Call.TheVariants.{Put, Look, Piece}
use Rattle.spl_message.specs.declared.message.Message.TheVariants.{Insert, Delete, Update}
use Rattle.spl_message.specs.declared.span.Span.{Span}
use Rattle.spl_message.specs.Bound.{IsBound}
use Rattle.spl_message.specs.Key.{IsKey}
use Rattle.spl_script.specs.declared.lines.Deed.{Deed}
use Rattle.spl_script.specs.declared.lines.Deed.TheVariants.{One, Scan}
use Rattle.spl_script.specs.declared.lines.ScriptLine.{ScriptLine}
use Rattle.spl_script.specs.Text.{text_of}

-- an end of a scan, or `*` where it is open
abbrev pub end_text : Option (List ℕ) → List ℕ
end_text None = codes "*"
end_text (Some bytes) = text_of bytes

abbrev pub span_text : Span → List ℕ
span_text span = codes "scan " ++ end_text span.from ++ codes " " ++ end_text span.to

-- a call, with the verb that asks for it
abbrev pub call_text : Call → List ℕ
call_text (Put key (Insert value)) = codes "put " ++ text_of key ++ codes " =" ++ text_of value
call_text (Put key (Update operand)) = codes "upd " ++ text_of key ++ codes " =" ++ text_of operand
call_text (Put key Delete) = codes "del " ++ text_of key
call_text (Look key) = codes "get " ++ text_of key
call_text (Piece span) = span_text span

abbrev pub deed_text : Deed → List ℕ
deed_text (One call) = call_text call
deed_text (Scan span) = span_text span

abbrev pub line_text : ScriptLine → List ℕ
line_text line = decimal line.caller ++ codes " " ++ deed_text line.deed ++ codes "\n"

abbrev pub lines_text : List ScriptLine → List ℕ
lines_text lines = flat_map line_text lines

-- What is known of the parts of each line that there is: keys, values and ends have their bytes.
abbrev pub IsValueText : List ℕ → Type 0
IsValueText value = (length value ≤ 512) × All (λ byte. byte < 256) value

abbrev pub HasBytes : Call → Type 0
HasBytes (Put key (Insert value)) = IsKey key × IsValueText value
HasBytes (Put key (Update operand)) = IsKey key × IsValueText operand
HasBytes (Put key Delete) = IsKey key
HasBytes (Look key) = IsKey key
HasBytes (Piece span) = Unit {0}

abbrev pub HasEnds : Span → Type 0
HasEnds span = IfSome span.from IsKey × IfSome span.to IsBound

abbrev pub HasParts : Deed → Type 0
HasParts (One call) = HasBytes call
HasParts (Scan span) = HasEnds span

abbrev pub IsWhole : ScriptLine → Type 0
IsWhole line = (line.caller < 2 ^ 32) × HasParts line.deed

-- The text of a report, by cases on its rows.
use Rattle.std.specs.Prelude.{ℕ, ◌+◌, ◌/◌, ◌%◌, ◌^◌, ◌<◌, ◌==◌, nat_lt, IfSome, Bool, ◌&&◌, not, if◌then◌else◌, List, [], ◌∷◌, ◌++◌, flat_map, length, codes, decimal, Option, Some, None}
use Rattle.std.specs.List.{AllByRecursion}
use Rattle.spl_message.specs.declared.answer.Answer.{Answer}
use Rattle.spl_message.specs.declared.answer.Answer.TheVariants.{Done, Missing, Value, Pairs, Stopped}
use Rattle.spl_message.specs.declared.answer.Cause.{Cause}
use Rattle.spl_message.specs.declared.answer.Cause.TheVariants.{Fault, Damaged, Full, Nodes, Spent, Memory}
use Rattle.spl_message.specs.declared.call.Call.{Call}
use Rattle.spl_message.specs.declared.call.Call.TheVariants.{Put, Look, Piece}
use Rattle.spl_message.specs.declared.message.Message.TheVariants.{Insert, Delete, Update}
use Rattle.spl_report.specs.declared.report.Row.{Row}

-- a byte from `!` to `~` that is no `%` and no `*` is written by its character
abbrev pub is_shown : ℕ → Bool
is_shown byte = nat_lt 32 byte && nat_lt byte 127 && not (byte == 37) && not (byte == 42)

-- the digits are `0` to `9` and `A` to `F`
abbrev pub hex_digit : ℕ → ℕ
hex_digit digit = if nat_lt digit 10 then 48 + digit else 55 + digit

-- every other byte is written as `%` and two digits
abbrev pub byte_text : ℕ → List ℕ
byte_text byte = if is_shown byte then byte ∷ [] else 37 ∷ hex_digit (byte / 16) ∷ hex_digit (byte % 16) ∷ []

-- the one text of bytes that is written
abbrev pub text_of : List ℕ → List ℕ
text_of bytes = flat_map byte_text bytes

-- a place, or `-` where there is none
abbrev pub place_text : Option ℕ → List ℕ
place_text None = codes "-"
place_text (Some place) = decimal place

-- an end of a scan, or `*` where it is open
abbrev pub end_text : Option (List ℕ) → List ℕ
end_text None = codes "*"
end_text (Some bytes) = text_of bytes

-- a call, with the verb that asks for it
abbrev pub call_text : Call → List ℕ
call_text (Put key (Insert value)) = codes "put " ++ text_of key ++ codes " =" ++ text_of value
call_text (Put key (Update operand)) = codes "upd " ++ text_of key ++ codes " =" ++ text_of operand
call_text (Put key Delete) = codes "del " ++ text_of key
call_text (Look key) = codes "get " ++ text_of key
call_text (Piece span) = codes "scan " ++ end_text span.from ++ codes " " ++ end_text span.to

abbrev pub cause_text : Cause → List ℕ
cause_text Fault = codes "fault"
cause_text Damaged = codes "damaged"
cause_text Full = codes "full"
cause_text Nodes = codes "nodes"
cause_text Spent = codes "spent"
cause_text Memory = codes "memory"

-- a key with its value, on a line of its own behind the row's
abbrev pub pair_text : List ℕ × List ℕ → List ℕ
pair_text pair = codes "\n+ " ++ text_of pair.0 ++ codes " =" ++ text_of pair.1

abbrev pub answer_text : Answer → List ℕ
answer_text Done = codes "ok"
answer_text Missing = codes "none"
answer_text (Value value) = codes "=" ++ text_of value
answer_text (Pairs end pairs) = end_text end ++ codes " " ++ decimal (length pairs) ++ flat_map pair_text pairs
answer_text (Stopped cause) = cause_text cause

-- a row is a line, and behind it one for each pair
abbrev pub row_text : Row → List ℕ
row_text row = place_text row.place ++ codes " " ++ decimal row.caller ++ codes " " ++ call_text row.call ++ codes " " ++ answer_text row.answer ++ codes "\n"

abbrev pub report_text : List Row → List ℕ
report_text rows = flat_map row_text rows

-- the numbers of a row are within its fields' types, and its bytes are bytes, as they are for each row that there is
abbrev pub AreBytes : List ℕ → Type 0
AreBytes bytes = AllByRecursion (λ byte. byte < 256) bytes

abbrev pub HasEndBytes : Option (List ℕ) → Type 0
HasEndBytes None = Unit {0}
HasEndBytes (Some bytes) = AreBytes bytes

abbrev pub HasCallBytes : Call → Type 0
HasCallBytes (Put key (Insert value)) = AreBytes key × AreBytes value
HasCallBytes (Put key (Update operand)) = AreBytes key × AreBytes operand
HasCallBytes (Put key Delete) = AreBytes key
HasCallBytes (Look key) = AreBytes key
HasCallBytes (Piece span) = HasEndBytes span.from × HasEndBytes span.to

abbrev pub HasPairBytes : List ℕ × List ℕ → Type 0
HasPairBytes pair = AreBytes pair.0 × AreBytes pair.1

abbrev pub HasAnswerBytes : Answer → Type 0
HasAnswerBytes (Value value) = AreBytes value
HasAnswerBytes Done = Unit {0}
HasAnswerBytes Missing = Unit {0}
HasAnswerBytes (Pairs end pairs) = HasEndBytes end × (length pairs < 2 ^ 64) × AllByRecursion HasPairBytes pairs
HasAnswerBytes (Stopped cause) = Unit {0}

pub record IsInRange (row : Row) : Type 0 where
  pub place : IfSome row.place (λ place. place < 2 ^ 64)
  pub caller : row.caller < 2 ^ 32
  pub call : HasCallBytes row.call
  pub answer : HasAnswerBytes row.answer

-- A line: the caller, the verb and the verb's fields, with one space between two.
use Rattle.std.specs.Prelude.{ℕ, ◌-◌, ◌==◌, ◌≤◌, if◌then◌else◌, List, [], ◌∷◌, length, take, filter, slice_index_or, codes, Option, Some, None, IfSome, Result, Ok, Err}
use Rattle.std.specs.Borrow.{Bor}
use Rattle.std.specs.List.{slice_split}
use Rattle.std.specs.Str.{bytes_eq}
use Rattle.spl_message.specs.declared.call.Call.{Call}
use Rattle.spl_message.specs.declared.call.Call.TheVariants.{Put, Look, Piece}
use Rattle.spl_message.specs.declared.message.Message.TheVariants.{Insert, Delete, Update}
use Rattle.spl_script.specs.declared.reason.LineWhy.{LineWhy}
use Rattle.spl_script.specs.declared.reason.LineWhy.TheVariants.{Fields, Caller, Verb}
use Rattle.spl_script.specs.declared.lines.Deed.{Deed}
use Rattle.spl_script.specs.declared.lines.Deed.TheVariants.{One, Scan}
use Rattle.spl_script.specs.declared.lines.ScriptLine.{ScriptLine}
use Rattle.spl_script.specs.Names.{caller_of, key_of, value_of, end_of}
use Rattle.spl_script.specs.Reason.{◌>>=◌, told}

-- the one call of a line is a put or a lookup
abbrev pub IsPutOrLook : Call → Type 0
IsPutOrLook (Put key message) = Unit {0}
IsPutOrLook (Look key) = Unit {0}
IsPutOrLook (Piece span) = ⊥

-- the end of a scan is spelled as a key is
abbrev pub IsDeed : Deed → Type 0
IsDeed (One call) = IsPutOrLook call
IsDeed (Scan span) = IfSome span.to (λ end. length end ≤ 64)

-- a caller's lines, in their order
abbrev pub lines_of : ℕ → List ScriptLine → List ScriptLine
lines_of caller lines = filter (λ line. line.caller == caller) lines

-- the fields of a text: what stands between its spaces
abbrev pub fields_of : List ℕ → List (List ℕ)
fields_of text = slice_split (λ byte. byte == 32) text

-- the fields of what is left of a line, which may be nothing
abbrev pub fields_in : Option (Bor (List ℕ)) → List (List ℕ)
fields_in None = []
fields_in (Some rest) = fields_of rest.now

-- the item of a list of one
abbrev pub only : {X : Type 0} → List X → Option X
only (x ∷ []) = Some x
only [] = None
only (x ∷ y ∷ ys) = None

-- the items of a list of two
abbrev pub both : {X : Type 0} → List X → Option (X × X)
both [] = None
both (x ∷ []) = None
both (x ∷ y ∷ []) = Some (x, y)
both (x ∷ y ∷ z ∷ zs) = None

-- `KEY =VALUE`
abbrev pub pair_of : List (List ℕ) → Result (List ℕ × List ℕ) LineWhy
pair_of fields = told Fields (both fields) >>= λ two. key_of two.0 >>= λ key. value_of two.1 >>= λ value. Ok (key, value)

-- `put KEY =VALUE`
abbrev pub put_of : List (List ℕ) → Result Deed LineWhy
put_of fields = pair_of fields >>= λ pair. Ok (One (Put pair.0 (Insert pair.1)))

-- `upd KEY =VALUE`
abbrev pub update_of : List (List ℕ) → Result Deed LineWhy
update_of fields = pair_of fields >>= λ pair. Ok (One (Put pair.0 (Update pair.1)))

-- `del KEY`
abbrev pub delete_of : List (List ℕ) → Result Deed LineWhy
delete_of fields = told Fields (only fields) >>= λ one. key_of one >>= λ key. Ok (One (Put key Delete))

-- `get KEY`
abbrev pub look_of : List (List ℕ) → Result Deed LineWhy
look_of fields = told Fields (only fields) >>= λ one. key_of one >>= λ key. Ok (One (Look key))

-- `scan START END`
abbrev pub scan_of : List (List ℕ) → Result Deed LineWhy
scan_of fields = told Fields (both fields) >>= λ two. end_of two.0 >>= λ start. end_of two.1 >>= λ end. Ok (Scan (record { from = start; to = end }))

-- what a verb asks for with the fields behind it
abbrev pub deed_of : List ℕ → List (List ℕ) → Result Deed LineWhy
deed_of verb fields =
    if bytes_eq verb (codes "put") then put_of fields
    else if bytes_eq verb (codes "upd") then update_of fields
    else if bytes_eq verb (codes "del") then delete_of fields
    else if bytes_eq verb (codes "get") then look_of fields
    else if bytes_eq verb (codes "scan") then scan_of fields
    else Err Verb

-- a line that is not empty has at least a caller and a verb
abbrev pub asked : ℕ → List (List ℕ) → Result ScriptLine LineWhy
asked callers (first ∷ verb ∷ fields) =
    told Caller (caller_of callers first) >>= λ caller. deed_of verb fields >>= λ deed. Ok (record { caller = caller; deed = deed })
asked callers fields = Err Fields

-- one CR at the end is not part of a line
abbrev pub without_cr : List ℕ → List ℕ
without_cr text = if slice_index_or text (length text - 1) 0 == 13 then take (length text - 1) text else text

-- what a line says, without its LF and its CR: nothing where it is empty
abbrev pub line_of : ℕ → List ℕ → Result (Option ScriptLine) LineWhy
line_of callers text = if length text == 0 then Ok None else (asked callers (fields_of text) >>= λ line. Ok (Some line))

-- The scripts that a seed gives.
use Rattle.std.specs.Prelude.{ℕ, zero, suc, ◌+◌, ◌*◌, ◌/◌, ◌%◌, ◌^◌, nat_lt, if◌then◌else◌, List, [], ◌∷◌, decimal}
use Rattle.spl_message.specs.declared.call.Call.{Call}
use Rattle.spl_message.specs.declared.call.Call.TheVariants.{Put, Look}
use Rattle.spl_message.specs.declared.message.Message.TheVariants.{Insert, Delete, Update}
use Rattle.spl_script.specs.declared.lines.Deed.TheVariants.{One}
use Rattle.spl_script.specs.declared.lines.ScriptLine.{ScriptLine}

-- the state behind a state
abbrev pub next_state : ℕ → ℕ
next_state state = (state * 6364136223846793005 + 1442695040888963407) % 2 ^ 64

-- the last five decimal digits of a number
abbrev pub five_digits : ℕ → List ℕ
five_digits number =
    (48 + number / 10000 % 10) ∷ (48 + number / 1000 % 10) ∷ (48 + number / 100 % 10) ∷ (48 + number / 10 % 10) ∷ (48 + number % 10) ∷ []

-- a key is `k` and five digits
abbrev pub key_at : ℕ → List ℕ
key_at state = 107 ∷ five_digits (state / 2 ^ 40 % 65536)

-- a value is a number below 2^24
abbrev pub value_at : ℕ → List ℕ
value_at state = decimal (state / 2 ^ 16 % 16777216)

-- the top four bits say which verb it is
abbrev pub call_by : ℕ → ℕ → Call
call_by top state =
    if nat_lt top 8 then Put (key_at state) (Insert (value_at state))
    else if nat_lt top 11 then Put (key_at state) (Update (value_at state))
    else if nat_lt top 13 then Put (key_at state) Delete
    else Look (key_at state)

abbrev pub line_at : ℕ → ScriptLine
line_at state = record { caller = 0; deed = One (call_by (state / 2 ^ 60) state) }

-- so many lines, each made from the state behind the last one
abbrev pub generated : ℕ → ℕ → List ScriptLine
generated zero state = []
generated (suc lines) state = line_at (next_state state) ∷ generated lines (next_state state)

-- The words of the program: which command they spell. Words are lists of bytes here.
use Rattle.std.specs.Prelude.{ℕ, ◌+◌, ◌-◌, ◌^◌, ◌≤◌, ◌==◌, if◌then◌else◌, List, [], ◌∷◌, take, drop, codes, position, Option, Some, None, IfSome, unwrap_or, option_and_then}
use Rattle.std.specs.Str.{bytes_eq}
use Rattle.spl_words.specs.declared.command.Command.{Command}
use Rattle.spl_words.specs.declared.command.Command.TheVariants.{Run, Load}
use Rattle.spl_words.specs.declared.command.Merge.{Merge}
use Rattle.spl_words.specs.declared.command.Merge.TheVariants.{Add, Max, Tail, Own}
use Rattle.spl_words.specs.declared.command.Setup.{Setup}
use Rattle.spl_words.specs.declared.options.Given.{Given}
use Rattle.spl_words.specs.declared.options.Verb.{Verb}
use Rattle.spl_words.specs.declared.options.Verb.TheVariants as verb
use Rattle.spl_words.specs.Numbers.{number_in}

infixl 10 ◌>>=◌
-- goes on with what there is, or there is nothing
abbrev pub ◌>>=◌ : {A B : Type 0} → Option A → (A → Option B) → Option B
o >>= f = option_and_then f o

-- the value of an option that was not given before
abbrev pub once : {A : Type 0} → Option A → Option A → Option (Option A)
once None None = None
once None (Some value) = Some (Some value)
once (Some before) value = None

-- a merge rule by its name
abbrev pub merge_of : List ℕ → Option Merge
merge_of text =
    if bytes_eq text (codes "add") then Some Add
    else if bytes_eq text (codes "max") then Some Max
    else if bytes_eq text (codes "tail") then Some Tail
    else if bytes_eq text (codes "own") then Some Own
    else None

-- what is given with one option more
abbrev pub with_merge : Option Merge → Given → Option Given
with_merge merge given = once given.merge merge >>= λ merge. Some (record given { merge = merge })

abbrev pub with_extents : Option ℕ → Given → Option Given
with_extents extents given = once given.extents extents >>= λ extents. Some (record given { extents = extents })

abbrev pub with_sets : Option ℕ → Given → Option Given
with_sets sets given = once given.sets sets >>= λ sets. Some (record given { sets = sets })

abbrev pub with_seed : Option ℕ → Given → Option Given
with_seed seed given = once given.seed seed >>= λ seed. Some (record given { seed = seed })

abbrev pub with_lines : Option ℕ → Given → Option Given
with_lines lines given = once given.lines lines >>= λ lines. Some (record given { lines = lines })

-- THE TABLE: each option by its full name, with the values that it takes.

-- the options of both commands
abbrev pub common_option : List ℕ → List ℕ → Given → Option Given
common_option name value given =
    if bytes_eq name (codes "--merge") then with_merge (merge_of value) given
    else if bytes_eq name (codes "--extents") then with_extents (number_in 0 65536 value) given
    else if bytes_eq name (codes "--sets") then with_sets (number_in 1 4096 value) given
    else None

-- `load` has two more
abbrev pub load_option : List ℕ → List ℕ → Given → Option Given
load_option name value given =
    if bytes_eq name (codes "--seed") then with_seed (number_in 0 (2 ^ 64 - 1) value) given
    else if bytes_eq name (codes "--lines") then with_lines (number_in 1 500000 value) given
    else common_option name value given

abbrev pub with_option : Verb → List ℕ → List ℕ → Given → Option Given
with_option verb.Run name value given = common_option name value given
with_option verb.Load name value given = load_option name value given

-- what stands where an option is not given
abbrev pub setup_of : Given → Setup
setup_of given = record { merge = unwrap_or given.merge Add; extents = unwrap_or given.extents 8192; sets = unwrap_or given.sets 64 }

abbrev pub command_by : Verb → Given → Command
command_by verb.Run given = Run (setup_of given)
command_by verb.Load given = Load (setup_of given) (unwrap_or given.seed 1) (unwrap_or given.lines 1000)

-- THE WORDS.

-- the name in a word, and the value behind its first `=` where it has one
abbrev pub name_to : List ℕ → Option ℕ → List ℕ
name_to word None = word
name_to word (Some place) = take place word

abbrev pub value_from : List ℕ → Option ℕ → Option (List ℕ)
value_from word None = None
value_from word (Some place) = Some (drop (place + 1) word)

abbrev pub name_in : List ℕ → List ℕ
name_in word = name_to word (position (λ byte. byte == 61) word)

abbrev pub value_in : List ℕ → Option (List ℕ)
value_in word = value_from word (position (λ byte. byte == 61) word)

-- by the value that there is, or else where there is none
abbrev pub chosen : {A B : Type 0} → Option A → (A → B) → B → B
chosen (Some value) by otherwise = by value
chosen None by otherwise = otherwise

-- The options that words give, in any order, where some were given before: a word is `--name=value`, or it is a name and
-- the next word is its value.
abbrev pub options_of : Verb → List (List ℕ) → Given → Option Given
options_of verb [] given = Some given
options_of verb (word ∷ []) given = value_in word >>= λ value. with_option verb (name_in word) value given
options_of verb (word ∷ next ∷ words) given =
    chosen (value_in word)
    (λ value. with_option verb (name_in word) value given >>= λ more. options_of verb (next ∷ words) more)
    (with_option verb (name_in word) next given >>= λ more. options_of verb words more)

-- nothing was given
abbrev pub nothing : Given
nothing = record { merge = None; extents = None; sets = None; seed = None; lines = None }

-- the command that a first word names
abbrev pub verb_of : List ℕ → Option Verb
verb_of word = if bytes_eq word (codes "run") then Some verb.Run else if bytes_eq word (codes "load") then Some verb.Load else None

-- the command that words spell
abbrev pub command_of : List (List ℕ) → Option Command
command_of [] = None
command_of (first ∷ words) = verb_of first >>= λ verb. options_of verb words nothing >>= λ given. Some (command_by verb given)

-- WHAT IS WITHIN THE TABLE.

pub record AreWithin (given : Given) : Type 0 where
  pub extents : IfSome given.extents (λ extents. extents ≤ 65536)
  pub sets : IfSome given.sets (λ sets. (1 ≤ sets) × (sets ≤ 4096))
  pub lines : IfSome given.lines (λ lines. (1 ≤ lines) × (lines ≤ 500000))

pub record IsSetup (setup : Setup) : Type 0 where
  pub extents : setup.extents ≤ 65536
  pub some : 1 ≤ setup.sets
  pub sets : setup.sets ≤ 4096

abbrev pub IsWithin : Command → Type 0
IsWithin (Run setup) = IsSetup setup
IsWithin (Load setup seed lines) = IsSetup setup × (1 ≤ lines) × (lines ≤ 500000)

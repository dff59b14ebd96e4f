-- What the words of the program ask for.
use Rattle.std.specs.Prelude.{◌≡◌, List, map, Some, String, string_bytes}
use Rattle.spl_message.specs.Rule.{Rule}
use Rattle.spl_ops.specs.Rules.{add, max, tail}
use Rattle.spl_words.specs.declared.command.Command.{Command}
use Rattle.spl_words.specs.declared.command.Command.TheVariants.{Run, Load}
use Rattle.spl_words.specs.declared.command.Merge.{Merge}
use Rattle.spl_words.specs.declared.command.Merge.TheVariants.{Add, Max, Tail, Own}
use Rattle.spl_words.specs.declared.command.Setup.{Setup}
use Rattle.spl_words.specs.Words.{command_of}

-- the words spell this command
abbrev pub Asks : {A : Type 0} → List (String A) → Command → Type 0
Asks words command = command_of (map string_bytes words) ≡ Some command

-- the words spell a command
abbrev pub IsCommand : {A : Type 0} → List (String A) → Type 0
IsCommand words = (command : Command) × Asks words command

-- the words spell a run
abbrev pub IsRun : {A : Type 0} → List (String A) → Type 0
IsRun words = (setup : Setup) × Asks words (Run setup)

-- what a command stands on
abbrev pub setup_in : Command → Setup
setup_in (Run setup) = setup
setup_in (Load setup seed lines) = setup

-- the rule of updates that a setup names, where the callbacks have the rule `own`
abbrev pub rule_of_merge : Rule → Merge → Rule
rule_of_merge own Add = add
rule_of_merge own Max = max
rule_of_merge own Tail = tail
rule_of_merge own Own = own

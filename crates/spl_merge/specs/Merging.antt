-- A merge that is under way: what was built, and what is left of the streams.
use Rattle.std.specs.Prelude.{◌≡◌, Bool, List, [], ◌∷◌, ◌++◌, Some, None, option_to_list}
use Rattle.spl_message.specs.declared.span.Span.{Span}
use Rattle.spl_message.specs.Entries.{Entries, AreEntries}
use Rattle.spl_message.specs.Rule.{Rule}
use Rattle.spl_message.specs.Table.{Table, IsMerged, as_table}
use Rattle.spl_merge.specs.declared.step.Step.{Step}
use Rattle.spl_merge.specs.declared.step.Step.TheVariants.{Entry, Dropped, Ended}
use Rattle.spl_merge.specs.Merger.{Head}

-- the entries that follow the heads: a stream without a head has ended, and each stream is in the order of its keys
abbrev pub AreStreams : List Head → List Entries → Type 0
AreStreams [] [] = Unit {0}
AreStreams [] (entries ∷ following) = ⊥
AreStreams (head ∷ heads) [] = ⊥
AreStreams (None ∷ heads) (entries ∷ following) = (entries ≡ []) × AreStreams heads following
AreStreams (Some entry ∷ heads) (entries ∷ following) = AreEntries (entry ∷ entries) × AreStreams heads following

-- what is left of each stream: its head and the entries that follow
abbrev pub left_of : List Head → List Entries → List Table
left_of [] following = []
left_of (head ∷ heads) [] = []
left_of (head ∷ heads) (entries ∷ following) = as_table (option_to_list head ++ entries) ∷ left_of heads following

-- the merge of the tables is what was built and behind it the merge of what is left of them
abbrev pub IsMergedSoFar : Rule → List Table → Span → Bool → Entries → List Table → Type 0
IsMergedSoFar rule tables span bottom built left =
    (rest : Entries) → IsMerged rule left span bottom (as_table rest) →
    IsMerged rule tables span bottom (as_table (built ++ rest))

-- what a step adds to what was built
abbrev pub built_by : Step → Entries
built_by (Entry key message) = (key, message) ∷ []
built_by Dropped = []
built_by Ended = []

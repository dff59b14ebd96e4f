-- A merger, as contracts see it, and what a step of it does.
use Rattle.std.specs.Prelude.{◌≡◌, ℕ, suc, Bool, true, false, if◌then◌else◌, List, [], ◌∷◌, ◌++◌, map, Option, Some, None, IfSome, Result, Ok, Err}
use Rattle.std.specs.List.{AllByRecursion}
use Rattle.spl_message.specs.declared.message.Message.{Message}
use Rattle.spl_message.specs.declared.span.Span.{Span}
use Rattle.spl_message.specs.Key.{is_below, same_key}
use Rattle.spl_message.specs.Message.{combine_all}
use Rattle.spl_message.specs.Rule.{Rule}
use Rattle.spl_message.specs.Span.{in_span}
use Rattle.spl_message.specs.Table.{kept}
use Rattle.spl_merge.specs.declared.step.Step.{Step}
use Rattle.spl_merge.specs.declared.step.Step.TheVariants.{Entry, Dropped, Ended}

-- the entry at the front of a stream, if it has one
abbrev pub Head : Type 0
Head = Option (List ℕ × Message)

-- the head of each stream, the streams whose next entry has to be given, the key of the latest step, and whether a step
-- ran out of memory
pub record Merger : Type 0 where
  pub span : Span
  pub bottom : Bool
  pub heads : List Head
  pub wanted : List ℕ
  pub last : Option (List ℕ)
  pub failed : Bool

-- whether the head has the key
abbrev pub has_key : List ℕ → Head → Bool
has_key key None = false
has_key key (Some entry) = same_key entry.0 key

-- the streams whose head has the key, each with its message; they are numbered from this number on
abbrev pub at_key : ℕ → List ℕ → List Head → List (ℕ × Message)
at_key stream key [] = []
at_key stream key (None ∷ heads) = at_key (suc stream) key heads
at_key stream key (Some entry ∷ heads) =
    if same_key entry.0 key
    then (stream, entry.1) ∷ at_key (suc stream) key heads
    else at_key (suc stream) key heads

-- the streams without a head; they are numbered from this number on
abbrev pub headless : ℕ → List Head → List ℕ
headless stream [] = []
headless stream (None ∷ heads) = stream ∷ headless (suc stream) heads
headless stream (Some entry ∷ heads) = headless (suc stream) heads

-- the heads where those of the key are taken
abbrev pub without : List ℕ → List Head → List Head
without key heads = map (λ head. if has_key key head then None else head) heads

-- no head's key is below the key
abbrev pub AreFrom : List ℕ → List Head → Type 0
AreFrom key heads = AllByRecursion (λ head. IfSome head (λ entry. is_below entry.0 key ≡ false)) heads

-- the first key is below the second, if there is a first one
abbrev pub IsAbove : Option (List ℕ) → List ℕ → Type 0
IsAbove None key = Unit {0}
IsAbove (Some last) key = is_below last key ≡ true

-- the key is the least that a head has
pub record IsLeast (key : List ℕ) (heads : List Head) : Type 0 where
  pub there : (first : ℕ × Message) × (others : List (ℕ × Message)) × (at_key 0 key heads ≡ first ∷ others)
  pub least : AreFrom key heads

-- the messages of the heads of the key, from the oldest stream on, and the streams
abbrev pub messages_at : List ℕ → List Head → List Message
messages_at key heads = map (λ head. head.1) (at_key 0 key heads)

abbrev pub streams_at : List ℕ → List Head → List ℕ
streams_at key heads = map (λ head. head.0) (at_key 0 key heads)

-- what the merge keeps of the heads of the key
abbrev pub kept_at : Rule → Merger → List ℕ → Option Message
kept_at rule merger key =
    if in_span merger.span key then kept rule merger.bottom key (combine_all rule key (messages_at key merger.heads)) else None

-- the heads of the key are taken, and the next entries of their streams have to be given
abbrev pub taken_at : List ℕ → Merger → Merger
taken_at key merger = record merger {
  heads = without key merger.heads;
  wanted = merger.wanted ++ streams_at key merger.heads;
}

-- the merger behind a step at the key
abbrev pub behind : List ℕ → Merger → Merger
behind key merger = record merger {
  heads = without key merger.heads;
  wanted = streams_at key merger.heads;
  last = Some key;
}

-- the answer where this is kept of the key
abbrev pub answer_of : List ℕ → Option Message → Step
answer_of key None = Dropped
answer_of key (Some message) = Entry key message

-- a step is at this key: the least that a head has, and above the key of the step before
pub record IsStep (key : List ℕ) (merger : Merger) : Type 0 where
  pub least : IsLeast key merger.heads
  pub above : IsAbove merger.last key

-- a step ends where no stream has a head; else it takes the heads of the least key, and answers what is kept of them
abbrev pub Steps : {E : Type 0} → Rule → Merger → Result Step E → Merger → Type 0
Steps rule old (Ok Ended) new = AllByRecursion (λ head. head ≡ None) old.heads × (new ≡ old)
Steps rule old (Ok Dropped) new =
    (key : List ℕ) × IsStep key old × (kept_at rule old key ≡ None) × (new ≡ behind key old)
Steps rule old (Ok (Entry key message)) new =
    IsStep key old × (kept_at rule old key ≡ Some message) × (new ≡ behind key old)
Steps rule old (Err error) new = new.failed ≡ true

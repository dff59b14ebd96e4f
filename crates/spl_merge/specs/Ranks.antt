-- The order in which heads are taken: by their keys, and of one key by their streams, the oldest first.
use Rattle.std.specs.Prelude.{◌≡◌, ◌≤◌, ◌+◌, ℕ, suc, Bool, List, [], ◌∷◌, ◌++◌, Option, Some, None, count_by, IfSome}
use Rattle.std.specs.List.{AllByRecursion}
use Rattle.std.specs.BinaryHeap.{IsHeap}
use Rattle.std.specs.Cmp.Lexicographic.{slice_cmp}
use Rattle.std.specs.declared.cmp.Ordering.{Ordering}
use Rattle.std.specs.Ordering.{nat_cmp, ordering_then}
use Rattle.std.specs.declared.cmp.Reverse.{Reverse}
use Rattle.spl_merge.specs.declared.merger.Rank.{Rank}
use Rattle.spl_message.specs.declared.message.Message.{Message}
use Rattle.spl_message.specs.Message.{combine}
use Rattle.spl_message.specs.Rule.{Rule}
use Rattle.spl_merge.specs.Merger.{AreFrom, Head, IsAbove, Merger, at_key, headless, without}

abbrev pub rank_cmp : Rank → Rank → Ordering
rank_cmp rank other = ordering_then (slice_cmp nat_cmp rank.key other.key) (nat_cmp rank.stream other.stream)

-- the ranks of the heads of streams; the streams are numbered from this number on
abbrev pub ranks : ℕ → List Head → List Rank
ranks stream [] = []
ranks stream (None ∷ heads) = ranks (suc stream) heads
ranks stream (Some entry ∷ heads) = record { key = entry.0; stream = stream } ∷ ranks (suc stream) heads

-- the queue gives the first rank first
abbrev pub IsQueue : List (Reverse Rank) → Type 0
IsQueue queue = IsHeap (λ rank other. rank_cmp other.0 rank.0) queue

-- the queue has the ranks of the heads, and each stream that is wanted has no head
pub record AreQueued (heads : List Head) (wanted : List ℕ) (last : Option (List ℕ)) (queue : List (Reverse Rank)) : Type 0 where
  pub order : IsQueue queue
  pub ranked : (test : Rank → Bool) → count_by (λ rank. test rank.0) queue ≡ count_by test (ranks 0 heads)
  pub wanting : (test : ℕ → Bool) → count_by test wanted ≤ count_by test (headless 0 heads)
  pub above : AllByRecursion (λ head. IfSome head (λ entry. IsAbove last entry.0)) heads

-- the head's rank comes into the queue, where there is a head
pub record QueuesHead (stream : ℕ) (head : Head) (old new : List (Reverse Rank)) : Type 0 where
  pub order : IsQueue old → IsQueue new
  pub ranked : (test : Rank → Bool) →
      count_by (λ rank. test rank.0) new ≡ count_by test (ranks stream (head ∷ [])) + count_by (λ rank. test rank.0) old

-- the head of the oldest stream that has the key is taken
pub record Takes (key : List ℕ) (old : Merger) (message : Message) (new : Merger) : Type 0 where
  pub taken : (stream : ℕ)
      × (at_key 0 key old.heads ≡ (stream, message) ∷ at_key 0 key new.heads)
      × (new.wanted ≡ old.wanted ++ stream ∷ [])
  pub others : without key new.heads ≡ without key old.heads
  pub least : AreFrom key new.heads
  pub rest : new ≡ record old { heads = new.heads; wanted = new.wanted }

-- the message of the key with a newer one
abbrev pub joined_with : Rule → List ℕ → Option Message → Message → Option Message
joined_with rule key None newer = Some newer
joined_with rule key (Some older) newer = Some (combine rule key older newer)

-- and with several, the oldest first
abbrev pub joined_all : Rule → List ℕ → Option Message → List Message → Option Message
joined_all rule key found [] = found
joined_all rule key found (newer ∷ messages) = joined_all rule key (joined_with rule key found newer) messages

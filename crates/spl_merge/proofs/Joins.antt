-- The messages of a key joined one after another, and a merger that has no more heads of the key.
use Rattle.std.proofs.Common.{◌≡◌, ℕ, zero, suc, ◌+◌, Bool, true, false, cond, List, [], ◌∷◌, ◌++◌, replicate, fold, map, Option, Some, None, refl, ap, ◌∙◌, sym, arith}
use Rattle.std.proofs.lemmas.List.{append-nil}
use Rattle.std.specs.List.{AllByRecursion, count_by}
use Rattle.std.specs.Option.{IfSome}
use Rattle.std.specs.declared.cmp.Reverse.{Reverse}
use Rattle.spl_message.specs.declared.message.Message.{Message}
use Rattle.spl_message.specs.Key.{same_key}
use Rattle.spl_message.specs.Message.{combine, combine_all}
use Rattle.spl_message.specs.Rule.{Rule}
use Rattle.spl_merge.specs.declared.merger.Rank.{Rank}
use Rattle.spl_merge.specs.Merger.{Head, IsAbove, Merger, at_key, headless, streams_at, taken_at, without}
use Rattle.spl_merge.specs.Ranks.{AreQueued, IsQueue, joined_all, ranks}

joined_some : (rule : Rule) (key : List ℕ) (oldest : Message) (messages : List Message) →
    joined_all rule key (Some oldest) messages ≡ Some (fold (combine rule key) oldest messages)
joined_some rule key oldest [] = refl
joined_some rule key oldest (newer ∷ messages) = joined_some rule key (combine rule key oldest newer) messages

-- joining all of them is combining them
pub joined_all-none : (rule : Rule) (key : List ℕ) (messages : List Message) →
    joined_all rule key None messages ≡ combine_all rule key messages
joined_all-none rule key [] = refl
joined_all-none rule key (oldest ∷ messages) = joined_some rule key oldest messages

none_taken : (s : ℕ) (key : List ℕ) (heads : List Head) → at_key s key heads ≡ [] → without key heads ≡ heads
none_taken s key [] none = refl
none_taken s key (None ∷ heads) none = ap (λ rest. None ∷ rest) (none_taken (suc s) key heads none)
none_taken s key (Some entry ∷ heads) none = by (λ rest. none_taken (suc s) key heads rest)
    (same_key entry.0 key) refl
  where
    by : (at_key (suc s) key heads ≡ [] → without key heads ≡ heads) → (b : Bool) → same_key entry.0 key ≡ b →
        without key (Some entry ∷ heads) ≡ Some entry ∷ heads
    by later true is = cc (
      none,
      ap (λ b. cond b ((s, entry.1) ∷ at_key (suc s) key heads)
          (at_key (suc s) key heads)) is,
    )
    by later false is =
        let rest : at_key (suc s) key heads ≡ [] =
        sym (ap (λ b. cond b ((s, entry.1) ∷ at_key (suc s) key heads) (at_key (suc s) key heads)) is)
        ∙ none in
        ap (λ b. cond b None (Some entry) ∷ without key heads) is
        ∙ ap (λ others. Some entry ∷ others) (later rest)

-- where no head of the key is left, all of them are taken
pub taken_all : (key : List ℕ) (initial now new : Merger) → at_key 0 key now.heads ≡ [] → new ≡ now →
    without key now.heads ≡ without key initial.heads →
    now.wanted ++ streams_at key now.heads ≡ initial.wanted ++ streams_at key initial.heads →
    now ≡ record initial { heads = now.heads; wanted = now.wanted } →
    new ≡ taken_at key initial
taken_all key initial now new none same others wanted rest =
    let heads : now.heads ≡ without key initial.heads = sym (none_taken 0 key now.heads none) ∙ others in
    let streams : streams_at key now.heads ≡ [] = ap (map (λ (head : ℕ × Message). head.0)) none in
    let all : now.wanted ≡ initial.wanted ++ streams_at key initial.heads = sym (append-nil now.wanted)
    ∙ ap (λ ws. now.wanted ++ ws) (sym streams) ∙ wanted in
    same ∙ rest ∙ ap (λ (hs : List Head). record initial { heads = hs; wanted = now.wanted }) heads
    ∙ ap (λ (ws : List ℕ). record initial { heads = without key initial.heads; wanted = ws }) all

-- one stream more without a head
pub headless-more : (s n : ℕ) → headless s (replicate (suc n) None) ≡ headless s
    (replicate n None) ++ (s + n) ∷ []
headless-more s zero = ap (λ n. n ∷ []) (omega arith)
headless-more s (suc n) = ap (λ rest. s ∷ rest) (headless-more (suc s) n)
    ∙ ap (λ m. (s ∷ headless (suc s) (replicate n None)) ++ m ∷ []) (omega arith)

pub replicate-more : (n : ℕ) → replicate {A = Head} (suc n) None ≡ replicate n None ++ None ∷ []
replicate-more zero = refl
replicate-more (suc n) = ap (λ (rest : List Head). None ∷ rest) (replicate-more n)

no_ranks : (s n : ℕ) → ranks s (replicate n None) ≡ []
no_ranks s zero = refl
no_ranks s (suc n) = no_ranks (suc s) n

none_above : (n : ℕ) (last : Option (List ℕ)) → AllByRecursion
    (λ (head : Head). IfSome head (λ entry. IsAbove last entry.0)) (replicate n None)
none_above zero last = tt
none_above (suc n) last = (tt, none_above n last)

-- no stream has a head, and every one is wanted
pub fresh_queued : (n : ℕ) (queue : List (Reverse Rank)) → queue ≡ [] → IsQueue queue →
    AreQueued (replicate n None) (headless 0 (replicate n None)) None queue
fresh_queued n queue none order = record {
  order = order;
  ranked = λ test. ap (count_by (λ (rank : Reverse Rank). test rank.0)) none
      ∙ ap (count_by test) (sym (no_ranks 0 n));
  wanting = λ test. omega arith;
  above = none_above n None;
}

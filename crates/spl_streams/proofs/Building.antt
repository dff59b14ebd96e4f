-- What a merge has given, from its first entry to its last.
use Rattle.std.proofs.Common.{◌≡◌, ℕ, Bool, true, false, List, [], ◌∷◌, ◌++◌, map, Option, Some, None, refl, ◌∙◌, subst}
use Rattle.std.proofs.lemmas.Bool.{false≢true}
use Rattle.std.proofs.lemmas.List.{append-nil}
use Rattle.std.specs.declared.cmp.Ordering.TheVariants.{Less, Equal, Greater}
use Rattle.std.specs.Cmp.Lexicographic.{slice_cmp}
use Rattle.std.specs.List.{AllByRecursion}
use Rattle.std.specs.List.Sorted.{IsStrictlySortedBy}
use Rattle.std.specs.Map.{keys_of}
use Rattle.std.specs.Ordering.{nat_cmp, is_lt}
use Rattle.std.specs.declared.cmp.Ordering.{Ordering}
use Rattle.spl_message.specs.declared.message.Message.{Message}
use Rattle.spl_message.specs.declared.span.Span.{Span}
use Rattle.spl_message.specs.Entries.{Entries, AreEntries}
use Rattle.spl_message.specs.Key.{is_below}
use Rattle.spl_message.specs.Rule.{Rule}
use Rattle.spl_message.specs.Span.{in_span}
use Rattle.spl_message.specs.Table.{Table, IsMerged, as_table, part_of}
use Rattle.spl_branch.specs.Branch.{table_of}
use Rattle.spl_merge.specs.Merger.{IsAbove}
use Rattle.spl_merge.specs.Merging.{IsMergedSoFar}
use Rattle.spl_streams.specs.Building.{HasGiven, Merge}
use Rattle.spl_streams.specs.Merging.{Gives, IsNext, Keeps, Merging}
use Rattle.spl_streams.proofs.Whole.{so_far_all, so_far_none, so_far_then}

less : (o : Ordering) → is_lt o ≡ true → o ≡ Less
less Less h = refl
less Equal h = absurd (false≢true h)
less Greater h = absurd (false≢true h)

none_in_order : AreEntries []
unfolding IsStrictlySortedBy
none_in_order = tt

all_more : {X : Type 0} (P : X → Type 0) (xs : List X) (x : X) → AllByRecursion P xs → P x → AllByRecursion P (xs ++ x ∷ [])
all_more P [] x all is = (is, tt)
all_more P (y ∷ xs) x all is = (all.0, all_more P xs x all.1 is)

-- an entry above all others goes behind them
order_more : (given : Entries) (entry : List ℕ × Message) → AreEntries given →
    AllByRecursion (λ other. is_below other.0 entry.0 ≡ true) given → AreEntries (given ++ entry ∷ [])
unfolding IsStrictlySortedBy
order_more [] entry order below = (tt, tt)
order_more (first ∷ given) entry order below = (
  keys_more first.0 given order.0 (less (slice_cmp nat_cmp first.0 entry.0) below.0),
  order_more given entry order.1 below.1,
)
  where
    keys_more : (key : List ℕ) (es : Entries) → AllByRecursion (λ k. slice_cmp nat_cmp key k ≡ Less) (keys_of es) →
        slice_cmp nat_cmp key entry.0 ≡ Less → AllByRecursion (λ k. slice_cmp nat_cmp key k ≡ Less) (keys_of (es ++ entry ∷ []))
    keys_more key [] all is = (is, tt)
    keys_more key (e ∷ es) all is = (all.0, keys_more key es all.1 is)

module _ (tells : Bool) (rule : Rule) (merge : Merge) where
  -- before the first entry, as `Merged::new` leaves it
  pub given_none : (unread : ℕ) → HasGiven tells rule merge [] (record {
    branches = merge.branches;
    span = merge.span;
    bottom = merge.bottom;
    left = map (λ branch. part_of merge.span (table_of branch)) merge.branches;
    unread = unread;
    last = None;
    failed = false;
  })
  given_none unread = record {
    branches = refl;
    span = refl;
    bottom = refl;
    order = none_in_order;
    inside = tt;
    below = λ key above. tt;
    told = λ told. so_far_none rule merge.span merge.bottom merge.branches;
  }

  -- what goes on from the merge goes on from what it is of
  on_merge : (given more : Entries) (old : Merging) (left : List Table) → HasGiven tells rule merge given old →
      IsMergedSoFar rule old.left old.span old.bottom more left →
      IsMergedSoFar rule old.left merge.span merge.bottom more left
  on_merge given more old left has step =
      subst (λ (b : Bool). IsMergedSoFar rule old.left merge.span b more left) has.bottom
      (subst (λ (s : Span). IsMergedSoFar rule old.left s old.bottom more left) has.span step)

  -- one entry more
  pub given_more : (given : Entries) (entry : List ℕ × Message) (old new : Merging) → HasGiven tells rule merge given old →
      Keeps old new → IsNext old entry.0 new → (tells ≡ true → Gives rule old (Some entry) new) →
      HasGiven tells rule merge (given ++ entry ∷ []) new
  given_more given entry old new has keeps next gives = record {
    branches = keeps.branches ∙ has.branches;
    span = keeps.span ∙ has.span;
    bottom = keeps.bottom ∙ has.bottom;
    order = order_more given entry has.order (has.below entry.0 next.above);
    inside = all_more (λ (e : List ℕ × Message). in_span merge.span e.0 ≡ true) given entry has.inside
        (subst (λ (s : Span). in_span s entry.0 ≡ true) has.span next.inside);
    below = λ key above.
        all_more (λ (e : List ℕ × Message). is_below e.0 key ≡ true) given entry (has.below key (keeps.last key above))
        (subst (λ (l : Option (List ℕ)). IsAbove l key) next.last above);
    told = λ told.
        so_far_then rule merge.span merge.bottom (map table_of merge.branches) given (entry ∷ []) old.left new.left (has.told told)
        (on_merge given (entry ∷ []) old new.left has (gives told));
  }

  -- no entry more, after an error
  pub given_still : (given : Entries) (old new : Merging) → HasGiven tells rule merge given old → Keeps old new →
      (tells ≡ true → IsMergedSoFar rule old.left old.span old.bottom [] new.left) → HasGiven tells rule merge given new
  given_still given old new has keeps again = record {
    branches = keeps.branches ∙ has.branches;
    span = keeps.span ∙ has.span;
    bottom = keeps.bottom ∙ has.bottom;
    order = has.order;
    inside = has.inside;
    below = λ key above. has.below key (keeps.last key above);
    told = λ told. subst (λ (es : Entries). IsMergedSoFar rule (map table_of merge.branches) merge.span merge.bottom es new.left)
        (append-nil given)
        (so_far_then rule merge.span merge.bottom (map table_of merge.branches) given [] old.left new.left (has.told told)
        (on_merge given [] old new.left has (again told)));
  }

  -- at the end all is given
  pub given_all : (given : Entries) (old new : Merging) → HasGiven tells rule merge given old → tells ≡ true →
      Gives rule old None new → IsMerged rule (map table_of merge.branches) merge.span merge.bottom (as_table given)
  given_all given old new has told gives =
      so_far_all rule merge.span merge.bottom (map table_of merge.branches) given old.left (has.told told)
      (subst (λ (b : Bool). IsMerged rule old.left merge.span b (as_table [])) has.bottom
      (subst (λ (s : Span). IsMerged rule old.left s old.bottom (as_table [])) has.span gives))

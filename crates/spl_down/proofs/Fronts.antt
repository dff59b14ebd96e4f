-- The part of a span that a node leaves of it starts where the span starts, and ends above that.
use Rattle.std.proofs.Common.{◌≡◌, ℕ, ◌+◌, Bool, true, false, if◌then◌else◌, nat_lt, Option, Some, None, List, length, refl, sym, ap, subst, ◌∙◌, inl, inr, arith}
use Rattle.std.specs.Prelude.{◌⊎◌}
use Rattle.spl_message.specs.declared.span.Span.{Span}
use Rattle.spl_message.specs.Key.{is_below}
use Rattle.spl_message.specs.Span.{InSpan, first_end, is_before, is_from}
use Rattle.spl_message.proofs.Spans.{below_trans}
use Rattle.spl_node.specs.Node.{NodeData, IsNode, is_past, pivot_at, span_of}
use Rattle.spl_node.specs.Steps.{all_keys}
use Rattle.spl_node.proofs.Starts.{both, first_of_both, second_of_both}
use Rattle.spl_state.specs.Actors.{StartsInside, pivot_from}
use Rattle.spl_descent.specs.Descents.{span_under}
use Rattle.spl_descent.proofs.Places.{pivot_from_within, starts_in_part}
use Rattle.spl_down.specs.Spans.{EndsWithin, IsFront}

-- the first of two ends, where the second is above the start
first_of_ends : (span : Span) (to end : Option (List ℕ)) → span.to ≡ to → ((e : List ℕ) → end ≡ Some e → is_past span.from e ≡ true) → (first_end to end ≡ span.to) ⊎ EndsWithin span (first_end to end)
first_of_ends span None None is above = inl (sym is)
first_of_ends span None (Some e) is above = inr (above e refl, ap (λ (o : Option (List ℕ)). is_before o e) is)
first_of_ends span (Some t) None is above = inl (sym is)
first_of_ends span (Some t) (Some e) is above = two (is_below e t) refl
  where
    two : (b : Bool) → is_below e t ≡ b → ((if b then Some e else Some t) ≡ span.to) ⊎ EndsWithin span (if b then Some e else Some t)
    two true below = inr (above e refl, ap (λ (o : Option (List ℕ)). is_before o e) is ∙ below)
    two false below = inl (sym is)

module _ (node : NodeData) (span : Span) (is : IsNode node) where
  abbrev end : Option (List ℕ)
  end = (span_of node (pivot_from node.pivots span.from)).to

  -- the pivot of a start ends above it
  ends_above : (start : Option (List ℕ)) → StartsInside node.range start → (e : List ℕ) → (span_of node (pivot_from node.pivots start)).to ≡ Some e → is_past start e ≡ true
  ends_above None inside e is_end = refl
  ends_above (Some start) inside e is_end =
      let part = span_of node (pivot_from node.pivots (Some start)) in
      let holds : InSpan part start = starts_in_part node is (Some start) inside in
      ap (λ (o : Option (List ℕ)). is_before o start) (sym is_end) ∙ second_of_both (is_from part.from start) (is_before part.to start) holds

  pub front_under : StartsInside node.range span.from → IsFront span (span_under node span)
  front_under inside = record { from = refl; to = first_of_ends span span.to end refl (ends_above span.from inside) }

  -- a leaf of all keys leaves all of the span
  pub whole_under : node.height ≡ 0 → node.range ≡ all_keys → span_under node span ≡ span
  whole_under low all =
      let one = is.leaf low in
      let within = pivot_from_within node.pivots span.from is.some in
      let first : pivot_from node.pivots span.from ≡ 0 = omega (arith, one, within) in
      let last : nat_lt (0 + 1) (length node.pivots) ≡ false = ap (nat_lt (0 + 1)) one in
      let open_end : end ≡ None =
      ap (λ (i : ℕ). (span_of node i).to) first
      ∙ ap (λ (b : Bool). if b then (pivot_at node.pivots (0 + 1)).start else node.range.to) last
      ∙ ap (λ (s : Span). s.to) all in
      ap (λ (o : Option (List ℕ)). record { from = span.from; to = o }) (ap (first_end span.to) open_end ∙ no_end span.to)
    where
      no_end : (to : Option (List ℕ)) → first_end to None ≡ to
      no_end None = refl
      no_end (Some t) = refl

-- a key of the part is a key of the span
pub front_keys : (span part : Span) → IsFront span part → (key : List ℕ) → InSpan part key → InSpan span key
front_keys span part front key inside =
    both (is_from span.from key) (is_before span.to key)
    (ap (λ (s : Option (List ℕ)). is_from s key) (sym front.from) ∙ first_of_both (is_from part.from key) (is_before part.to key) inside)
    (elim front.to [ inl same ↦ ap (λ (o : Option (List ℕ)). is_before o key) (sym same) ∙ under | inr earlier ↦ inner part.to earlier under ])
  where
    under : is_before part.to key ≡ true
    under = second_of_both (is_from part.from key) (is_before part.to key) inside

    later : (to : Option (List ℕ)) (e : List ℕ) → is_before to e ≡ true → is_below key e ≡ true → is_before to key ≡ true
    later None e before below = refl
    later (Some t) e before below = below_trans key e t below before

    inner : (end : Option (List ℕ)) → EndsWithin span end → is_before end key ≡ true → is_before span.to key ≡ true
    inner None within before = absurd within
    inner (Some e) within before = later span.to e within.1 before

-- one part of a span in another
pub front_on : (span part least : Span) → IsFront span part → IsFront part least → IsFront span least
front_on span part least one two = record {
  from = two.from ∙ one.from;
  to = elim two.to [
    | inl same ↦ elim one.to [ inl all ↦ inl (same ∙ all) | inr within ↦ inr (subst (EndsWithin span) (sym same) within) ]
    | inr within ↦ inr (by least.to within)
  ];
}
  where
    before_end : (to : Option (List ℕ)) (e : List ℕ) → ((to ≡ span.to) ⊎ EndsWithin span to) → is_before to e ≡ true → is_before span.to e ≡ true
    before_end to e (inl same) before = ap (λ (o : Option (List ℕ)). is_before o e) (sym same) ∙ before
    before_end None e (inr within) before = absurd within
    before_end (Some t) e (inr within) before = further span.to within.1
      where
        further : (end : Option (List ℕ)) → is_before end t ≡ true → is_before end e ≡ true
        further None under = refl
        further (Some u) under = below_trans e t u before under

    by : (end : Option (List ℕ)) → EndsWithin part end → EndsWithin span end
    by None within = absurd within
    by (Some e) within = (ap (λ (s : Option (List ℕ)). is_past s e) (sym one.from) ∙ within.0, before_end part.to e one.to within.1)

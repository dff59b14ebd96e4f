-- A key stays in the part of its span that a node leaves.
use Rattle.std.proofs.Common.{◌≡◌, ℕ, true, not, List, [], ◌∷◌, ◌++◌, Option, Some, None, refl, ap, subst, ◌∙◌, sym, inl, inr}
use Rattle.spl_message.specs.declared.span.Span.{Span}
use Rattle.spl_message.specs.Span.{is_before, is_from}
use Rattle.spl_message.proofs.Bounds.{least_above}
use Rattle.spl_node.specs.Node.{is_past}
use Rattle.spl_node.proofs.Starts.{both, not_below_self, second_of_both}
use Rattle.spl_desk.specs.Calls.{span_of_key}
use Rattle.spl_down.specs.Spans.{EndsWithin, IsFront}
use Rattle.spl_session.specs.Looking.{IsFor}

-- the key's own span
pub is_for_key : (key : List ℕ) → IsFor key (span_of_key key)
is_for_key key = record {
  from = refl;
  inside = both (is_from (Some key) key) (is_before (Some (key ++ 0 ∷ [])) key) (ap not (not_below_self key)) (least_above key (key ++ 0 ∷ []) refl).above;
}

-- what starts at the key and ends above it has the key
pub for_front : (span part : Span) (key : List ℕ) → IsFront span part → IsFor key span → IsFor key part
for_front span part key front for = record {
  from = front.from ∙ for.from;
  inside =
      both (is_from part.from key) (is_before part.to key)
      (ap (λ (s : Option (List ℕ)). is_from s key) (front.from ∙ for.from) ∙ ap not (not_below_self key))
      (elim front.to [ inl same ↦ ap (λ (o : Option (List ℕ)). is_before o key) same ∙ second_of_both (is_from span.from key) (is_before span.to key) for.inside | inr within ↦ by part.to within ]);
}
  where
    by : (end : Option (List ℕ)) → EndsWithin span end → is_before end key ≡ true
    by None within = absurd within
    by (Some e) within = ap (λ (s : Option (List ℕ)). is_past s e) (sym for.from) ∙ within.0

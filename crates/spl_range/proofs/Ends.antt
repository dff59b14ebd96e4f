-- Where a piece of a span may end, and what dropping the messages behind it leaves.
use Rattle.std.proofs.Common.{◌≡◌, ◌≢◌, ℕ, ◌-◌, Bool, true, false, not, List, [], ◌∷◌, ◌++◌, length, length-append, Option, Some, None, IfSome, IfNone, refl, sym, ap, subst, ◌∙◌, inl, inr, arith}
use Rattle.std.specs.Prelude.{◌⊎◌, slice_get}
use Rattle.std.proofs.lemmas.Bool.{false≢true}
use Rattle.std.proofs.lemmas.Cmp.{nat_list_cmp_total, tied_itself}
use Rattle.std.specs.BTreeMap.{BTreeMap, IsUnchanged, Updates}
use Rattle.std.specs.Cmp.Lexicographic.{slice_cmp}
use Rattle.std.specs.Ordering.{nat_cmp, is_lt}
use Rattle.spl_message.specs.declared.message.Message.{Message}
use Rattle.spl_message.specs.declared.span.Span.{Span}
use Rattle.spl_message.specs.Answer.{EndsIn}
use Rattle.spl_message.specs.Entries.{Entries, message_in}
use Rattle.spl_message.specs.Key.{IsKey, is_below}
use Rattle.spl_message.specs.Span.{InSpan, in_span, is_before, is_from}
use Rattle.spl_message.proofs.Spans.{below_trans}
use Rattle.spl_node.specs.Node.{is_past}
use Rattle.spl_node.proofs.Starts.{both}
use Rattle.spl_down.specs.Spans.{EndsWithin}
use Rattle.spl_range.specs.Adding.{HasSame}
use Rattle.spl_range.proofs.Adding.{apart}

not_below_itself : (key : List ℕ) → is_below key key ≡ false
not_below_itself key = ap is_lt (tied_itself nat_list_cmp_total key)

-- what is above a start is not below it
from_past : (start : Option (List ℕ)) (key : List ℕ) → is_past start key ≡ true → is_from start key ≡ true
from_past None key past = refl
from_past (Some start) key past = by (is_below key start) refl
  where
    by : (b : Bool) → is_below key start ≡ b → not (is_below key start) ≡ true
    by true below = absurd (false≢true (sym (not_below_itself start) ∙ below_trans start key start past below))
    by false below = ap not below

pub ends_at : (span : Span) (end : Option (List ℕ)) (key : List ℕ) → end ≡ Some key → IsKey key → (end ≡ span.to) ⊎ EndsWithin span end → EndsIn span end
ends_at span end key is is_key (inl same) = inl same
ends_at span end key is is_key (inr within) = inr (key, is, is_key, inside, above)
  where
    here : (is_past span.from key ≡ true) × (is_before span.to key ≡ true)
    here = subst (EndsWithin span) is within

    inside : InSpan span key
    inside = both (is_from span.from key) (is_before span.to key) (from_past span.from key here.0) here.1

    above : span.from ≢ Some key
    above same = false≢true (sym (not_below_itself key) ∙ subst (λ (start : Option (List ℕ)). is_past start key ≡ true) same here.0)

last_of : {X : Type 0} (front : List X) (x : X) → slice_get (front ++ x ∷ []) (length front) ≡ Some x
last_of [] x = refl
last_of (y ∷ front) x = last_of front x

-- the last entry is dropped, and its key is none of the span
pub dropped : (span : Span) (old new : BTreeMap (List ℕ) Message) (gone : Option (List ℕ × Message)) (last : List ℕ × Message)
    → IfSome gone (λ entry. old.entries ≡ new.entries ++ entry ∷ []) → IfSome gone (λ entry. Updates (slice_cmp nat_cmp) old new entry.0 None) → IfNone gone (IsUnchanged old new)
    → slice_get old.entries (length old.entries - 1) ≡ Some last → in_span span last.0 ≡ false → HasSame span old.entries new.entries
dropped span old new None last removal updates same at outside key inside = ap (λ (es : Entries). message_in es key) same
dropped span old new (Some entry) last removal updates same at outside key inside =
    updates.2 key (apart entry.0 key unequal (slice_cmp nat_cmp entry.0 key) refl)
  where
    count : length old.entries - 1 ≡ length new.entries
    count = let all = ap (λ (es : Entries). length es) removal ∙ length-append new.entries (entry ∷ []) in omega (arith, all)

    is_last : entry ≡ last
    is_last =
        let read : Some entry ≡ Some last = sym (last_of new.entries entry) ∙ ap (λ (es : Entries). slice_get es (length new.entries)) (sym removal) ∙ ap (slice_get old.entries) (sym count) ∙ at in
        cc

    unequal : key ≢ entry.0
    unequal same_key = false≢true (sym outside ∙ ap (λ (e : List ℕ × Message). in_span span e.0) (sym is_last) ∙ ap (in_span span) (sym same_key) ∙ inside)

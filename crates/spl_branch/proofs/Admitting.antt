-- Which keys a filter admits.
use Rattle.std.proofs.Common.{◌≡◌, ℕ, Bool, false, eqb, List, Option, Some, None, map, ◌↔◌, refl, sym, ap, subst, ◌∙◌}
use Rattle.std.specs.BTreeMap.{is_at}
use Rattle.std.specs.Bool.{Decides, IsTrue}
use Rattle.std.specs.Cmp.{Equal-is}
use Rattle.std.specs.Cmp.Lexicographic.{slice_cmp}
use Rattle.std.specs.List.{Contains, list_any, slice_get}
use Rattle.std.specs.Map.{keys_of}
use Rattle.std.specs.Option.{option_map}
use Rattle.std.specs.Ordering.{nat_cmp}
use Rattle.std.proofs.lemmas.Bool.{false≢true}
use Rattle.std.proofs.lemmas.Bool.Decides.{Decides-by_or, Decides-eqb, Decides-like, same_from_decides}
use Rattle.std.proofs.lemmas.List.Elements.{Contains-from_at, at_from_Contains}
use Rattle.std.proofs.lemmas.Map.Entries.{place_from_lookup}
use Rattle.std.proofs.lemmas.Map.Lookups.{exact_bytes}
use Rattle.std.proofs.lemmas.Option.{get_or_from_slice_get, slice_get-map, slice_get_within}
use Rattle.spl_message.specs.declared.message.Message.{Message}
use Rattle.spl_message.specs.Entries.{message_in}
use Rattle.spl_quotient.specs.Fnv.{fingerprint_of, fnv_of, print_of}
use Rattle.spl_branch.specs.Branch.{Branch, HoldsTable, entries_in}
use Rattle.spl_branch.specs.Reading.{admits}

admits_decides : (prints : List ℕ) (print : ℕ) → Decides (list_any (λ p. eqb p print) prints) (Contains prints print)
admits_decides prints print =
    Decides-like (list_any (λ p. eqb p print) prints) (Contains-from_at prints print) (at_from_Contains prints print)
    (Decides-by_or (λ p. eqb p print) (λ p. p ≡ print) (list_any (λ p. eqb p print)) (λ p. Decides-eqb p print) refl (λ _ _. refl) prints)

-- an answer that is true exactly where the fingerprint is there is the test for it
pub is_any : (prints : List ℕ) (print : ℕ) (answer : Bool) → IsTrue answer ↔ Contains prints print → answer ≡ list_any (λ p. eqb p print) prints
is_any prints print answer iff =
    same_from_decides answer (list_any (λ p. eqb p print) prints) (iff.0, iff.1) (admits_decides prints print)

-- the same by the key's hash
pub is_any_hash : (prints : List ℕ) (q : ℕ) (key : List ℕ) (hash : ℕ) (answer : Bool) → hash ≡ fnv_of key → IsTrue answer ↔ Contains prints (print_of q hash)
    → answer ≡ list_any (λ p. eqb p (fingerprint_of q key)) prints
unfolding fingerprint_of
is_any_hash prints q key hash answer is iff =
    is_any prints (print_of q (fnv_of key)) answer (subst (λ (hash : ℕ). IsTrue answer ↔ Contains prints (print_of q hash)) is iff)

-- a key of the table has its fingerprint among the filter's
print_there : (branch : Branch) (key : List ℕ) (message : Message) → HoldsTable branch → message_in (entries_in branch) key ≡ Some message → Contains branch.filter.prints (fingerprint_of branch.filter.q key)
print_there branch key message holds is =
    let q = branch.filter.q in
    let place = place_from_lookup (is_at (slice_cmp nat_cmp key)) (entries_in branch) message is in
    let same : key ≡ place.1 = exact_bytes key place.1 ((Equal-is (slice_cmp nat_cmp key place.1)).0 place.3) in
    let at_key : slice_get (keys_of (entries_in branch)) place.0 ≡ Some place.1 =
    slice_get-map (λ e. e.0) (entries_in branch) place.0 ∙ ap (option_map (λ (e : List ℕ × Message). e.0)) place.2 in
    let at_print : slice_get (map (fingerprint_of q) (keys_of (entries_in branch))) place.0 ≡ Some (fingerprint_of q key) =
    slice_get-map (fingerprint_of q) (keys_of (entries_in branch)) place.0 ∙ ap (option_map (fingerprint_of q)) at_key ∙ ap (λ k. Some (fingerprint_of q k)) (sym same) in
    (holds.prints (fingerprint_of q key)).1 (
      place.0,
      slice_get_within (map (fingerprint_of q) (keys_of (entries_in branch))) place.0 (fingerprint_of q key) at_print,
      get_or_from_slice_get (map (fingerprint_of q) (keys_of (entries_in branch))) place.0 (fingerprint_of q key) (fingerprint_of q key) at_print,
    )

-- so a key that is not admitted has no message
pub not_there : (branch : Branch) (key : List ℕ) → HoldsTable branch → admits branch.filter key ≡ false → message_in (entries_in branch) key ≡ None
not_there branch key holds refused = by_message (message_in (entries_in branch) key) refl
  where
    by_message : (found : Option Message) → message_in (entries_in branch) key ≡ found → found ≡ None
    by_message None is = refl
    by_message (Some message) is =
        absurd (false≢true (sym refused ∙ (admits_decides branch.filter.prints (fingerprint_of branch.filter.q key)).1 (print_there branch key message holds is)))

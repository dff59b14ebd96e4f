-- The fingerprints of keys and of hashes, and the filter that is made of them.
use Rattle.std.proofs.Common.{◌≡◌, ℕ, ◌+◌, ◌^◌, ◌<◌, ◌≤◌, ◌↔◌, List, [], ◌∷◌, get_or, map, Result, Ok, Err, Fits, w64, ap, ◌∙◌, refl, subst, sym}
use Rattle.std.specs.Prelude.{All, Contains, IfOk}
use Rattle.std.proofs.lemmas.Simd.{map-map}
use Rattle.std.proofs.lemmas.List.{length-map, get_or-map, get_or_default}
use Rattle.std.proofs.lemmas.List.Elements.{All-map}
use Rattle.spl_quotient.specs.Filter.{Filter}
use Rattle.spl_quotient.specs.Fnv.{fnv_of, print_of, fingerprint_of}
use Rattle.spl_quotient.specs.Spot.{spot_of}
use Rattle.spl_quotient.proofs.Spots.{spot-below, spotted, spotted_back}
use Rattle.spl_quotient.proofs.Bits.{fingerprint_below, shifted_below}

-- the keys' fingerprints are cut from their hashes
pub map-fingerprint_of : (q : ℕ) (keys : List (List ℕ)) → map (fingerprint_of q) keys ≡ map (print_of q) (map fnv_of keys)
unfolding fingerprint_of
map-fingerprint_of q [] = refl
map-fingerprint_of q (key ∷ keys) = ap (λ prints. print_of q (fnv_of key) ∷ prints) (map-fingerprint_of q keys)

module _ (q : ℕ) (most : q ≤ 52) where
  pub key_bits : (keys : List (List ℕ)) → All (λ key. fingerprint_of q key < 2 ^ (q + 12)) keys
  key_bits keys = λ i key inside. fingerprint_below q _ most

  pub hash_bits : (hashes : List ℕ) → ((i : ℕ) → Fits w64 (get_or hashes i 0)) → All (λ hash. print_of q hash < 2 ^ (q + 12)) hashes
  hash_bits hashes fit = λ i d inside. shifted_below _ q most (rw (get_or_default hashes i d 0 inside) (fit i).fits)

-- spots have as many bits as fingerprints
pub spot_bits : {X : Type 0} (cut : X → ℕ) (xs : List X) (q : ℕ) (spots : List ℕ) → spots ≡ map (λ x. spot_of q (cut x)) xs → All (λ spot. spot < 2 ^ (q + 12)) spots
spot_bits cut xs q spots is = subst (All (λ spot. spot < 2 ^ (q + 12))) (sym is) (All-map (λ spot. spot < 2 ^ (q + 12)) (λ x. spot_of q (cut x)) xs (λ i x inside. spot-below q _))

-- what a filter of spots has, by what they were cut from
pub cut_from : {X E : Type 0} (cut : ℕ → X → ℕ) (xs : List X) (q : ℕ) (spots : List ℕ) (result : Result Filter E) → q ≤ 52 → All (λ x. cut q x < 2 ^ (q + 12)) xs
    → spots ≡ map (λ x. spot_of q (cut q x)) xs → IfOk result (λ filter. filter.q ≡ q)
    → IfOk result (λ filter. (print : ℕ) → Contains filter.prints print ↔ ((print < 2 ^ (q + 12)) × Contains spots (spot_of q print)))
    → IfOk result (λ filter. (print : ℕ) → Contains filter.prints print ↔ Contains (map (cut filter.q) xs) print)
cut_from cut xs q spots (Err e) most bits is same has = tt
cut_from cut xs q spots (Ok filter) most bits is same has =
    let prints : List ℕ = map (cut q) xs in
    let below : All (λ print. print < 2 ^ (q + 12)) prints = All-map (λ print. print < 2 ^ (q + 12)) (cut q) xs bits in
    let mapped : spots ≡ map (spot_of q) prints = is ∙ sym (map-map (spot_of q) (cut q) xs) in
    subst (λ n. (print : ℕ) → Contains filter.prints print ↔ Contains (map (cut n) xs) print) (sym same) (
    λ print. (
      λ shown.
          let found = (has print).0 shown in
          spotted prints q most below print found.0 (subst (λ (ss : List ℕ). Contains ss (spot_of q print)) mapped found.1),
      λ member.
          let found = spotted_back prints q most below print member in
          (has print).1 (found.0, subst (λ (ss : List ℕ). Contains ss (spot_of q print)) (sym mapped) found.1),
    )
    )

-- so what it was cut from has its fingerprint there
pub each_has : {X : Type 0} (cut : X → ℕ) (xs : List X) (prints : List ℕ) → ((print : ℕ) → Contains prints print ↔ Contains (map cut xs) print) → All (λ x. Contains prints (cut x)) xs
each_has cut xs prints same = λ k d within.
    (same (cut (get_or xs k d))).1 (k, rw (length-map xs cut) within, get_or-map cut xs k d (cut (get_or xs k d)) within)

-- Which streams are wanted: all of them at first, and after a step those that it took from.
use Rattle.std.proofs.Common.{◌≡◌, ℕ, zero, suc, ◌+◌, ◌≤◌, Bool, true, false, cond, List, [], ◌∷◌, map, Some, None, refl, ap, ◌∙◌, subst, arith}
use Rattle.std.specs.List.{slice_get}
use Rattle.spl_message.specs.declared.message.Message.{Message}
use Rattle.spl_message.specs.Key.{same_key}
use Rattle.spl_merge.specs.Merger.{Head, at_key, headless}
use Rattle.spl_streams.specs.Streams.{IsWanted}

-- a stream without a head has none
pub headless_at : (s : ℕ) (heads : List Head) (j i : ℕ) → slice_get (headless s heads) j ≡ Some i →
    (k : ℕ) × (i ≡ s + k) × (slice_get heads k ≡ Some None)
headless_at s [] j i is = cc
headless_at s (None ∷ heads) zero i is = let same : s ≡ i = cc in (0, omega (arith, same), refl)
headless_at s (None ∷ heads) (suc j) i is =
    let at = headless_at (suc s) heads j i is in
    let place = at.1 in
    (suc at.0, omega (arith, place), at.2)
headless_at s (Some entry ∷ heads) j i is =
    let at = headless_at (suc s) heads j i is in
    let place = at.1 in
    (suc at.0, omega (arith, place), at.2)

pub headless_once : (s : ℕ) (heads : List Head) (i j k : ℕ) → slice_get (headless s heads) j ≡ Some i →
    slice_get (headless s heads) k ≡ Some i → j ≡ k
headless_once s [] i j k first second = cc
headless_once s (None ∷ heads) i zero zero first second = refl
headless_once s (None ∷ heads) i zero (suc k) first second =
    let same : s ≡ i = cc in
    let place = (headless_at (suc s) heads k i second).1 in
    absurd (omega (arith, same, place))
headless_once s (None ∷ heads) i (suc j) zero first second =
    let same : s ≡ i = cc in
    let place = (headless_at (suc s) heads j i first).1 in
    absurd (omega (arith, same, place))
headless_once s (None ∷ heads) i (suc j) (suc k) first second =
    ap suc (headless_once (suc s) heads i j k first second)
headless_once s (Some entry ∷ heads) i j k first second = headless_once (suc s) heads i j k first second

pub headless_all : (s : ℕ) (heads : List Head) (k : ℕ) → slice_get heads k ≡ Some None → IsWanted (headless s heads) (s + k)
headless_all s [] k is = cc
headless_all s (None ∷ heads) zero is = (0, ap Some (omega arith))
headless_all s (None ∷ heads) (suc k) is =
    let at = headless_all (suc s) heads k is in
    (suc at.0, at.1 ∙ ap Some (omega arith))
headless_all s (Some entry ∷ heads) zero is = cc
headless_all s (Some entry ∷ heads) (suc k) is =
    let at = headless_all (suc s) heads k is in
    (at.0, at.1 ∙ ap Some (omega arith))

-- the streams whose head has the key; they are numbered from this number on
abbrev pub streams_from : ℕ → List ℕ → List Head → List ℕ
streams_from s key heads = map (λ (head : ℕ × Message). head.0) (at_key s key heads)

from_yes : (s : ℕ) (key : List ℕ) (entry : List ℕ × Message) (heads : List Head) → same_key entry.0 key ≡ true →
    streams_from s key (Some entry ∷ heads) ≡ s ∷ streams_from (suc s) key heads
from_yes s key entry heads is =
    ap (λ b. map (λ (head : ℕ × Message). head.0)
    (cond b ((s, entry.1) ∷ at_key (suc s) key heads) (at_key (suc s) key heads))) is

from_no : (s : ℕ) (key : List ℕ) (entry : List ℕ × Message) (heads : List Head) → same_key entry.0 key ≡ false →
    streams_from s key (Some entry ∷ heads) ≡ streams_from (suc s) key heads
from_no s key entry heads is =
    ap (λ b. map (λ (head : ℕ × Message). head.0)
    (cond b ((s, entry.1) ∷ at_key (suc s) key heads) (at_key (suc s) key heads))) is

from_least : (s : ℕ) (key : List ℕ) (heads : List Head) (j n : ℕ) → slice_get (streams_from s key heads) j ≡ Some n → s ≤ n
from_least s key [] j n is = cc
from_least s key (None ∷ heads) j n is =
    let later = from_least (suc s) key heads j n is in
    omega (arith, later)
from_least s key (Some entry ∷ heads) j n is =
    by (λ k at. from_least (suc s) key heads k n at) (same_key entry.0 key) refl
  where
    first : ((k : ℕ) → slice_get (streams_from (suc s) key heads) k ≡ Some n → suc s ≤ n) → (j : ℕ) →
        slice_get (s ∷ streams_from (suc s) key heads) j ≡ Some n → s ≤ n
    first later zero at = let same : s ≡ n = cc in omega (arith, same)
    first later (suc j) at = let more = later j at in omega (arith, more)

    by : ((k : ℕ) → slice_get (streams_from (suc s) key heads) k ≡ Some n → suc s ≤ n) → (b : Bool) →
        same_key entry.0 key ≡ b → s ≤ n
    by later true has = first later j (subst (λ (ns : List ℕ). slice_get ns j ≡ Some n) (from_yes s key entry heads has) is)
    by later false has =
        let more = later j (subst (λ (ns : List ℕ). slice_get ns j ≡ Some n) (from_no s key entry heads has) is) in
        omega (arith, more)

pub from_once : (s : ℕ) (key : List ℕ) (heads : List Head) (i j k : ℕ) → slice_get (streams_from s key heads) j ≡ Some i →
    slice_get (streams_from s key heads) k ≡ Some i → j ≡ k
from_once s key [] i j k first second = cc
from_once s key (None ∷ heads) i j k first second = from_once (suc s) key heads i j k first second
from_once s key (Some entry ∷ heads) i j k first second =
    by (λ j k a b. from_once (suc s) key heads i j k a b) (same_key entry.0 key) refl
  where
    rest : List ℕ
    rest = streams_from (suc s) key heads

    both : ((j k : ℕ) → slice_get rest j ≡ Some i → slice_get rest k ≡ Some i → j ≡ k) → (j k : ℕ) →
        slice_get (s ∷ rest) j ≡ Some i → slice_get (s ∷ rest) k ≡ Some i → j ≡ k
    both later zero zero a b = refl
    both later zero (suc k) a b =
        let same : s ≡ i = cc in
        let least = from_least (suc s) key heads k i b in
        absurd (omega (arith, same, least))
    both later (suc j) zero a b =
        let same : s ≡ i = cc in
        let least = from_least (suc s) key heads j i a in
        absurd (omega (arith, same, least))
    both later (suc j) (suc k) a b = ap suc (later j k a b)

    by : ((j k : ℕ) → slice_get rest j ≡ Some i → slice_get rest k ≡ Some i → j ≡ k) → (b : Bool) →
        same_key entry.0 key ≡ b → j ≡ k
    by later true has =
        both later j k (subst (λ (ns : List ℕ). slice_get ns j ≡ Some i) (from_yes s key entry heads has) first)
        (subst (λ (ns : List ℕ). slice_get ns k ≡ Some i) (from_yes s key entry heads has) second)
    by later false has =
        later j k (subst (λ (ns : List ℕ). slice_get ns j ≡ Some i) (from_no s key entry heads has) first)
        (subst (λ (ns : List ℕ). slice_get ns k ≡ Some i) (from_no s key entry heads has) second)

pub from_all : (s : ℕ) (key : List ℕ) (heads : List Head) (k : ℕ) (entry : List ℕ × Message) →
    slice_get heads k ≡ Some (Some entry) → same_key entry.0 key ≡ true → IsWanted (streams_from s key heads) (s + k)
from_all s key [] k entry is has = cc
from_all s key (None ∷ heads) zero entry is has = cc
from_all s key (None ∷ heads) (suc k) entry is has =
    let at = from_all (suc s) key heads k entry is has in
    (at.0, at.1 ∙ ap Some (omega arith))
from_all s key (Some other ∷ heads) zero entry is has =
    let same : other ≡ entry = cc in
    let here : same_key other.0 key ≡ true = ap (λ (e : List ℕ × Message). same_key e.0 key) same ∙ has in
    (0, ap (λ (ns : List ℕ). slice_get ns 0) (from_yes s key other heads here) ∙ ap Some (omega arith))
from_all s key (Some other ∷ heads) (suc k) entry is has =
    by (from_all (suc s) key heads k entry is has) (same_key other.0 key) refl
  where
    by : IsWanted (streams_from (suc s) key heads) (suc s + k) → (b : Bool) → same_key other.0 key ≡ b →
        IsWanted (streams_from s key (Some other ∷ heads)) (s + suc k)
    by later true here = (
      suc later.0,
      ap (λ (ns : List ℕ). slice_get ns (suc later.0)) (from_yes s key other heads here) ∙ later.1 ∙ ap Some (omega arith),
    )
    by later false here = (
      later.0,
      ap (λ (ns : List ℕ). slice_get ns later.0) (from_no s key other heads here) ∙ later.1 ∙ ap Some (omega arith),
    )

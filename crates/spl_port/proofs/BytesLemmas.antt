-- Two steps of a stream, one after the other.
use Rattle.std.proofs.Common.{◌≡◌, ◌<◌, ◌≤◌, ℕ, Bool, true, false, refl, List, ◌+◌, ◌-◌, ◌++◌, Option, Some, None, Result, Ok, Err, length, take, drop, sym, ap, ◌∙◌, append_assoc, arith, length-take-le}
use Rattle.std.proofs.Math.Seq.{take-add, take-append_seam}
use Rattle.std.proofs.lemmas.List.{take-append-drop, drop-drop}
use Rattle.std.proofs.lemmas.Grind.{common_steps}
use Rattle.std.specs.Result.{OnErr}
use Rattle.std.specs.Prelude.{nat_lt, ◌&&◌, ◌==◌}
use Rattle.std.proofs.lemmas.Bool.Decides.{nat_tests}
use Rattle.spl_port.specs.Bytes.{Gives, Takes}
use Rattle.spl_port.specs.Streams.{met_end, late_after}

-- a sink that took the first bytes of a text, and then the next ones, took both
pub takes_next : (a b c : Option (List ℕ)) (i n : ℕ) (text : List ℕ)
    → Takes a b (take i text) → Takes b c (take n (take (length text - i) (drop i text))) → Takes a c (take (i + n) text)
takes_next None b c i n text p q = rw p at q
takes_next (Some x) b c i n text p q =
    let rest : take (length text - i) (drop i text) ≡ drop i text = grind (arith, common_steps) in
    let both = rw (p, rest) at q in
    rw (take-add, ← append_assoc) both

-- a source that gave some bytes, and then others, gave both
pub gives_next : (a b c : Option (List ℕ)) (xs ys : List ℕ) → Gives a b xs → Gives b c ys → Gives a c (xs ++ ys)
gives_next a b None xs ys p q = rw q at p
gives_next a b (Some z) xs ys p q = let both = rw q at p in rw append_assoc both

-- the next bytes, written to the front of a buffer, were given
pub gives_front : (n cursor : ℕ) (bytes piece rest : List ℕ)
    → n ≤ length (drop cursor bytes) → piece ≡ take n (drop cursor bytes)
    → Gives (Some (drop cursor bytes)) (Some (drop (cursor + n) bytes)) (take n (piece ++ rest))
gives_front n cursor bytes piece rest fits is =
    let len : length piece ≡ n = ap length is ∙ length-take-le n (drop cursor bytes) fits in
    let e : take n (piece ++ rest) ≡ piece = ap (λ k. take k (piece ++ rest)) (sym len) ∙ take-append_seam piece rest in
    rw (e, is, ← drop-drop) (ap Some (sym (take-append-drop n (drop cursor bytes))))

-- a fact that holds anyway holds after an error
pub on_err_from : {T E P : Type 0} (r : Result T E) → P → OnErr r P
on_err_from (Ok x) p = tt
on_err_from (Err e) p = p

some_is_not_none : (n : ℕ) → 0 < n → (n == 0) ≡ false
some_is_not_none n some = grind (arith, nat_tests)

-- a read that gave some bytes did not meet the end
pub late_kept : (before after : Option ℕ) (room n : ℕ) → after ≡ late_after before (met_end room (Ok n)) → 0 < n → before ≡ None → after ≡ None
late_kept before after room n is some none =
    is ∙ ap (λ l. late_after l (nat_lt 0 room && (n == 0))) none ∙ ap (λ b. late_after None (nat_lt 0 room && b)) (some_is_not_none n some) ∙ by (nat_lt 0 room)
  where
    by : (b : Bool) → late_after None (b && false) ≡ None
    by true = refl
    by false = refl

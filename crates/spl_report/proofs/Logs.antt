-- Two small logs of which the first caller made a later call than the second.
use Rattle.std.proofs.Common.{◌≡◌, ℕ, ◌-◌, inl, inr, [], ◌∷◌, IsSome, Option, Some, None, refl, sym, ap, ◌∙◌, arith}
use Rattle.spl_report.specs.declared.report.Row.{Row}
use Rattle.spl_report.specs.Merge.{comes_before, AreLogs}
use Rattle.spl_report.proofs.Members.{In, in_from_contains}

pub two_logs : (a b c : Row) → a.caller ≡ 0 → a.place ≡ Some 1 → b.caller ≡ 0 → b.place ≡ None → c.caller ≡ 1 → c.place ≡ Some 0 → AreLogs ((a ∷ b ∷ []) ∷ (c ∷ []) ∷ [])
two_logs a b c ac ap' bc bp cc' cp = record {
  callers = ((ac, (bc, tt)), ((cc', tt), tt));
  in_order = ((((ap (λ p. comes_before p a.caller b.place b.caller) ap' ∙ ap (λ q. comes_before (Some 1) a.caller q b.caller) bp), tt), (tt, tt)), ((tt, tt), tt));
  apart = λ x y i j some same. owner x y (in_from_contains (a ∷ b ∷ c ∷ []) x i) (in_from_contains (a ∷ b ∷ c ∷ []) y j) some same;
}
  where
    place_of : (p q : ℕ) (o : Option ℕ) → o ≡ Some p → o ≡ Some q → p ≡ q
    place_of p q o e f = cc

    at : (x : Row) (p : ℕ) → In x (a ∷ b ∷ c ∷ []) → x.place ≡ Some p → x.caller ≡ 1 - p
    at x p (inl e) h = let one = place_of 1 p a.place ap' (ap (λ (t : Row). t.place) (sym e) ∙ h) in let mine = ap (λ (t : Row). t.caller) e in omega (arith, one, mine, ac)
    at x p (inr (inl e)) h = let no_such : None ≡ Some p = sym bp ∙ ap (λ (t : Row). t.place) (sym e) ∙ h in absurd (cc)
    at x p (inr (inr (inl e))) h = let one = place_of 0 p c.place cp (ap (λ (t : Row). t.place) (sym e) ∙ h) in let mine = ap (λ (t : Row). t.caller) e in omega (arith, one, mine, cc')
    at x p (inr (inr (inr i))) h = absurd i

    owner : (x y : Row) → In x (a ∷ b ∷ c ∷ []) → In y (a ∷ b ∷ c ∷ []) → IsSome x.place → x.place ≡ y.place → x.caller ≡ y.caller
    owner x y i j some same = by x.place refl some
      where
        by : (o : Option ℕ) → x.place ≡ o → IsSome o → x.caller ≡ y.caller
        by None e s = absurd (cc)
        by (Some p) e s = at x p i e ∙ sym (at y p j (sym same ∙ e))

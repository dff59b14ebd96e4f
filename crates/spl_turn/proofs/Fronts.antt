-- A seat's front of the record, and its own entries in it.
use Rattle.std.proofs.Common.{◌≡◌, ℕ, zero, suc, ◌+◌, ◌*◌, ◌<◌, ◌≤◌, ◌≢◌, List, [], ◌∷◌, ◌++◌, length, filter, All, Contains, get_or, cond, true, false, nat_eq, ◌==◌, eq-eqb, ne_eqb, sym, refl, ap, ◌∙◌, subst, append_assoc, append-nil, arith}
use Rattle.std.proofs.lemmas.List.Elements.{filter-append}
use Rattle.spl_turn.specs.Meaning.{Meaning, own}
use Rattle.spl_turn.specs.Rule.{sight, sights, Begins, FitsSight}
use Rattle.spl_turn.specs.declared.known.Sight.{Sight}

pub last_none : {X : Type 0} (xs ys : List X) → xs ++ ys ≡ [] → ys ≡ []
last_none [] ys e = e
last_none (x ∷ xs) ys e = cc

module _ {V S R E F : Type 0} (m : Meaning V S R E F) where
  pub own_append : (n : ℕ) (a b : List E) → own m n (a ++ b) ≡ own m n a ++ own m n b
  own_append n a b = filter-append (λ e. m.maker e == n) a b

  pub own_others : (n : ℕ) (e : E) → m.maker e ≢ n → own m n (e ∷ []) ≡ []
  own_others n e ne = ap (λ b. cond b (e ∷ []) []) (ne_eqb (m.maker e) n ne)

  pub own_mine : (n : ℕ) (e : E) → m.maker e ≡ n → own m n (e ∷ []) ≡ e ∷ []
  own_mine n e is = ap (λ b. cond b (e ∷ []) []) (eq-eqb (m.maker e) n is)

  -- what a seat has seen still begins the record when others add to it
  pub begins_more : (past more : List E) (x : Sight E) → own m x.number more ≡ [] → Begins m past x → Begins m (past ++ more) x
  begins_more past more x none b = record {
    rest = b.rest ++ more;
    whole = ap (λ p. p ++ more) b.whole ∙ append_assoc x.seen b.rest more;
    others = own_append x.number b.rest more ∙ (ap (λ l. l ++ own m x.number more) b.others ∙ none);
  }

  pub begins_all : (past : List E) (x : Sight E) → x.seen ≡ past → Begins m past x
  begins_all past x is = record { rest = []; whole = sym is ∙ sym (append-nil x.seen); others = refl }

  -- a number that has no entry in the record has none behind any front of it
  pub begins_new : (past : List E) (x : Sight E) (n : ℕ) → own m n past ≡ [] → Begins m past x → Begins m past (sight n x.seen)
  begins_new past x n none b = record {
    rest = b.rest;
    whole = b.whole;
    others = last_none (own m n x.seen) (own m n b.rest) (sym (own_append n x.seen b.rest) ∙ (ap (own m n) (sym b.whole) ∙ none));
  }

-- The seats that were joined into the first one so far, taken from the end of the list.
use Rattle.std.proofs.Common.{◌≡◌, ℕ, ◌+◌, List, [], ◌∷◌, ◌++◌, All, map, length, sym, refl, ap, ◌∙◌, ap₂, subst, append-nil, append_assoc, arith}
use Rattle.atomic_table.specs.Table.{Me}
use Rattle.spl_turn.specs.Rule.{sight, sights}
use Rattle.spl_turn.specs.Moves.{joined}
use Rattle.spl_turn.specs.Turning.{Gathers, sight_of}
use Rattle.spl_turn.specs.declared.known.Known.{Known}
use Rattle.spl_turn.specs.declared.known.Sight.{Sight}
use Rattle.spl_turn.specs.declared.known.Stage.TheVariants.{Idle}
use Rattle.spl_turn.specs.declared.guarded.Guarded.{Guarded}
use Rattle.spl_turn.specs.declared.seat.Seat.{Seat}
use Rattle.spl_turn.proofs.Keeps.{first_of, others_of}

pub all_at : {X : Type 0} (P : X → Type 0) (front : List X) (x : X) (back : List X) → All P (front ++ x ∷ back) → P x
all_at P [] x back all = first_of P x back all
all_at P (y ∷ ys) x back all = all_at P ys x back (others_of P y (ys ++ x ∷ back) all)

module _ {V S R E F : Type 0} where
  pub record Joined (me now : Me (Guarded V S R) (Known E F)) (all left : List (Seat V S R E F)) : Type 0 where
    pub popped : List (Seat V S R E F)
    pub parts : all ≡ left ++ popped
    pub so_far : Gathers me now (map sight_of popped)

  pub joins_none : (me : Me (Guarded V S R) (Known E F)) (all : List (Seat V S R E F)) → me.0.seats ≡ 1 → me.0.joined ≡ [] → me.0.stage ≡ Idle → me.1 ≡ [] → Joined me me all all
  joins_none me all one alone idle bare = record {
    popped = [];
    parts = sym (append-nil all);
    so_far = record { joined = alone; seats = one; number = refl; seen = refl; made = refl; fixed = refl; idle = idle; bare = bare };
  }

  pub joins_one : (me now after : Me (Guarded V S R) (Known E F)) (all left front : List (Seat V S R E F)) (x : Seat V S R E F) → Joined me now all left → left ≡ front ++ x ∷ [] → after ≡ (joined now.0 x.place.me.0, now.1) → Joined me after all front
  joins_one me now after all left front x j last is = record {
    popped = x ∷ j.popped;
    parts = j.parts ∙ (ap (λ l. l ++ j.popped) last ∙ append_assoc front (x ∷ []) j.popped);
    so_far = record {
      joined = ap (λ z. z.0.joined) is ∙ ap₂ (λ (n : ℕ) (l : List (Sight E)). sight n x.place.me.0.seen ∷ l) x.rests.number_is
          (ap₂ (λ a b. a ++ b) x.rests.alone j.so_far.joined);
      seats = ap (λ z. z.0.seats) is ∙ (let a = j.so_far.seats in let b = x.rests.one_seat in omega arith);
      number = ap (λ z. z.0.number) is ∙ j.so_far.number;
      seen = ap (λ z. z.0.seen) is ∙ j.so_far.seen;
      made = ap (λ z. z.0.made) is ∙ j.so_far.made;
      fixed = ap (λ z. z.0.fixed) is ∙ j.so_far.fixed;
      idle = ap (λ z. z.0.stage) is ∙ j.so_far.idle;
      bare = ap (λ z. z.1) is ∙ j.so_far.bare;
    };
  }

  pub joins_all : (me now : Me (Guarded V S R) (Known E F)) (all left : List (Seat V S R E F)) → Joined me now all left → left ≡ [] → Gathers me now (map sight_of all)
  joins_all me now all left j none = subst (λ l. Gathers me now (map sight_of l)) (sym (j.parts ∙ ap (λ l. l ++ j.popped) none)) j.so_far

  -- what holds of each seat holds of the next one
  pub next_of : (P : Seat V S R E F → Type 0) (me now : Me (Guarded V S R) (Known E F)) (all left front : List (Seat V S R E F)) (x : Seat V S R E F) → Joined me now all left → left ≡ front ++ x ∷ [] → All P all → P x
  next_of P me now all left front x j last of_all =
      all_at P front x j.popped (subst (All P) (j.parts ∙ (ap (λ l. l ++ j.popped) last ∙ append_assoc front (x ∷ []) j.popped)) of_all)

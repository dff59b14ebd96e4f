-- The first seat of a turn, and how seats are made of it and joined into it, keep the table's rule. What the rule says once all are joined.
use Rattle.std.proofs.Common.{◌≡◌, ℕ, zero, suc, ◌+◌, ◌*◌, ◌<◌, ◌≤◌, ◌≢◌, ◌⊎◌, List, [], ◌∷◌, ◌++◌, map, length, get_or, set, All, Contains, Option, Some, None, sym, refl, ap, ap₂, ◌∙◌, subst, inl, inr, ⊎_elim, append-nil, length-set, arith}
use Rattle.std.proofs.lemmas.List.Elements.{All-cons, All-append, Contains-append_left, Contains-append_right}
use mathlib.Core.Option.{some, none, some-injective, some-ne-none}
use mathlib.Core.Logic.{dite}
use native.Mathlib.Decide.{ℕ_discrete}
use lib.ListN.{get_elem?}
use Rattle.atomic_table.specs.Table.{State, Me, step, keeps, Allows, Splits, Joins, Final, Seen, opening as table_of}
use Rattle.atomic_table.proofs.Lists.{set_else, at_longer}
use Rattle.spl_turn.specs.Meaning.{Meaning, own}
use Rattle.spl_turn.specs.Rule.{total, sight, sights, is_waiting, is_holding, Begins, FitsSight, Fits, Home, Witness, Kept}
use Rattle.spl_turn.specs.Moves.{opening, counted, another, joined, spent, looked}
use Rattle.spl_turn.specs.Turning.{StandsForAll}
use Rattle.spl_turn.specs.declared.known.Known.{Known}
use Rattle.spl_turn.specs.declared.known.Sight.{Sight}
use Rattle.spl_turn.specs.declared.known.Stage.TheVariants.{Idle, Waits, Holds}
use Rattle.spl_turn.specs.declared.guarded.Guarded.{Guarded}
use Rattle.spl_turn.proofs.Totals.{total_set, total_snoc, total_two, total_none, set_at, snoc_at, at_end, at_once, each_set}
use Rattle.spl_turn.proofs.Fronts.{last_none, own_append, begins_all, begins_new}
use Rattle.spl_turn.proofs.Keeps.{K, G, St, M, first_of, others_of, none_of, same_table, front}

own_front : {X : Type 0} (xs ys : List X) → xs ++ ys ≡ [] → xs ≡ []
own_front [] ys e = refl
own_front (x ∷ xs) ys e = cc

idle_alone : Idle ≢ Holds
idle_alone e = cc

module _ {V S R E F : Type 0} (m : Meaning V S R E F) where
  starts_first : (fixed : F) → Fits m [] 1 fixed (λ _. 0) 0 (opening fixed)
  starts_first fixed = record {
    fronts = λ _. All-cons (FitsSight m [] 1 (λ _. 0) 0) (sight 0 []) []
        record { owned = refl; below = omega arith; begins = begins_all m [] (sight 0 []) refl } (none_of (FitsSight m [] 1 (λ _. 0) 0) [] refl);
    few_turns = omega arith;
    is_first = λ _. (refl, refl);
    same_fixed = λ _. refl;
    holder = λ e. absurd (idle_alone e);
    spent = λ _. refl;
  }

  starts_each : (fixed : F) (j : ℕ) (v : K m) → get_elem? (opening fixed ∷ []) j ≡ some v → Fits m [] 1 fixed (λ _. 0) j v
  starts_each fixed zero v at = subst (Fits m [] 1 fixed (λ _. 0) 0) (some-injective (opening fixed) v at) (starts_first fixed)
  starts_each fixed (suc j) v at = absurd (some-ne-none v (sym at))

  pub starts : (g : Guarded V S R) (fixed : F) → m.stands g.value [] → m.fixed g.value ≡ fixed → Kept m (table_of (0 ∷ 0 ∷ []) (g ∷ []) (opening fixed))
  starts g fixed stands same = record {
    past = [];
    fixed = fixed;
    made = 1;
    owner = λ _. 0;
    out = 0;
    words = refl;
    holders = refl;
    one_holder = omega arith;
    home = (g, refl, stands, same);
    few_made = omega arith;
    all_seats = refl;
    all_turns = refl;
    makers = λ n above. refl;
    each = starts_each fixed;
    witness = record { index = 0; view = opening fixed; there = refl; unspent = omega arith; at = sight 0 []; among = (0, omega arith, refl); whole = refl };
  }

  -- the first seat's look: the next number has no entry
  pub looks : (slots id : ℕ) (me : M m) → Allows (Kept m) slots id me 0 (λ n. n) (looked m (step slots 0 0 0 none) me)
  looks slots id me s r wide at small = (
    me.0,
    keeps,
    tt,
    same_table m s r id me.0 me.1 at,
    (
      refl,
      λ first some_seat.
          let fits = r.each id me.0 at in
          let f = first_of (FitsSight m r.past r.made r.owner id) (sight me.0.number me.0.seen) me.0.joined (fits.fronts some_seat) in
          let made : me.0.made ≡ r.made = (fits.is_first first).1 in
          let made_le : r.made ≤ me.0.made = omega arith in
          own_front (own m me.0.made me.0.seen) (own m me.0.made f.begins.rest)
          (sym (own_append m me.0.made me.0.seen f.begins.rest) ∙ (ap (own m me.0.made) (sym f.begins.whole) ∙ r.makers me.0.made made_le)),
    ),
  )

  pub starts_with : (items front : List (Guarded V S R)) (g : Guarded V S R) (value : V) → items ≡ front ++ g ∷ [] → front ≡ [] → value ≡ g.value → m.stands g.value []
      → Kept m (table_of (0 ∷ 0 ∷ []) items (opening (m.fixed value)))
  starts_with items front g value is empty same stands =
      subst (λ xs. Kept m (table_of (0 ∷ 0 ∷ []) xs (opening (m.fixed value)))) (sym (is ∙ ap (λ l. l ++ g ∷ []) empty)) (starts g (m.fixed value) stands (ap m.fixed (sym same)))

  -- the owner of each number once the next one is given to a new seat
  given : ℕ → ℕ → (ℕ → ℕ) → ℕ → ℕ
  given made seat owner n = elim (ℕ_discrete n made) as (λ _. ℕ) [ yes _ ↦ seat | no _ ↦ owner n ]

  given_new : (made seat : ℕ) (owner : ℕ → ℕ) → given made seat owner made ≡ seat
  unfolding given
  given_new made seat owner = elim (ℕ_discrete made made) as (λ d. (elim d as (λ _. ℕ) [ yes _ ↦ seat | no _ ↦ owner made ]) ≡ seat) [ yes _ ↦ refl | no ne ↦ absurd (ne refl) ]

  given_old : (made seat : ℕ) (owner : ℕ → ℕ) (n : ℕ) → n < made → given made seat owner n ≡ owner n
  unfolding given
  given_old made seat owner n lt = elim (ℕ_discrete n made) as (λ d. (elim d as (λ _. ℕ) [ yes _ ↦ seat | no _ ↦ owner n ]) ≡ owner n) [ yes e ↦ absurd (omega arith) | no ne ↦ refl ]

  -- a seat's fronts where one more seat was made
  fronts_given : (past : List E) (made seat : ℕ) (owner : ℕ → ℕ) (j : ℕ) (xs : List (Sight E)) → All (FitsSight m past made owner j) xs → All (FitsSight m past (made + 1) (given made seat owner) j) xs
  fronts_given past made seat owner j xs all k d lt = let f = all k d lt in let below = f.below in
      record { owned = given_old made seat owner (get_or xs k d).number below ∙ f.owned; below = omega arith; begins = f.begins }

  -- the first seat makes another
  pub splits : (id : ℕ) (v : K m) → 0 < v.made → v.made < 32 → v.seats ≡ 1 → Splits (Kept m) id v (counted v) (another v)
  splits id v first few one s r at =
      let fits = r.each id v at in
      let f = front m r.past r.made r.fixed r.owner id v fits one in
      let made : v.made ≡ r.made = (fits.is_first first).1 in
      let here : id ≡ 0 = (fits.is_first first).0 in
      let w : K m = counted v in
      let new : K m = another v in
      let vs : List (K m) = set s.views id w in
      let long : length vs ≡ length s.views = length-set s.views id w in
      let seat : ℕ = length vs in
      let owner' : ℕ → ℕ = given r.made seat r.owner in
      let waits = total_set (λ (u : K m). is_waiting u.stage) s.views id v w at in
      let holds = total_set (λ (u : K m). is_holding u.stage) s.views id v w at in
      let seats = total_set (λ (u : K m). u.seats) s.views id v w at in
      let turns = total_set (λ (u : K m). u.turns) s.views id v w at in
      let waits' = total_snoc (λ (u : K m). is_waiting u.stage) vs new in
      let holds' = total_snoc (λ (u : K m). is_holding u.stage) vs new in
      let seats' = total_snoc (λ (u : K m). u.seats) vs new in
      let turns' = total_snoc (λ (u : K m). u.turns) vs new in
      let none-new : own m v.made r.past ≡ [] = r.makers v.made (omega arith) in
      let new_front : FitsSight m r.past (r.made + 1) owner' seat (sight v.made v.seen) =
      record {
        owned = subst (λ n. given r.made seat r.owner n ≡ seat) (sym made) (given_new r.made seat r.owner);
        below = omega arith;
        begins = begins_new m r.past (sight v.number v.seen) v.made none-new f.begins;
      } in
      let new_fits : Fits m r.past (r.made + 1) r.fixed owner' seat new = record {
        fronts = λ _. All-cons (FitsSight m r.past (r.made + 1) owner' seat) (sight v.made v.seen) [] new_front (none_of (FitsSight m r.past (r.made + 1) owner' seat) [] refl);
        few_turns = omega arith;
        is_first = λ some_made. absurd (omega arith);
        same_fixed = λ _. fits.same_fixed (omega arith);
        holder = λ e. absurd (idle_alone e);
        spent = λ _. refl;
      } in
      record {
        past = r.past;
        fixed = r.fixed;
        made = r.made + 1;
        owner = owner';
        out = r.out;
        words = r.words ∙ ap (λ a. (2 * length r.past + r.out) ∷ a ∷ []) (omega (arith, waits, waits'));
        holders = omega (arith, holds, holds', r.holders);
        one_holder = r.one_holder;
        home = r.home;
        few_made = omega arith;
        all_seats = omega (arith, seats, seats', r.all_seats);
        all_turns = omega (arith, turns, turns', r.all_turns);
        makers = λ n above. r.makers n (omega arith);
        each = λ j u there. ⊎_elim
            (λ old. each_set (Fits m r.past (r.made + 1) r.fixed owner') s.views id w
            (λ k x other found. let fx = r.each k x found in record {
              fronts = λ some_seat. fronts_given r.past r.made seat r.owner k (sights x) (fx.fronts some_seat);
              few_turns = fx.few_turns;
              is_first = λ some_made. absurd (other ((fx.is_first some_made).0 ∙ sym here));
              same_fixed = fx.same_fixed;
              holder = fx.holder;
              spent = fx.spent;
            })
            record {
              fronts = λ some_seat. fronts_given r.past r.made seat r.owner id (sights v) (fits.fronts some_seat);
              few_turns = fits.few_turns;
              is_first = λ _. (here, ap (λ n. n + 1) made);
              same_fixed = fits.same_fixed;
              holder = fits.holder;
              spent = fits.spent;
            } j u old)
            (λ last. subst (λ k. Fits m r.past (r.made + 1) r.fixed owner' k u) (sym last.0) (subst (Fits m r.past (r.made + 1) r.fixed owner' seat) last.1 new_fits))
            (at_end vs new j u there);
        witness = dite (ℕ_discrete r.witness.index id)
            (λ same. let is : r.witness.view ≡ v = at_once s.views id r.witness.view v (subst (λ i. get_elem? s.views i ≡ some r.witness.view) same r.witness.there) at in record {
              index = id;
              view = w;
              there = at_longer vs (new ∷ []) id w (set_at s.views id v w at);
              unspent = omega arith;
              at = r.witness.at;
              among = subst (λ (u : K m). Contains (sights u) r.witness.at) is r.witness.among;
              whole = r.witness.whole;
            })
            (λ other. record {
              index = r.witness.index;
              view = r.witness.view;
              there = at_longer vs (new ∷ []) r.witness.index r.witness.view (set_else s.views id r.witness.index w other ∙ r.witness.there);
              unspent = r.witness.unspent;
              at = r.witness.at;
              among = r.witness.among;
              whole = r.witness.whole;
            });
      }

  -- the owner of each number once one seat has those of another
  moved : ℕ → ℕ → (ℕ → ℕ) → ℕ → ℕ
  moved other id owner n = elim (ℕ_discrete (owner n) other) as (λ _. ℕ) [ yes _ ↦ id | no _ ↦ owner n ]

  moved_here : (other id : ℕ) (owner : ℕ → ℕ) (n : ℕ) → owner n ≡ other → moved other id owner n ≡ id
  unfolding moved
  moved_here other id owner n e = elim (ℕ_discrete (owner n) other) as (λ d. (elim d as (λ _. ℕ) [ yes _ ↦ id | no _ ↦ owner n ]) ≡ id) [ yes _ ↦ refl | no ne ↦ absurd (ne e) ]

  moved_else : (other id : ℕ) (owner : ℕ → ℕ) (n : ℕ) → owner n ≢ other → moved other id owner n ≡ owner n
  unfolding moved
  moved_else other id owner n ne = elim (ℕ_discrete (owner n) other) as (λ d. (elim d as (λ _. ℕ) [ yes _ ↦ id | no _ ↦ owner n ]) ≡ owner n) [ yes e ↦ absurd (ne e) | no _ ↦ refl ]

  fronts_stay : (past : List E) (made other id : ℕ) (owner : ℕ → ℕ) (j : ℕ) (xs : List (Sight E)) → j ≢ other → All (FitsSight m past made owner j) xs → All (FitsSight m past made (moved other id owner) j) xs
  fronts_stay past made other id owner j xs ne all k d lt = let f = all k d lt in
      record { owned = moved_else other id owner (get_or xs k d).number (λ e. ne (sym f.owned ∙ e)) ∙ f.owned; below = f.below; begins = f.begins }

  fronts_move : (past : List E) (made other id : ℕ) (owner : ℕ → ℕ) (xs : List (Sight E)) → All (FitsSight m past made owner other) xs → All (FitsSight m past made (moved other id owner) id) xs
  fronts_move past made other id owner xs all k d lt = let f = all k d lt in
      record { owned = moved_here other id owner (get_or xs k d).number f.owned; below = f.below; begins = f.begins }

  -- what one of two joined seats had seen is among what the both have seen
  among_left : (v w : K m) (x : Sight E) → Contains (sights v) x → Contains (sights (joined v w)) x
  among_left v w x (zero, lt, is) = (0, omega arith, is)
  among_left v w x (suc k, lt, is) =
      let lt' : suc k < suc (length v.joined) = lt in
      let c : Contains v.joined x = (k, (let g : k < length v.joined = omega arith in g), is) in
      let d = Contains-append_right (sights w) v.joined x c in (suc d.0, (let e : d.0 < length (sights w ++ v.joined) = d.1 in omega arith), d.2)

  among_right : (v w : K m) (x : Sight E) → Contains (sights w) x → Contains (sights (joined v w)) x
  among_right v w x c = let d = Contains-append_left (sights w) v.joined x c in (suc d.0, (let e : d.0 < length (sights w ++ v.joined) = d.1 in omega arith), d.2)

  -- the first seat takes another in
  pub joins : (id other : ℕ) (v w : K m) → 0 < v.made → 0 < v.seats → v.stage ≡ Idle → 0 < w.seats → w.stage ≡ Idle → Joins (Kept m) id v other w (joined v w) spent
  joins id other v w first some_left idle some_right idle' s r at ne at-other =
      let b : K m = joined v w in
      let vs : List (K m) = set s.views id b in
      let at' : get_elem? s.views other ≡ some w = sym (set_else s.views id other b ne) ∙ at-other in
      let fits = r.each id v at in
      let fits' = r.each other w at' in
      let owner' : ℕ → ℕ = moved other id r.owner in
      let ne' : id ≢ other = λ e. ne (sym e) in
      let asleep : is_waiting v.stage ≡ 0 = ap is_waiting idle in
      let asleep' : is_waiting w.stage ≡ 0 = ap is_waiting idle' in
      let busy : is_holding v.stage ≡ 0 = ap is_holding idle in
      let busy' : is_holding w.stage ≡ 0 = ap is_holding idle' in
      let waits = total_set (λ (u : K m). is_waiting u.stage) s.views id v b at in
      let holds = total_set (λ (u : K m). is_holding u.stage) s.views id v b at in
      let seats = total_set (λ (u : K m). u.seats) s.views id v b at in
      let turns = total_set (λ (u : K m). u.turns) s.views id v b at in
      let waits' = total_set (λ (u : K m). is_waiting u.stage) vs other w spent at-other in
      let holds' = total_set (λ (u : K m). is_holding u.stage) vs other w spent at-other in
      let seats' = total_set (λ (u : K m). u.seats) vs other w spent at-other in
      let turns' = total_set (λ (u : K m). u.turns) vs other w spent at-other in
      let left : All (FitsSight m r.past r.made owner' id) (sights v) = fronts_stay r.past r.made other id r.owner id (sights v) ne' (fits.fronts some_left) in
      let right : All (FitsSight m r.past r.made owner' id) (sights w) = fronts_move r.past r.made other id r.owner (sights w) (fits'.fronts some_right) in
      let P : Sight E → Type 0 = FitsSight m r.past r.made owner' id in
      let b_fits : Fits m r.past r.made r.fixed owner' id b = record {
        fronts = λ _. All-cons P (sight v.number v.seen) (sights w ++ v.joined) (first_of P (sight v.number v.seen) v.joined left)
            (All-append P (sights w) v.joined right (others_of P (sight v.number v.seen) v.joined left));
        few_turns = let a = fits.few_turns in let c = fits'.few_turns in omega arith;
        is_first = fits.is_first;
        same_fixed = λ _. fits.same_fixed some_left;
        holder = λ e. absurd (idle_alone (sym idle ∙ e));
        spent = λ none. absurd (omega arith);
      } in
      let spent_fits : Fits m r.past r.made r.fixed owner' other spent = record {
        fronts = λ some_seat. absurd (omega arith);
        few_turns = omega arith;
        is_first = λ some_made. absurd (omega arith);
        same_fixed = λ some_seat. absurd (omega arith);
        holder = λ e. absurd (idle_alone e);
        spent = λ _. refl;
      } in
      record {
        past = r.past;
        fixed = r.fixed;
        made = r.made;
        owner = owner';
        out = r.out;
        words = r.words ∙ ap (λ a. (2 * length r.past + r.out) ∷ a ∷ []) (omega (arith, waits, waits'));
        holders = omega (arith, holds, holds', r.holders);
        one_holder = r.one_holder;
        home = r.home;
        few_made = r.few_made;
        all_seats = omega (arith, seats, seats', r.all_seats);
        all_turns = omega (arith, turns, turns', r.all_turns);
        makers = r.makers;
        each = each_set (Fits m r.past r.made r.fixed owner') vs other spent
            (λ j u apart found. each_set (λ k x. k ≢ other → Fits m r.past r.made r.fixed owner' k x) s.views id b
            (λ k x _ there away. let fx = r.each k x there in record {
              fronts = λ some_seat. fronts_stay r.past r.made other id r.owner k (sights x) away (fx.fronts some_seat);
              few_turns = fx.few_turns;
              is_first = fx.is_first;
              same_fixed = fx.same_fixed;
              holder = fx.holder;
              spent = fx.spent;
            })
            (λ _. b_fits) j u found apart)
            spent_fits;
        witness = dite (ℕ_discrete r.witness.index id)
            (λ same. let is : r.witness.view ≡ v = at_once s.views id r.witness.view v (subst (λ i. get_elem? s.views i ≡ some r.witness.view) same r.witness.there) at in record {
              index = id;
              view = b;
              there = set_else vs other id spent ne' ∙ set_at s.views id v b at;
              unspent = omega arith;
              at = r.witness.at;
              among = among_left v w r.witness.at (subst (λ (u : K m). Contains (sights u) r.witness.at) is r.witness.among);
              whole = r.witness.whole;
            })
            (λ apart. dite (ℕ_discrete r.witness.index other)
            (λ same. let is : r.witness.view ≡ w = at_once s.views other r.witness.view w (subst (λ i. get_elem? s.views i ≡ some r.witness.view) same r.witness.there) at' in record {
              index = id;
              view = b;
              there = set_else vs other id spent ne' ∙ set_at s.views id v b at;
              unspent = omega arith;
              at = r.witness.at;
              among = among_right v w r.witness.at (subst (λ (u : K m). Contains (sights u) r.witness.at) is r.witness.among);
              whole = r.witness.whole;
            })
            (λ away. record {
              index = r.witness.index;
              view = r.witness.view;
              there = set_else vs other r.witness.index spent away ∙ (set_else s.views id r.witness.index b apart ∙ r.witness.there);
              unspent = r.witness.unspent;
              at = r.witness.at;
              among = r.witness.among;
              whole = r.witness.whole;
            }));
      }

  -- what the table has at the end, where one view speaks for all seats
  pub record Ended (slots : List (Guarded V S R)) (v : K m) : Type 0 where
    pub slot : Guarded V S R
    pub there : get_elem? slots 0 ≡ some slot
    pub stands : StandsForAll m slot.value (sights v)
    pub fixed : v.fixed ≡ Some (m.fixed slot.value)

  pub ends : (words : List ℕ) (slots : List (Guarded V S R)) (id : ℕ) (v : K m) → Final (Seen (Kept m) id v) words slots → 0 < v.made → v.seats ≡ v.made → length (sights v) ≡ v.made → v.stage ≡ Idle → Ended slots v
  ends words slots id v (s, seen, same_words, same_length, homes) first all_in long idle =
      let r : Kept m s = seen.0 in
      let at : get_elem? s.views id ≡ some v = seen.1 in
      let fits = r.each id v at in
      let made : v.made ≡ r.made = (fits.is_first first).1 in
      let some_seat : 0 < v.seats = omega arith in
      let alone = λ (j : ℕ) (u : K m) (other : id ≢ j) (there : get_elem? s.views j ≡ some u).
      let two = total_two (λ (x : K m). x.seats) s.views id j v u other at there in let e : u.seats ≡ 0 = omega (arith, two, r.all_seats) in e in
      let none = total_none (λ (u : K m). is_holding u.stage) s.views
      (λ j u there. dite (ℕ_discrete id j)
      (λ same. let is : v ≡ u = at_once s.views j v u (subst (λ i. get_elem? s.views i ≡ some v) same at) there in ap is_holding (ap (λ (x : K m). x.stage) (sym is) ∙ idle))
      (λ other. ap is_holding ((r.each j u there).spent (alone j u other there)))) in
      let out : r.out ≡ 0 = sym r.holders ∙ none in
      let home = subst (λ o. Home m r.past r.fixed o s.homes) out r.home in
      let g : Guarded V S R = home.0 in
      let here : r.witness.index ≡ id = dite (ℕ_discrete id r.witness.index) (λ same. sym same)
      (λ other. let some_one = r.witness.unspent in let e = alone r.witness.index r.witness.view other r.witness.there in absurd (omega arith)) in
      let view : r.witness.view ≡ v = at_once s.views id r.witness.view v (subst (λ i. get_elem? s.views i ≡ some r.witness.view) here r.witness.there) at in
      record {
        slot = g;
        there = homes 0 g (ap (λ hs. get_elem? hs 0) home.1);
        stands = record {
          past = r.past;
          stands = home.2;
          longest = (r.witness.at, subst (λ (u : K m). Contains (sights u) r.witness.at) view r.witness.among, r.witness.whole);
          fronts = λ k d lt. (fits.fronts some_seat k d lt).begins;
          makers = λ n above. r.makers n (omega arith);
        };
        fixed = fits.same_fixed some_seat ∙ ap Some (sym home.3);
      }

  -- the slot that is taken out at the end
  pub taken : (slots : List (Guarded V S R)) (v : K m) (g : Guarded V S R) → Ended slots v → get_elem? slots 0 ≡ some g → StandsForAll m g.value (sights v) × (v.fixed ≡ Some (m.fixed g.value))
  taken slots v g ended at = let is : ended.slot ≡ g = some-injective ended.slot g (sym ended.there ∙ at) in
      (subst (λ x. StandsForAll m x.value (sights v)) is ended.stands, ended.fixed ∙ ap (λ x. Some (m.fixed x.value)) is)

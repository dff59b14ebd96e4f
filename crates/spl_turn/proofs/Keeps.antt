-- A turn's steps keep the table's rule: a seat takes the value, gives it back with its entry, or sleeps in between.
use Rattle.std.proofs.Common.{◌≡◌, ℕ, zero, suc, ◌+◌, ◌-◌, ◌*◌, ◌%◌, ◌^◌, ◌<◌, ◌≤◌, ◌≢◌, List, [], ◌∷◌, ◌++◌, length, get_or, set, eqb, All, Contains, Option, Some, None, sym, refl, ap, ap₂, ◌∙◌, subst, append_assoc, append-nil, length-append, arith}
use Rattle.std.proofs.lemmas.List.Elements.{All-cons}
use mathlib.Core.Option.{some, none, some-injective}
use mathlib.Core.Option as maybe
use mathlib.Core.Logic.{dite}
use native.Mathlib.Decide.{ℕ_discrete}
use lib.ListN.{get_elem?}
use prog.Atomic.{either}
use Rattle.atomic_table.specs.Table.{State, Me, Step, step, keeps, takes, gives, Act, Valid, stepped, carried_after, put_back, rest, Allows}
use Rattle.atomic_table.proofs.Lists.{set_again, set_else, exchanged}
use Rattle.spl_turn.specs.Meaning.{Meaning, own}
use Rattle.spl_turn.specs.Rule.{total, sight, sights, is_waiting, is_holding, Begins, FitsSight, Fits, Home, Witness, Kept}
use Rattle.spl_turn.specs.Moves.{entry_of, Took, entered, Added, added, MayLeave, staged, lain, risen}
use Rattle.spl_turn.specs.Seating.{IsReady}
use Rattle.spl_turn.specs.declared.known.Known.{Known}
use Rattle.spl_turn.specs.declared.known.Sight.{Sight}
use Rattle.spl_turn.specs.declared.known.Stage.{Stage}
use Rattle.spl_turn.specs.declared.known.Stage.TheVariants.{Idle, Waits, Holds}
use Rattle.spl_turn.specs.declared.guarded.Guarded.{Guarded}
use Rattle.spl_turn.specs.declared.guarded.Last.{Last}
use Rattle.spl_turn.proofs.Totals.{total_set, total_le, total_lt, total_scale, total_part, total_two, set_at, at_once, each_set}
use Rattle.spl_turn.proofs.Fronts.{own_append, own_others, own_mine, begins_more, begins_all}

pub first_of : {X : Type 0} (P : X → Type 0) (x : X) (xs : List X) → All P (x ∷ xs) → P x
first_of P x xs all = let lt : 0 < length (x ∷ xs) = omega arith in all 0 x lt

pub others_of : {X : Type 0} (P : X → Type 0) (x : X) (xs : List X) → All P (x ∷ xs) → All P xs
others_of P x xs all k d lt = let more : suc k < length (x ∷ xs) = omega arith in all (suc k) d more

pub none_of : {X : Type 0} (P : X → Type 0) (xs : List X) → xs ≡ [] → All P xs
none_of P xs e k d lt = let n : length xs ≡ 0 = ap length e in absurd (omega arith)

some_is : {X : Type 0} (a b : X) → Some a ≡ Some b → a ≡ b
some_is a b e = cc

not_idle : Idle ≢ Holds
not_idle e = cc

module _ {V S R E F : Type 0} (m : Meaning V S R E F) where
  abbrev pub K : Type 0
  K = Known E F

  abbrev pub G : Type 0
  G = Guarded V S R

  abbrev pub St : Type 0
  St = State G K

  abbrev pub M : Type 0
  M = Me G K

  -- the record is shorter than 2^46 where a seat has turns left
  pub short : (s : St) (r : Kept m s) (id : ℕ) (v : K) → get_elem? s.views id ≡ some v → v.turns < 2199023255552 → v.seats ≡ 1 → length r.past < 70368744177664
  short s r id v at few one =
      let lt = total_lt (λ (u : K). u.turns) (λ (u : K). 2199023255552 * u.seats) s.views id v (λ j u there. (r.each j u there).few_turns) at (omega arith) in
      let scaled = total_scale 2199023255552 (λ (u : K). u.seats) s.views in
      let made = r.few_made in let all = r.all_seats in let turns = r.all_turns in omega (arith, lt, scaled, made, all, turns)

  -- a table that a step leaves as it was
  pub same_table : (s : St) (r : Kept m s) (id : ℕ) (v : K) (c : List (ℕ × G)) → get_elem? s.views id ≡ some v → Kept m (stepped s 0 (get_or s.words 0 0) id c v keeps)
  same_table s r id v c at =
      let W : List ℕ → Type 0 = λ ws. set ws 0 (get_or ws 0 0) ≡ ws in
      let words : set s.words 0 (get_or s.words 0 0) ≡ s.words = subst W (sym r.words) refl in
      let views : set s.views id v ≡ s.views = set_again s.views id v at in
      subst (Kept m) (λ i. record { words = sym words i; homes = s.homes; views = sym views i }) r

  -- what a step to the word f of the one that is found has to show
  abbrev Goes : St → ℕ → M → (ℕ → M → Type 0) → ℕ → Type 0
  Goes s id me then n = (w : K) × (a : Act G) × Valid s.homes me.1 a × Kept m (stepped s 0 n id me.1 w a) × then (get_or s.words 0 0) (w, carried_after me.1 a)

  -- what a seat knows once it has the value
  abbrev pub seated : K → List E → K
  seated v between = record v { seen = v.seen ++ between; stage = Holds }

  -- the front of a seat that is one seat
  pub front : (past : List E) (made : ℕ) (fixed : F) (owner : ℕ → ℕ) (j : ℕ) (v : K) → Fits m past made fixed owner j v → v.seats ≡ 1 → FitsSight m past made owner j (sight v.number v.seen)
  front past made fixed owner j v fits one = first_of (FitsSight m past made owner j) (sight v.number v.seen) v.joined (fits.fronts (omega arith))

  -- how the seat fits the rule once it has seen the whole record
  pub fits_all : (past seen : List E) (made : ℕ) (fixed : F) (owner : ℕ → ℕ) (j turns : ℕ) (stage : Stage) (v : K) → v.seats ≡ 1 → v.joined ≡ [] → seen ≡ past → turns ≤ 2199023255552
      → owner v.number ≡ j → v.number < made → (0 < v.made → (j ≡ 0) × (v.made ≡ made)) → v.fixed ≡ Some fixed → Fits m past made fixed owner j record v { seen = seen; turns = turns; stage = stage }
  fits_all past seen made fixed owner j turns stage v one alone whole few owned below first same = record {
    fronts = λ _. All-cons (FitsSight m past made owner j) (sight v.number seen) v.joined
        record { owned = owned; below = below; begins = begins_all m past (sight v.number seen) whole }
        (none_of (FitsSight m past made owner j) v.joined alone);
    few_turns = omega arith;
    is_first = first;
    same_fixed = λ _. same;
    holder = λ _. whole;
    spent = λ none. absurd (omega arith);
  }

  enters_home : (slots id old : ℕ) (me : M) → IsReady me → (s : St) (r : Kept m s) → get_elem? s.views id ≡ some me.0 → get_or s.words 0 0 ≡ old → r.out ≡ 0
      → Goes s id me (entered m (step slots 0 old (old + 1) none) me) (old + 1)
  enters_home slots id old me ready s r at hit home =
      let v : K = me.0 in
      let fits = r.each id v at in
      let one : v.seats ≡ 1 = ready.one_seat in
      let f = front r.past r.made r.fixed r.owner id v fits one in
      let between : List E = f.begins.rest in
      let w : K = seated v between in
      let whole : v.seen ++ between ≡ r.past = sym f.begins.whole in
      let h = subst (λ o. Home m r.past r.fixed o s.homes) home r.home in
      let g : G = h.0 in
      let word : get_or s.words 0 0 ≡ 2 * length r.past + r.out = ap (λ ws. get_or ws 0 0) r.words in
      let idle : is_waiting v.stage ≡ 0 = ap is_waiting ready.idle in
      let free : is_holding v.stage ≡ 0 = ap is_holding ready.idle in
      let waits = total_set (λ (u : K). is_waiting u.stage) s.views id v w at in
      let holds = total_set (λ (u : K). is_holding u.stage) s.views id v w at in
      let seats = total_set (λ (u : K). u.seats) s.views id v w at in
      let turns = total_set (λ (u : K). u.turns) s.views id v w at in
      let few = ready.few_turns in (
        w,
        takes 0 g,
        ap (λ hs. get_elem? hs 0) h.1,
        record {
          past = r.past;
          fixed = r.fixed;
          made = r.made;
          owner = r.owner;
          out = 1;
          words = ap (λ ws. set ws 0 (old + 1)) r.words ∙ ap₂ (λ a b. a ∷ b ∷ []) (omega arith) (omega (arith, waits));
          holders = omega (arith, holds, r.holders);
          one_holder = omega arith;
          home = ap (λ hs. set hs 0 none) h.1;
          few_made = r.few_made;
          all_seats = omega (arith, seats, r.all_seats);
          all_turns = omega (arith, turns, r.all_turns);
          makers = r.makers;
          each = each_set (Fits m r.past r.made r.fixed r.owner) s.views id w (λ j u _ there. r.each j u there)
              (fits_all r.past (v.seen ++ between) r.made r.fixed r.owner id v.turns Holds v one ready.alone whole (omega arith) f.owned f.below fits.is_first (fits.same_fixed (omega arith)));
          witness = record {
            index = id;
            view = w;
            there = set_at s.views id v w at;
            unspent = omega arith;
            at = sight v.number (v.seen ++ between);
            among = (0, omega arith, refl);
            whole = whole;
          };
        },
        (
          (λ _. record {
            guarded = g;
            between = between;
            others = f.begins.others;
            view = refl;
            slot = refl;
            stands = subst (m.stands g.value) f.begins.whole h.2;
            fixed = fits.same_fixed (omega arith) ∙ ap Some (sym h.3);
            room = let lt = short s r id v at few one in omega (arith, lt, ap length whole);
          }),
          λ ne. absurd (ne hit),
        ),
      )

  -- a seat takes the value where the word is even
  pub enters : (slots id old : ℕ) (me : M) → old % 2 ≡ 0 → IsReady me → Allows (Kept m) slots id me 0 (λ n. either (eqb n old) (old + 1) n) (entered m (step slots 0 old (old + 1) none) me)
  enters slots id old me even ready s r wide at small =
      exchanged (get_or s.words 0 0) old (old + 1) (Goes s id me (entered m (step slots 0 old (old + 1) none) me))
      (λ hit. enters_home slots id old me ready s r at hit
      (let word : get_or s.words 0 0 ≡ 2 * length r.past + r.out = ap (λ ws. get_or ws 0 0) r.words in let few = r.one_holder in omega arith))
      (λ miss. (me.0, keeps, tt, same_table s r id me.0 me.1 at, ((λ hit. absurd (miss hit)), λ _. refl)))

  -- at another seat nothing changes when the holder adds its entry
  fits_more : (past more : List E) (made : ℕ) (fixed : F) (owner : ℕ → ℕ) (id j number : ℕ) (v : K) → j ≢ id → owner number ≡ id → ((n : ℕ) → n ≢ number → own m n more ≡ []) → v.stage ≢ Holds
      → Fits m past made fixed owner j v → Fits m (past ++ more) made fixed owner j v
  fits_more past more made fixed owner id j number v other owned others free fits = record {
    fronts = λ some_seat k d lt. let f = fits.fronts some_seat k d lt in record {
      owned = f.owned;
      below = f.below;
      begins = begins_more m past more _ (others _ (λ e. other (sym f.owned ∙ (ap owner e ∙ owned)))) f.begins;
    };
    few_turns = fits.few_turns;
    is_first = fits.is_first;
    same_fixed = fits.same_fixed;
    holder = λ holds. absurd (free holds);
    spent = fits.spent;
  }

  pub same_slot : (c : List (ℕ × G)) (g h : G) → c ≡ (0, g) ∷ [] → c ≡ (0, h) ∷ [] → g ≡ h
  same_slot c g h a b = let e : (0, g) ∷ [] ≡ (0, h) ∷ [] = sym a ∙ b in ap (λ l. (elim l as (λ _. G) [ [] ↦ g | x ∷ xs ↦ x.1 ])) e

  -- the seat gives the value back, and adds the entry of the step that it has made
  pub leaves : (slots id : ℕ) (me : M) → MayLeave m me → Allows (Kept m) slots id me 0 (λ n. (n + 1) % 2 ^ 64) (added m (step slots 0 1 0 none) me)
  leaves slots id me may s r wide at small =
      let v : K = me.0 in
      let g : G = may.guarded in
      let e : E = entry_of m v.number g.value may.last in
      let fits = r.each id v at in
      let one : v.seats ≡ 1 = may.one_seat in
      let f = front r.past r.made r.fixed r.owner id v fits one in
      let is : v.seen ≡ r.past = fits.holder may.holds in
      let seen : v.seen ++ e ∷ [] ≡ r.past ++ e ∷ [] = ap (λ p. p ++ e ∷ []) is in
      let w : K = record v { seen = v.seen ++ e ∷ []; turns = v.turns + 1; stage = Idle } in
      let mine : m.maker e ≡ v.number = m.made_by _ _ _ _ _ in
      let few = may.few_turns in
      let lt = short s r id v at few one in
      let word : get_or s.words 0 0 ≡ 2 * length r.past + r.out = ap (λ ws. get_or ws 0 0) r.words in
      let busy : is_holding v.stage ≡ 1 = ap is_holding may.holds in
      let asleep : is_waiting v.stage ≡ 0 = ap is_waiting may.holds in
      let part = total_part (λ (u : K). is_holding u.stage) s.views id v at in
      let waits = total_set (λ (u : K). is_waiting u.stage) s.views id v w at in
      let holds = total_set (λ (u : K). is_holding u.stage) s.views id v w at in
      let seats = total_set (λ (u : K). u.seats) s.views id v w at in
      let turns = total_set (λ (u : K). u.turns) s.views id v w at in
      let out : r.out ≡ 1 = omega (arith, part, r.holders, r.one_holder) in
      let longer : length (r.past ++ e ∷ []) ≡ length r.past + 1 = length-append r.past (e ∷ []) in
      let home = subst (λ o. Home m r.past r.fixed o s.homes) out r.home in
      let foreign = λ (n : ℕ) (ne : n ≢ v.number). own_others m n e (λ a. ne (sym a ∙ mine)) in (
        w,
        gives,
        tt,
        record {
          past = r.past ++ e ∷ [];
          fixed = r.fixed;
          made = r.made;
          owner = r.owner;
          out = 0;
          words = ap₂ (λ (ws : List ℕ) (n : ℕ). set ws 0 ((n + 1) % 2 ^ 64)) r.words word
              ∙ ap₂ (λ a b. a ∷ b ∷ []) (omega (arith, longer, out, lt)) (omega (arith, waits));
          holders = omega (arith, holds, r.holders);
          one_holder = omega arith;
          home = (
            g,
            ap (put_back s.homes) may.slot ∙ ap (λ hs. set hs 0 (some g)) home,
            subst (m.stands g.value) seen may.stands,
            some_is _ _ (sym may.fixed ∙ fits.same_fixed (omega arith)),
          );
          few_made = r.few_made;
          all_seats = omega (arith, seats, r.all_seats);
          all_turns = omega (arith, turns, r.all_turns, longer);
          makers = λ n above. let below = f.below in own_append m n r.past (e ∷ []) ∙ ap₂ (λ a b. a ++ b) (r.makers n above) (foreign n (λ a. omega arith));
          each = each_set (Fits m (r.past ++ e ∷ []) r.made r.fixed r.owner) s.views id w
              (λ j u other there. fits_more r.past (e ∷ []) r.made r.fixed r.owner id j v.number u other f.owned foreign
              (λ also. let two = total_two (λ (u : K). is_holding u.stage) s.views j id u v other there at in let b : is_holding u.stage ≡ 1 = ap is_holding also in omega (arith, two, r.holders, r.one_holder))
              (r.each j u there))
              (fits_all (r.past ++ e ∷ []) (v.seen ++ e ∷ []) r.made r.fixed r.owner id (v.turns + 1) Idle v one may.alone seen (omega arith) f.owned f.below fits.is_first (fits.same_fixed (omega arith)));
          witness = record {
            index = id;
            view = w;
            there = set_at s.views id v w at;
            unspent = omega arith;
            at = sight v.number (v.seen ++ e ∷ []);
            among = (0, omega arith, refl);
            whole = seen;
          };
        },
        λ h last slot noted. (
          ap rest may.slot,
          (let same : g ≡ h = same_slot me.1 g h may.slot slot in
              let noted' : Some may.last ≡ Some last = sym may.noted ∙ (ap (λ x. x.last) same ∙ noted) in
              ap₂ (λ x l. record v { seen = v.seen ++ entry_of m v.number x l ∷ []; turns = v.turns + 1; stage = Idle }) (ap (λ x. x.value) same) (some_is _ _ noted')),
        ),
      )

  -- the witness stays where one seat's view has seen the same
  witness_set : (past : List E) (vs : List K) (id : ℕ) (v : K) (stage : Stage) → get_elem? vs id ≡ some v → Witness m past vs → Witness m past (set vs id (staged v stage))
  witness_set past vs id v stage at x = dite (ℕ_discrete x.index id)
      (λ same. let is : x.view ≡ v = at_once vs id x.view v (subst (λ i. get_elem? vs i ≡ some x.view) same x.there) at in record {
        index = id;
        view = staged v stage;
        there = set_at vs id v (staged v stage) at;
        unspent = subst (λ (u : K). 0 < u.seats) is x.unspent;
        at = x.at;
        among = subst (λ (u : K). Contains (sights u) x.at) is x.among;
        whole = x.whole;
      })
      (λ other. record {
        index = x.index;
        view = x.view;
        there = set_else vs id x.index (staged v stage) other ∙ x.there;
        unspent = x.unspent;
        at = x.at;
        among = x.among;
        whole = x.whole;
      })

  -- a seat goes to sleep or gets up, and the word that counts the sleepers goes to n
  restaged : (s : St) (r : Kept m s) (id n : ℕ) (me : M) (stage : Stage) → get_elem? s.views id ≡ some me.0 → me.0.seats ≡ 1 → is_holding me.0.stage ≡ 0 → is_holding stage ≡ 0
      → n + is_waiting me.0.stage ≡ total (λ (u : K). is_waiting u.stage) s.views + is_waiting stage → Kept m (stepped s 1 n id me.1 (staged me.0 stage) keeps)
  restaged s r id n me stage at one old new word =
      let v : K = me.0 in
      let w : K = staged v stage in
      let fits = r.each id v at in
      let waits = total_set (λ (u : K). is_waiting u.stage) s.views id v w at in
      let holds = total_set (λ (u : K). is_holding u.stage) s.views id v w at in
      let seats = total_set (λ (u : K). u.seats) s.views id v w at in
      let turns = total_set (λ (u : K). u.turns) s.views id v w at in
      record {
        past = r.past;
        fixed = r.fixed;
        made = r.made;
        owner = r.owner;
        out = r.out;
        words = ap (λ ws. set ws 1 n) r.words ∙ ap (λ a. (2 * length r.past + r.out) ∷ a ∷ []) (omega (arith, waits));
        holders = omega (arith, holds, r.holders);
        one_holder = r.one_holder;
        home = r.home;
        few_made = r.few_made;
        all_seats = omega (arith, seats, r.all_seats);
        all_turns = omega (arith, turns, r.all_turns);
        makers = r.makers;
        each = each_set (Fits m r.past r.made r.fixed r.owner) s.views id w (λ j u _ there. r.each j u there) record {
          fronts = fits.fronts;
          few_turns = fits.few_turns;
          is_first = fits.is_first;
          same_fixed = fits.same_fixed;
          holder = λ also. let b : is_holding stage ≡ 1 = ap is_holding also in absurd (omega arith);
          spent = λ none. absurd (omega arith);
        };
        witness = witness_set r.past s.views id v stage at r.witness;
      }

  is_small : (stage : Stage) → is_waiting stage ≤ 1
  is_small Idle = omega arith
  is_small Waits = omega arith
  is_small Holds = omega arith

  asleep_is_seat : (past : List E) (made : ℕ) (fixed : F) (owner : ℕ → ℕ) (j : ℕ) (u : K) → Fits m past made fixed owner j u → is_waiting u.stage ≤ u.seats
  asleep_is_seat past made fixed owner j u fits = dite (ℕ_discrete u.seats 0)
      (λ none. let b : is_waiting u.stage ≡ 0 = ap is_waiting (fits.spent none) in omega arith)
      (λ some_seat. let b = is_small u.stage in omega (arith, b))

  pub lies : (slots id : ℕ) (me : M) → IsReady me → Allows (Kept m) slots id me 1 (λ n. (n + 1) % 2 ^ 64) (lain m (step slots 1 1 0 none) me)
  lies slots id me ready s r wide at small =
      let le = total_le (λ (u : K). is_waiting u.stage) (λ (u : K). u.seats) s.views (λ j u there. asleep_is_seat r.past r.made r.fixed r.owner j u (r.each j u there)) in
      let word : get_or s.words 1 0 ≡ total (λ (u : K). is_waiting u.stage) s.views = ap (λ ws. get_or ws 1 0) r.words in
      let idle : is_waiting me.0.stage ≡ 0 = ap is_waiting ready.idle in
      let free : is_holding me.0.stage ≡ 0 = ap is_holding ready.idle in (
        staged me.0 Waits,
        keeps,
        tt,
        restaged s r id ((get_or s.words 1 0 + 1) % 2 ^ 64) me Waits at ready.one_seat free refl (omega (arith, le, word, r.all_seats, r.few_made)),
        refl,
      )

  pub rises : (slots id : ℕ) (me : M) → me.0.stage ≡ Waits → me.0.seats ≡ 1 → Allows (Kept m) slots id me 1 (λ n. (n + (2 ^ 64 - 1)) % 2 ^ 64) (risen m (step slots 1 1 0 none) me)
  rises slots id me waits one s r wide at small =
      let le = total_le (λ (u : K). is_waiting u.stage) (λ (u : K). u.seats) s.views (λ j u there. asleep_is_seat r.past r.made r.fixed r.owner j u (r.each j u there)) in
      let part = total_part (λ (u : K). is_waiting u.stage) s.views id me.0 at in
      let word : get_or s.words 1 0 ≡ total (λ (u : K). is_waiting u.stage) s.views = ap (λ ws. get_or ws 1 0) r.words in
      let awake : is_waiting me.0.stage ≡ 1 = ap is_waiting waits in
      let free : is_holding me.0.stage ≡ 0 = ap is_holding waits in (
        staged me.0 Idle,
        keeps,
        tt,
        restaged s r id ((get_or s.words 1 0 + (2 ^ 64 - 1)) % 2 ^ 64) me Idle at one free refl (omega (arith, le, part, word, r.all_seats, r.few_made)),
        refl,
      )

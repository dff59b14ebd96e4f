-- The text of an answer tells which answer it is, and where it ends.
use Rattle.std.proofs.Common.{◌≡◌, ℕ, ◌⊎◌, inl, inr, cond, eqb, List, [], ◌∷◌, ◌++◌, flat_map, length, codes, decimal, Option, refl, ap, ◌∙◌, sym, arith, append_assoc, lit<}
use Rattle.std.proofs.lemmas.Fmt.{decimal_injective}
use Rattle.std.specs.List.{AllByRecursion}
use Rattle.spl_message.specs.declared.answer.Answer.{Answer}
use Rattle.spl_message.specs.declared.answer.Answer.TheVariants.{Done, Missing, Value, Pairs, Stopped}
use Rattle.spl_message.specs.declared.answer.Cause.{Cause}
use Rattle.spl_message.specs.declared.answer.Cause.TheVariants.{Fault, Damaged, Full, Nodes, Spent, Memory}
use Rattle.spl_report.specs.ReportText.{text_of, end_text, pair_text, answer_text, HasPairBytes, HasAnswerBytes}
use Rattle.spl_report.proofs.Numbers.{decimal_above}
use Rattle.spl_report.proofs.Spellings.{Above, cut, no_line, text_above, text_back, text_of-injective, bytes_of, above_by_test, end_same, end_above}

-- ---- words

-- which cause a word is of, by its first two letters
cause_of : List ℕ → Cause
cause_of [] = Memory
cause_of (a ∷ []) = Memory
cause_of (a ∷ b ∷ rest) =
    cond (eqb a 102) (cond (eqb b 97) Fault Full) (cond (eqb a 100) Damaged (cond (eqb a 110) Nodes (cond (eqb a 115) Spent Memory)))

-- which answer a text is of
answer_of : List ℕ → Answer
answer_of [] = Done
answer_of (a ∷ []) = cond (eqb a 61) (Value (bytes_of [])) Done
answer_of (a ∷ b ∷ []) = cond (eqb a 61) (Value (bytes_of (b ∷ []))) Done
answer_of (a ∷ b ∷ c ∷ rest) = cond (eqb a 61) (Value (bytes_of (b ∷ c ∷ rest))) (cond (eqb c 110) Missing (Stopped (cause_of (a ∷ b ∷ c ∷ rest))))

value_back : (text : List ℕ) → answer_of (61 ∷ text) ≡ Value (bytes_of text)
unfolding answer_of
value_back [] = refl
value_back (b ∷ []) = refl
value_back (b ∷ c ∷ rest) = refl

-- all answers but a piece's have a text without a space
IsWord : Answer → Type 0
IsWord Done = Unit {0}
IsWord Missing = Unit {0}
IsWord (Value value) = Unit {0}
IsWord (Pairs end pairs) = ⊥
IsWord (Stopped cause) = Unit {0}

answer_back : (answer : Answer) → IsWord answer → HasAnswerBytes answer → answer_of (answer_text answer) ≡ answer
unfolding answer_of cause_of IsWord
answer_back Done w h = refl
answer_back Missing w h = refl
answer_back (Value value) w h = value_back (text_of value) ∙ ap Value (text_back value h)
answer_back (Pairs end pairs) w h = absurd w
answer_back (Stopped Fault) w h = refl
answer_back (Stopped Damaged) w h = refl
answer_back (Stopped Full) w h = refl
answer_back (Stopped Nodes) w h = refl
answer_back (Stopped Spent) w h = refl
answer_back (Stopped Memory) w h = refl

word_above : (answer : Answer) → IsWord answer → Above (answer_text answer)
unfolding IsWord
word_above Done w = above_by_test (codes "ok") refl
word_above Missing w = above_by_test (codes "none") refl
word_above (Value value) w = (lit< tt, text_above value)
word_above (Pairs end pairs) w = absurd w
word_above (Stopped Fault) w = above_by_test (codes "fault") refl
word_above (Stopped Damaged) w = above_by_test (codes "damaged") refl
word_above (Stopped Full) w = above_by_test (codes "full") refl
word_above (Stopped Nodes) w = above_by_test (codes "nodes") refl
word_above (Stopped Spent) w = above_by_test (codes "spent") refl
word_above (Stopped Memory) w = above_by_test (codes "memory") refl

words_cut : (a b : Answer) (x y : List ℕ) → IsWord a → IsWord b → HasAnswerBytes a → HasAnswerBytes b → answer_text a ++ 10 ∷ x ≡ answer_text b ++ 10 ∷ y → (a ≡ b) × (x ≡ y)
words_cut a b x y wa wb ha hb e =
    let end = cut 10 (answer_text a) (answer_text b) x y (omega arith) (word_above a wa) (word_above b wb) e in
    (sym (answer_back a wa ha) ∙ ap answer_of end.0 ∙ answer_back b wb hb, end.1)

-- ---- pairs

-- what follows the count of pairs and its LF: the lines of the pairs, and what follows the row
lines : List (List ℕ × List ℕ) → List ℕ → List ℕ
lines [] rest = rest
lines (pair ∷ pairs) rest = 43 ∷ 32 ∷ (text_of pair.0 ++ 32 ∷ (61 ∷ (text_of pair.1 ++ 10 ∷ lines pairs rest)))

pair_lined : (pair : List ℕ × List ℕ) (rest : List ℕ) → pair_text pair ++ rest ≡ 10 ∷ 43 ∷ 32 ∷ (text_of pair.0 ++ 32 ∷ (61 ∷ (text_of pair.1 ++ rest)))
pair_lined pair rest = simp append_assoc

pairs_lined : (pairs : List (List ℕ × List ℕ)) (rest : List ℕ) → flat_map pair_text pairs ++ 10 ∷ rest ≡ 10 ∷ lines pairs rest
unfolding lines
pairs_lined [] rest = refl
pairs_lined (pair ∷ pairs) rest =
    append_assoc (pair_text pair) (flat_map pair_text pairs) (10 ∷ rest) ∙ ap (λ t. pair_text pair ++ t) (pairs_lined pairs rest) ∙ pair_lined pair (10 ∷ lines pairs rest)

lines_cut : (as' bs : List (List ℕ × List ℕ)) (x y : List ℕ) → length as' ≡ length bs → AllByRecursion HasPairBytes as' → AllByRecursion HasPairBytes bs → lines as' x ≡ lines bs y → (as' ≡ bs) × (x ≡ y)
unfolding lines
lines_cut [] [] x y n ha hb e = (refl, e)
lines_cut [] (b ∷ bs) x y n ha hb e = absurd (omega (arith, n))
lines_cut (a ∷ as') [] x y n ha hb e = absurd (omega (arith, n))
lines_cut (a ∷ as') (b ∷ bs) x y n ha hb e =
    let keys : text_of a.0 ++ 32 ∷ (61 ∷ (text_of a.1 ++ 10 ∷ lines as' x)) ≡ text_of b.0 ++ 32 ∷ (61 ∷ (text_of b.1 ++ 10 ∷ lines bs y)) = cc in
    let after = cut 32 (text_of a.0) (text_of b.0) _ _ (omega arith) (text_above a.0) (text_above b.0) keys in
    let behind : 61 ∷ (text_of a.1 ++ 10 ∷ lines as' x) ≡ 61 ∷ (text_of b.1 ++ 10 ∷ lines bs y) = after.1 in
    let values : text_of a.1 ++ 10 ∷ lines as' x ≡ text_of b.1 ++ 10 ∷ lines bs y = cc in
    let end = cut 10 (text_of a.1) (text_of b.1) _ _ (omega arith) (text_above a.1) (text_above b.1) values in
    let key : a.0 ≡ b.0 = text_of-injective a.0 b.0 ha.0.0 hb.0.0 after.0 in
    let value : a.1 ≡ b.1 = text_of-injective a.1 b.1 ha.0.1 hb.0.1 end.0 in
    let fewer : length as' ≡ length bs = omega (arith, n) in
    let more = lines_cut as' bs x y fewer ha.1 hb.1 end.1 in
    ((λ i. (key i, value i) ∷ more.0 i), more.1)

-- ---- a piece's answer

piece_spelled : (end : Option (List ℕ)) (pairs : List (List ℕ × List ℕ)) (rest : List ℕ) → answer_text (Pairs end pairs) ++ 10 ∷ rest ≡ end_text end ++ 32 ∷ (decimal (length pairs) ++ 10 ∷ lines pairs rest)
piece_spelled end pairs rest = by (end_text end) (decimal (length pairs)) (flat_map pair_text pairs) ∙ ap (λ t. end_text end ++ 32 ∷ (decimal (length pairs) ++ t)) (pairs_lined pairs rest)
  where
    by : (e n p : List ℕ) → (e ++ codes " " ++ n ++ p) ++ 10 ∷ rest ≡ e ++ 32 ∷ (n ++ (p ++ 10 ∷ rest))
    by e n p = simp append_assoc

pieces_cut : (end other : Option (List ℕ)) (as' bs : List (List ℕ × List ℕ)) (x y : List ℕ) → HasAnswerBytes (Pairs end as') → HasAnswerBytes (Pairs other bs)
    → answer_text (Pairs end as') ++ 10 ∷ x ≡ answer_text (Pairs other bs) ++ 10 ∷ y → (Pairs end as' ≡ Pairs other bs) × (x ≡ y)
pieces_cut end other as' bs x y ha hb e =
    let whole = sym (piece_spelled end as' x) ∙ e ∙ piece_spelled other bs y in
    let ends = cut 32 (end_text end) (end_text other) _ _ (omega arith) (end_above end) (end_above other) whole in
    let counts = cut 10 (decimal (length as')) (decimal (length bs)) _ _ (omega arith) (decimal_above (length as') ha.1) (decimal_above (length bs) hb.1) ends.1 in
    let n = decimal_injective (length as') (length bs) ha.1 hb.1 counts.0 in
    let more = lines_cut as' bs x y n ha.2 hb.2 counts.1 in
    let to : end ≡ other = end_same end other ha.0 hb.0 ends.0 in
    ((λ i. Pairs (to i) (more.0 i)), more.1)

no_piece : (a : Answer) (end : Option (List ℕ)) (pairs : List (List ℕ × List ℕ)) (x y : List ℕ) → IsWord a → answer_text a ++ 10 ∷ x ≡ answer_text (Pairs end pairs) ++ 10 ∷ y → ⊥
no_piece a end pairs x y w e = no_line (answer_text a) (end_text end) x _ (word_above a w) (end_above end) (e ∙ piece_spelled end pairs y)

-- ---- any answer

kind : (a : Answer) → IsWord a ⊎ ((end : Option (List ℕ)) × (pairs : List (List ℕ × List ℕ)) × (a ≡ Pairs end pairs))
unfolding IsWord
kind Done = inl tt
kind Missing = inl tt
kind (Value value) = inl tt
kind (Pairs end pairs) = inr (end, pairs, refl)
kind (Stopped cause) = inl tt

pub answer_cut : (a b : Answer) (x y : List ℕ) → HasAnswerBytes a → HasAnswerBytes b → answer_text a ++ 10 ∷ x ≡ answer_text b ++ 10 ∷ y → (a ≡ b) × (x ≡ y)
answer_cut a b x y ha hb e = by (kind a) (kind b)
  where
    by : IsWord a ⊎ ((end : Option (List ℕ)) × (pairs : List (List ℕ × List ℕ)) × (a ≡ Pairs end pairs)) → IsWord b ⊎ ((end : Option (List ℕ)) × (pairs : List (List ℕ × List ℕ)) × (b ≡ Pairs end pairs)) → (a ≡ b) × (x ≡ y)
    by (inl wa) (inl wb) = words_cut a b x y wa wb ha hb e
    by (inl wa) (inr (end, pairs, is)) = absurd (no_piece a end pairs x y wa (e ∙ ap (λ t. answer_text t ++ 10 ∷ y) is))
    by (inr (end, pairs, is)) (inl wb) = absurd (no_piece b end pairs y x wb (sym e ∙ ap (λ t. answer_text t ++ 10 ∷ x) is))
    by (inr (end, as', is)) (inr (other, bs, is')) =
        let cuts = pieces_cut end other as' bs x y (rw is at ha) (rw is' at hb) (ap (λ t. answer_text t ++ 10 ∷ x) (sym is) ∙ e ∙ ap (λ t. answer_text t ++ 10 ∷ y) is') in
        (is ∙ cuts.0 ∙ sym is', cuts.1)

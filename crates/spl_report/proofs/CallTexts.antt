-- The text of a call tells which call it is, and where it ends.
use Rattle.std.proofs.Common.{◌≡◌, ℕ, List, ◌∷◌, ◌++◌, arith, append_assoc}
use Rattle.spl_message.specs.declared.call.Call.{Call}
use Rattle.spl_message.specs.declared.call.Call.TheVariants.{Put, Look, Piece}
use Rattle.spl_message.specs.declared.message.Message.TheVariants.{Insert, Delete, Update}
use Rattle.spl_report.specs.ReportText.{text_of, end_text, call_text, HasCallBytes}
use Rattle.spl_report.proofs.Spellings.{cut, text_above, text_of-injective, end_same, end_above}

-- a call's text with what follows it, from the left
pub spelled : Call → List ℕ → List ℕ
spelled (Put key (Insert value)) rest = 112 ∷ 117 ∷ 116 ∷ 32 ∷ (text_of key ++ 32 ∷ (61 ∷ (text_of value ++ rest)))
spelled (Put key (Update operand)) rest = 117 ∷ 112 ∷ 100 ∷ 32 ∷ (text_of key ++ 32 ∷ (61 ∷ (text_of operand ++ rest)))
spelled (Put key Delete) rest = 100 ∷ 101 ∷ 108 ∷ 32 ∷ (text_of key ++ rest)
spelled (Look key) rest = 103 ∷ 101 ∷ 116 ∷ 32 ∷ (text_of key ++ rest)
spelled (Piece span) rest = 115 ∷ 99 ∷ 97 ∷ 110 ∷ 32 ∷ (end_text span.from ++ 32 ∷ (end_text span.to ++ rest))

pub call_spelled : (call : Call) (rest : List ℕ) → call_text call ++ rest ≡ spelled call rest
unfolding spelled
call_spelled (Put key (Insert value)) rest = simp append_assoc
call_spelled (Put key (Update operand)) rest = simp append_assoc
call_spelled (Put key Delete) rest = simp append_assoc
call_spelled (Look key) rest = simp append_assoc
call_spelled (Piece span) rest = simp append_assoc

same_first : (m n : ℕ) (xs ys : List ℕ) → m ∷ xs ≡ n ∷ ys → m ≡ n
same_first m n xs ys e = cc

pub call_cut : (a b : Call) (x y : List ℕ) → HasCallBytes a → HasCallBytes b → spelled a (32 ∷ x) ≡ spelled b (32 ∷ y) → (a ≡ b) × (x ≡ y)
unfolding spelled
call_cut (Put k (Insert v)) (Put l (Insert w)) x y ha hb e =
    let keys : text_of k ++ 32 ∷ (61 ∷ (text_of v ++ 32 ∷ x)) ≡ text_of l ++ 32 ∷ (61 ∷ (text_of w ++ 32 ∷ y)) = cc in
    let after = cut 32 (text_of k) (text_of l) _ _ (omega arith) (text_above k) (text_above l) keys in
    let behind : 61 ∷ (text_of v ++ 32 ∷ x) ≡ 61 ∷ (text_of w ++ 32 ∷ y) = after.1 in
    let values : text_of v ++ 32 ∷ x ≡ text_of w ++ 32 ∷ y = cc in
    let end = cut 32 (text_of v) (text_of w) x y (omega arith) (text_above v) (text_above w) values in
    let key : k ≡ l = text_of-injective k l ha.0 hb.0 after.0 in
    let value : v ≡ w = text_of-injective v w ha.1 hb.1 end.0 in
    ((λ i. Put (key i) (Insert (value i))), end.1)
call_cut (Put k (Insert v)) (Put l (Update w)) x y ha hb e = absurd (omega (arith, same_first 112 117 _ _ e))
call_cut (Put k (Insert v)) (Put l Delete) x y ha hb e = absurd (omega (arith, same_first 112 100 _ _ e))
call_cut (Put k (Insert v)) (Look l) x y ha hb e = absurd (omega (arith, same_first 112 103 _ _ e))
call_cut (Put k (Insert v)) (Piece t) x y ha hb e = absurd (omega (arith, same_first 112 115 _ _ e))
call_cut (Put k (Update v)) (Put l (Insert w)) x y ha hb e = absurd (omega (arith, same_first 117 112 _ _ e))
call_cut (Put k (Update v)) (Put l (Update w)) x y ha hb e =
    let keys : text_of k ++ 32 ∷ (61 ∷ (text_of v ++ 32 ∷ x)) ≡ text_of l ++ 32 ∷ (61 ∷ (text_of w ++ 32 ∷ y)) = cc in
    let after = cut 32 (text_of k) (text_of l) _ _ (omega arith) (text_above k) (text_above l) keys in
    let behind : 61 ∷ (text_of v ++ 32 ∷ x) ≡ 61 ∷ (text_of w ++ 32 ∷ y) = after.1 in
    let values : text_of v ++ 32 ∷ x ≡ text_of w ++ 32 ∷ y = cc in
    let end = cut 32 (text_of v) (text_of w) x y (omega arith) (text_above v) (text_above w) values in
    let key : k ≡ l = text_of-injective k l ha.0 hb.0 after.0 in
    let value : v ≡ w = text_of-injective v w ha.1 hb.1 end.0 in
    ((λ i. Put (key i) (Update (value i))), end.1)
call_cut (Put k (Update v)) (Put l Delete) x y ha hb e = absurd (omega (arith, same_first 117 100 _ _ e))
call_cut (Put k (Update v)) (Look l) x y ha hb e = absurd (omega (arith, same_first 117 103 _ _ e))
call_cut (Put k (Update v)) (Piece t) x y ha hb e = absurd (omega (arith, same_first 117 115 _ _ e))
call_cut (Put k Delete) (Put l (Insert w)) x y ha hb e = absurd (omega (arith, same_first 100 112 _ _ e))
call_cut (Put k Delete) (Put l (Update w)) x y ha hb e = absurd (omega (arith, same_first 100 117 _ _ e))
call_cut (Put k Delete) (Put l Delete) x y ha hb e =
    let keys : text_of k ++ 32 ∷ x ≡ text_of l ++ 32 ∷ y = cc in
    let end = cut 32 (text_of k) (text_of l) x y (omega arith) (text_above k) (text_above l) keys in
    let key : k ≡ l = text_of-injective k l ha hb end.0 in
    ((λ i. Put (key i) Delete), end.1)
call_cut (Put k Delete) (Look l) x y ha hb e = absurd (omega (arith, same_first 100 103 _ _ e))
call_cut (Put k Delete) (Piece t) x y ha hb e = absurd (omega (arith, same_first 100 115 _ _ e))
call_cut (Look k) (Put l (Insert w)) x y ha hb e = absurd (omega (arith, same_first 103 112 _ _ e))
call_cut (Look k) (Put l (Update w)) x y ha hb e = absurd (omega (arith, same_first 103 117 _ _ e))
call_cut (Look k) (Put l Delete) x y ha hb e = absurd (omega (arith, same_first 103 100 _ _ e))
call_cut (Look k) (Look l) x y ha hb e =
    let keys : text_of k ++ 32 ∷ x ≡ text_of l ++ 32 ∷ y = cc in
    let end = cut 32 (text_of k) (text_of l) x y (omega arith) (text_above k) (text_above l) keys in
    let key : k ≡ l = text_of-injective k l ha hb end.0 in
    ((λ i. Look (key i)), end.1)
call_cut (Look k) (Piece t) x y ha hb e = absurd (omega (arith, same_first 103 115 _ _ e))
call_cut (Piece s) (Put l (Insert w)) x y ha hb e = absurd (omega (arith, same_first 115 112 _ _ e))
call_cut (Piece s) (Put l (Update w)) x y ha hb e = absurd (omega (arith, same_first 115 117 _ _ e))
call_cut (Piece s) (Put l Delete) x y ha hb e = absurd (omega (arith, same_first 115 100 _ _ e))
call_cut (Piece s) (Look l) x y ha hb e = absurd (omega (arith, same_first 115 103 _ _ e))
call_cut (Piece s) (Piece t) x y ha hb e =
    let starts : end_text s.from ++ 32 ∷ (end_text s.to ++ 32 ∷ x) ≡ end_text t.from ++ 32 ∷ (end_text t.to ++ 32 ∷ y) = cc in
    let after = cut 32 (end_text s.from) (end_text t.from) _ _ (omega arith) (end_above s.from) (end_above t.from) starts in
    let end = cut 32 (end_text s.to) (end_text t.to) x y (omega arith) (end_above s.to) (end_above t.to) after.1 in
    let from : s.from ≡ t.from = end_same s.from t.from ha.0 hb.0 after.0 in
    let to : s.to ≡ t.to = end_same s.to t.to ha.1 hb.1 end.0 in
    ((λ i. Piece (record { from = from i; to = to i })), end.1)

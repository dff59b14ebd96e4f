-- The first reason against a page is one against its first bytes, or else one against its entries and the rest.
use Rattle.std.proofs.Common.{◌≡◌, ℕ, zero, suc, ◌^◌, ◌<◌, Bool, true, false, not, ◌&&◌, cond, eqb, List, ◌++◌, Option, Some, None, refl, arith}
use Rattle.std.specs.Prelude.{replicate}
use Rattle.std.specs.List.{list_all}
use Rattle.std.specs.Option.{option_or}
use Rattle.std.proofs.lemmas.Bool.{eq-eqb, ne_eqb}
use Rattle.byteorder.specs.Endian.{big_bytes}
use Rattle.byteorder.specs.Numbers.{big_number-reads_back}
use Rattle.spl_port.specs.declared.at.At.{At}
use Rattle.spl_port.specs.declared.damaged.Why.{Why}
use Rattle.spl_port.specs.declared.damaged.Why.TheVariants.{Kind, Number, Count}
use Rattle.spl_port.specs.Page.{Rows, kind_fault, number_at, row_count, rows_fault}
use Rattle.spl_page.specs.Frame.{head_fault, head_text}

joined : (a b c : Bool) (x y z : Why) (r : Option Why)
    → cond a (Some x) (cond b (Some y) (cond c (Some z) r)) ≡ option_or (cond a (Some x) (cond b (Some y) (cond c (Some z) None))) r
joined true b c x y z r = refl
joined false true c x y z r = refl
joined false false true x y z r = refl
joined false false false x y z r = refl

pub kind_fault_is : {R : Type 0} (kind : ℕ) (key : R → List ℕ) (found : Option (Rows R)) (at : At) (bytes : List ℕ)
    → kind_fault kind key found at bytes ≡ option_or (head_fault kind at bytes) (rows_fault key found)
kind_fault_is kind key found at bytes = joined _ _ _ Kind Number Count (rows_fault key found)

passes : (kind a b c page branch : ℕ) → a ≡ page → b ≡ branch → 0 < c
    → cond (not (eqb kind kind && eqb 1 1)) (Some Kind) (cond (not (eqb a page && eqb b branch)) (Some Number) (cond (eqb c 0) (Some Count) None)) ≡ None
passes kind a b c page branch p q r =
    let some : c ≡ 0 → ⊥ = λ z. absurd (omega (arith, z)) in
    rw (eq-eqb kind kind refl, eq-eqb a page p, eq-eqb b branch q, ne_eqb c 0 some) refl

-- how many entries a page says that it has that was written with so many
pub count_back : (kind count : ℕ) (at : At) (body : List ℕ) → count < 2 ^ 16 → row_count (head_text kind count at ++ body) ≡ count
count_back kind count at body fits = big_number-reads_back 2 count ((big_bytes 4 at.page ++ big_bytes 8 at.branch) ++ body) fits

-- nothing stands against the first bytes that were written
pub head_passes : (kind count : ℕ) (at : At) (body : List ℕ) → at.page < 2 ^ 32 → at.branch < 2 ^ 64 → count < 2 ^ 16 → 0 < count
    → head_fault kind at (head_text kind count at ++ body) ≡ None
head_passes kind count at body page_fits branch_fits fits some =
    let bytes = head_text kind count at ++ body in
    let page : number_at 4 4 bytes ≡ at.page = big_number-reads_back 4 at.page (big_bytes 8 at.branch ++ body) page_fits in
    let branch : number_at 8 8 bytes ≡ at.branch = big_number-reads_back 8 at.branch body branch_fits in
    let entries : 0 < row_count bytes = omega (arith, count_back kind count at body fits, some) in
    passes kind (number_at 4 4 bytes) (number_at 8 8 bytes) (row_count bytes) at.page at.branch page branch entries

pub zeros_are : (n : ℕ) → list_all (λ byte. eqb byte 0) (replicate n 0) ≡ true
zeros_are zero = refl
zeros_are (suc n) = zeros_are n

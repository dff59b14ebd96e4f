-- The levels of a branch while it is built.
use Rattle.std.proofs.Common.{◌≡◌, ℕ, zero, suc, ◌+◌, ◌-◌, ◌*◌, ◌^◌, ◌<◌, ◌≤◌, ◌↔◌, ap, ◌∙◌, List, [], ◌∷◌, ◌++◌, length, refl, subst, arith}
use Rattle.std.proofs.Math.Nat.{mul-le-mul_left, mul_assoc, pow-suc}
use Rattle.std.proofs.lemmas.List.{length-append, length_push}
use Rattle.spl_port.specs.Page.{IndexRow}
use Rattle.spl_build.specs.Levels.{LevelState, risen}
use Rattle.spl_build.specs.Pyramid.{IsPyramid}
use Rattle.spl_build.specs.Work.{IsStacked}

abbrev levels_of : List IndexRow → List IndexRow → ℕ → LevelState
levels_of waiting above height = record { waiting = waiting; above = above; height = height }

-- one more leaf page
pub stacked_leaf : (leaves total more : ℕ) (waiting above : List IndexRow) (height : ℕ) (row : IndexRow) → above ≡ [] → height ≡ 0 → more ≡ total + 1 →
    IsStacked leaves (levels_of waiting above height) total → IsStacked (leaves + 1) (levels_of (waiting ++ row ∷ []) above height) more
stacked_leaf leaves total more waiting (other ∷ above) height row none low one stacked = absurd cc
stacked_leaf leaves total more waiting [] (suc height) row none low one stacked = absurd (omega (arith, low))
stacked_leaf leaves total more waiting [] zero row none low one stacked =
    let pushed = length_push waiting row in
    let level = stacked.3 in (
      leaves + 1,
      0,
      (refl, refl),
      record {
        packed = omega (arith, level.packed, pushed, stacked.2.0);
        few = omega (arith, level.few, pushed, stacked.2.0);
        total = omega (arith, level.total, one, stacked.2.0, stacked.2.1);
      },
    )

-- one more index page, over the first waiting pages
pub stacked_index : (leaves total more : ℕ) (row parent : IndexRow) (taken rest above : List IndexRow) (height : ℕ) → more ≡ total + 1 → 1 < length (row ∷ (taken ++ rest)) + length above →
    length (row ∷ taken) ≤ 680 → (0 < length rest → 59 ≤ length (row ∷ taken)) →
    IsStacked leaves (levels_of (row ∷ (taken ++ rest)) above height) total → IsStacked leaves (risen rest (above ++ parent ∷ []) height) more
stacked_index leaves total more row parent taken [] above height one roots most many stacked =
    let level = stacked.3 in
    let pushed = length_push above parent in
    let all = length-append taken [] in (
      length above + 1,
      stacked.1 + stacked.0,
      (
        stacked.0,
        stacked.1,
        stacked.2,
        record {
          two = omega (arith, level.packed, level.few, roots, all);
          packed = omega (arith, level.packed, all);
          few = omega (arith, level.few, all, most);
        },
        refl,
      ),
      record {
        packed = omega (arith, pushed);
        few = omega (arith, pushed);
        total = omega (arith, level.total, one);
      },
    )
stacked_index leaves total more row parent taken (next ∷ rest) above height one roots most many stacked =
    let level = stacked.3 in
    let pushed = length_push above parent in
    let all = length-append taken (next ∷ rest) in
    let enough = many (omega arith) in (
      stacked.0,
      stacked.1,
      stacked.2,
      record {
        packed = omega (arith, level.packed, all, pushed, enough);
        few = omega (arith, level.few, all, pushed, most);
        total = omega (arith, level.total, one, pushed);
      },
    )

-- one page without a parent is the top of all others
pub stacked_root : (leaves total : ℕ) (row : IndexRow) (height : ℕ) → IsStacked leaves (levels_of (row ∷ []) [] height) total → IsPyramid leaves height 1 (total - 1)
stacked_root leaves total row height stacked =
    let level = stacked.3 in
    let one : stacked.0 ≡ 1 = omega (arith, level.packed, level.few) in
    let below : stacked.1 ≡ total - 1 = omega (arith, level.total, one) in
    subst (λ n. IsPyramid leaves height 1 n) below (subst (λ n. IsPyramid leaves height n stacked.1) one stacked.2)

-- ---- how many leaf pages a tree of this height has

power_pos : (k : ℕ) → 0 < 59 ^ k
power_pos zero = omega arith
power_pos (suc k) = omega (arith, pow-suc 59 k, power_pos k)

pyramid_base : (leaves height top below : ℕ) → IsPyramid leaves height top below → 59 ^ height * (top - 1) ≤ leaves - 1
pyramid_base leaves zero top below pyramid = omega (arith, pyramid.0)
pyramid_base leaves (suc height) top below pyramid =
    let base = pyramid_base leaves height pyramid.0 pyramid.1 pyramid.2 in
    let step : 59 * (top - 1) ≤ pyramid.0 - 1 = omega (arith, pyramid.3.packed) in
    let more = mul-le-mul_left (59 ^ height) step in
    let same : 59 ^ suc height * (top - 1) ≡ 59 ^ height * (59 * (top - 1)) = ap (λ n. n * (top - 1)) (pow-suc 59 height) ∙ mul_assoc (59 ^ height) 59 (top - 1) in
    omega (arith, base, more, same)

-- a tree with levels over its leaf pages has more of these than 59, so many times over
base_many : (leaves height below : ℕ) → IsPyramid leaves (suc height) 1 below → 59 ^ height < leaves
base_many leaves height below pyramid =
    let base = pyramid_base leaves height pyramid.0 pyramid.1 pyramid.2 in
    let one : 1 ≤ pyramid.0 - 1 = omega (arith, pyramid.3.two) in
    let more = mul-le-mul_left (59 ^ height) one in
    omega (arith, base, more, power_pos height)

pub levels_many : (leaves height below : ℕ) → IsPyramid leaves height 1 below → 1 < height + 1 → 59 ^ (height + 1 - 2) < leaves
levels_many leaves zero below pyramid tall = absurd (omega (arith, tall))
levels_many leaves (suc height) below pyramid tall =
    let same : height ≡ suc height + 1 - 2 = omega arith in
    subst (λ n. 59 ^ n < leaves) same (base_many leaves height below pyramid)

pub levels_one : (leaves height below : ℕ) → IsPyramid leaves height 1 below → (height + 1 ≡ 1) ↔ (leaves ≡ 1)
levels_one leaves zero below pyramid = ((λ low. omega (arith, pyramid.0)), (λ one. refl))
levels_one leaves (suc height) below pyramid =
    ((λ low. absurd (omega (arith, low))), (λ one. absurd (omega (arith, base_many leaves height below pyramid, power_pos height, one))))

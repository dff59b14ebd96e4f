use Rattle.std.proofs.Common.{rules, ◌≡◌, ◌<◌, ◌≤◌, ◌+◌, ℕ, ◌↔◌, List, [], length, map, ap, subst, sym, arith}
use Rattle.std.specs.Prelude.{Contains}
use Rattle.spl_quotient.specs.Exponent.{IsExponent}
use Rattle.spl_quotient.specs.Fnv.{print_of}
use Rattle.spl_branch.specs.Branch.{Branch, IsBranch}
use Rattle.spl_build.specs.Builder.{IsCompact, IsFilterOf}
use Rattle.spl_build.specs.Work.{IsWork, WorkState}
use Rattle.spl_build.proofs.Closing.{branch_made, compact_made, few_hashes, few_levels}
use Rattle.spl_build.proofs.work.Work.build.Goals as goal

pub of_hashes-requires : goal.of_hashes-requires
of_hashes-requires g c =
    let sound = subst IsWork (sym c.self.view_is) c.requires.sound in
    let leaf = subst (λ (w : WorkState). w.begun ≡ []) (sym c.self.view_is) c.requires.leaf in
    omega (arith, few_hashes _ sound c.close.ensures.sound c.close.ensures.most leaf, ap (λ xs. length xs) c.deref.ensures.value)

pub overflow_add-height : goal.overflow_add-height
overflow_add-height g c =
    let sound = subst IsWork (sym c.self.view_is) c.requires.sound in
    omega (arith, few_levels _ sound c.close.ensures.sound c.close.ensures.most, c.height.ensures)

pub new-requires-2-after_bounds : goal.new-requires-2-after_bounds
new-requires-2-after_bounds g c =
    let sound = subst IsWork (sym c.self.view_is) c.requires.sound in
    let leaf = subst (λ (w : WorkState). w.begun ≡ []) (sym c.self.view_is) c.requires.leaf in
    let some = subst (λ (w : WorkState). 0 < length w.hashes) (sym c.self.view_is) c.requires.some in
    let root = subst (λ (w : WorkState). length w.levels.waiting + length w.levels.above ≤ 1) (sym c.self.view_is) c.requires.root in
    let exponent = subst (λ (hs : List ℕ). IsExponent (length hs) c.in_ok-filter.filter.q) c.deref.ensures.value c.in_ok-filter.ensures.exponent in
    let prints = subst (λ (hs : List ℕ). (print : ℕ) → Contains c.in_ok-filter.filter.prints print ↔ Contains (map (print_of c.in_ok-filter.filter.q) hs) print) c.deref.ensures.value c.in_ok-filter.ensures.prints in
    let entries : c.len.result ≡ length c.self.inside.keys.hashes.items = omega (arith, c.len.ensures, c.self.inside.keys.hashes.ok.0) in
    λ κs within.
    branch_made _ c.in_ok-filter.filter sound leaf some root c.close.ensures.sound c.close.ensures.most exponent prints
    _ _ _ _ _ _ c.number-number.ensures c.in_ok-closed.ensures.extents c.in_ok-closed.ensures.parts (ap (λ n. n + 1) c.height.ensures) entries (ap (λ cuts. cuts.items) c.replace.ensures.value)

pub returns-clause-built : goal.returns-clause-built
returns-clause-built g c =
    let exponent = subst (λ (hs : List ℕ). IsExponent (length hs) c.in_ok-filter.filter.q) c.deref.ensures.value c.in_ok-filter.ensures.exponent in
    let prints = subst (λ (hs : List ℕ). (print : ℕ) → Contains c.in_ok-filter.filter.prints print ↔ Contains (map (print_of c.in_ok-filter.filter.q) hs) print) c.deref.ensures.value c.in_ok-filter.ensures.prints in
    let sound = subst IsWork (sym c.self.view_is) c.requires.sound in
    let leaf = subst (λ (w : WorkState). w.begun ≡ []) (sym c.self.view_is) c.requires.leaf in
    let some = subst (λ (w : WorkState). 0 < length w.hashes) (sym c.self.view_is) c.requires.some in
    let root = subst (λ (w : WorkState). length w.levels.waiting + length w.levels.above ≤ 1) (sym c.self.view_is) c.requires.root in
    let entries : c.len.result ≡ length c.self.inside.keys.hashes.items = omega (arith, c.len.ensures, c.self.inside.keys.hashes.ok.0) in
    let filter : IsFilterOf c.self.inside.keys.hashes.items c.in_ok-filter.filter = record { exponent = exponent; prints = prints } in
    let here = subst (λ (w : WorkState). IsFilterOf w.hashes c.in_ok-filter.filter) c.self.view_is filter in
    record {
      number = search rules;
      extents = search rules;
      entries = search rules;
      cuts = search rules;
      filter = subst (λ (b : Branch). IsFilterOf c.args.self.now.hashes b.filter) (sym c.new-2.ensures) here;
      sound = subst IsBranch (sym c.new-2.ensures)
          (branch_made _ c.in_ok-filter.filter sound leaf some root c.close.ensures.sound c.close.ensures.most exponent prints
          _ _ _ _ _ _ c.number-number.ensures c.in_ok-closed.ensures.extents c.in_ok-closed.ensures.parts (ap (λ n. n + 1) c.height.ensures) entries (ap (λ cuts. cuts.items) c.replace.ensures.value));
      compact = subst IsCompact (sym c.new-2.ensures)
          (compact_made _ c.in_ok-filter.filter sound leaf some root c.close.ensures.sound c.close.ensures.most exponent prints
          _ _ _ _ _ _ c.number-number.ensures c.in_ok-closed.ensures.extents c.in_ok-closed.ensures.parts (ap (λ n. n + 1) c.height.ensures) entries (ap (λ cuts. cuts.items) c.replace.ensures.value));
      table = search rules;
    }

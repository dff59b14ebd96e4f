-- A branch is finished in rounds, and has one extent more at each.
use Rattle.std.proofs.Common.{◌≡◌, ◌≢◌, ◌⊎◌, inl, inr, ℕ, ◌+◌, ◌*◌, ◌≤◌, Bool, List, [], ◌∷◌, ◌++◌, length, None, refl, sym, ap, subst, ◌∙◌, append_assoc, append-nil, length-append, arith}
use Rattle.spl_message.specs.Table.{as_table}
use Rattle.spl_port.specs.Seal.{Sealed}
use Rattle.spl_branch.specs.Branch.{Branch}
use Rattle.spl_branch.specs.Pages.{page_total}
use Rattle.spl_build.specs.declared.stage.Stage.TheVariants.{Finishing, Over}
use Rattle.spl_build.specs.Builder.{Building, Builds, IsFilterOf, Keeps, Needs}
use Rattle.spl_build.specs.Written.{IsFull}
use Rattle.spl_desk.specs.Holder.{Holder}
use Rattle.spl_job.specs.Holding.{Builds as IsBuilder, Holding, IsHolding}
use Rattle.spl_output.specs.Building.{BuildsAt, Extends, after_grants, with_extents}

-- What was added stays, and the builder has these extents more, which the actor was granted. Where one was granted, the pages fill those
-- before it. Where nothing was added, it has what it had.
pub record HasGrown (tells : Bool) (old new : Holder) (start now : Building) : Type 0 where
  pub granted : List ℕ
  pub needed : (granted ≡ []) ⊎ (32 * length now.extents ≤ page_total now.parts + 32)
  pub kept : Keeps tells (with_extents start granted) now
  pub holds : (holding : Holding) → IsHolding old holding → IsHolding new (after_grants holding granted)
  pub none : start.entries ≡ 0 → (holding : Holding) → IsHolding old holding → IsHolding new holding

pub grown_first : (tells : Bool) (old : Holder) (start : Building) → HasGrown tells old old start start
grown_first tells old start = record {
  granted = [];
  needed = inl refl;
  kept = record {
    number = refl;
    extents = sym (append-nil start.extents);
    entries = refl;
    hashes = refl;
    cuts = refl;
    last = refl;
    table = λ told. refl;
  };
  holds = λ holding is. subst (λ (extents : List ℕ). IsHolding old (record holding { extents = extents })) (sym (append-nil holding.extents)) is;
  none = λ nothing holding is. is;
}

more_needed : (extents : List ℕ) (extent : ℕ) (parts : List Sealed) → IsFull extents parts → 32 * length (extents ++ extent ∷ []) ≤ page_total parts + 32
more_needed extents extent parts full =
    let longer : length (extents ++ extent ∷ []) ≡ length extents + 1 = length-append extents (extent ∷ []) in
    let more : 32 * length (extents ++ extent ∷ []) ≡ 32 * (length extents + 1) = ap (λ (n : ℕ). 32 * n) longer in
    omega (arith, full, more)

pub grown_more : (tells : Bool) (old mid new : Holder) (start before full after : Building) → HasGrown tells old mid start before → before.entries ≢ 0 → Needs tells before full → Extends mid new full after → HasGrown tells old new start after
grown_more tells old mid new start before full after grown some needs more =
    let kept = grown.kept in
    let on = needs.kept in
    record {
      granted = grown.granted ++ more.extent ∷ [];
      needed = inr (subst (λ (b : Building). 32 * length b.extents ≤ page_total b.parts + 32) (sym more.builder) (more_needed full.extents more.extent full.parts needs.full));
      kept = subst (Keeps tells (with_extents start (grown.granted ++ more.extent ∷ []))) (sym more.builder) (record {
        number = on.number ∙ kept.number;
        extents = ap (λ (extents : List ℕ). extents ++ more.extent ∷ []) (on.extents ∙ kept.extents) ∙ append_assoc start.extents grown.granted (more.extent ∷ []);
        entries = on.entries ∙ kept.entries;
        hashes = on.hashes ∙ kept.hashes;
        cuts = on.cuts ∙ kept.cuts;
        last = on.last ∙ kept.last;
        table = λ told. on.table told ∙ kept.table told;
      });
      holds = λ holding is. subst (λ (extents : List ℕ). IsHolding new (record holding { extents = extents })) (append_assoc holding.extents grown.granted (more.extent ∷ []))
          (more.holds (after_grants holding grown.granted) (grown.holds holding is));
      none = λ nothing. absurd (some (kept.entries ∙ nothing));
    }

-- the branch of the last round is that of the first
builds_kept : (tells : Bool) (start now : Building) (branch : Branch) → Keeps tells start now → Builds tells now branch → Builds tells start branch
builds_kept tells start now branch kept builds = record {
  number = builds.number ∙ kept.number;
  extents = builds.extents ∙ kept.extents;
  entries = builds.entries ∙ kept.entries;
  cuts = builds.cuts ∙ kept.cuts;
  filter = subst (λ (hashes : List ℕ). IsFilterOf hashes branch.filter) kept.hashes builds.filter;
  sound = builds.sound;
  compact = builds.compact;
  table = λ told. builds.table told ∙ ap as_table (kept.table told);
}

still_needed : (granted before after : List ℕ) (old new : ℕ) → after ≡ before → old ≤ new → (granted ≡ []) ⊎ (32 * length before ≤ old + 32) → (granted ≡ []) ⊎ (32 * length after ≤ new + 32)
still_needed granted before after old new same more (inl none) = inl none
still_needed granted before after old new same more (inr few) =
    let as_many : 32 * length after ≡ 32 * length before = ap (λ (es : List ℕ). 32 * length es) same in
    inr (omega (arith, as_many, more, few))

pub builds_at : (tells : Bool) (old new : Holder) (start now : Building) (branch : Branch) → HasGrown tells old new start now → page_total now.parts ≤ page_total branch.parts → Builds tells now branch → BuildsAt tells old new start branch
builds_at tells old new start now branch grown pages builds = record {
  granted = grown.granted;
  needed = still_needed grown.granted now.extents branch.extents (page_total now.parts) (page_total branch.parts) builds.extents pages grown.needed;
  builds = builds_kept tells (with_extents start grown.granted) now branch grown.kept builds;
  holds = grown.holds;
}

-- the actor still builds
pub builds_on : (tells : Bool) (old new : Holder) (start now : Building) → HasGrown tells old new start now → (holding : Holding) × IsHolding old holding × IsBuilder holding → (holding : Holding) × IsHolding new holding × IsBuilder holding
builds_on tells old new start now grown had = (after_grants had.0 grown.granted, grown.holds had.0 had.1, had.2)

-- with one extent more, the builder goes on
pub extended_stopped : (old new : Holder) (before after : Building) → Extends old new before after → before.stopped ≡ None → after.stopped ≡ None
extended_stopped old new before after more none = ap (λ (b : Building). b.stopped) more.builder ∙ none

pub extended_stage : (old new : Holder) (before after : Building) → Extends old new before after → before.stage ≡ Finishing → after.stage ≢ Over
extended_stage old new before after more finishing = λ over. (let is = ap (λ (b : Building). b.stage) more.builder ∙ finishing in cc (over, is))

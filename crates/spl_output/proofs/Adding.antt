-- A key goes into a branch that has one extent more.
use Rattle.std.proofs.Common.{◌≡◌, ℕ, ◌+◌, ◌*◌, Bool, List, [], ◌∷◌, ◌++◌, Some, length, refl, ap, subst, ◌∙◌, length-append, arith}
use Rattle.spl_message.specs.declared.message.Message.{Message}
use Rattle.spl_port.specs.Seal.{Sealed}
use Rattle.spl_branch.specs.Pages.{page_total}
use Rattle.spl_build.specs.declared.answer.Add.{Add}
use Rattle.spl_build.specs.declared.answer.Add.TheVariants as add
use Rattle.spl_build.specs.Builder.{Adds, Building, HasNoRoom}
use Rattle.spl_build.specs.Written.{IsFull}
use Rattle.spl_desk.specs.Holder.{Holder}
use Rattle.spl_output.specs.Building.{AddsAt, Extends, with_granted}

-- with one extent more the branch is not full
not_full_twice : (extents : List ℕ) (extent : ℕ) (parts : List Sealed) → IsFull extents parts → IsFull (extents ++ extent ∷ []) parts → ⊥
not_full_twice extents extent parts once twice =
    let longer : length (extents ++ extent ∷ []) ≡ length extents + 1 = length-append extents (extent ∷ []) in
    let more : page_total parts ≡ 32 * (length extents + 1) = twice ∙ ap (λ (n : ℕ). 32 * n) longer in
    omega (arith, once, more)

-- so the key goes in at the second try
pub add_again : (tells : Bool) (old new : Holder) (start before mid after : Building) (key : List ℕ) (message : Message) (answer : Add) → before ≡ start → HasNoRoom start key message → Extends old new before mid → (answer ≡ add.Needs → HasNoRoom mid key message) → (answer ≡ add.Done → Adds tells mid after key message) → AddsAt tells old new start after key message
add_again tells old new start before mid after key message answer same none more needs done = by answer refl
  where
    is_mid : mid ≡ with_granted start (Some more.extent)
    is_mid = more.builder ∙ ap (λ (b : Building). with_granted b (Some more.extent)) same

    by : (a : Add) → answer ≡ a → AddsAt tells old new start after key message
    by add.Needs is =
        let full : HasNoRoom (with_granted start (Some more.extent)) key message = subst (λ (b : Building). HasNoRoom b key message) is_mid (needs is) in
        absurd (not_full_twice start.extents more.extent start.parts none.1 full.1)
    by add.Done is = record {
      granted = Some more.extent;
      needed = λ has. none;
      adds = subst (λ (b : Building). Adds tells b after key message) is_mid (done is);
      holds = more.holds;
    }

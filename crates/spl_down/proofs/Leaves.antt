-- What a descent knows at a leaf: nothing lies below, so each key has what the leaf's branches have.
use Rattle.std.proofs.Common.{◌≡◌, ℕ, true, List, None, ap, ◌∙◌}
use Rattle.spl_message.specs.Cell.{Cell}
use Rattle.spl_message.specs.Message.{act_all}
use Rattle.spl_message.specs.Span.{InSpan}
use Rattle.spl_message.specs.Table.{chain}
use Rattle.spl_state.specs.declared.sight.Sight.{Sight}
use Rattle.spl_descent.specs.Descents.{child_of}
use Rattle.spl_descent.specs.Sights.{below, rest, rest_below}
use Rattle.spl_desk.specs.Holder.{BranchKind, Holder}
use Rattle.spl_down.specs.Descending.{Arrived, descent_of, tables_in}

pub at_leaf : {B : Type 0} (kind : BranchKind B) (holder : Holder) (sight : Sight B) → Arrived kind holder sight → sight.leaf ≡ true → (key : List ℕ) → InSpan sight.span key → rest holder.rule holder.at sight.node key ≡ act_all holder.rule key None (chain (tables_in kind sight) key)
at_leaf kind holder sight arrived low key inside =
    let none : rest_below holder.rule holder.at (descent_of sight) key ≡ None = ap (λ (h : ℕ). below holder.rule holder.at (child_of holder.at (descent_of sight)) h key) (arrived.at.leaf.0 low) in
    arrived.right key inside ∙ ap (λ (c : Cell). act_all holder.rule key c (chain (tables_in kind sight) key)) none

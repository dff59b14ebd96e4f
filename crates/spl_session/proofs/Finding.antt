-- What a lookup has found at a node, and below it.
use Rattle.std.proofs.Common.{◌≡◌, ℕ, ◌<◌, ◌≤◌, Bool, true, false, ◌||◌, List, ◌++◌, Option, Some, None, option_to_list, refl, sym, ap, ◌∙◌, arith}
use Rattle.spl_message.specs.declared.message.Message.{Message}
use Rattle.spl_message.specs.Cell.{Cell}
use Rattle.spl_message.specs.Message.{act_all, settle}
use Rattle.spl_message.specs.Rule.{Rule}
use Rattle.spl_message.specs.Table.{chain}
use Rattle.spl_trunk.specs.Trunk.{node_at}
use Rattle.spl_state.specs.declared.sight.Sight.{Sight}
use Rattle.spl_descent.specs.Sights.{below, rest, rest_below}
use Rattle.spl_descent.specs.Descents.{child_of}
use Rattle.spl_port.specs.Counts.{Counts, Rose}
use Rattle.spl_branch.specs.Reading.{OnlyReads}
use Rattle.spl_desk.specs.declared.fault.CallFault.{CallFault}
use Rattle.spl_desk.specs.declared.fault.CallFault.TheVariants as call_fault
use Rattle.spl_desk.specs.Holder.{BranchKind, Holder}
use Rattle.spl_session.specs.Asking.{Folds, HasReadCause, decides}
use Rattle.spl_down.specs.Descending.{Arrived, Descended, descent_of, tables_in}
use Rattle.spl_message.specs.Span.{InSpan}
use Rattle.spl_session.specs.Looking.{HasLookCause, is_last}
use Rattle.spl_session.proofs.Asking.{acts_on, decided_same}

-- the one message of no value comes to what it settles to
pub settles : (rule : Rule) (key : List ℕ) (found : Option Message) → settle rule key found ≡ act_all rule key None (option_to_list found)
settles rule key None = refl
settles rule key (Some message) = refl

module _ {B : Type 0} (kind : BranchKind B) (key : List ℕ) where
  module _ (holder : Holder) (sight : Sight B) (newer found : Option Message) (folds : Folds holder.rule key (chain (tables_in kind sight) key ++ option_to_list newer) found) where
    -- what lies below, the node's tables and what was found above make the cell
    over : (low : Cell) → act_all holder.rule key low (option_to_list found) ≡ act_all holder.rule key (act_all holder.rule key low (chain (tables_in kind sight) key)) (option_to_list newer)
    over low = folds low ∙ acts_on holder.rule key low (chain (tables_in kind sight) key) (option_to_list newer)

    pub found_last : Arrived kind holder sight → InSpan sight.span key → is_last sight found ≡ true → act_all holder.rule key None (option_to_list found) ≡ act_all holder.rule key (rest holder.rule holder.at sight.node key) (option_to_list newer)
    found_last arrived inside last =
        let rule = holder.rule in
        let low = rest_below rule holder.at (descent_of sight) key in
        let right = arrived.right key inside in
        by sight.leaf refl last ∙ over low ∙ ap (λ (c : Cell). act_all rule key c (option_to_list newer)) (sym right)
      where
        by : (leaf : Bool) → sight.leaf ≡ leaf → (leaf || decides found) ≡ true → act_all holder.rule key None (option_to_list found) ≡ act_all holder.rule key (rest_below holder.rule holder.at (descent_of sight) key) (option_to_list found)
        by true is last =
            let height : (node_at holder.at.nodes sight.node).height ≡ 0 = arrived.at.leaf.0 is in
            let none : rest_below holder.rule holder.at (descent_of sight) key ≡ None = ap (λ (h : ℕ). below holder.rule holder.at (child_of holder.at (descent_of sight)) h key) height in
            ap (λ (c : Cell). act_all holder.rule key c (option_to_list found)) (sym none)
        by false is last = decided_same holder.rule key found last None (rest_below holder.rule holder.at (descent_of sight) key)

    pub found_on : (new : Holder) (next : Sight B) → Descended kind holder new sight next → InSpan next.span key → kind.tells ≡ true → act_all holder.rule key (rest holder.rule new.at next.node key) (option_to_list found) ≡ act_all holder.rule key (rest holder.rule holder.at sight.node key) (option_to_list newer)
    found_on new next moved inside tells =
        over (rest holder.rule new.at next.node key) ∙ ap (λ (c : Cell). act_all holder.rule key c (option_to_list newer)) (sym (moved.leads tells key inside))

-- what stopped asking the branches stopped the lookup
pub read_stops : (tells : Bool) (start mid after : Counts) (new : Holder) (fault : CallFault) → OnlyReads start mid → HasReadCause tells mid after fault → HasLookCause tells start after new fault
read_stops tells start mid after new call_fault.Fault only cause = rose start.faults mid.faults after.faults only.faults cause
  where
    rose : (a b c : ℕ) → a ≤ b → Rose b c → Rose a c
    rose a b c below r = omega (arith, below, r)
read_stops tells start mid after new (call_fault.Damaged damage) only cause =
    let before : start.reads ≤ mid.reads = only.reads in
    let read : mid.reads < after.reads = cause.1.1.read in
    (cause.0, (cause.1.0, record { untold = cause.1.1.untold; place = cause.1.1.place; page = cause.1.1.page; read = omega (arith, before, read) }))
read_stops tells start mid after new call_fault.Full only cause = absurd cause
read_stops tells start mid after new call_fault.Nodes only cause = absurd cause
read_stops tells start mid after new (call_fault.Spent turns) only cause = absurd cause
read_stops tells start mid after new call_fault.NoMemory only cause = tt

-- What a descent of a holder knows at a node.
use Rattle.std.specs.Prelude.{◌≡◌, ◌≢◌, ℕ, ◌+◌, ◌≤◌, ◌↔◌, IsTrue, true, false, List, [], ◌∷◌, map, Some}
use Rattle.spl_message.specs.declared.span.Span.{Span}
use Rattle.spl_message.specs.Message.{act_all}
use Rattle.spl_message.specs.History.{History, cell_at}
use Rattle.spl_message.specs.Span.{InSpan}
use Rattle.spl_message.specs.Table.{Table, chain, part_of}
use Rattle.spl_message.specs.declared.call.Call.TheVariants as call
use Rattle.spl_numbers.specs.Numbers.{has}
use Rattle.spl_extent.specs.Pool.{granted_to}
use Rattle.spl_state.specs.declared.descent.Descent.{Descent}
use Rattle.spl_state.specs.declared.reply.Reply.{Reply}
use Rattle.spl_state.specs.declared.reply.Reply.TheVariants as reply
use Rattle.spl_state.specs.declared.sight.Sight.{Sight}
use Rattle.spl_state.specs.Actor.{actor_in}
use Rattle.spl_state.specs.Sound.{IsSound}
use Rattle.spl_descent.specs.Sights.{IsRight, rest, tables_seen}
use Rattle.spl_desk.specs.Calls.{IsOnlyCall, IsSpentAt}
use Rattle.spl_desk.specs.declared.fault.CallFault.{CallFault}
use Rattle.spl_desk.specs.declared.fault.CallFault.TheVariants.{Spent, NoMemory}
use Rattle.spl_desk.specs.Holder.{BranchKind, Holder}
use Rattle.spl_desk.specs.Turn.{Turn}
use Rattle.spl_desk.specs.Walk.{Went}
use Rattle.spl_down.specs.Arrivals.{arrival_in, arrivals_in, height_in, others_than_again}
use Rattle.spl_down.specs.Spans.{IsFront}

-- the holder has made as many steps as it may, or memory ran out
abbrev pub HasTurnCause : Holder → CallFault → Type 0
HasTurnCause new (Spent turns) = IsSpentAt turns new
HasTurnCause new NoMemory = Unit {0}
HasTurnCause new _ = ⊥

module _ {B : Type 0} where
  -- where a descent that was given the sight is
  abbrev pub descent_of : Sight B → Descent
  descent_of sight = record { place = sight.place; span = sight.span; node = sight.node }

  -- the tables of the sight's branches, oldest first
  abbrev pub tables_in : BranchKind B → Sight B → List Table
  tables_in kind sight = map (λ branch. (kind.data_of branch).table) sight.branches

  -- the holder's descent is at the node of the sight, whose live tables are those of its branches
  pub record IsAt (kind : BranchKind B) (holder : Holder) (sight : Sight B) : Type 0 where
    pub descent : (actor_in holder.at.actors holder.actor).descent ≡ Some (descent_of sight)
    pub leaf : IsTrue sight.leaf ↔ (height_in holder.at sight ≡ 0)
    pub tables : tables_seen holder.at (descent_of sight) ≡ map (part_of sight.span) (tables_in kind sight)
    pub extents : (extent : ℕ) → has (granted_to holder.at.owners holder.actor) extent ≡ false
    pub sound : IsSound holder.at

  -- the descent has just come there: for each key of the span the node has what its branches make of what lies below
  pub record Arrived (kind : BranchKind B) (holder : Holder) (sight : Sight B) : Type 0 where
    pub at : IsAt kind holder sight
    pub right : IsRight holder.rule holder.at (descent_of sight) (tables_in kind sight)

  -- since the sight was given nothing changed for its keys, and its node is as high as before
  pub record Waits (kind : BranchKind B) (old new : Holder) (sight : Sight B) : Type 0 where
    pub at : IsAt kind new sight
    pub height : height_in new.at sight ≡ height_in old.at sight
    pub rest : kind.tells ≡ true → (key : List ℕ) → InSpan sight.span key → rest old.rule new.at sight.node key ≡ rest old.rule old.at sight.node key

  -- A descent over the span has come to the root. At a leaf it has the whole span, and else the part up to the end of a pivot.
  pub record HasEntered (kind : BranchKind B) (holder : Holder) (span : Span) (sight : Sight B) : Type 0 where
    pub arrived : Arrived kind holder sight
    pub root : sight.node ≡ 0
    pub front : IsFront span sight.span
    pub leaf : sight.leaf ≡ true → sight.span ≡ span

  -- The descent of the one sight has come to the node of the next, which is one lower. For each key that is left of the span the parent
  -- had what its branches make of what the child has.
  pub record Descended (kind : BranchKind B) (old new : Holder) (sight next : Sight B) : Type 0 where
    pub arrived : Arrived kind new next
    pub place : next.place ≡ sight.place
    pub front : IsFront sight.span next.span
    pub lower : height_in new.at next + 1 ≡ height_in old.at sight
    pub memtables : next.tables ≡ []
    pub leads : kind.tells ≡ true → (key : List ℕ) → InSpan next.span key
        → rest old.rule old.at sight.node key ≡ act_all old.rule key (rest old.rule new.at next.node key) (chain (tables_in kind sight) key)

  -- By these turns the holder got the sight. Its only call is the look at the span, at the sight's place, and where devices tell, the cell of
  -- each key there is what the memtables make of what the root has.
  pub record IsBegin (kind : BranchKind B) (old : Holder) (history : History) (new : Holder) (span : Span) (sight : Sight B) (turns : List (Turn B)) (seen : History) : Type 0 where
    pub only_call : IsOnlyCall old.actor history (call.Piece span) sight.place turns seen
    pub few : others_than_again turns ≤ 1
    pub arrivals : arrivals_in turns ≡ arrival_in new.at sight ∷ []
    pub cells : kind.tells ≡ true → (key : List ℕ) → InSpan sight.span key
        → cell_at old.rule seen sight.place key ≡ act_all old.rule key (rest old.rule new.at sight.node key) (chain sight.tables key)

  abbrev pub Began : BranchKind B → Holder → History → Holder → (History → Type 0) → Span → Sight B → Type 0
  Began kind old history new Saw span sight = Went kind old history new Saw (IsBegin kind old history new span sight)

  -- the answer is a sight, or that the step has to be made again, or that memory ran out
  abbrev pub MaySee : Reply B → Type 0
  MaySee answer = ((sight : Sight B) → answer ≢ reply.Sight sight) → ((node by : ℕ) → answer ≢ reply.Again node by) → answer ≡ reply.NoMemory

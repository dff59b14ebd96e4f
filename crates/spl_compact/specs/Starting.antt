-- What the begin of a merge answers, and what it makes of the state.
use Rattle.std.specs.Prelude.{◌≡◌, ℕ, ◌+◌, ◌-◌, ◌<◌, ◌^◌, nat_lt, nat_eq, Bool, ◌&&◌, ◌||◌, not, if◌then◌else◌, is_some, List, [], ◌∷◌, Option, Some, None, length, take, drop, find, slice_set}
use Rattle.std.specs.Option.{option_or}
use Rattle.spl_bundle.specs.Numbered.{Bundle, Numbered, next_of, marked}
use Rattle.spl_node.specs.declared.pivot.Pivot.{Pivot}
use Rattle.spl_node.specs.Node.{NodeData}
use Rattle.spl_node.specs.Parts.{branches_from}
use Rattle.spl_refs.specs.Refs.{Published}
use Rattle.spl_trunk.specs.Trunk.{node_at, with_lists_at}
use Rattle.spl_trunk.specs.Tree.{times}
use Rattle.spl_state.specs.declared.actor.Actor.{Actor}
use Rattle.spl_state.specs.declared.job.Job.TheVariants.{Merge}
use Rattle.spl_state.specs.declared.job.Run.{Run}
use Rattle.spl_state.specs.declared.reply.Reply.{Reply}
use Rattle.spl_state.specs.declared.reply.Reply.TheVariants as reply
use Rattle.spl_state.specs.declared.sight.Ticket.{Ticket}
use Rattle.spl_state.specs.Actor.{actor_in, with_job, told_of}
use Rattle.spl_state.specs.Reply.{state_of}
use Rattle.spl_state.specs.Whole.{BranchData, Whole, branches, counts}
use Rattle.spl_descent.specs.Sights.{AreBranches}

-- each count is so far below the end of its type that a step can raise it
abbrev pub HasRoom : Whole → Type 0
HasRoom whole = (number : ℕ) → counts whole number < 2 ^ 62

-- the actor descends, or has a job
abbrev pub is_busy : Actor → Bool
is_busy actor = is_some actor.descent || is_some actor.job

-- there are bundles from `first` up to `last`, and all of them stand
abbrev pub all_stand : Numbered → ℕ → ℕ → Bool
all_stand queue first last =
    not (nat_lt last first) && (not (nat_lt first queue.first) && nat_lt last (next_of queue))

-- some of the bundles from `first` up to `last` are live for the pivot, and some are not
abbrev pub crosses : ℕ → ℕ → Pivot → Bool
crosses first last pivot = nat_lt first pivot.mark && not (nat_lt last pivot.mark)

-- the bundles from `first` on and below `end`
abbrev pub run_below : Numbered → ℕ → ℕ → List Bundle
run_below queue first end = take (end - first) (drop (first - queue.first) queue.bundles)

-- the actor of the first mark
abbrev pub first_owner : List Bundle → Option ℕ
first_owner [] = None
first_owner (bundle ∷ bundles) = option_or bundle.owner (first_owner bundles)

-- nothing older lies below the bundle
abbrev pub is_bottom : NodeData → ℕ → Bool
is_bottom node first = nat_eq node.height 0 && nat_eq first node.lists.first

-- the run of the bundles from `first` up to `last`
abbrev pub run_at : Whole → ℕ → ℕ → ℕ → Run
run_at whole node first last = record {
  node = node;
  first = first;
  last = last;
  generation = (node_at whole.nodes node).generation;
  span = (node_at whole.nodes node).range;
  bottom = is_bottom (node_at whole.nodes node) first;
  inputs = branches_from (node_at whole.nodes node).lists first (last + 1);
}

-- the actor's job is to merge the run into a branch with the next number, the run's bundles carry its mark, and
-- it was told of the node
abbrev pub started_with : Whole → Published BranchData → ℕ → ℕ → ℕ → ℕ → Whole
started_with whole refs actor node first last = record whole {
  nodes = with_lists_at whole.nodes node (marked (node_at whole.nodes node).lists first last (Some actor));
  refs = refs;
  actors = slice_set whole.actors actor
      (told_of (with_job (actor_in whole.actors actor) (Some (Merge whole.counters.branches (run_at whole node first last)))) node);
  counters = record whole.counters { branches = whole.counters.branches + 1 };
}

-- and each input is named once more, while the branches stay what they were
pub record Starts (old new : Whole) (actor node first last : ℕ) : Type 0 where
  pub all : new ≡ started_with old new.refs actor node first last
  pub counts : (number : ℕ)
      → counts new number ≡ counts old number + times number (run_at old node first last).inputs
  pub same : (number : ℕ) → branches new number ≡ branches old number

module _ {B : Type 0} where
  -- the run and the branch to be made of it, and the run's branches
  pub record IsTicketOf (number_of : B → ℕ) (data_of : B → BranchData) (whole : Whole) (run : Run)
      (ticket : Ticket B) : Type 0 where
    pub node : ticket.node ≡ run.node
    pub first : ticket.first ≡ run.first
    pub last : ticket.last ≡ run.last
    pub generation : ticket.generation ≡ run.generation
    pub span : ticket.span ≡ run.span
    pub bottom : ticket.bottom ≡ run.bottom
    pub number : ticket.number ≡ whole.counters.branches
    pub inputs : AreBranches number_of data_of (branches whole) run.inputs ticket.inputs

  -- one thing holds where the answer is a ticket, and another where it is not
  abbrev pub OnTicket : Reply B → (Ticket B → Type 0) → Type 0 → Type 0
  OnTicket (reply.Ticket ticket) IsGiven IsElse = IsGiven ticket
  OnTicket answer IsGiven IsElse = IsElse

  abbrev pub IfTicket : Reply B → (Ticket B → Type 0) → Type 0
  IfTicket answer IsGiven = OnTicket answer IsGiven (Unit {0})

  abbrev pub unless_marked : Option ℕ → Option (Reply B)
  unless_marked None = None
  unless_marked (Some by) = Some (reply.Busy by)

  abbrev pub unless_crossed : Option Pivot → Option (Reply B) → Option (Reply B)
  unless_crossed None refusal = refusal
  unless_crossed (Some pivot) refusal = Some (reply.Crossed pivot.child pivot.mark)

  -- why the bundles of the node can't be merged: not all stand, a pivot's mark parts them, or one carries a mark
  abbrev pub refusal_at : NodeData → ℕ → ℕ → Option (Reply B)
  refusal_at node first last =
      if all_stand node.lists first last
      then unless_crossed (find (crosses first last) node.pivots)
      (unless_marked (first_owner (run_below node.lists first (last + 1))))
      else Some (reply.Gone last node.lists.first)

  -- why an actor can't begin to merge them
  abbrev pub start_refusal : Whole → ℕ → ℕ → ℕ → ℕ → Option (Reply B)
  start_refusal whole actor node first last =
      if is_busy (actor_in whole.actors actor) then Some (reply.Unfit (state_of whole actor))
      else if nat_lt node (length whole.nodes) then refusal_at (node_at whole.nodes node) first last
      else Some (reply.NoNode (length whole.nodes))

  -- the answer is the refusal, where there is one, and else a ticket, unless memory runs out
  abbrev pub AnswersTicket : Option (Reply B) → Reply B → Type 0
  AnswersTicket (Some refusal) answer = answer ≡ refusal
  AnswersTicket None answer = OnTicket answer (λ ticket. Unit {0}) (answer ≡ reply.NoMemory)

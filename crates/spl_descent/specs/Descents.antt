-- What the steps of a descent answer, and what they make of the state.
use Rattle.std.specs.Prelude.{ℕ, ◌+◌, nat_lt, nat_eq, Bool, ◌||◌, if◌then◌else◌, List, Option, Some, None, slice_set}
use Rattle.spl_message.specs.declared.span.Span.{Span}
use Rattle.spl_message.specs.Span.{first_end}
use Rattle.spl_bundle.specs.Numbered.{live}
use Rattle.spl_node.specs.Node.{NodeData, pivot_at, span_of}
use Rattle.spl_trunk.specs.Trunk.{node_at}
use Rattle.spl_trunk.specs.Tree.{number_of}
use Rattle.spl_holds.specs.declared.grip.Grip.TheVariants.{Free, Read}
use Rattle.spl_holds.specs.Latch.{writer_of}
use Rattle.spl_holds.specs.Holds.{grips_at, with_grip}
use Rattle.spl_state.specs.declared.descent.Descent.{Descent}
use Rattle.spl_state.specs.declared.actor.Actor.{Actor}
use Rattle.spl_state.specs.declared.reply.ActorState.{ActorState}
use Rattle.spl_state.specs.declared.reply.Reply.{Reply}
use Rattle.spl_state.specs.declared.reply.Reply.TheVariants.{Done, Unfit, Again, Leaf}
use Rattle.spl_state.specs.Actor.{actor_in, with_descent, told_of}
use Rattle.spl_state.specs.Actors.{pivot_from}
use Rattle.spl_state.specs.Reply.{state_of}
use Rattle.spl_state.specs.Whole.{Whole}

-- the span with its end lowered to that of the node's pivot that holds its start
abbrev pub span_under : NodeData → Span → Span
span_under node span = record {
  from = span.from;
  to = first_end span.to (span_of node (pivot_from node.pivots span.from)).to;
}

-- the branches that are live for that pivot, oldest first
abbrev pub live_under : NodeData → Span → List ℕ
live_under node span = live node.lists (pivot_at node.pivots (pivot_from node.pivots span.from)).mark

-- and its child
abbrev pub child_under : NodeData → Span → ℕ
child_under node span = number_of (pivot_at node.pivots (pivot_from node.pivots span.from)).child

-- a descent with this place that comes to the node and asks for these keys
abbrev pub descent_at : Whole → ℕ → Span → ℕ → Descent
descent_at whole place span node = record {
  place = place;
  span = span_under (node_at whole.nodes node) span;
  node = node;
}

-- a descent begins at the root and has the next place
abbrev pub first_descent : Whole → Span → Descent
first_descent whole span = descent_at whole whole.counters.places span 0

-- the child to which the descent leads
abbrev pub child_of : Whole → Descent → ℕ
child_of whole descent = child_under (node_at whole.nodes descent.node) descent.span

-- it goes on at that child
abbrev pub next_descent : Whole → Descent → Descent
next_descent whole descent = descent_at whole descent.place descent.span (child_of whole descent)

-- an actor that has come to the node of the descent, and was told of it
abbrev pub arrived : Actor → Descent → Actor
arrived actor descent = told_of (with_descent actor (Some descent)) descent.node

-- the actor reads the root, and the place is given
abbrev pub begun : Whole → ℕ → Span → Whole
begun whole actor span = record whole {
  grips = with_grip whole.grips actor 0 Read;
  actors = slice_set whole.actors actor (arrived (actor_in whole.actors actor) (first_descent whole span));
  counters = record whole.counters { places = whole.counters.places + 1 };
}

-- the actor reads the child, and then leaves the parent
abbrev pub moved_from : Whole → ℕ → Option Descent → Whole
moved_from whole actor None = whole
moved_from whole actor (Some descent) = record whole {
  grips = with_grip (with_grip whole.grips actor (child_of whole descent) Read) actor descent.node Free;
  actors = slice_set whole.actors actor (arrived (actor_in whole.actors actor) (next_descent whole descent));
}

abbrev pub moved_down : Whole → ℕ → Whole
moved_down whole actor = moved_from whole actor (actor_in whole.actors actor).descent

-- the actor leaves the node of its descent, and has none
abbrev pub left_from : Whole → ℕ → Option Descent → Whole
left_from whole actor None = whole
left_from whole actor (Some descent) = record whole {
  grips = with_grip whole.grips actor descent.node Free;
  actors = slice_set whole.actors actor (with_descent (actor_in whole.actors actor) None);
}

abbrev pub ended : Whole → ℕ → Whole
ended whole actor = left_from whole actor (actor_in whole.actors actor).descent

-- the actor has a descent, a job or a latch
abbrev pub is_busy : ActorState → Bool
is_busy state =
    state.descent || (state.job || (nat_lt 0 state.reads || (nat_lt 0 state.claims || nat_lt 0 state.writes)))

module _ {B : Type 0} where
  -- refused by the actor that writes the node
  abbrev pub unless_written : ℕ → Option ℕ → Option (Reply B)
  unless_written node None = None
  unless_written node (Some by) = Some (Again node by)

  -- why an actor can't begin
  abbrev pub begin_refusal : Whole → ℕ → Option (Reply B)
  begin_refusal whole actor =
      if is_busy (state_of whole actor) then Some (Unfit (state_of whole actor))
      else unless_written 0 (writer_of (grips_at whole.grips 0))

  -- why a descent can't go on
  abbrev pub refusal_from : Whole → ℕ → Option Descent → Option (Reply B)
  refusal_from whole actor None = Some (Unfit (state_of whole actor))
  refusal_from whole actor (Some descent) =
      if nat_eq (node_at whole.nodes descent.node).height 0 then Some Leaf
      else unless_written (child_of whole descent) (writer_of (grips_at whole.grips (child_of whole descent)))

  abbrev pub move_refusal : Whole → ℕ → Option (Reply B)
  move_refusal whole actor = refusal_from whole actor (actor_in whole.actors actor).descent

  abbrev pub end_at : Whole → ℕ → Option Descent → Reply B
  end_at whole actor None = Unfit (state_of whole actor)
  end_at whole actor (Some descent) = Done

  -- only an actor with a descent ends one
  abbrev pub end_answer : Whole → ℕ → Reply B
  end_answer whole actor = end_at whole actor (actor_in whole.actors actor).descent

-- What the steps of a merge leave of what an actor has.
use Rattle.std.specs.Prelude.{◌≡◌, ◌≢◌, ℕ, ◌<◌, ◌≤◌, Bool, List, length, map, All, Option, Some, None, IsSome, IfSome, Result, Ok, Err}
use Rattle.spl_base.specs.declared.NoMemory.{NoMemory}
use Rattle.spl_message.specs.Table.{Table}
use Rattle.spl_node.specs.declared.pivot.Pivot.{Pivot}
use Rattle.spl_trunk.specs.Trunk.{node_at}
use Rattle.spl_state.specs.declared.job.Job.TheVariants.{Merge}
use Rattle.spl_state.specs.declared.job.Run.{Run}
use Rattle.spl_state.specs.declared.reply.Reply.{Reply}
use Rattle.spl_state.specs.declared.reply.Reply.TheVariants as reply
use Rattle.spl_state.specs.declared.sight.Ticket.{Ticket}
use Rattle.spl_state.specs.declared.view.View.{View}
use Rattle.spl_state.specs.Sight.{split_key}
use Rattle.spl_state.specs.Whole.{Whole, branches}
use Rattle.spl_core.specs.declared.step.Step.TheVariants as step
use Rattle.spl_desk.specs.Holder.{Holder}
use Rattle.spl_desk.specs.Turn.{Turn}
use Rattle.spl_job.specs.Holding.{Holding, IsHolding, told_by, with_job, without_job}
use Rattle.spl_job.specs.declared.merging.Started.{Started}
use Rattle.spl_job.specs.declared.merging.Started.TheVariants as started
use Rattle.spl_job.specs.declared.merging.Installed.{Installed}
use Rattle.spl_job.specs.declared.merging.Installed.TheVariants as installed

-- the actor was told of so many nodes
abbrev pub with_told : Holding → ℕ → Holding
with_told holding told = record holding { told = told }

-- the holder has this, and was told of as many nodes or of more
abbrev pub IsHoldingOn : Holder → Holding → Type 0
IsHoldingOn holder holding = (told : ℕ) × (holding.told ≤ told) × IsHolding holder (with_told holding told)

-- and it was told of this node
abbrev pub IsToldOf : Holder → Holding → ℕ → Type 0
IsToldOf holder holding node = (told : ℕ) × (holding.told ≤ told) × (node < told) × IsHolding holder (with_told holding told)

module _ {B : Type 0} where
  -- the run that is to be merged
  abbrev pub run_of : (B → ℕ) → Ticket B → Run
  run_of number_of ticket = record {
    node = ticket.node;
    first = ticket.first;
    last = ticket.last;
    generation = ticket.generation;
    span = ticket.span;
    bottom = ticket.bottom;
    inputs = map number_of ticket.inputs;
  }

  -- the actor's job is to merge the run, and the tables of its branches go into the new branch
  abbrev pub with_ticket : (B → ℕ) → (B → Table) → Holding → Ticket B → Holding
  with_ticket number_of table_of holding ticket =
      with_job holding (Merge ticket.number (run_of number_of ticket)) (map table_of ticket.inputs)

  -- with a ticket the actor has a job, and was told of its node; else it has what it had
  abbrev pub AfterStart : (B → ℕ) → (B → Table) → Holder → Holding → Result (Started B) NoMemory → Type 0
  AfterStart number_of table_of holder holding (Ok (started.Ticket ticket)) = IsToldOf holder (with_ticket number_of table_of holding ticket) ticket.node
  AfterStart number_of table_of holder holding answer = IsHolding holder holding

  -- the ticket is for this run
  abbrev pub IsStartOf : ℕ → ℕ → ℕ → Started B → Type 0
  IsStartOf node first last (started.Ticket ticket) = (ticket.node ≡ node) × (ticket.first ≡ first) × (ticket.last ≡ last)
  IsStartOf node first last answer = Unit {0}

-- the actor was told of the node that holds the run too; after the last one its job has ended
abbrev pub AfterInstall : Holder → Holding → Installed → Type 0
AfterInstall holder holding (installed.Next node) = IsToldOf holder holding node
AfterInstall holder holding installed.Done = IsHolding holder (without_job holding)
AfterInstall holder holding (installed.Elsewhere None) = IsHolding holder holding
AfterInstall holder holding (installed.Elsewhere (Some node)) = IsToldOf holder holding node

-- the actor was told of each child in the view of the node, and none of them is the node itself
abbrev pub NamesChildren : Holder → ℕ → View → Type 0
NamesChildren holder node view =
    All (λ (pivot : Pivot). IfSome pivot.child (λ child. (child < told_by holder) × (child ≢ node))) view.pivots

-- a node above the leaves has pivots, and each of them has a child
abbrev pub HasChildren : View → Type 0
HasChildren view = 0 < view.height → (0 < length view.pivots) × All (λ (pivot : Pivot). IsSome pivot.child) view.pivots

-- the key at which the node is to be split, where it is to be
abbrev pub split_in : Whole → ℕ → Option (List ℕ)
split_in whole node = split_key (branches whole) (node_at whole.nodes node)

module _ {B : Type 0} where
  -- what each step was answered
  abbrev pub IsSurveyAnswer : Result View NoMemory → Reply B → Type 0
  IsSurveyAnswer (Ok view) answer = answer ≡ reply.View view
  IsSurveyAnswer (Err fault) answer = answer ≡ reply.NoMemory

  abbrev pub IsStartAnswer : Result (Started B) NoMemory → Reply B → Type 0
  IsStartAnswer (Ok (started.Ticket ticket)) answer = answer ≡ reply.Ticket ticket
  IsStartAnswer (Ok (started.Busy by)) answer = answer ≡ reply.Busy by
  IsStartAnswer (Ok started.Gone) answer = (last : ℕ) × (oldest : ℕ) × (answer ≡ reply.Gone last oldest)
  IsStartAnswer (Ok started.Crossed) answer = (child : Option ℕ) × (mark : ℕ) × (answer ≡ reply.Crossed child mark)
  IsStartAnswer (Err fault) answer = answer ≡ reply.NoMemory

  abbrev pub IsInstallAnswer : Installed → Reply B → Type 0
  IsInstallAnswer (installed.Next node) answer = answer ≡ reply.Next node
  IsInstallAnswer installed.Done answer = answer ≡ reply.Done
  IsInstallAnswer (installed.Elsewhere next) answer = answer ≡ reply.Elsewhere next

  -- the turn in which the node was surveyed
  abbrev pub IsSurveyTurn : ℕ → Result View NoMemory → Turn B → Type 0
  IsSurveyTurn node result turn = (turn.step ≡ step.Survey node) × IsSurveyAnswer result turn.reply

  -- the turn in which the run was asked for
  abbrev pub IsStartTurn : ℕ → ℕ → ℕ → Result (Started B) NoMemory → Turn B → Type 0
  IsStartTurn node first last result turn = (turn.step ≡ step.Start node first last) × IsStartAnswer result turn.reply

  -- the turn in which the merge ended in the node
  abbrev pub IsInstallTurn : ℕ → Bool → Installed → Turn B → Type 0
  IsInstallTurn node output result turn = (turn.step ≡ step.Install node output) × IsInstallAnswer result turn.reply

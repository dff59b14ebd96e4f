-- What a descent is given at a node, and what that says of its keys.
use Rattle.std.specs.Prelude.{◌≡◌, ℕ, zero, suc, ◌↔◌, IsTrue, List, map, Option, Some, None}
use Rattle.spl_message.specs.Cell.{Cell}
use Rattle.spl_message.specs.Message.{act_all}
use Rattle.spl_message.specs.Rule.{Rule}
use Rattle.spl_message.specs.Span.{InSpan}
use Rattle.spl_message.specs.Table.{Table, chain}
use Rattle.spl_trunk.specs.Trunk.{node_at}
use Rattle.spl_trunk.specs.Tree.{sub}
use Rattle.spl_state.specs.declared.descent.Descent.{Descent}
use Rattle.spl_state.specs.declared.reply.Reply.{Reply}
use Rattle.spl_state.specs.declared.reply.Reply.TheVariants as reply
use Rattle.spl_state.specs.declared.sight.Sight.{Sight}
use Rattle.spl_state.specs.Sight.{tables_under}
use Rattle.spl_state.specs.Sound.{meaning}
use Rattle.spl_state.specs.Whole.{BranchData, Whole, branches, table_in}
use Rattle.spl_descent.specs.Descents.{child_of, live_under}

module _ {B : Type 0} where
  -- the branches with these numbers, in their order
  pub record HasBranches (number_of : B → ℕ) (branch : ℕ → Option B) (numbers : List ℕ) (shared : List B) : Type 0 where
    pub named : map number_of shared ≡ numbers
    pub found : map (λ branch. Some branch) shared ≡ map branch numbers

  -- and the same where branches are seen as plain data
  pub record AreBranches (number_of : B → ℕ) (data_of : B → BranchData) (branch : ℕ → Option BranchData)
      (numbers : List ℕ) (shared : List B) : Type 0 where
    pub named : map number_of shared ≡ numbers
    pub stand : map (λ b. Some (data_of b)) shared ≡ map branch numbers

  -- the sight of a descent: its place, its span and its node, and the branches that are live for its keys
  pub record IsSightOf (number_of : B → ℕ) (data_of : B → BranchData) (whole : Whole) (descent : Descent)
      (sight : Sight B) : Type 0 where
    pub place : sight.place ≡ descent.place
    pub span : sight.span ≡ descent.span
    pub node : sight.node ≡ descent.node
    pub leaf : IsTrue sight.leaf ↔ ((node_at whole.nodes descent.node).height ≡ 0)
    pub branches : AreBranches number_of data_of (branches whole)
        (live_under (node_at whole.nodes descent.node) descent.span) sight.branches

  -- one thing holds where the answer is a sight, and another where it is not
  abbrev pub OnSight : Reply B → (Sight B → Type 0) → Type 0 → Type 0
  OnSight (reply.Sight sight) IsSeen IsElse = IsSeen sight
  OnSight answer IsSeen IsElse = IsElse

  abbrev pub IfSight : Reply B → (Sight B → Type 0) → Type 0
  IfSight answer IsSeen = OnSight answer IsSeen (Unit {0})

  -- the answer is the refusal, where there is one, and else a sight, unless memory runs out
  abbrev pub Answers : Option (Reply B) → Reply B → Type 0
  Answers (Some refusal) answer = answer ≡ refusal
  Answers None answer = OnSight answer (λ sight. Unit {0}) (answer ≡ reply.NoMemory)

-- what the node and those below it have for the key
abbrev pub rest : Rule → Whole → ℕ → List ℕ → Cell
rest rule whole node key =
    sub rule (table_in (branches whole)) (node_at whole.nodes) (node_at whole.nodes node).height node key

-- below a leaf there is nothing, and below another node the child
abbrev pub below : Rule → Whole → ℕ → ℕ → List ℕ → Cell
below rule whole child zero key = None
below rule whole child (suc height) key = rest rule whole child key

abbrev pub rest_below : Rule → Whole → Descent → List ℕ → Cell
rest_below rule whole descent key =
    below rule whole (child_of whole descent) (node_at whole.nodes descent.node).height key

-- the tables of the branches that are live for the descent, each within its span
abbrev pub tables_seen : Whole → Descent → List Table
tables_seen whole descent = tables_under (branches whole) (node_at whole.nodes descent.node) descent.span

-- for each key of the descent its node has what these tables make of what lies below
abbrev pub IsRight : Rule → Whole → Descent → List Table → Type 0
IsRight rule whole descent tables = (key : List ℕ) → InSpan descent.span key
    → rest rule whole descent.node key
    ≡ act_all rule key (rest_below rule whole descent key) (chain tables key)

-- for each key of the descent the store has what these tables make of what the root has
abbrev pub MeansRight : Rule → Whole → Descent → List Table → Type 0
MeansRight rule whole descent tables = (key : List ℕ) → InSpan descent.span key
    → meaning rule whole key ≡ act_all rule key (rest rule whole descent.node key) (chain tables key)

-- for each key of the next descent the parent has what its live tables make of what the child has
abbrev pub LeadsRight : Rule → Whole → Descent → Descent → Type 0
LeadsRight rule whole descent next = (key : List ℕ) → InSpan next.span key
    → rest rule whole descent.node key
    ≡ act_all rule key (rest rule whole next.node key) (chain (tables_seen whole descent) key)

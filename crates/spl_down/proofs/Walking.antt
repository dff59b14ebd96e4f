-- The parts of a descent, one behind the other.
use Rattle.std.proofs.Common.{◌≡◌, ℕ, ◌+◌, List, [], ◌++◌, length, sym, ap, ap₂, subst, ◌∙◌, length-append, arith}
use Rattle.spl_message.specs.declared.call.Call.TheVariants as call
use Rattle.spl_message.specs.declared.span.Span.{Span}
use Rattle.spl_message.specs.History.{Event, History, cell_at}
use Rattle.spl_message.specs.Message.{act_all}
use Rattle.spl_message.specs.Rule.{Rule}
use Rattle.spl_message.specs.Table.{chain}
use Rattle.spl_state.specs.declared.sight.Sight.{Sight}
use Rattle.spl_descent.specs.Sights.{rest}
use Rattle.spl_desk.specs.Calls.{IsOnlyCall, IsSameCaller, MadeCall}
use Rattle.spl_desk.specs.Holder.{BranchKind, Holder, IsSameHolder}
use Rattle.spl_desk.specs.Turn.{Turn}
use Rattle.spl_desk.specs.Walk.{Walks, calls_in}
use Rattle.spl_desk.proofs.Walks.{IsAlike, calls_on, went_on, walks_more}
use Rattle.spl_down.specs.Arrivals.{AreTurns, Arrival, CameTo}
use Rattle.spl_down.specs.Descending.{Began, Descended, IsBegin, Waits, tables_in}
use Rattle.spl_down.proofs.Answers.{arrivals_on, others_on}
use Rattle.spl_down.proofs.Fronts.{front_keys}

pub alike : {old new : Holder} → IsSameCaller old new → IsAlike old new
alike same = record { alone = same.alone; actor = same.actor; rule = same.rule }

-- the same holder after one step more
pub same_on : (old mid new : Holder) → IsSameCaller old mid → IsSameHolder mid new 1 → IsSameCaller old new
same_on old mid new same more = record {
  alone = more.alone ∙ same.alone;
  actor = more.actor ∙ same.actor;
  rule = more.rule ∙ same.rule;
  turns = let a = same.turns in let b = more.turns in omega arith;
}

pub same_then : (old mid new : Holder) → IsSameCaller old mid → IsSameCaller mid new → IsSameCaller old new
same_then old mid new same more = record {
  alone = more.alone ∙ same.alone;
  actor = more.actor ∙ same.actor;
  rule = more.rule ∙ same.rule;
  turns = let a = same.turns in let b = more.turns in omega arith;
}

module _ {B : Type 0} (kind : BranchKind B) (old : Holder) (history : History) where
  -- a descent that begins behind turns that were all answered `Again`
  pub began_behind : (mid new : Holder) (Before Saw : History → Type 0) (span : Span) (sight : Sight B) → IsAlike old mid → CameTo kind old history mid Before 0 [] → ((seen : History) → Before seen → Began kind mid seen new Saw span sight) → Began kind old history new Saw span sight
  began_behind mid new Before Saw span sight like one two =
      went_on kind old history mid new Before Saw (λ turns seen. AreTurns old.actor [] 0 [] turns)
      (IsBegin kind mid one.seen new span sight) (IsBegin kind old history new span sight)
      like one (two one.seen one.saw) behind
    where
      behind : (more : List (Turn B)) (seen : History) → Walks kind mid one.seen more new.at seen → IsBegin kind mid one.seen new span sight more seen → IsBegin kind old history new span sight (one.turns ++ more) seen
      behind more seen walks says =
          let grown = walks_more kind old history one.turns mid.at one.seen one.walks in
          let count : length one.seen ≡ length history + length grown.0 = ap (λ (h : History). length h) grown.1 ∙ length-append history grown.0 in
          let event : Event = record { actor = old.actor; call = call.Piece span } in
          let only : IsOnlyCall old.actor history (call.Piece span) sight.place (one.turns ++ more) seen = record {
            only =
                calls_on kind old.actor one.turns more
                ∙ ap (λ (h : History). h ++ calls_in old.actor more) one.says.calls
                ∙ ap (λ (n : ℕ). calls_in n more) (sym like.actor)
                ∙ rw (sym like.actor) says.only_call.only;
            at = rw (sym like.actor) says.only_call.at;
            after = omega (arith, count, says.only_call.after);
          } in
          let sum = others_on one.turns more in
          let none = one.says.few in
          let most = says.few in
          record {
            only_call = only;
            few = omega (arith, sum, none, most);
            arrivals = arrivals_on one.turns more ∙ ap₂ (λ (a b : List (Arrival B)). a ++ b) one.says.arrivals says.arrivals;
            cells = λ tells key inside. subst (λ (r : Rule). cell_at r seen sight.place key ≡ act_all r key (rest r new.at sight.node key) (chain sight.tables key)) like.rule (says.cells tells key inside);
          }

  -- its only call
  pub call_of : (new : Holder) (Saw : History → Type 0) (span : Span) (sight : Sight B) → Began kind old history new Saw span sight → MadeCall kind old history new Saw (call.Piece span) sight.place
  call_of new Saw span sight began = record { turns = began.turns; seen = began.seen; walks = began.walks; saw = began.saw; says = began.says.only_call }

-- a wait, and then the descent goes on
pub descended_behind : {B : Type 0} (kind : BranchKind B) (old mid new : Holder) (sight next : Sight B) → mid.rule ≡ old.rule → Waits kind old mid sight → Descended kind mid new sight next → Descended kind old new sight next
descended_behind kind old mid new sight next rule one two = record {
  arrived = two.arrived;
  place = two.place;
  front = two.front;
  lower = two.lower ∙ one.height;
  memtables = two.memtables;
  leads = λ tells key inside.
      sym (one.rest tells key (front_keys sight.span next.span two.front key inside))
      ∙ subst (λ (r : Rule). rest r mid.at sight.node key ≡ act_all r key (rest r new.at next.node key) (chain (tables_in kind sight) key)) rule (two.leads tells key inside);
}

pub waits_behind : {B : Type 0} (kind : BranchKind B) (old mid new : Holder) (sight : Sight B) → mid.rule ≡ old.rule → Waits kind old mid sight → Waits kind mid new sight → Waits kind old new sight
waits_behind kind old mid new sight rule one two = record {
  at = two.at;
  height = two.height ∙ one.height;
  rest = λ tells key inside. subst (λ (r : Rule). rest r new.at sight.node key ≡ rest r mid.at sight.node key) rule (two.rest tells key inside) ∙ one.rest tells key inside;
}

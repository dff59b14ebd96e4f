use Rattle.std.proofs.Common.{◌≡◌, ℕ, List, ◌∷◌, filter, sym, ap, subst, ◌∙◌}
use Rattle.spl_message.specs.declared.message.Message.{Message}
use Rattle.spl_message.specs.Entries.{Entries, AreEntries}
use Rattle.spl_message.specs.Span.{is_before}
use Rattle.spl_memtable.specs.declared.entries.Entries.TheInside.{Inside}
use Rattle.spl_memtable.specs.declared.entries.Rest.{Rest}
use Rattle.spl_memtable.specs.Left.{left, IsInOrder}
use Rattle.spl_memtable.proofs.Steps.{ends, first_goes, first_stays, none_stays, rest_in_order, yields}
use Rattle.spl_memtable.proofs.entries.EntriesIterator.next.Goals as goal
use Rattle.spl_memtable.proofs.entries.EntriesIterator.next.Goals.{in-Own+in_ok-first-in-Own, in-Shared+in_ok-key-in-Shared+then-ends_after, in-Shared+in_ok-key-in-Shared+else-ends_after}

pub invariant_of-self-2 : goal.invariant_of-self-2
invariant_of-self-2 c = elim c.match-self.branch [
  | in-Own+in_ok-first-in-Own w ↦
      let order : AreEntries w.in-Own.entries.now = subst IsInOrder w.in-Own.is c.self.invariant in
      subst (λ (inside : Inside). IsInOrder inside.rest) (sym w.self-inside-is) (rest_in_order w.in_ok-first-in-Own.first.now w.in_ok-first-in-Own.others.now (subst AreEntries w.in_ok-first-in-Own.ensures.cases.0 order))
  | in-Shared+in_ok-key-in-Shared+then-ends_after w ↦
      let order : AreEntries w.in-Shared.entries = subst IsInOrder w.in-Shared.is c.self.invariant in
      subst (λ (inside : Inside). IsInOrder inside.rest) (sym w.self-inside-is) (rest_in_order (w.in_ok-key-in-Shared.key.now, w.in_ok-key-in-Shared.message.now) w.next.new.self (subst AreEntries w.in_ok-key-in-Shared.ensures.steps order))
  | in-Shared+in_ok-key-in-Shared+else-ends_after w ↦
      let order : AreEntries w.in-Shared.entries = subst IsInOrder w.in-Shared.is c.self.invariant in
      subst (λ (inside : Inside). IsInOrder inside.rest) (sym w.self-inside-is) (rest_in_order (w.in_ok-key-in-Shared.key.now, w.in_ok-key-in-Shared.message.now) w.next.new.self (subst AreEntries w.in_ok-key-in-Shared.ensures.steps order))
]

pub returns-clause-steps : goal.returns-clause-steps
returns-clause-steps c = elim c.match-self.branch [
  | in-Own+in_ok-first-in-Own w ↦
      let was : c.args.self.now ≡ w.in-Own.entries.now = sym c.self.view_is ∙ ap (λ (rest : Rest). left rest c.self.inside.end) w.in-Own.is in
      let now : left c.match-self.self-inside.rest c.match-self.self-inside.end ≡ w.in_ok-first-in-Own.others.now = ap (λ (inside : Inside). left inside.rest inside.end) w.self-inside-is in
      let parts : (w.key_and_message.result.0.now, w.key_and_message.result.1.now) ≡ w.in_ok-first-in-Own.first.now = ap (λ (key : List ℕ). (key, w.key_and_message.result.1.now)) w.key_and_message.ensures.key ∙ ap (λ (message : Message). (w.in_ok-first-in-Own.first.now.0, message)) w.key_and_message.ensures.message in
      yields c.args.self.now (left c.match-self.self-inside.rest c.match-self.self-inside.end) c.match-self.result w.key_and_message.result w.result-is
      (was ∙ w.in_ok-first-in-Own.ensures.cases.0 ∙ ap (λ (entry : List ℕ × Message). entry ∷ w.in_ok-first-in-Own.others.now) (sym parts) ∙ ap (λ (rest : Entries). (w.key_and_message.result.0.now, w.key_and_message.result.1.now) ∷ rest) (sym now))
  | in-Shared+in_ok-key-in-Shared+then-ends_after w ↦
      let entry : List ℕ × Message = (w.in_ok-key-in-Shared.key.now, w.in_ok-key-in-Shared.message.now) in
      let end = c.self.inside.end in
      let was : c.args.self.now ≡ filter (λ e. is_before end e.0) w.in-Shared.entries = sym c.self.view_is ∙ ap (λ (rest : Rest). left rest end) w.in-Shared.is in
      let now : left c.match-self.self-inside.rest c.match-self.self-inside.end ≡ filter (λ e. is_before end e.0) w.next.new.self = ap (λ (inside : Inside). left inside.rest inside.end) w.self-inside-is in
      yields c.args.self.now (left c.match-self.self-inside.rest c.match-self.self-inside.end) c.match-self.result (w.in_ok-key-in-Shared.key, w.in_ok-key-in-Shared.message) w.result-is
      (was ∙ ap (λ (es : Entries). filter (λ e. is_before end e.0) es) w.in_ok-key-in-Shared.ensures.steps ∙ first_stays end entry w.next.new.self (sym w.ends_after.ensures ∙ w.if-ends_after.true) ∙ ap (λ (rest : Entries). entry ∷ rest) (sym now))
  | in-Shared+in_ok-key-in-Shared+else-ends_after w ↦
      let entry : List ℕ × Message = (w.in_ok-key-in-Shared.key.now, w.in_ok-key-in-Shared.message.now) in
      let end = c.self.inside.end in
      let order : AreEntries w.in-Shared.entries = subst IsInOrder w.in-Shared.is c.self.invariant in
      let sorted : AreEntries (entry ∷ w.next.new.self) = subst AreEntries w.in_ok-key-in-Shared.ensures.steps order in
      let past = sym w.ends_after.ensures ∙ w.if-ends_after.false in
      let was : c.args.self.now ≡ filter (λ e. is_before end e.0) w.in-Shared.entries = sym c.self.view_is ∙ ap (λ (rest : Rest). left rest end) w.in-Shared.is in
      let now : left c.match-self.self-inside.rest c.match-self.self-inside.end ≡ filter (λ e. is_before end e.0) w.next.new.self = ap (λ (inside : Inside). left inside.rest inside.end) w.self-inside-is in
      ends c.args.self.now (left c.match-self.self-inside.rest c.match-self.self-inside.end) c.match-self.result w.result-is
      (was ∙ ap (λ (es : Entries). filter (λ e. is_before end e.0) es) w.in_ok-key-in-Shared.ensures.steps ∙ first_goes end entry w.next.new.self past sorted)
      (now ∙ none_stays end entry w.next.new.self past sorted)
]

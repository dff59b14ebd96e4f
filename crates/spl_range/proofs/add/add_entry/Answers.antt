use Rattle.std.proofs.Common.{◌≡◌, ◌<◌, ℕ, List, ◌∷◌, true, Option, Some, IfSome, subst, sym}
use Rattle.spl_message.specs.declared.message.Message.{Message}
use Rattle.spl_message.specs.Entries.{Entries, AreEntries}
use Rattle.spl_scan.specs.Scan.{Gives, GoesOn, left_of}
use Rattle.spl_scan.specs.Search.{is_next}
use Rattle.spl_streams.specs.Above.{keys_left}
use Rattle.spl_streams.proofs.Above.{keys_fewer}
use Rattle.spl_range.specs.Adding.{ComeTo}
use Rattle.spl_range.proofs.Adding.{come_next, next_above, rest_in_order}
use Rattle.spl_range.proofs.add.add_entry.Goals as goal

pub returns-in_ok-put_under-in-Ok-Some-clause-goes_on : goal.returns-in_ok-put_under-in-Ok-Some-clause-goes_on
returns-in_ok-put_under-in-Ok-Some-clause-goes_on g c = λ tells order same.
    let rule = g.L.MergeLaw.rule c.args.law.now in
    let was = c.args.found.now.entries in
    let now = c.put_under.new.found.entries in
    let left = left_of c.next.new.self in
    let key = c.in-Ok-Some.key in
    let message = c.in-Ok-Some.message in
    let gives : left_of c.args.scan.now ≡ (key, message) ∷ left = subst (λ (given : Option (List ℕ × Message)). Gives c.args.scan.now given c.next.new.self) c.in-Ok-Some.field-0-is (c.in-Ok-Some.ensures.told tells) in
    let sorted : AreEntries ((key, message) ∷ left) = subst AreEntries gives order in (
      rest_in_order (key, message) left sorted,
      subst (λ (all : Entries). ComeTo rule left now all was) (sym gives) (come_next rule key message left was now sorted c.in_ok-put_under-in-Ok-Some.ensures),
    )

pub returns-in_ok-put_under-in-Ok-Some-clause-fewer : goal.returns-in_ok-put_under-in-Ok-Some-clause-fewer
returns-in_ok-put_under-in-Ok-Some-clause-fewer g c = λ same.
    let old = c.args.scan.now in
    let new = c.next.new.self in
    let key = c.in-Ok-Some.key in
    let given : Option (List ℕ × Message) = Some (key, c.in-Ok-Some.message) in
    let goes : GoesOn old given new = subst (λ (given : Option (List ℕ × Message)). GoesOn old given new) c.in-Ok-Some.field-0-is c.in-Ok-Some.ensures.ok in
    let rises : IfSome given (λ entry. is_next old.span old.last entry.0 ≡ true) =
    subst (λ (given : Option (List ℕ × Message)). IfSome given (λ entry. is_next old.span old.last entry.0 ≡ true)) c.in-Ok-Some.field-0-is c.in-Ok-Some.ensures.rises in
    subst (λ (last : Option (List ℕ)). keys_left last < keys_left old.last) (sym goes.last)
    (keys_fewer old.last key c.bytes-bytes.ensures.is_key (next_above old.span old.last key rises))

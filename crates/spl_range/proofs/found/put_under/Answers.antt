use Rattle.std.proofs.Common.{◌≡◌, List, ℕ, None, ap, sym, subst, ◌∙◌}
use Rattle.std.specs.BTreeMap.{BTreeMap}
use Rattle.std.specs.Prelude.{is_some}
use Rattle.spl_message.specs.declared.message.Message.{Message}
use Rattle.spl_message.specs.Entries.{message_in}
use Rattle.spl_message.specs.Message.{combine}
use Rattle.spl_range.specs.Adding.{PutsUnder}
use Rattle.spl_range.proofs.Adding.{puts_new, puts_over}
use Rattle.spl_range.proofs.found.put_under.Goals as goal

pub returns-in-Some : goal.returns-in-Some
returns-in-Some g c =
    let rule = g.L.MergeLaw.rule c.args.law.now in
    let key = c.args.key.now in
    let both = c.in_ok-newer.field-0 in
    let writes = c.get_mut.follows.holds both in
    puts_over rule c.args.found.now (c.get_mut.follows.lender both) key c.args.older c.in-Some.newer.now both c.in-Some.ensures.value
    (c.in_ok-newer.ensures.value ∙ ap (combine rule key c.args.older) c.replace-taken.ensures.value)
    (writes.3 (ap is_some (sym c.in-Some.ensures.value)))

pub returns : goal.returns
returns g c =
    let rule = g.L.MergeLaw.rule c.args.law.now in
    let key = c.args.key.now in
    let lent = c.get_mut.follows.lender-at-none in
    let kept : lent ≡ c.args.found.now = c.get_mut.follows.holds-at-none in
    let missing : None ≡ message_in lent.entries key = c.in_default.ensures.value ∙ ap (λ (map : BTreeMap (List ℕ) Message). message_in map.entries key) (sym kept) in
    subst (λ (map : BTreeMap (List ℕ) Message). PutsUnder rule map.entries c.insert.new.self.entries key c.args.older) kept
    (puts_new rule lent c.insert.new.self key c.args.older missing c.in_ok-insert.ensures.updates)

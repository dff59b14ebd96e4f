use Rattle.std.proofs.Common.{◌≡◌, ℕ, ◌+◌, List, None, Option, length, subst, ap, sym, ◌∙◌}
use Rattle.std.specs.Prelude.{is_some, if◌then◌else◌}
use Rattle.std.specs.BTreeMap.{BTreeMap}
use Rattle.spl_message.specs.declared.message.Message.{Message}
use Rattle.spl_message.specs.Entries.{message_in}
use Rattle.spl_message.specs.Table.{Table, as_table}
use Rattle.spl_memtable.specs.Memtable.{Puts}
use Rattle.spl_memtable.proofs.Writes.{at_err, puts_over, puts_new, unwritten}
use Rattle.spl_memtable.proofs.memtable.Memtable.put.Goals as goal

pub returns-in_err-older-clause-err : goal.returns-in_err-older-clause-err
returns-in_err-older-clause-err g c =
    let older = c.in-Some.older.now in
    let old = c.self.inside.entries in
    let same : as_table (c.get_mut.follows.lender older).entries ≡ c.args.self.now =
    ap as_table (unwritten old (c.get_mut.follows.lender older) c.args.key.now older c.in-Some.ensures.value (c.get_mut.follows.holds older)) ∙ c.self.view_is in
    at_err c.from_residual.result _ same

pub returns-in-Some-clause-done : goal.returns-in-Some-clause-done
returns-in-Some-clause-done g c = λ _.
    let rule = g.L.MergeLaw.rule c.args.law.now in
    let both = c.in_ok-older.field-0 in
    subst (λ (table : Table). Puts rule table (as_table (c.get_mut.follows.lender both).entries) c.args.key.now c.args.message) c.self.view_is (
    puts_over rule c.self.inside.entries (c.get_mut.follows.lender both) c.args.key.now c.in-Some.older.now c.args.message both c.in-Some.ensures.value c.in_ok-older.ensures.value (c.get_mut.follows.holds both)
    )

pub returns-clause-done : goal.returns-clause-done
returns-clause-done g c = λ _.
    let rule = g.L.MergeLaw.rule c.args.law.now in
    let key = c.args.key.now in
    let message = c.args.message in
    let new = c.insert.new.self in
    let lent = c.get_mut.follows.lender-at-none in
    let kept : lent ≡ c.self.inside.entries = c.get_mut.follows.holds-at-none in
    let ens = c.in_ok-insert.ensures in
    let missing : None ≡ message_in lent.entries key = c.in_default.ensures.value ∙ ap (λ (map : BTreeMap (List ℕ) Message). message_in map.entries key) (sym kept) in
    let count = ens.len ∙ ap (λ (older : Option Message). length lent.entries + (if is_some older then 0 else 1)) ens.old in
    let done = puts_new rule lent new key message missing ens.updates ens.ordered count in
    subst (λ (table : Table). Puts rule table (as_table new.entries) key message) (ap (λ (map : BTreeMap (List ℕ) Message). as_table map.entries) kept ∙ c.self.view_is) done

use Rattle.std.proofs.Common.{◌≡◌, ◌∷◌, subst, sym}
use Rattle.spl_message.specs.Entries.{Entries, AreEntries}
use Rattle.spl_range.specs.Adding.{ComeTo, PutsUnder}
use Rattle.spl_range.proofs.Adding.{come_next, come_on, rest_in_order}
use Rattle.spl_range.proofs.add.add_slice.Goals as goal

pub loop-key-preserved : goal.loop-key-preserved
loop-key-preserved g c =
    let rule = g.L.MergeLaw.rule c.args.law.now in
    let was = c.loop-key.found.entries in
    let now = c.put_under.new.found.entries in
    let rest = c.next.new.self in
    let key = c.in-Some.key.now in
    let message = c.in-Some.message.now in
    let gives : c.loop-key.key-iterator ≡ (key, message) ∷ rest = c.in-Some.ensures.steps in
    let sorted : AreEntries ((key, message) ∷ rest) = subst AreEntries gives c.loop-key.invariant.order in
    let put : PutsUnder rule was now key message = subst (PutsUnder rule was now key) c.in_ok-copy.ensures.ok c.in_ok-put_under.ensures in
    record {
      order = rest_in_order (key, message) rest sorted;
      come = come_on rule c.loop-key.key-iterator was rest now c.args.slice.now.messages c.args.found.now.entries c.loop-key.invariant.come
          (subst (λ (all : Entries). ComeTo rule rest now all was) (sym gives) (come_next rule key message rest was now sorted put));
    }

use Rattle.std.proofs.Common.{List, ℕ, arith, subst, sym}
use Rattle.spl_split.specs.Naming.{AreNamed, HaveRoom, NamedMore}
use Rattle.spl_split.proofs.Naming.{list_named, list_room, named_list, few_have_room, times_within}
use Rattle.spl_split.proofs.names.name_again.Goals as goal

pub name_list-requires-clause-stand : goal.name_list-requires-clause-stand
name_list-requires-clause-stand g c =
    subst (λ (list : List ℕ). AreNamed c.loop-number.refs list) (sym c.list.ensures)
    (list_named c.args.lists.now c.loop-number.number (omega arith)
    (omega arith) c.args.refs.now c.loop-number.refs c.requires.stand c.loop-number.invariant)

pub name_list-requires-clause-room : goal.name_list-requires-clause-room
name_list-requires-clause-room g c =
    subst (λ (list : List ℕ). HaveRoom c.loop-number.refs list) (sym c.list.ensures)
    (list_room c.args.lists.now c.loop-number.number (omega arith)
    (omega arith) c.args.refs.now c.loop-number.refs
    (few_have_room c.args.lists.now c.first-number.ensures.limits c.args.refs.now c.requires.few) c.loop-number.invariant)

pub loop-number-preserved : goal.loop-number-preserved
loop-number-preserved g c =
    named_list c.args.lists.now c.loop-number.number (omega arith)
    (omega arith) c.args.refs.now c.loop-number.refs c.name_list.new.refs c.loop-number.invariant
    (subst (λ (list : List ℕ). NamedMore c.loop-number.refs c.name_list.new.refs list) c.list.ensures
    c.name_list.ensures)

pub returns-clause-few : goal.returns-clause-few
returns-clause-few g c = λ number. times_within number c.args.lists.now c.first-number.ensures.limits

use Rattle.std.specs.Prelude.{true}
use Rattle.spl_desk.specs.Branches.{branch_kind}
use Rattle.spl_range.specs.Pieces.{Pieced}
use Rattle.spl_range.proofs.Rising.{piece_of, places_rise}
use Rattle.spl_range.proofs.tests.places.Goals as goal

pub returns : goal.returns
returns g c =
    let kind = branch_kind true in
    let old = g.T.Turns.means c.args.desk.now.turns in
    let mid = g.T.Turns.means c.next.new.desk.turns in
    let new = g.T.Turns.means c.next-2.new.desk.turns in
    let between = g.T.Turns.saw c.next.new.desk.turns in
    let saw = g.T.Turns.saw c.next-2.new.desk.turns in
    let history = c.requires.seen.0 in
    let first = c.expect-one.result in
    let second = c.expect-two.result in
    let one : Pieced kind old history mid between c.all.result first =
    piece_of c.all.result c.new-first.result c.next.result c.expect.result first (Pieced kind old history mid between) c.new-first.ensures c.expect.ensures c.expect-one.ensures
    (c.next.ensures.pieced history c.requires.seen.1) in
    let two : Pieced kind mid one.seen new saw c.all-2.result second =
    piece_of c.all-2.result c.new-second.result c.next-2.result c.expect-2.result second (Pieced kind mid one.seen new saw) c.new-second.ensures c.expect-2.ensures c.expect-two.ensures
    (c.next-2.ensures.pieced one.seen one.saw) in
    places_rise kind old mid new history between saw c.all.result c.all-2.result first second one two

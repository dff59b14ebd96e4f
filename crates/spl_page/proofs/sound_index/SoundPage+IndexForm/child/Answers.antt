use Rattle.std.proofs.Common.{◌≡◌, map, ap, ◌∙◌, arith}
use Rattle.spl_port.specs.Page.{index_row, index_row_length}
use Rattle.spl_page.specs.Sound.{count_below, entries_of}
use Rattle.spl_page.proofs.SoundTables.{child_none, child_some, index_count_is}
use Rattle.spl_page.proofs.sound_index.SoundPage+IndexForm.child.Goals as goal
use Rattle.spl_page.proofs.sound_index.SoundPage+IndexForm.child.Goals.{After-rank-place}

place_is : (c : After-rank-place)
    → c.rank-place.result ≡ count_below (map (λ row. row.key) (entries_of (index_row c.args.self.now.at.page) index_row_length c.args.self.now.bytes)) c.after.result
place_is c =
    c.rank-place.ensures.place
    ∙ ap (count_below (map (λ row. row.key) (entries_of (index_row c.args.self.now.at.page) index_row_length c.args.self.now.bytes))) c.bytes.ensures.value

pub returns-then-place-eq0-clause-child : goal.returns-then-place-eq0-clause-child
returns-then-place-eq0-clause-child c =
    child_none c.args.self.now.at.page c.args.self.now.bytes c.args.key.now c.after.result c.rank-place.result c.after.ensures.least
    (place_is (goal.at.returns-then-place-eq0-clause-child c).After-rank-place) c.if-place-eq0.true

pub child_at-requires : goal.child_at-requires
child_at-requires c =
    omega (arith, c.rank-place.ensures.within, index_count_is c.args.self.now.at.page c.args.self.now.bytes, c.if-place-eq0.false)

pub returns-clause-child : goal.returns-clause-child
returns-clause-child c =
    child_some c.args.self.now.at.page c.args.self.now.bytes c.args.key.now c.after.result c.rank-place.result c.child_at.result c.after.ensures.least
    (place_is (goal.at.returns-clause-child c).After-rank-place) c.if-place-eq0.false c.child_at.ensures.child

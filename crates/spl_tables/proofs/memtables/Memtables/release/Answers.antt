use Rattle.std.proofs.Common.{◌≡◌, List, length, map, ap, sym, ◌∙◌}
use Rattle.std.specs.Vec.{with_items}
use Rattle.std.proofs.lemmas.List.{length-map, with_items_is}
use Rattle.spl_tables.specs.Memtables.{FrozenData, MemtableData, released_by, without_picks}
use Rattle.spl_tables.specs.Room.{data_of}
use Rattle.spl_tables.proofs.Kept.{sound_released}
use Rattle.spl_tables.proofs.memtables.Memtables.release.Goals as goal

pub invariant_of-self : goal.invariant_of-self
invariant_of-self c =
    let inside = c.self.inside in
    let old = inside.frozen.items in
    let new = c.release_all.new.tables in
    let made : new ≡ map (released_by c.args.actor) old = c.release_all.ensures ∙ ap (λ (items : List FrozenData). map (released_by c.args.actor) items) c.as_mut_slice.ensures.value in
    sound_released inside.active old inside.next inside.frozen.cap c.args.actor (with_items inside.frozen new).items c.self.invariant
    (with_items_is inside.frozen new (ap length made ∙ length-map old (released_by c.args.actor) ∙ sym inside.frozen.ok.0) ∙ made)

pub returns : goal.returns
returns c =
    let inside = c.self.inside in
    let old = inside.frozen.items in
    let new = c.release_all.new.tables in
    let made : new ≡ map (released_by c.args.actor) old = c.release_all.ensures ∙ ap (λ (items : List FrozenData). map (released_by c.args.actor) items) c.as_mut_slice.ensures.value in
    ap (λ (items : List FrozenData). data_of inside.active items inside.next)
    (with_items_is inside.frozen new (ap length made ∙ length-map old (released_by c.args.actor) ∙ sym inside.frozen.ok.0) ∙ made)
    ∙ ap (λ (tables : MemtableData). without_picks tables c.args.actor) c.self.view_is

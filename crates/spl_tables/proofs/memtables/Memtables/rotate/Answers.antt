use Rattle.std.proofs.Common.{◌≡◌, ◌<◌, ◌≤◌, None, ◌++◌, ◌∷◌, [], length, arith, rules, ap, ◌∙◌}
use Rattle.spl_message.specs.Table.{Table, key_count}
use Rattle.spl_tables.specs.Memtables.{FrozenData, rotated}
use Rattle.spl_tables.specs.Room.{data_of}
use Rattle.spl_tables.proofs.Kept.{sound_rotated}
use Rattle.spl_tables.proofs.memtables.Memtables.rotate.Goals as goal

pub invariant_of-self-2 : goal.invariant_of-self-2
invariant_of-self-2 c =
    let inside = c.self.inside in
    let few : length inside.frozen.items ≤ 4 = c.self.invariant.sound.few in
    let not_few : length inside.frozen.items < 4 = omega (arith, few, c.if-len.false, c.len.ensures, inside.frozen.ok.0) in
    let full : key_count inside.active ≡ 1024 = omega (arith, c.if-keys-lt-MEMTABLE_KEYS.false, c.keys.ensures.value, c.keys.ensures.limit) in
    sound_rotated inside.active inside.frozen.items inside.next inside.frozen.cap _ _ _ c.self.invariant not_few full c.in_ok-table.ensures.empty
    (c.push_reserved.ensures.items ∙ ap (λ (one : FrozenData). inside.frozen.items ++ one ∷ []) (c.new.ensures ∙ ap (λ (table : Table). record { number = inside.next; table = table; picked = None }) c.in_ok-table.ensures.frozen))
    c.push_reserved.ensures.capacity

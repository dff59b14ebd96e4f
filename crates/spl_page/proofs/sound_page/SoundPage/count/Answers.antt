use Rattle.std.proofs.Common.{map, subst}
use Rattle.spl_message.specs.Key.{AreRising}
use Rattle.spl_port.specs.Counts.{Shown}
use Rattle.spl_page.specs.Sound.{entries_of}
use Rattle.spl_page.proofs.PageTables.{sound_rows}
use Rattle.spl_page.proofs.Rising.{rising_passed}
use Rattle.spl_page.proofs.sound_page.SoundPage.count.Goals as goal

pub returns-clause-rising : goal.returns-clause-rising
returns-clause-rising g c =
    let F = g.F.Form in
    let entries = entries_of (F.entry c.self.inside.at.page) F.entry_length c.self.inside.bytes in
    subst (λ (shown : Shown). AreRising (map F.entry_key (entries_of (F.entry shown.at.page) F.entry_length shown.bytes))) c.self.view_is (
    rising_passed (map F.entry_key entries)
    (sound_rows F.KIND F.entry_key (F.entry c.self.inside.at.page) F.entry_length c.self.inside.at c.self.inside.bytes c.self.invariant.1.sound).rising
    )

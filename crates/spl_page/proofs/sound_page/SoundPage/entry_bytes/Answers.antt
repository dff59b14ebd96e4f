use Rattle.std.proofs.Common.{◌≡◌, ◌<◌, length, drop, sym, ap, ◌∙◌, subst, ℕ, List}
use Rattle.std.specs.List.{slice_get}
use Rattle.spl_port.specs.Counts.{Shown}
use Rattle.spl_page.specs.Sound.{entries_of}
use Rattle.spl_page.proofs.Starts.{entry_at}
use Rattle.spl_page.proofs.sound_page.SoundPage.entry_bytes.Goals as goal

pub returns : goal.returns
returns g c =
    let F = g.F.Form in
    let inside = c.self.inside in
    let within = subst (λ (shown : Shown). c.args.index < length (entries_of (F.entry shown.at.page) F.entry_length shown.bytes)) (sym c.self.view_is) c.requires in
    let text = c.bytes_from.ensures ∙ ap (λ (bytes : List ℕ). drop c.index-start.result.now bytes) c.bytes.ensures in
    subst (λ (shown : Shown). slice_get (entries_of (F.entry shown.at.page) F.entry_length shown.bytes) c.args.index ≡ F.entry shown.at.page c.bytes_from.result.now) c.self.view_is (
    entry_at (F.entry inside.at.page) F.entry_length inside.bytes inside.starts.items c.self.invariant.1.places c.args.index c.index-start.result.now _ within c.index-start.ensures
    ∙ ap (F.entry inside.at.page) (sym text)
    )

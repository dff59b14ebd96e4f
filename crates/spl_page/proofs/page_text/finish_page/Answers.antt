use Rattle.std.proofs.Common.{◌≡◌, ◌-◌, ◌++◌, drop, length, List, ℕ, ap, ◌∙◌, arith}
use Rattle.std.specs.Prelude.{replicate, vec_len}
use Rattle.std.proofs.lemmas.List.{take_at}
use Rattle.spl_page.proofs.PageText.{behind_front}
use Rattle.spl_page.proofs.page_text.finish_page.Goals as goal

pub returns-clause-page : goal.returns-clause-page
returns-clause-page c =
    let bytes = c.args.out.now.items in
    let zeros : List ℕ = replicate (4096 - vec_len c.args.out.now) 0 in
    let behind : drop 16 c.resize.new.self.items ≡ drop 16 bytes ++ zeros =
    behind_front bytes c.resize.new.self.items zeros c.requires.begun c.requires.fits c.in_ok-resize.ensures.items in
    let page = c.put_front.new.page in
    let len : length page ≡ vec_len c.resize.new.self = omega (arith, c.put_front.auto.page, c.as_mut_slice.ensures.len) in
    c.from_vec.ensures
    ∙ ap (λ v. v.items) c.replace-bytes.ensures.value
    ∙ take_at page (drop (length page) c.resize.new.self.items) (vec_len c.resize.new.self) len
    ∙ c.put_front.ensures
    ∙ ap (λ (t : List ℕ). c.args.head.now ++ drop 16 t) c.as_mut_slice.ensures.value
    ∙ ap (λ (t : List ℕ). c.args.head.now ++ t) behind

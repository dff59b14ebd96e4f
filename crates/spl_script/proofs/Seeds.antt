-- The lines that a seed gives, one by one.
use Rattle.std.proofs.Common.{◌≡◌, ℕ, suc, ◌+◌, ◌-◌, ◌/◌, ◌^◌, ◌<◌, List, [], ◌∷◌, ◌++◌, ap, ◌∙◌, sym, arith, append_assoc}
use Rattle.spl_message.specs.declared.call.Call.{Call}
use Rattle.spl_script.specs.declared.lines.Deed.TheVariants.{One}
use Rattle.spl_script.specs.declared.lines.ScriptLine.{ScriptLine}
use Rattle.spl_script.specs.Generator.{next_state, call_by, line_at, generated}

-- one line more is made
pub one_made : (lines i state next : ℕ) (call : Call) (made after : List ScriptLine) (whole : List ScriptLine) → i < lines → next ≡ next_state state → call ≡ call_by (next / 2 ^ 60) next →
    made ++ generated (lines - i) state ≡ whole → after ≡ made ++ record { caller = 0; deed = One call } ∷ [] → after ++ generated (lines - (i + 1)) next ≡ whole
one_made lines i state next call made after whole within steps is so_far now =
    let left : lines - i ≡ suc (lines - (i + 1)) = omega arith in
    ap (λ m. m ++ generated (lines - (i + 1)) next) now
    ∙ append_assoc made (record { caller = 0; deed = One call } ∷ []) (generated (lines - (i + 1)) next)
    ∙ ap (λ c. made ++ record { caller = 0; deed = One c } ∷ generated (lines - (i + 1)) next) is
    ∙ ap (λ n. made ++ line_at n ∷ generated (lines - (i + 1)) n) steps
    ∙ ap (λ n. made ++ generated n state) (sym left)
    ∙ so_far

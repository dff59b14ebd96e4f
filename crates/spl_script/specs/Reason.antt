-- Reading is a function on lists of bytes, which gives a value or the reason why there is none.
use Rattle.std.specs.Prelude.{◌≡◌, Option, Some, None, Result, Ok, Err}
use Rattle.spl_script.specs.declared.reason.LineWhy.{LineWhy}
use Rattle.spl_script.specs.declared.reason.LineFault.{LineFault}
use Rattle.spl_script.specs.declared.reason.LineFault.TheVariants.{Why, NoMemory}

infixl 10 ◌>>=◌
-- reads on with what was read, or keeps the reason
abbrev pub ◌>>=◌ : {A B E : Type 0} → Result A E → (A → Result B E) → Result B E
(Ok x) >>= f = f x
(Err e) >>= f = Err e

-- what was answered is what reading gives, unless memory ran out
abbrev pub Gives : {X : Type 0} → Result X LineFault → Result X LineWhy → Type 0
Gives (Ok x) read = read ≡ Ok x
Gives (Err (Why why)) read = read ≡ Err why
Gives (Err NoMemory) read = Unit {0}

-- a value where there is one, or the reason
abbrev pub told : {X : Type 0} → LineWhy → Option X → Result X LineWhy
told why None = Err why
told why (Some x) = Ok x

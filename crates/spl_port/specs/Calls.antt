-- Which calls of a port in memory are to fail.
use Rattle.std.specs.Prelude.{ℕ, ◌==◌, Bool, true}
use Rattle.std.specs.List.{list_any}
use Rattle.spl_port.specs.declared.calls.Calls.{Calls}
use Rattle.spl_port.specs.declared.calls.Calls.TheVariants.{Listed, Reads, Every}

-- whether the call with this number fails, which is a read or another call
abbrev pub fails : Calls → ℕ → Bool → Bool
fails (Listed numbers) number is_read = list_any (λ call. call == number) numbers
fails Reads number is_read = is_read
fails Every number is_read = true

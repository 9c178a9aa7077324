-- Why a rule isn't completed.
use Rattle.std.specs.Prelude.{⊤}
use Rattle.mw_omod.specs.declared.CompletionError.{CompletionError}
use Rattle.mw_omod.specs.declared.CompletionError.TheVariants.{BadObject, Memory}

-- that this holds, or want of memory, which is free
abbrev pub HasCause : Type 0 → CompletionError → Type 0
HasCause Is BadObject = Is
HasCause Is Memory = ⊤

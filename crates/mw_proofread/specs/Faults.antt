-- Why a text, or a part of it, isn't read.
use Rattle.std.specs.Prelude.{◌≡◌, ℕ, ⊤}
use Rattle.mw_proofread.specs.declared.fault.Fault.{Fault}
use Rattle.mw_proofread.specs.declared.fault.Fault.TheVariants as fault
use Rattle.mw_proofread.specs.declared.fault.ReadError.{ReadError}
use Rattle.mw_proofread.specs.declared.fault.ReadError.TheVariants as error

-- what holds where it isn't of the form; want of memory is free
abbrev pub OnOutside : Type 0 → Fault → Type 0
OnOutside P fault.Outside = P
OnOutside P fault.Memory = ⊤

-- the same of a whole text, at the part where it isn't
abbrev pub OutsideAt : (ℕ → Type 0) → ReadError → Type 0
OutsideAt P (error.Outside j) = P j
OutsideAt P (error.Memory e) = ⊤

-- a fault in this part of a whole text
abbrev pub IsAt : Fault → ℕ → ReadError → Type 0
IsAt fault.Outside step (error.Outside j) = j ≡ step
IsAt fault.Outside step (error.Memory e) = ⊥
IsAt fault.Memory step (error.Outside j) = ⊥
IsAt fault.Memory step (error.Memory e) = ⊤

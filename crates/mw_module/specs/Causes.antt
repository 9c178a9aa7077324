-- Why there is no answer for a unit.
use Rattle.mw_module.specs.declared.faults.Fault.{Fault}
use Rattle.mw_module.specs.declared.faults.UnitError.{UnitError}
use Rattle.mw_module.specs.declared.faults.UnitError.TheVariants as error

-- want of memory, which is free, or a fault of this property
abbrev pub HasCause : (Fault → Type 0) → UnitError → Type 0
HasCause Is error.Memory = Unit {0}
HasCause Is (error.Fault fault) = Is fault

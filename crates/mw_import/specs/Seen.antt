-- The crate's values as their readers see them.
use Rattle.std.specs.Prelude.{ℕ, List, map}
use Rattle.std.specs.Global.{Vec}
use Rattle.mw_module.specs.Units.{seen_unit}
use Rattle.mw_import.specs.declared.units.Kept.{Kept}
use Rattle.mw_import.specs.Flat.{FlatUnit}

-- a unit under its module's name
abbrev pub flat_unit : Vec ℕ × Kept → FlatUnit
flat_unit e = record { name = e.0.items; statements = (seen_unit e.1.unit).statements; reached = e.1.flat }

-- the units of a table, in order
abbrev pub flat_units : List (Vec ℕ × Kept) → List FlatUnit
flat_units es = map flat_unit es

-- Accepted modules are those that contexts hold.
use Rattle.std.specs.Prelude.{ℕ, List}
use Rattle.mw_least.specs.Workable.{IsWorkable}
use Rattle.mw_module.specs.Units.{SeenUnit}
use Rattle.mw_import.specs.Flat.{FlatUnit}
use Rattle.mw_build.specs.Modules.{Accepted, IsAccepted}

-- What a unit is accepted as is workable.
abbrev pub AcceptedAreWorkable : Type 0
AcceptedAreWorkable = (us : List FlatUnit) (ms : List Accepted) (u : SeenUnit) (name reached : List ℕ) (a : Accepted) → IsAccepted us ms u name reached a → IsWorkable a.module

-- What a match decides: of n values, those behind the ones that were there are the only ones that give the instance.
use Rattle.std.specs.Prelude.{ℕ, ◌≤◌, Bool, true, false, List, length, ◌↔◌}
use Rattle.mw_logic.specs.Term.{RawTerm}
use Rattle.mw_position.specs.Positions.{Begins}

abbrev pub Decides : Bool → ℕ → List RawTerm → List RawTerm → (List RawTerm → Type 0) → Type 0
Decides true n old new P = Begins old new × ((us : List RawTerm) → Begins old us → n ≤ length us → (P us ↔ Begins new us))
Decides false n old new P = (us : List RawTerm) → Begins old us → n ≤ length us → P us → ⊥

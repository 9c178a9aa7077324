-- Which values are one element under an associative operator, by their sorts.
use Rattle.std.specs.Prelude.{◌≡◌, ℕ, true, option_map}
use Rattle.mw_logic.specs.Term.{RawTerm}
use Rattle.mw_logic.specs.Signature.{Signature, identity_term, sort}
use Rattle.mw_logic.specs.Sorts.{HasSort}
use Rattle.mw_logic.specs.Parts.{nested}
use Rattle.mw_logic.specs.NormalForm.{identity_of}
use Rattle.mw_matching.specs.Found.{is_element}
use Rattle.mw_solving.specs.Values.{IsValue}
use Rattle.mw_compile.specs.declared.singles.Joining.{Joining}

-- an operator with its identity
abbrev pub IsJoining : Signature → Joining → Type 0
IsJoining sig j = j.identity ≡ option_map identity_term (identity_of sig j.operator)

-- each value of sort S is one element under f
abbrev pub IsOne : Signature → ℕ → ℕ → Type 0
IsOne sig f S = (u : RawTerm) → IsValue sig u → HasSort sig (nested sig u) (sort S) → is_element (identity_of sig f) f u ≡ true

-- Why there is no canonical term.
use Rattle.std.specs.Prelude.{ℕ, ◌≡◌, ◌<◌, ◌≤◌, Bool, true, ⊤}
use Rattle.mw_logic.specs.Term.{RawTerm}
use Rattle.mw_logic.specs.Signature.{Signature}
use Rattle.mw_logic.specs.Parts.{IsTooDeep, IsTooLarge}
use Rattle.mw_canon.specs.declared.CanonError.{CanonError}
use Rattle.mw_canon.specs.declared.CanonError.TheVariants.{Deep, Nat, Memory}

-- the cause: the term is too deep, or it is too large and not too deep; want of memory is free
abbrev pub HasCause : Signature → RawTerm → CanonError → Type 0
HasCause sig t Deep = IsTooDeep sig t
HasCause sig t Nat = IsTooLarge sig t × ¬ IsTooDeep sig t
HasCause sig t Memory = ⊤

-- the same of a term of this height, in which, as a flag says, a successor of the largest numeral stands
abbrev pub IsLimit : ℕ → Bool → CanonError → Type 0
IsLimit height large Deep = 1000 < height
IsLimit height large Nat = (large ≡ true) × (height ≤ 1000)
IsLimit height large Memory = ⊤

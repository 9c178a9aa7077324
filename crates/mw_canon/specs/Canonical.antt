-- Canonical terms that are admitted, as the engine's terms are, and substitutions of them.
use Rattle.std.specs.Prelude.{◌≡◌, [], ◌∷◌, ⊤}
use Rattle.mw_logic.specs.Term.{RawTerm}
use Rattle.mw_logic.specs.Signature.{Signature, IsRawTerm}
use Rattle.mw_logic.specs.Parts.{nested, IsAdmitted}
use Rattle.mw_logic.specs.NormalForm.{normal_form}
use Rattle.mw_logic.specs.Substitution.{Substitution}

-- t is a canonical term of the signature that is admitted: flattened it is what its nesting's normal form is
pub record IsAdmittedTerm (sig : Signature) (t : RawTerm) : Type 0 where
  pub raw : IsRawTerm sig (nested sig t)
  pub canonical : normal_form sig (nested sig t) ≡ t
  pub admitted : IsAdmitted sig (nested sig t)

-- each value is such a term
abbrev pub HasAdmittedValues : Signature → Substitution → Type 0
HasAdmittedValues sig [] = ⊤
HasAdmittedValues sig (b ∷ s) = IsAdmittedTerm sig b.1 × HasAdmittedValues sig s

-- the substitution that one of flattened terms means
abbrev pub meant : Signature → Substitution → Substitution
meant sig [] = []
meant sig (b ∷ s) = (b.0, nested sig b.1) ∷ meant sig s

-- Moves of which it is told, by numbers alone, that their proof may be made wherever the term that it begins at stands under f.
use Rattle.std.specs.Prelude.{◌≡◌, ◌⊎◌, ◌≤◌, ◌<◌, ◌+◌, ℕ, zero, suc, pred, List, [], ◌∷◌, Some, None, option_map, unwrap_or, IsFalse, ⊤}
use Rattle.mw_logic.specs.Term.{RawTerm}
use Rattle.mw_logic.specs.Terms.{terms_of}
use Rattle.mw_logic.specs.Signature.{at_number}
use Rattle.mw_logic.specs.Substitution.{Substitution, instance}
use Rattle.mw_logic.specs.Parts.{depth}
use Rattle.mw_logic.specs.NormalForm.{identity_of, is_identity, normal_form, height, highest}
use Rattle.mw_logic.specs.Module.{Module, Statement}
use Rattle.mw_deduction.specs.Replay.{Move, into, among, out, begins, ends, applies, meets}

-- how deep a statement's right side is
abbrev pub right_depth : Module → ℕ → ℕ
right_depth M k = unwrap_or (option_map (λ (e : Statement). depth M.signature e.right) (at_number M.statements k)) 0

-- what a statement leaves, by canonical values, is no deeper than this
abbrev pub reach : Module → ℕ → List RawTerm → ℕ
reach M k vs = right_depth M k + highest (terms_of vs)

-- the statement's left side is f's identity for no values
abbrev pub IsNeverIdentity : Module → ℕ → ℕ → Type 0
IsNeverIdentity M f k = (e : Statement) → at_number M.statements k ≡ Some e → (s : Substitution) → IsFalse (is_identity (identity_of M.signature f) (normal_form M.signature (instance s e.left)))

-- So many sides in, and under so many operators outside of all sides: each replacement there leaves the whole at most 999 levels, and none is of f's identity.
abbrev pub Fits : Module → ℕ → ℕ → ℕ → List Move → Type 0
Fits M f d o [] = ⊤
Fits M f zero o (into i ∷ ms) = Fits M f zero (suc o) ms
Fits M f (suc d) o (into i ∷ ms) = Fits M f (suc d) o ms
Fits M f zero o (among ks ∷ ms) = Fits M f zero (suc o) ms
Fits M f (suc d) o (among ks ∷ ms) = Fits M f (suc d) o ms
Fits M f zero o (out ∷ ms) = Fits M f zero (pred o) ms
Fits M f (suc d) o (out ∷ ms) = Fits M f (suc d) o ms
Fits M f d o (begins t ∷ ms) = Fits M f (suc d) o ms
Fits M f zero o (ends ∷ ms) = Fits M f zero o ms
Fits M f (suc d) o (ends ∷ ms) = Fits M f d o ms
Fits M f zero o (applies k r s vs ∷ ms) = (o + reach M k vs ≤ 999) × ((0 < o) ⊎ IsNeverIdentity M f k) × Fits M f zero o ms
Fits M f (suc d) o (applies k r s vs ∷ ms) = Fits M f (suc d) o ms
Fits M f zero o (meets t ∷ ms) = (o + height t ≤ 999) × ((0 < o) ⊎ (identity_of M.signature f ≡ None)) × Fits M f zero o ms
Fits M f (suc d) o (meets t ∷ ms) = Fits M f (suc d) o ms

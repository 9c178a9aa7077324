-- Terms that are not seen as arguments under an operator.
use Rattle.std.specs.Prelude.{◌≡◌, ◌⊎◌, ◌<◌, ◌^◌, ℕ, suc, true}
use Rattle.mw_logic.specs.Term.{RawTerm, numeral}
use Rattle.mw_logic.specs.Signature.{Signature, IsSuccessor}
use Rattle.mw_logic.specs.Parts.{is_assoc}
use Rattle.mw_logic.specs.NormalForm.{identity_of, is_identity}

-- a numeral right below `s_` is one numeral with it
pub record IsHiddenNumeral (sig : Signature) (f : ℕ) (t : RawTerm) : Type 0 where
  pub number : ℕ
  pub is : t ≡ numeral number
  pub successor : IsSuccessor sig f
  pub folds : suc number < 2 ^ 128

-- that, or the identity of an associative operator
abbrev pub IsHidden : Signature → ℕ → RawTerm → Type 0
IsHidden sig f t = ((is_assoc sig f ≡ true) × (is_identity (identity_of sig f) t ≡ true)) ⊎ IsHiddenNumeral sig f t

-- What an operator gives of two numbers, and what that is in a signature.
use Rattle.std.specs.Prelude.{◌≡◌, ◌⊎◌, ℕ, Bool, true, Option, Some, None}
use Rattle.mw_logic.specs.Term.{RawTerm, RawTerms, numeral, cons, nil, constant}
use Rattle.mw_logic.specs.Signature.{Signature}
use Rattle.mw_logic.specs.NormalForm.{arranged}
use Rattle.mw_logic.specs.CanonicalPart.{IsCut}
use Rattle.mw_logic.specs.Module.{BuiltIn as OnNumbers, Result, number, truth, nothing, too_big, result_of, IsTruth, Denotes}
use Rattle.mw_builtin.specs.declared.number.Outcome.{Outcome}
use Rattle.mw_builtin.specs.declared.number.Outcome.TheVariants as outcomes
use Rattle.mw_builtin.specs.declared.pairs.Found.{Found}
use Rattle.mw_builtin.specs.declared.pairs.Found.TheVariants as founds

-- the result that is meant
abbrev pub result_for : Outcome → Result
result_for outcomes.Nothing = nothing
result_for (outcomes.Number n) = number n
result_for (outcomes.Truth b) = truth b
result_for outcomes.TooBig = too_big

-- the signature has no term for the result, and it is not too big
pub record IsBarren (sig : Signature) (r : Result) : Type 0 where
  pub no_term : (t : RawTerm) → Denotes sig r t → ⊥
  pub not_big : r ≡ too_big → ⊥

-- the result is what was found
abbrev pub IsFound : Signature → Result → Found → Type 0
IsFound sig r (founds.Number n) = r ≡ number n
IsFound sig r (founds.Constant c) = (b : Bool) × (r ≡ truth b) × IsTruth sig b (constant c)
IsFound sig r founds.TooBig = r ≡ too_big

abbrev pub IsFoundOrBarren : Signature → Result → Option Found → Type 0
IsFoundOrBarren sig r None = IsBarren sig r
IsFoundOrBarren sig r (Some found) = IsFound sig r found

-- the same of the results in both orders, of which the second counts under a commutative operator
abbrev pub IsFoundInEither : Signature → Result → Result → Bool → Option Found → Type 0
IsFoundInEither sig r s c None = IsBarren sig r × ((c ≡ true) → IsBarren sig s)
IsFoundInEither sig r s c (Some found) = IsFound sig r found ⊎ ((c ≡ true) × IsFound sig s found)

-- two numerals, in this order or under a commutative operator in the other one, give nothing
abbrev pub AreBarren : Signature → OnNumbers → Bool → RawTerm → RawTerm → Type 0
AreBarren sig b c t u = (m n : ℕ) → t ≡ numeral m → u ≡ numeral n → IsBarren sig (result_of b m n) × ((c ≡ true) → IsBarren sig (result_of b n m))

-- two numerals, in one of these orders, give what was found
pub record DoGive (sig : Signature) (b : OnNumbers) (c : Bool) (t u : RawTerm) (found : Found) : Type 0 where
  pub m : ℕ
  pub n : ℕ
  pub first : t ≡ numeral m
  pub second : u ≡ numeral n
  pub gives : IsFound sig (result_of b m n) found ⊎ ((c ≡ true) × IsFound sig (result_of b n m) found)

-- no two numerals that stand together among the arguments, or anywhere under a commutative operator, give anything
abbrev pub HasNoPair : Signature → OnNumbers → Bool → RawTerms → Type 0
HasNoPair sig b c ts = (m n : ℕ) → IsCut c ts (arranged c (cons (numeral m) (cons (numeral n) nil))) → IsBarren sig (result_of b m n)

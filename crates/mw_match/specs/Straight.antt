-- Terms in which no operator is associative or commutative, so that they are compared place by place.
use Rattle.std.specs.Prelude.{◌≡◌, false, ⊤}
use Rattle.mw_logic.specs.Term.{RawTerm, numeral, quoted, variable, apply, RawTerms, nil, cons}
use Rattle.mw_logic.specs.Signature.{Signature}
use Rattle.mw_logic.specs.Parts.{is_assoc}
use Rattle.mw_logic.specs.NormalForm.{is_comm}

abbrev mutual
  pub IsStraight : Signature → RawTerm → Type 0
  IsStraight sig (numeral n) = ⊤
  IsStraight sig (quoted q) = ⊤
  IsStraight sig (variable x) = ⊤
  IsStraight sig (apply f ts) = (is_assoc sig f ≡ false) × (is_comm sig f ≡ false) × AreStraight sig ts

  pub AreStraight : Signature → RawTerms → Type 0
  AreStraight sig nil = ⊤
  AreStraight sig (cons t ts) = IsStraight sig t × AreStraight sig ts

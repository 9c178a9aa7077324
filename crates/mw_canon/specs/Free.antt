-- Terms in which no operator has an axiom or is the successor of numbers.
use Rattle.std.specs.Prelude.{⊤}
use Rattle.mw_logic.specs.Term.{RawTerm, numeral, quoted, variable, apply, RawTerms, nil, cons}
use Rattle.mw_logic.specs.Signature.{Signature}
use Rattle.mw_canon.specs.Axioms.{HasAxioms}
use Rattle.mw_canon.specs.declared.axioms.Axioms.TheVariants.{Plain}

abbrev mutual
  pub IsFree : Signature → RawTerm → Type 0
  IsFree sig (numeral n) = ⊤
  IsFree sig (quoted q) = ⊤
  IsFree sig (variable x) = ⊤
  IsFree sig (apply f ts) = HasAxioms sig f Plain × AreFree sig ts

  pub AreFree : Signature → RawTerms → Type 0
  AreFree sig nil = ⊤
  AreFree sig (cons t ts) = IsFree sig t × AreFree sig ts

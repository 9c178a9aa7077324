-- Left sides whose arguments are compared one by one.
use Rattle.std.specs.Prelude.{ℕ, ◌≡◌, List, length}
use Rattle.mw_logic.specs.Term.{Variable, RawTerm, apply, RawTerms}
use Rattle.mw_logic.specs.Signature.{Signature}
use Rattle.mw_position.specs.Positions.{AreNumbered, counted_all}
use Rattle.mw_position.specs.Variables.{placed}
use Rattle.mw_canon.specs.Axioms.{HasAxioms}
use Rattle.mw_canon.specs.declared.axioms.Axioms.TheVariants.{Plain}
use Rattle.mw_match.specs.Straight.{AreStraight}

-- With positions for the variables xs the term is an operator without axioms on these patterns, in which no operator has one but the successor of
-- numbers. The variables are met in that order.
pub record ArePlainArguments (sig : Signature) (xs : List Variable) (t : RawTerm) (ps : RawTerms) : Type 0 where
  pub operator : ℕ
  pub pattern : apply operator ps ≡ placed xs t
  pub plain : HasAxioms sig operator Plain
  pub straight : AreStraight sig ps
  pub numbered : AreNumbered 0 ps
  pub count : counted_all 0 ps ≡ length xs

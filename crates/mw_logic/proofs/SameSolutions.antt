-- Sameness of solutions is an equivalence, and a solution agrees with what it extends.
use Rattle.mw_logic.specs.Signature.{Signature}
use Rattle.mw_logic.specs.Axioms.{done}
use Rattle.mw_logic.specs.Substitution.{Substitution, Extends, AgreesWith, SameSolution}
use Rattle.mw_logic.proofs.AxiomLaws.{trans}

module _ (sig : Signature) where
  pub agrees_with_extension : (s r : Substitution) → Extends s r → AgreesWith sig s r
  agrees_with_extension s r h x t e = (t, h x t e, done)

  pub agrees_trans : (q r s : Substitution) → AgreesWith sig q r → AgreesWith sig r s → AgreesWith sig q s
  agrees_trans q r s a b x t e = let (u, f, p) = a x t e in let (v, g, q) = b x u f in (v, g, trans p q)

  pub same_solution-refl : (s : Substitution) → SameSolution sig s s
  same_solution-refl s = (agrees_with_extension s s (λ x t e. e), agrees_with_extension s s (λ x t e. e))

  pub same_solution-sym : (r s : Substitution) → SameSolution sig r s → SameSolution sig s r
  same_solution-sym r s h = (h.1, h.0)

  pub same_solution-trans : (q r s : Substitution) → SameSolution sig q r → SameSolution sig r s → SameSolution sig q s
  same_solution-trans q r s g h = (agrees_trans q r s g.0 h.0, agrees_trans s r q h.1 g.1)

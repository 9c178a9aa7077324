-- What the declarations of an operator tell of the sorts of terms with it on top.
use Rattle.std.specs.Prelude.{ℕ, ◌≡◌, ◌↔◌, None}
use Rattle.std.proofs.Common.{◌∙◌, ⊎_elim, inr, sym, subst}
use Rattle.std.proofs.lemmas.Option.{none-some}
use Rattle.mw_logic.specs.Signature.{Signature, Operator, IsOperator, at_number}
use Rattle.mw_logic.proofs.Canonical.{same_operator}
use Rattle.mw_least.specs.Giving.{OneGives, MayGive}

-- of an operator that is there one declaration gives the sort
pub may_give_there : (sig : Signature) (f S : ℕ) (o : Operator) → IsOperator sig f o → OneGives sig o.declarations S ↔ MayGive sig f S
may_give_there sig f S o is = (
  λ g. inr (o, is, g),
  λ m. ⊎_elim
      (λ (none : at_number sig.operators f ≡ None). absurd (none-some o (sym none ∙ is)))
      (λ (q : (p : Operator) × IsOperator sig f p × OneGives sig p.declarations S). subst (λ (p : Operator). OneGives sig p.declarations S) (same_operator sig f q.0 o q.1 is) q.2)
      m,
)

-- The kinds of sorts that are known by name.
use Rattle.std.specs.Prelude.{ℕ, codes}
use Rattle.mw_logic.specs.Signature.{Signature, Operator, Member}
use Rattle.mw_poset.specs.Order.{IsSort}
use Rattle.mw_canon.specs.Axioms.{IsKindNamed}
use Rattle.mw_builtin.specs.declared.rows.Kinds.{Kinds}

-- those of numbers and of truth values
pub record AreKindsFor (sig : Signature) (kinds : Kinds) : Type 0 where
  pub numbers : IsKindNamed sig (codes "Nat") kinds.numbers
  pub truths : IsKindNamed sig (codes "Bool") kinds.truths

-- the operator's sorts are among so many
pub record HasSorts (sorts : ℕ) (o : Operator) : Type 0 where
  pub args : (K : ℕ) → Member K o.args → IsSort sorts K
  pub result : IsSort sorts o.result

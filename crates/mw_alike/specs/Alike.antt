-- What two operators, or two statements, have in common.
use Rattle.std.specs.Prelude.{◌≡◌}
use Rattle.mw_logic.specs.Signature.{Operator}
use Rattle.mw_logic.specs.Module.{Statement}

-- one name, and the same kinds and declarations
pub record AreDeclaredAlike (o p : Operator) : Type 0 where
  pub spelling : o.spelling ≡ p.spelling
  pub args : o.args ≡ p.args
  pub result : o.result ≡ p.result
  pub declarations : o.declarations ≡ p.declarations

-- the same axioms
pub record HaveSameAxioms (o p : Operator) : Type 0 where
  pub assoc : o.assoc ≡ p.assoc
  pub comm : o.comm ≡ p.comm
  pub identity : o.identity ≡ p.identity

-- the same other attributes
pub record AreMarkedAlike (o p : Operator) : Type 0 where
  pub prec : o.prec ≡ p.prec
  pub gather : o.gather ≡ p.gather
  pub config : o.config ≡ p.config
  pub frozen : o.frozen ≡ p.frozen
  pub built : o.built ≡ p.built

-- both are rules or equations, both are executable or not, both `owise` or not
pub record HaveSameMarks (s t : Statement) : Type 0 where
  pub rule : s.rule ≡ t.rule
  pub executable : s.executable ≡ t.executable
  pub owise : s.owise ≡ t.owise

pub record HaveSameSides (s t : Statement) : Type 0 where
  pub left : s.left ≡ t.left
  pub right : s.right ≡ t.right

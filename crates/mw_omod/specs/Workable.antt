-- Classes of a signature.
use Rattle.std.specs.Prelude.{◌≡◌, ℕ, [], ◌∷◌}
use Rattle.mw_logic.specs.Signature.{Signature, Operator, IsOperator, SameKind, IsAssociative}
use Rattle.mw_logic.specs.Preregular.{IsSortOf}
use Rattle.mw_omod.specs.declared.classes.Classes.{Classes}
use Rattle.mw_omod.specs.declared.classes.Role.TheVariants as role
use Rattle.mw_omod.specs.Objects.{role_of}

-- The operators and sorts of objects are in the signature, and have the kinds that they must have: what joins elements is associative, and so is what joins
-- attributes, in the kind of sets; attributes are of this kind, and so is what an object is made of; a class constant has its class's kind, an attribute takes
-- a value of its sort's.
pub record AreClasses (sig : Signature) (K : Classes) : Type 0 where
  pub union : IsAssociative sig K.union
  pub comma : IsAssociative sig K.comma
  pub comma_kind : SameKind sig comma.operator.result K.set
  pub object : Operator
  pub object_is : IsOperator sig K.object object
  pub name : ℕ
  pub class : ℕ
  pub attributes : ℕ
  pub object_args : object.args ≡ name ∷ class ∷ attributes ∷ []
  pub attributes_kind : SameKind sig K.set attributes
  pub set : IsSortOf sig K.set
  pub constants : (c S : ℕ) → role_of K c ≡ role.Class S → (o : Operator) × IsOperator sig c o × SameKind sig S o.result × IsSortOf sig S
  pub values : (f S : ℕ) → role_of K f ≡ role.Attribute S → (o : Operator) × IsOperator sig f o × (A : ℕ) × (o.args ≡ A ∷ []) × SameKind sig S A × SameKind sig o.result K.set × IsSortOf sig S

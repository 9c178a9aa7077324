-- Objects in the sides of rules: a configuration is a multiset of objects and messages, and an object has a name, a class and a set of attributes. (Maude
-- Manual, chapter 8, "Object-based programming"; Meseguer 1993, "A logical theory of concurrent objects and its realization in the Maude language".)
use Rattle.std.specs.Prelude.{◌≡◌, ℕ, List, [], ◌∷◌, ◌++◌, map, unwrap_or, codes, decimal}
use Rattle.mw_logic.specs.Term.{Variable, RawTerm, variable, apply, nil, cons, constant, binary, unary}
use Rattle.mw_logic.specs.Signature.{at_number}
use Rattle.mw_omod.specs.declared.classes.Classes.{Classes}
use Rattle.mw_omod.specs.declared.classes.Role.{Role}
use Rattle.mw_omod.specs.declared.classes.Role.TheVariants as role

-- an attribute: its operator, the sort that its class declares for its value, and the value
pub record Attribute : Type 0 where
  pub operator : ℕ
  pub sort : ℕ
  pub value : RawTerm

-- an object: its name, its class constant with the class's sort, and its attributes in order
pub record Written : Type 0 where
  pub name : RawTerm
  pub class : ℕ
  pub sort : ℕ
  pub attributes : List Attribute

-- an attribute as a term
abbrev pub attribute_term : Attribute → RawTerm
attribute_term a = unary a.operator a.value

-- Fresh variables for element number i of the left side: for its class, and for the value of an attribute that only the right side names. A blank stands in
-- each of their names, and in no token.
abbrev pub class_variable : ℕ → ℕ → Variable
class_variable i S = record { name = codes " V" ++ decimal i; sort = S }

abbrev pub value_variable : ℕ → Attribute → Variable
value_variable i a = record { name = codes " X" ++ decimal i ++ codes " " ++ decimal a.operator; sort = a.sort }

-- a variable whose name begins with a blank
abbrev pub IsAdded : Variable → Type 0
IsAdded x = (name : List ℕ) × (x.name ≡ codes " " ++ name)

-- the same attributes with fresh variables
abbrev pub fresh_value : ℕ → Attribute → Attribute
fresh_value i a = record { operator = a.operator; sort = a.sort; value = variable (value_variable i a) }

abbrev pub fresh : ℕ → List Attribute → List Attribute
fresh i xs = map (fresh_value i) xs

-- terms, and one behind them, joined by an operator from the right
abbrev pub joined_before : ℕ → List RawTerm → RawTerm → RawTerm
joined_before f [] u = u
joined_before f (t ∷ ts) u = binary f t (joined_before f ts u)

module _ (K : Classes) where
  abbrev pub role_of : ℕ → Role
  role_of f = unwrap_or (at_number K.roles f) role.Other

  -- The term is a set of these attributes: each element of it is an attribute operator on a value, and there may be none.
  pub data IsSetOf : RawTerm → List Attribute → Type 0 where
    no_attribute : IsSetOf (constant K.none) []
    an_attribute : (a : Attribute) → role_of a.operator ≡ role.Attribute a.sort → IsSetOf (attribute_term a) (a ∷ [])
    joined_attributes : (s t : RawTerm) (xs ys : List Attribute) → IsSetOf s xs → IsSetOf t ys → IsSetOf (binary K.comma s t) (xs ++ ys)

  abbrev pub object_of : RawTerm → RawTerm → RawTerm → RawTerm
  object_of name class set = apply K.object (cons name (cons class (cons set nil)))

  -- The term is this object, written: its class is a class constant, and its set has no elements but attribute operators.
  pub record IsWritten (t : RawTerm) (w : Written) : Type 0 where
    pub set : RawTerm
    pub is : t ≡ object_of w.name (constant w.class) set
    pub class : role_of w.class ≡ role.Class w.sort
    pub attributes : IsSetOf set w.attributes

  abbrev pub IsOther : RawTerm → Type 0
  IsOther t = (w : Written) → IsWritten t w → ⊥

  -- a fresh variable for the attributes that element number i of the left side doesn't name
  abbrev pub rest_variable : ℕ → Variable
  rest_variable i = record { name = codes " W" ++ decimal i; sort = K.set }

  -- a set of attributes, and behind them what stands for the others
  abbrev pub set_with : List Attribute → RawTerm → RawTerm
  set_with xs rest = joined_before K.comma (map attribute_term xs) rest

  -- the object that says no more of its class and of its other attributes than that they are those of element number i
  abbrev pub completed_object : ℕ → RawTerm → ℕ → List Attribute → RawTerm
  completed_object i name S xs = object_of name (variable (class_variable i S)) (set_with xs (variable (rest_variable i)))

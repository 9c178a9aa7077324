-- What the operators of a flattened module are to objects, by the classes that its statements declare. (Maude Manual, chapter 8, "Object-based programming",
-- and chapter 21, "Object-oriented modules"; whose sort an attribute has that two classes declare is this project's own.)
use Rattle.std.specs.Prelude.{◌≡◌, ◌≢◌, ℕ, List, [], ◌∷◌, ◌++◌, map, length, unwrap_or, Option, Some, None, codes, ⊤}
use Rattle.mw_logic.specs.Signature.{Signature, Operator, IsOperator, IsSortNamed, SameKind, IsAssociative, Member, at_number}
use Rattle.mw_carry.specs.Laws.{AreAlike}
use Rattle.mw_text.specs.Names.{name_of_tokens}
use Rattle.mw_module.specs.declared.classes.ClassAttribute.{ClassAttribute}
use Rattle.mw_module.specs.Forms.{Shape, Sorts, Subsorts, Operators, Variables, Statement, Import, Class}
use Rattle.mw_module.specs.Units.{SeenLined}
use Rattle.mw_omod.specs.Declaring.{attribute_name}
use Rattle.mw_omod.specs.declared.classes.Classes.{Classes}
use Rattle.mw_omod.specs.declared.classes.Role.{Role}
use Rattle.mw_omod.specs.declared.classes.Role.TheVariants as role

-- what a class declares: a constant, which has its name, and an operator for each attribute
pub data Declared : Type 0 where
  a_constant : List ℕ → Declared
  an_attribute : ClassAttribute → Declared

abbrev pub declared_by : Shape → List Declared
declared_by (Sorts names) = []
declared_by (Subsorts groups) = []
declared_by (Operators names args result said) = []
declared_by (Variables names sort) = []
declared_by (Statement rule left right fragments executable) = []
declared_by (Import m) = []
declared_by (Class name attributes) = a_constant name ∷ map an_attribute attributes

-- what the classes among statements declare, in order
abbrev pub declared_in : List SeenLined → List Declared
declared_in [] = []
declared_in (s ∷ ss) = declared_by s.shape ++ declared_in ss

-- x is the first of the list that has the property
pub data IsFirst {X : Type 0} (P : X → Type 0) : X → List X → Type 0 where
  here : (x : X) (xs : List X) → P x → IsFirst P x (x ∷ xs)
  behind : (x y : X) (ys : List X) → (P y → ⊥) → IsFirst P x ys → IsFirst P x (y ∷ ys)

-- what operator number f is, where these are the roles of the operators in order
abbrev pub role_in : List Role → ℕ → Role
role_in roles f = unwrap_or (at_number roles f) role.Other

module _ (sig : Signature) where
  -- the sorts have these names, one by one
  abbrev pub AreNamed : List ℕ → List (List ℕ) → Type 0
  AreNamed [] [] = ⊤
  AreNamed [] (name ∷ names) = ⊥
  AreNamed (S ∷ Ss) [] = ⊥
  AreNamed (S ∷ Ss) (name ∷ names) = IsSortNamed sig S name × AreNamed Ss names

  -- f is an operator of this spelling on the kinds of these sorts, with a value of the kind of this one
  pub record IsOperatorAt (spelling : List ℕ) (sorts : List ℕ) (sort : ℕ) (f : ℕ) : Type 0 where
    pub operator : Operator
    pub is_there : IsOperator sig f operator
    pub spelled : operator.spelling ≡ spelling
    pub takes : AreAlike sig sorts operator.args
    pub gives : SameKind sig sort operator.result

  -- the same of sorts of these names
  pub record IsOperatorOn (spelling : List ℕ) (args : List (List ℕ)) (value : List ℕ) (f : ℕ) : Type 0 where
    pub sorts : List ℕ
    pub sort : ℕ
    pub args_named : AreNamed sorts args
    pub value_named : IsSortNamed sig sort value
    pub is : IsOperatorAt spelling sorts sort f

  -- f is an operator of this spelling that joins two elements of a sort to one, and is associative
  pub record IsJoining (spelling : List ℕ) (name : List ℕ) (f : ℕ) : Type 0 where
    pub on : IsOperatorOn spelling (name ∷ name ∷ []) name f
    pub assoc : IsAssociative sig f

  -- S is the sort of sets of attributes, and attributes are of its kind
  pub record IsSortOfSets (S : ℕ) : Type 0 where
    pub named : IsSortNamed sig S (codes "AttributeSet")
    pub attribute : ℕ
    pub attribute_named : IsSortNamed sig attribute (codes "Attribute")
    pub of_kind : SameKind sig attribute S

  -- the operators of objects are CONFIGURATION's, and the sort of sets is, whatever the roles are
  pub record AreOfConfiguration (K : Classes) : Type 0 where
    pub none : IsOperatorOn (codes "none") [] (codes "AttributeSet") K.none
    pub comma : IsJoining (codes "_`,_") (codes "AttributeSet") K.comma
    pub object : IsOperatorOn (codes "<_:_|_>") (codes "Oid" ∷ codes "Cid" ∷ codes "AttributeSet" ∷ []) (codes "Object") K.object
    pub union : IsJoining (codes "__") (codes "Configuration") K.union
    pub set : IsSortOfSets K.set

  -- f is the operator that is declared
  abbrev pub IsDeclaredAs : ℕ → Declared → Type 0
  IsDeclaredAs f (a_constant name) = IsOperatorOn (name_of_tokens (name ∷ [])) [] name f
  IsDeclaredAs f (an_attribute a) = IsOperatorOn (name_of_tokens (attribute_name a.name)) (a.sort ∷ []) (codes "Attribute") f

  -- What operator f is, by what first declares it: the constant of a class, with the class's sort, or the operator of an attribute, with the sort that the
  -- class declares for its values.
  pub data IsRoleOf (ds : List Declared) (f : ℕ) : Role → Type 0 where
    of_class : (name : List ℕ) (S : ℕ) → IsFirst (IsDeclaredAs f) (a_constant name) ds → IsSortNamed sig S name → IsRoleOf ds f (role.Class S)
    of_attribute : (a : ClassAttribute) (S : ℕ) → IsFirst (IsDeclaredAs f) (an_attribute a) ds → IsSortNamed sig S a.sort → IsRoleOf ds f (role.Attribute S)
    of_none : ((d : Declared) → Member d ds → IsDeclaredAs f d → ⊥) → IsRoleOf ds f role.Other

  -- each operator has its role
  pub record AreRolesOf (ds : List Declared) (roles : List Role) : Type 0 where
    pub count : length roles ≡ length sig.operators
    pub each : (f : ℕ) → IsRoleOf ds f (role_in roles f)

  -- These are the classes of a module with these statements.
  pub record AreClassesOf (ss : List SeenLined) (K : Classes) : Type 0 where
    pub configuration : AreOfConfiguration K
    pub roles : AreRolesOf (declared_in ss) K.roles

-- In an object module, where CONFIGURATION is reached, the classes are these; in any other module there are none.
pub data AreObjectsOf (word : List ℕ) (sig : Signature) (ss : List SeenLined) : Option Classes → Type 0 where
  of_objects : (K : Classes) → word ≡ codes "omod" → AreClassesOf sig ss K → AreObjectsOf word sig ss (Some K)
  of_no_configuration : word ≡ codes "omod" → ((K : Classes) → AreOfConfiguration sig K → ⊥) → AreObjectsOf word sig ss None
  of_others : word ≢ codes "omod" → AreObjectsOf word sig ss None

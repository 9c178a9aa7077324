-- What is looked for of CONFIGURATION: its sorts, and its operators on them.
use Rattle.std.specs.Prelude.{[], ◌∷◌, Option, MatchOption, codes}
use Rattle.mw_logic.specs.Signature.{Signature, IsSortNamed, IsAssociative, SameKind}
use Rattle.mw_omod.specs.declared.classes.Role.{Role}
use Rattle.mw_omod.specs.declared.classes.Role.TheVariants as role
use Rattle.mw_build.specs.declared.classes.ObjectSorts.{ObjectSorts}
use Rattle.mw_build.specs.declared.classes.ObjectOperators.{ObjectOperators}
use Rattle.mw_build.specs.declared.classes.Configuration.{Configuration}
use Rattle.mw_build.specs.Classes.{IsOperatorOn}

-- what is found has the property, and where nothing is found, nothing has it
abbrev pub Finds : {X : Type 0} → (X → Type 0) → Option X → Type 0
Finds P found = MatchOption found ((x : _) → P x → ⊥) P

-- the first role, or where it is none the second
abbrev pub or_role : Role → Role → Role
or_role role.Other r = r
or_role (role.Class S) r = role.Class S
or_role (role.Attribute S) r = role.Attribute S

module _ (sig : Signature) where
  -- the sorts have the names that they stand for
  pub record AreObjectSorts (s : ObjectSorts) : Type 0 where
    pub attribute : IsSortNamed sig s.attribute (codes "Attribute")
    pub set : IsSortNamed sig s.set (codes "AttributeSet")
    pub name : IsSortNamed sig s.name (codes "Oid")
    pub class : IsSortNamed sig s.class (codes "Cid")
    pub object : IsSortNamed sig s.object (codes "Object")
    pub configuration : IsSortNamed sig s.configuration (codes "Configuration")

  -- the operators have the names that they stand for, and are on the kinds that they must be on
  pub record AreObjectOperators (o : ObjectOperators) : Type 0 where
    pub none : IsOperatorOn sig (codes "none") [] (codes "AttributeSet") o.none
    pub comma : IsOperatorOn sig (codes "_`,_") (codes "AttributeSet" ∷ codes "AttributeSet" ∷ []) (codes "AttributeSet") o.comma
    pub object : IsOperatorOn sig (codes "<_:_|_>") (codes "Oid" ∷ codes "Cid" ∷ codes "AttributeSet" ∷ []) (codes "Object") o.object
    pub union : IsOperatorOn sig (codes "__") (codes "Configuration" ∷ codes "Configuration" ∷ []) (codes "Configuration") o.union

  -- both, where attributes are of the kind of their sets, and what joins these is associative, as is what joins configurations
  pub record IsConfiguration (c : Configuration) : Type 0 where
    pub sorts : AreObjectSorts c.sorts
    pub operators : AreObjectOperators c.operators
    pub of_sets : SameKind sig c.sorts.attribute c.sorts.set
    pub comma : IsAssociative sig c.operators.comma
    pub union : IsAssociative sig c.operators.union

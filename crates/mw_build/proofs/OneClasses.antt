-- The classes of a module are one.
use Rattle.std.proofs.Common.{◌≡◌, ◌∙◌, ℕ, zero, suc, List, [], ◌∷◌, length, Option, Some, refl, sym, ap, subst}
use Rattle.mw_logic.specs.Signature.{Signature, IsSortNamed}
use Rattle.mw_logic.specs.Accepted.{IsAccepted}
use Rattle.mw_carry.specs.Laws.{OperatorsApart}
use Rattle.mw_module.specs.declared.classes.ClassAttribute.{ClassAttribute}
use Rattle.mw_module.specs.Units.{SeenLined}
use Rattle.mw_omod.specs.declared.classes.Classes.{Classes}
use Rattle.mw_omod.specs.declared.classes.Role.{Role}
use Rattle.mw_omod.specs.declared.classes.Role.TheVariants as role
use Rattle.mw_build.specs.Classes.{Declared, a_constant, an_attribute, role_in, IsOperatorOn, IsDeclaredAs, IsRoleOf, of_class, of_attribute, of_none, AreClassesOf, AreObjectsOf, of_objects, of_no_configuration, of_others, declared_in}
use Rattle.mw_build.proofs.FirstOf.{first_one, first_among}
use Rattle.mw_build.proofs.ObjectOperators.{one_operator}

same_roles : (xs ys : List Role) → length xs ≡ length ys → ((f : ℕ) → role_in xs f ≡ role_in ys f) → xs ≡ ys
same_roles [] [] n h = refl
same_roles [] (y ∷ ys) n h = cc
same_roles (x ∷ xs) [] n h = cc
same_roles (x ∷ xs) (y ∷ ys) n h =
    let first : x ≡ y = h 1 in
    let rest : xs ≡ ys = same_roles xs ys (cc n) behind in
    ap (λ z. z ∷ xs) first ∙ ap (λ zs. y ∷ zs) rest
  where
    behind : (f : ℕ) → role_in xs f ≡ role_in ys f
    behind zero = refl
    behind (suc i) = h (suc (suc i))

module _ (sig : Signature) (ok : IsAccepted sig) where
  -- an operator has one role
  one_role : (ds : List Declared) (f : ℕ) {r s : Role} → IsRoleOf sig ds f r → IsRoleOf sig ds f s → r ≡ s
  one_role ds f (of_class n S p named) (of_class k T q told) =
      let same : a_constant n ≡ a_constant k = first_one (IsDeclaredAs sig f) p q in
      let name : n ≡ k = cc in
      ap role.Class (ok.sorts_differ S T k (subst (IsSortNamed sig S) name named) told)
  one_role ds f (of_class n S p named) (of_attribute b T q told) = let same : a_constant n ≡ an_attribute b = first_one (IsDeclaredAs sig f) p q in cc
  one_role ds f (of_class n S p named) (of_none none) = let m = first_among (IsDeclaredAs sig f) p in absurd (none (a_constant n) m.0 m.1)
  one_role ds f (of_attribute a S p named) (of_class k T q told) = let same : an_attribute a ≡ a_constant k = first_one (IsDeclaredAs sig f) p q in cc
  one_role ds f (of_attribute a S p named) (of_attribute b T q told) =
      let same : an_attribute a ≡ an_attribute b = first_one (IsDeclaredAs sig f) p q in
      let attribute : a ≡ b = cc in
      ap role.Attribute (ok.sorts_differ S T b.sort (subst (λ (a : ClassAttribute). IsSortNamed sig S a.sort) attribute named) told)
  one_role ds f (of_attribute a S p named) (of_none none) = let m = first_among (IsDeclaredAs sig f) p in absurd (none (an_attribute a) m.0 m.1)
  one_role ds f (of_none none) (of_class k T q told) = let m = first_among (IsDeclaredAs sig f) q in absurd (none (a_constant k) m.0 m.1)
  one_role ds f (of_none none) (of_attribute b T q told) = let m = first_among (IsDeclaredAs sig f) q in absurd (none (an_attribute b) m.0 m.1)
  one_role ds f (of_none none) (of_none not) = refl

  module _ (apart : OperatorsApart sig) where
    one_on : {spelling : List ℕ} {names : List (List ℕ)} {name : List ℕ} {f g : ℕ} → IsOperatorOn sig spelling names name f
        → IsOperatorOn sig spelling names name g → f ≡ g
    one_on {spelling} {names} {name} {f} {g} p q = one_operator sig ok apart spelling names name f g p q

    one_classes : (ss : List SeenLined) (K L : Classes) → AreClassesOf sig ss K → AreClassesOf sig ss L → K ≡ L
    one_classes ss K L p q =
        let a = p.configuration in
        let b = q.configuration in
        let roles = same_roles K.roles L.roles (p.roles.count ∙ sym q.roles.count) (λ f. one_role (declared_in ss) f (p.roles.each f) (q.roles.each f)) in
        let none : K.none ≡ L.none = one_on a.none b.none in
        let comma : K.comma ≡ L.comma = one_on a.comma.on b.comma.on in
        let object : K.object ≡ L.object = one_on a.object b.object in
        let union : K.union ≡ L.union = one_on a.union.on b.union.on in
        let set : K.set ≡ L.set = ok.sorts_differ K.set L.set _ a.set.named b.set.named in
        λ i. record { roles = roles i; none = none i; comma = comma i; object = object i; union = union i; set = set i }

    pub one_objects : (word : List ℕ) (ss : List SeenLined) (o p : Option Classes) → AreObjectsOf word sig ss o → AreObjectsOf word sig ss p → o ≡ p
    one_objects word ss o p (of_objects K w k) (of_objects L v l) = ap Some (one_classes ss K L k l)
    one_objects word ss o p (of_objects K w k) (of_no_configuration v missing) = absurd (missing K k.configuration)
    one_objects word ss o p (of_objects K w k) (of_others other) = absurd (other w)
    one_objects word ss o p (of_no_configuration w missing) (of_objects L v l) = absurd (missing L l.configuration)
    one_objects word ss o p (of_no_configuration w missing) (of_no_configuration v not) = refl
    one_objects word ss o p (of_no_configuration w missing) (of_others not) = refl
    one_objects word ss o p (of_others other) (of_objects L v l) = absurd (other v)
    one_objects word ss o p (of_others other) (of_no_configuration v not) = refl
    one_objects word ss o p (of_others other) (of_others not) = refl

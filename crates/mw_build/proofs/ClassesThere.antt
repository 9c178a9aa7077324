-- The classes of a module are classes of its signature.
use Rattle.std.proofs.Common.{◌≡◌, ◌∙◌, ℕ, List, [], ◌∷◌, refl, sym, ap, subst}
use Rattle.mw_logic.specs.Signature.{Signature, Operator, IsOperator, IsSortNamed, SameKind}
use Rattle.mw_logic.specs.Accepted.{IsAccepted}
use Rattle.mw_logic.specs.Preregular.{IsSortOf}
use Rattle.mw_logic.proofs.Canonical.{same_operator}
use Rattle.mw_logic.proofs.KindLaws.{SameKind-trans, SameKind-sym}
use Rattle.mw_carry.specs.Laws.{AreAlike}
use Rattle.mw_carry.proofs.Numbers.{within_at}
use Rattle.mw_module.specs.Units.{SeenLined}
use Rattle.mw_omod.specs.declared.classes.Classes.{Classes}
use Rattle.mw_omod.specs.declared.classes.Role.TheVariants as role
use Rattle.mw_omod.specs.Workable.{AreClasses}
use Rattle.mw_build.specs.Classes.{Declared, a_constant, an_attribute, declared_in, AreNamed, IsOperatorOn, IsSortOfSets, IsDeclaredAs, IsRoleOf, of_class, of_attribute, AreClassesOf}
use Rattle.mw_build.proofs.FirstOf.{first_among}

module _ (sig : Signature) (ok : IsAccepted sig) where
  -- an operator's value is of the kind of the sort of this name
  value_kind : {spelling : List ℕ} {names : List (List ℕ)} {name : List ℕ} {f : ℕ} (on : IsOperatorOn sig spelling names name f) (S : ℕ) → IsSortNamed sig S name
      → SameKind sig S on.is.operator.result
  value_kind {name = name} on S named = subst (λ T. SameKind sig T on.is.operator.result) (ok.sorts_differ on.sort S name on.value_named named) on.is.gives

  -- the one kind
  one_kind : (Ss Ks : List ℕ) (name : List ℕ) (S : ℕ) → AreNamed sig Ss (name ∷ []) → AreAlike sig Ss Ks → IsSortNamed sig S name
      → (A : ℕ) × (Ks ≡ A ∷ []) × SameKind sig S A
  one_kind [] Ks name S n k named = absurd n
  one_kind (T ∷ []) [] name S n k named = absurd k
  one_kind (T ∷ []) (K ∷ []) name S n k named = (K, refl, subst (λ T. SameKind sig T K) (ok.sorts_differ T S name n.0 named) k.0)
  one_kind (T ∷ []) (K ∷ L ∷ Ls) name S n k named = absurd k.1
  one_kind (T ∷ U ∷ Ts) Ks name S n k named = absurd n.1

  -- a kind before others
  first_kind : (Ss Ks : List ℕ) (name : List ℕ) (names : List (List ℕ)) → AreNamed sig Ss (name ∷ names) → AreAlike sig Ss Ks
      → (A : ℕ) × (Ts : List ℕ) × (Ls : List ℕ) × (Ks ≡ A ∷ Ls) × AreNamed sig Ts names × AreAlike sig Ts Ls
  first_kind [] Ks name names n k = absurd n
  first_kind (T ∷ Ts) [] name names n k = absurd k
  first_kind (T ∷ Ts) (K ∷ Ks) name names n k = (K, Ts, Ks, refl, n.1, k.1)

  -- three kinds, of which the last is that of the sort of this name
  three_kinds : (Ss Ks : List ℕ) (l m n : List ℕ) (S : ℕ) → AreNamed sig Ss (l ∷ m ∷ n ∷ []) → AreAlike sig Ss Ks → IsSortNamed sig S n
      → (A : ℕ) × (B : ℕ) × (C : ℕ) × (Ks ≡ A ∷ B ∷ C ∷ []) × SameKind sig S C
  three_kinds Ss Ks l m n S all alike named =
      let (A, Ts, Ls, e, more, others) = first_kind Ss Ks l (m ∷ n ∷ []) all alike in
      let (B, Us, Ms, d, rest, last) = first_kind Ts Ls m (n ∷ []) more others in
      let (C, c, s) = one_kind Us Ms n S rest last named in
      (A, B, C, e ∙ ap (λ Zs. A ∷ Zs) (d ∙ ap (λ Zs. B ∷ Zs) c), s)

  class_there : (ds : List Declared) (f S : ℕ) → IsRoleOf sig ds f (role.Class S) → (o : Operator) × IsOperator sig f o × SameKind sig S o.result × IsSortOf sig S
  class_there ds f S (of_class name _ first named) =
      let on : IsDeclaredAs sig f (a_constant name) = (first_among (IsDeclaredAs sig f) first).1 in
      (on.is.operator, on.is.is_there, value_kind on S named, within_at sig.sorts S name named)

  attribute_there : (ds : List Declared) (set : ℕ) → IsSortOfSets sig set → (f S : ℕ) → IsRoleOf sig ds f (role.Attribute S)
      → (o : Operator) × IsOperator sig f o × (A : ℕ) × (o.args ≡ A ∷ []) × SameKind sig S A × SameKind sig o.result set × IsSortOf sig S
  attribute_there ds set sets f S (of_attribute a _ first named) =
      let on : IsDeclaredAs sig f (an_attribute a) = (first_among (IsDeclaredAs sig f) first).1 in
      let (A, args, kind) = one_kind on.sorts on.is.operator.args a.sort S on.args_named on.is.takes named in
      let result = SameKind-trans (SameKind-sym (value_kind on sets.attribute sets.attribute_named)) sets.of_kind in
      (on.is.operator, on.is.is_there, A, args, kind, result, within_at sig.sorts S a.sort named)

  pub classes_there : (ss : List SeenLined) (K : Classes) → AreClassesOf sig ss K → AreClasses sig K
  classes_there ss K p =
      let c = p.configuration in
      let set = c.set.named in
      let comma : c.comma.assoc.operator ≡ c.comma.on.is.operator =
      same_operator sig K.comma c.comma.assoc.operator c.comma.on.is.operator c.comma.assoc.is_there c.comma.on.is.is_there in
      let (A, B, C, args, attributes) = three_kinds c.object.sorts c.object.is.operator.args _ _ _ K.set c.object.args_named c.object.is.takes set in
      record {
        union = c.union.assoc;
        comma = c.comma.assoc;
        comma_kind = subst (λ (o : Operator). SameKind sig o.result K.set) (sym comma) (SameKind-sym (value_kind c.comma.on K.set set));
        object = c.object.is.operator;
        object_is = c.object.is.is_there;
        name = A;
        class = B;
        attributes = C;
        object_args = args;
        attributes_kind = attributes;
        set = within_at sig.sorts K.set _ set;
        constants = λ f S r. class_there (declared_in ss) f S (subst (IsRoleOf sig (declared_in ss) f) r (p.roles.each f));
        values = λ f S r. attribute_there (declared_in ss) K.set c.set f S (subst (IsRoleOf sig (declared_in ss) f) r (p.roles.each f));
      }

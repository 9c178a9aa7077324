-- The roles of operators, with one declaration more.
use Rattle.std.proofs.Common.{◌≡◌, ◌≢◌, ◌∙◌, ◌+◌, ◌<◌, ℕ, zero, suc, List, [], ◌∷◌, ◌++◌, length, map, take, drop, get_or, append_assoc, Bool, true, false, nat_eq, replicate, refl, sym, ap, subst, arith}
use Rattle.std.proofs.lemmas.Bool.{eqb-true, eq-eqb, both_ways}
use Rattle.std.proofs.lemmas.List.{append-nil, map-append, length-replicate, take_more, drop_all, take_all}
use Rattle.mw_logic.specs.Signature.{Signature, IsSortNamed, Member}
use Rattle.mw_module.specs.declared.classes.ClassAttribute.{ClassAttribute}
use Rattle.mw_module.specs.declared.units.Stated.{Stated}
use Rattle.mw_module.specs.Units.{SeenLined, seen_stated, seen_all}
use Rattle.mw_omod.specs.declared.classes.Role.{Role}
use Rattle.mw_omod.specs.declared.classes.Role.TheVariants as role
use Rattle.mw_build.specs.Classes.{Declared, a_constant, an_attribute, declared_by, declared_in, role_in, IsDeclaredAs, IsRoleOf, of_class, of_attribute, of_none, AreRolesOf}
use Rattle.mw_build.specs.Configurations.{or_role}
use Rattle.mw_build.proofs.FirstOf.{first_before, first_last, none_more}

-- no operator has a role yet
none_in : (n f : ℕ) → role_in (replicate n role.Other) f ≡ role.Other
none_in n zero = refl
none_in zero (suc i) = refl
none_in (suc n) (suc zero) = refl
none_in (suc n) (suc (suc i)) = none_in n (suc i)

module _ (sig : Signature) where
  pub no_roles : (roles : List Role) → roles ≡ replicate (length sig.operators) role.Other → AreRolesOf sig [] roles
  no_roles roles e = record {
    count = ap length e ∙ length-replicate (length sig.operators) role.Other;
    each = λ f. subst (IsRoleOf sig [] f) (sym (ap (λ rs. role_in rs f) e ∙ none_in (length sig.operators) f)) (of_none (λ d m p. m));
  }

  -- the role that a declaration tells
  abbrev pub IsTold : Declared → Role → Type 0
  IsTold (a_constant name) r = (S : ℕ) × (r ≡ role.Class S) × IsSortNamed sig S name
  IsTold (an_attribute a) r = (S : ℕ) × (r ≡ role.Attribute S) × IsSortNamed sig S a.sort

  module _ (ds : List Declared) (f : ℕ) where
    -- what an operator is that isn't declared so
    role_kept : (d : Declared) {r : Role} → (IsDeclaredAs sig f d → ⊥) → IsRoleOf sig ds f r → IsRoleOf sig (ds ++ d ∷ []) f r
    role_kept d lacks (of_class name S first named) = of_class name S (first_before (IsDeclaredAs sig f) (d ∷ []) first) named
    role_kept d lacks (of_attribute a S first named) = of_attribute a S (first_before (IsDeclaredAs sig f) (d ∷ []) first) named
    role_kept d lacks (of_none none) = of_none (none_more (IsDeclaredAs sig f) d ds none lacks)

    -- what a declaration makes of one that is, where nothing before does
    role_first : (d : Declared) (s : Role) → ((e : Declared) → Member e ds → IsDeclaredAs sig f e → ⊥) → IsDeclaredAs sig f d → IsTold d s
        → IsRoleOf sig (ds ++ d ∷ []) f s
    role_first (a_constant name) s none is (S, e, named) =
        subst (IsRoleOf sig (ds ++ a_constant name ∷ []) f) (sym e) (of_class name S (first_last (IsDeclaredAs sig f) (a_constant name) ds none is) named)
    role_first (an_attribute a) s none is (S, e, named) =
        subst (IsRoleOf sig (ds ++ an_attribute a ∷ []) f) (sym e) (of_attribute a S (first_last (IsDeclaredAs sig f) (an_attribute a) ds none is) named)

    role_told : (d : Declared) (s : Role) {r : Role} → IsDeclaredAs sig f d → IsTold d s → IsRoleOf sig ds f r → IsRoleOf sig (ds ++ d ∷ []) f (or_role r s)
    role_told d s is told (of_class name S first named) = of_class name S (first_before (IsDeclaredAs sig f) (d ∷ []) first) named
    role_told d s is told (of_attribute a S first named) = of_attribute a S (first_before (IsDeclaredAs sig f) (d ∷ []) first) named
    role_told d s is told (of_none none) = role_first d s none is told

  -- all of them, where no operator is declared so
  pub roles_kept : (ds : List Declared) (d : Declared) (roles : List Role) → ((f : ℕ) → IsDeclaredAs sig f d → ⊥) → AreRolesOf sig ds roles
      → AreRolesOf sig (ds ++ d ∷ []) roles
  roles_kept ds d roles lacks are = record { count = are.count; each = λ f. role_kept ds f d (lacks f) (are.each f) }

  -- and where g is, and no other one
  pub roles_told : (ds : List Declared) (d : Declared) (old new : List Role) (g : ℕ) (s : Role) → IsTold d s → IsDeclaredAs sig g d
      → ((f : ℕ) → IsDeclaredAs sig f d → f ≡ g) → length new ≡ length old → role_in new g ≡ or_role (role_in old g) s → ((f : ℕ) → f ≢ g → role_in new f ≡ role_in old f)
      → AreRolesOf sig ds old → AreRolesOf sig (ds ++ d ∷ []) new
  roles_told ds d old new g s told is only long noted others are = record { count = long ∙ are.count; each = λ f. of f (nat_eq f g) refl }
    where
      of : (f : ℕ) (b : Bool) → nat_eq f g ≡ b → IsRoleOf sig (ds ++ d ∷ []) f (role_in new f)
      of f true e =
          subst (λ h. IsRoleOf sig (ds ++ d ∷ []) h (role_in new h)) (sym (eqb-true f g e))
          (subst (IsRoleOf sig (ds ++ d ∷ []) g) (sym noted) (role_told ds g d s is told (are.each g)))
      of f false e =
          let not : f ≢ g = λ k. both_ways (nat_eq f g) e (eq-eqb f g k) in
          subst (IsRoleOf sig (ds ++ d ∷ []) f) (sym (others f not)) (role_kept ds f d (λ p. not (only f p)) (are.each f))

-- what attributes declare, with one more
pub attributes_more : (ds : List Declared) (as_ : List ClassAttribute) (i : ℕ) (a : ClassAttribute) → i < length as_ → a ≡ get_or as_ i a
    → (ds ++ map an_attribute (take i as_)) ++ an_attribute a ∷ [] ≡ ds ++ map an_attribute (take (i + 1) as_)
attributes_more ds as_ i a low is =
    let taken : take (i + 1) as_ ≡ take i as_ ++ a ∷ [] = take_more as_ i a low ∙ ap (λ b. take i as_ ++ b ∷ []) (sym is) in
    append_assoc ds (map an_attribute (take i as_)) (an_attribute a ∷ [])
    ∙ ap (λ es. ds ++ es) (sym (ap (map an_attribute) taken ∙ map-append an_attribute (take i as_) (a ∷ [])))

-- what statements declare, with one more
declared_before : (ss : List SeenLined) (s : SeenLined) → declared_in (ss ++ s ∷ []) ≡ declared_in ss ++ declared_by s.shape
declared_before [] s = append-nil (declared_by s.shape)
declared_before (t ∷ ss) s = ap (λ ds. declared_by t.shape ++ ds) (declared_before ss s) ∙ sym (append_assoc (declared_by t.shape) (declared_in ss) (declared_by s.shape))

pub declared_more : (ss : List Stated) (i : ℕ) (s : Stated) → i < length ss → s ≡ get_or ss i s
    → declared_in (seen_all (take i ss)) ++ declared_by (seen_stated s).shape ≡ declared_in (seen_all (take (i + 1) ss))
declared_more ss i s low is =
    let taken : take (i + 1) ss ≡ take i ss ++ s ∷ [] = take_more ss i s low ∙ ap (λ t. take i ss ++ t ∷ []) (sym is) in
    sym (ap (λ ts. declared_in (seen_all ts)) taken ∙ ap declared_in (map-append seen_stated (take i ss) (s ∷ [])) ∙ declared_before (seen_all (take i ss)) (seen_stated s))

-- what a slice of all roles was lent as comes back as all roles
pub all_back : (n : ℕ) (new old : List Role) → n ≡ length old → length new ≡ length old → take n (new ++ drop (length new) old) ≡ new
all_back n new old all long =
    let none : drop (length new) old ≡ [] = drop_all (length new) old (omega arith) in
    ap (λ rest. take n (new ++ rest)) none ∙ ap (take n) (append-nil new) ∙ take_all n new (omega arith)

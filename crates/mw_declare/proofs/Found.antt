-- The operators that statements declare are there.
use Rattle.std.proofs.Common.{◌≡◌, ℕ, List, [], ◌∷◌, length, Bool, true, false, Option, Some, None, All, if◌then◌else◌, refl, sym, subst, inl, inr}
use Rattle.std.specs.Prelude.{⊤, codes}
use Rattle.std.proofs.lemmas.List.Elements.{All-nil, All-cons, All-weaker}
use Rattle.mw_logic.specs.Signature.{Declaration, Member}
use Rattle.mw_module.specs.Attributes.{Attributes}
use Rattle.mw_module.specs.Forms.{Shape, Sorts, Subsorts, Operators, Variables, Statement, Import, Class}
use Rattle.mw_module.specs.Units.{SeenLined}
use Rattle.mw_logic.proofs.Members.{member-left}
use Rattle.mw_poset.proofs.Members.{member-last, member-all}
use Rattle.mw_declare.specs.declared.built.Truth.{Truth}
use Rattle.mw_declare.specs.Meaning.{Name}
use Rattle.mw_declare.specs.Hierarchy.{Hierarchy, hierarchy_of}
use Rattle.mw_declare.specs.Built.{truth_of, kinds_from, some_declares}
use Rattle.mw_declare.specs.Operators.{Rank, rank_of, Profile, same_profile, Declared, declared_again, with_operator, profile_of, with_named, with_operators, operators_from, Single, with_singles, choice_of, test_of, built_for, with_kinds, with_built, operators_of}
use Rattle.mw_declare.proofs.Apart.{same_of}
use Rattle.mw_declare.proofs.Declaring.{stated, stated_profile, stated_declaration, profile_stated, declaration_stated}
use Rattle.mw_declare.proofs.Folding.{declared_once}
use Rattle.mw_declare.proofs.KindNames.{NamesKind, kind_member}
use Rattle.mw_declare.proofs.Within.{AllShaped}

-- an operator of this profile is among these, and has this declaration
pub record IsFound (os : List Declared) (q : Profile) (c : Declaration) : Type 0 where
  pub operator : Declared
  pub member : Member operator os
  pub is : same_profile q operator.profile ≡ true
  pub declared : Member c operator.declarations

behind : (x : Declared) (os : List Declared) (q : Profile) (c : Declaration) → IsFound os q c → IsFound (x ∷ os) q c
behind x os q c f = record { operator = f.operator; member = inr f.member; is = f.is; declared = f.declared }

-- also where the first is declared again
again : (x : Declared) (os : List Declared) (d : Declaration) (said : Attributes) (q : Profile) (c : Declaration) → IsFound (x ∷ os) q c → IsFound (declared_again x d said ∷ os) q c
again x os d said q c f = of f.member
  where
    of : Member f.operator (x ∷ os) → IsFound (declared_again x d said ∷ os) q c
    of (inl is) = record {
      operator = declared_again x d said;
      member = inl refl;
      is = subst (λ (o : Declared). same_profile q o.profile ≡ true) (sym is) f.is;
      declared = member-left c x.declarations (d ∷ []) (subst (λ (o : Declared). Member c o.declarations) (sym is) f.declared);
    }
    of (inr m) = record { operator = f.operator; member = inr m; is = f.is; declared = f.declared }

pub kept_with : (os : List Declared) (p : Profile) (d : Declaration) (said : Attributes) (q : Profile) (c : Declaration) → IsFound os q c → IsFound (with_operator os p d said) q c
kept_with [] p d said q c f = absurd f.member
kept_with (x ∷ os) p d said q c f = of (same_profile p x.profile) f.member (λ k. kept_with os p d said q c (record { operator = f.operator; member = k; is = f.is; declared = f.declared }))
  where
    of : (b : Bool) → Member f.operator (x ∷ os) → (Member f.operator os → IsFound (with_operator os p d said) q c)
        → IsFound (if b then declared_again x d said ∷ os else x ∷ with_operator os p d said) q c
    of true m more = again x os d said q c f
    of false (inl is) more = record { operator = f.operator; member = inl is; is = f.is; declared = f.declared }
    of false (inr k) more = behind x (with_operator os p d said) q c (more k)

pub new_with : (os : List Declared) (p : Profile) (d : Declaration) (said : Attributes) → IsFound (with_operator os p d said) p d
new_with [] p d said = record { operator = declared_once p d said; member = inl refl; is = same_of p p refl refl refl; declared = inl refl }
new_with (x ∷ os) p d said = of (same_profile p x.profile) refl (new_with os p d said)
  where
    of : (b : Bool) → same_profile p x.profile ≡ b → IsFound (with_operator os p d said) p d → IsFound (if b then declared_again x d said ∷ os else x ∷ with_operator os p d said) p d
    of true e more = record { operator = declared_again x d said; member = inl refl; is = e; declared = member-last d x.declarations }
    of false e more = behind x (with_operator os p d said) p d more

kept_named : (os : List Declared) (names : List (List Name)) (rank : Rank) (said : Attributes) (q : Profile) (c : Declaration) → IsFound os q c → IsFound (with_named os names rank said) q c
kept_named os [] rank said q c f = f
kept_named os (name ∷ names) rank said q c f =
    let p = profile_of name rank in kept_named (with_operator os p rank.declaration said) names rank said q c (kept_with os p rank.declaration said q c f)

-- the operator of this name and rank is among these
abbrev pub IsNamed : List Declared → Rank → List Name → Type 0
IsNamed os rank name = IsFound os (profile_of name rank) rank.declaration

new_named : (os : List Declared) (names : List (List Name)) (rank : Rank) (said : Attributes) → All (IsNamed (with_named os names rank said) rank) names
new_named os [] rank said = All-nil (IsNamed os rank)
new_named os (name ∷ names) rank said =
    let p = profile_of name rank in
    let more = with_operator os p rank.declaration said in
    All-cons (IsNamed (with_named more names rank said) rank) name names (kept_named more names rank said p rank.declaration (new_with os p rank.declaration said)) (new_named more names rank said)

module _ (h : Hierarchy) where
  -- the operators of a statement are among these
  abbrev pub HasFound : List Declared → Shape → Type 0
  HasFound os (Sorts names) = ⊤
  HasFound os (Subsorts groups) = ⊤
  HasFound os (Operators names args result said) = All (IsNamed os (rank_of h args result)) names
  HasFound os (Variables names S) = ⊤
  HasFound os (Statement rule left right fragments executable) = ⊤
  HasFound os (Import m) = ⊤
  HasFound os (Class c as_) = ⊤

  kept_shape : (os : List Declared) (s : Shape) (q : Profile) (c : Declaration) → IsFound os q c → IsFound (with_operators h os s) q c
  kept_shape os (Sorts names) q c f = f
  kept_shape os (Subsorts groups) q c f = f
  kept_shape os (Operators names args result said) q c f = kept_named os names (rank_of h args result) said q c f
  kept_shape os (Variables names S) q c f = f
  kept_shape os (Statement rule left right fragments executable) q c f = f
  kept_shape os (Import m) q c f = f
  kept_shape os (Class n as_) q c f = f

  kept_from : (os : List Declared) (ss : List SeenLined) (q : Profile) (c : Declaration) → IsFound os q c → IsFound (operators_from h os ss) q c
  kept_from os [] q c f = f
  kept_from os (s ∷ ss) q c f = kept_from (with_operators h os s.shape) ss q c (kept_shape os s.shape q c f)

  new_shape : (os all : List Declared) (s : Shape) → ((q : Profile) (c : Declaration) → IsFound (with_operators h os s) q c → IsFound all q c) → HasFound all s
  new_shape os all (Sorts names) kept = tt
  new_shape os all (Subsorts groups) kept = tt
  new_shape os all (Operators names args result said) kept =
      let rank = rank_of h args result in
      All-weaker (IsNamed (with_named os names rank said) rank) (IsNamed all rank) (λ name. kept (profile_of name rank) rank.declaration) names (new_named os names rank said)
  new_shape os all (Variables names S) kept = tt
  new_shape os all (Statement rule left right fragments executable) kept = tt
  new_shape os all (Import m) kept = tt
  new_shape os all (Class c as_) kept = tt

  pub found_from : (os : List Declared) (ss : List SeenLined) → AllShaped (HasFound (operators_from h os ss)) ss
  found_from os [] = All-nil (λ (s : SeenLined). HasFound os s.shape)
  found_from os (s ∷ ss) =
      let more = with_operators h os s.shape in
      let all = operators_from h more ss in
      All-cons (λ (s : SeenLined). HasFound all s.shape) s ss (new_shape os all s.shape (kept_from more ss)) (found_from more ss)

-- the operators that each kind has
pub kept_kind : (t : Truth) (os : List Declared) (K : ℕ) (q : Profile) (c : Declaration) → IsFound os q c → IsFound (with_singles os (built_for t K)) q c
kept_kind t os K q c f =
    let g = choice_of t K in
    let e = test_of t (codes "_==_") K in
    let d = test_of t (codes "_=/=_") K in
    let first = with_operator os g.profile g.declaration g.attributes in
    let second = with_operator first e.profile e.declaration e.attributes in
    kept_with second d.profile d.declaration d.attributes q c (kept_with first e.profile e.declaration e.attributes q c (kept_with os g.profile g.declaration g.attributes q c f))

pub kept_kinds : (t : Truth) (os : List Declared) (Ks : List ℕ) (q : Profile) (c : Declaration) → IsFound os q c → IsFound (with_kinds t os Ks) q c
kept_kinds t os [] q c f = f
kept_kinds t os (K ∷ Ks) q c f = kept_kinds t (with_singles os (built_for t K)) Ks q c (kept_kind t os K q c f)

-- the operator that a single declaration declares is among these
abbrev pub HasSingle : List Declared → Single → Type 0
HasSingle os g = IsFound os g.profile g.declaration

abbrev pub HasKind : List Declared → Truth → ℕ → Type 0
HasKind os t K = HasSingle os (choice_of t K) × HasSingle os (test_of t (codes "_==_") K) × HasSingle os (test_of t (codes "_=/=_") K)

new_kind : (t : Truth) (os : List Declared) (K : ℕ) → HasKind (with_singles os (built_for t K)) t K
new_kind t os K =
    let g = choice_of t K in
    let e = test_of t (codes "_==_") K in
    let d = test_of t (codes "_=/=_") K in
    let first = with_operator os g.profile g.declaration g.attributes in
    let second = with_operator first e.profile e.declaration e.attributes in (
      kept_with second d.profile d.declaration d.attributes g.profile g.declaration
          (kept_with first e.profile e.declaration e.attributes g.profile g.declaration (new_with os g.profile g.declaration g.attributes)),
      kept_with second d.profile d.declaration d.attributes e.profile e.declaration (new_with first e.profile e.declaration e.attributes),
      new_with second d.profile d.declaration d.attributes,
    )

new_kinds : (t : Truth) (os : List Declared) (Ks : List ℕ) (K : ℕ) → Member K Ks → HasKind (with_kinds t os Ks) t K
new_kinds t os [] K m = absurd m
new_kinds t os (L ∷ Ks) K (inl is) =
    let more = with_singles os (built_for t L) in
    let k = new_kind t os L in
    let g = choice_of t L in
    let e = test_of t (codes "_==_") L in
    let d = test_of t (codes "_=/=_") L in
    subst (HasKind (with_kinds t more Ks) t) is (
      kept_kinds t more Ks g.profile g.declaration k.0,
      kept_kinds t more Ks e.profile e.declaration k.1,
      kept_kinds t more Ks d.profile d.declaration k.2,
    )
new_kinds t os (L ∷ Ks) K (inr m) = new_kinds t (with_singles os (built_for t L)) Ks K m

-- what statements declare is among all operators
module _ (ss : List SeenLined) where
  kept_built : (truth : Option Truth) (os : List Declared) (q : Profile) (c : Declaration) → IsFound os q c → IsFound (with_built truth (hierarchy_of ss) os) q c
  kept_built None os q c f = f
  kept_built (Some t) os q c f = kept_kinds t os (kinds_from (hierarchy_of ss) (length (hierarchy_of ss).names) 1) q c f

  found_shape : (f : Shape) → HasFound (hierarchy_of ss) (operators_from (hierarchy_of ss) [] ss) f → HasFound (hierarchy_of ss) (operators_of ss) f
  found_shape (Sorts names) e = tt
  found_shape (Subsorts groups) e = tt
  found_shape (Operators names args result said) e =
      let rank = rank_of (hierarchy_of ss) args result in
      let os = operators_from (hierarchy_of ss) [] ss in
      All-weaker (IsNamed os rank) (IsNamed (operators_of ss) rank) (λ name. kept_built (truth_of (hierarchy_of ss) ss) os (profile_of name rank) rank.declaration) names e
  found_shape (Variables names S) e = tt
  found_shape (Statement rule left right fragments executable) e = tt
  found_shape (Import m) e = tt
  found_shape (Class c as_) e = tt

  pub found_all : AllShaped (HasFound (hierarchy_of ss) (operators_of ss)) ss
  found_all =
      let os = operators_from (hierarchy_of ss) [] ss in
      All-weaker (λ (s : SeenLined). HasFound (hierarchy_of ss) os s.shape) (λ (s : SeenLined). HasFound (hierarchy_of ss) (operators_of ss) s.shape) (λ s. found_shape s.shape) ss
      (found_from (hierarchy_of ss) [] ss)

  -- and so are those of each kind
  pub found_kind : (t : Truth) → truth_of (hierarchy_of ss) ss ≡ Some t → (K : ℕ) → NamesKind (hierarchy_of ss) K → HasKind (operators_of ss) t K
  found_kind t e K n =
      let os = operators_from (hierarchy_of ss) [] ss in
      subst (λ (o : Option Truth). HasKind (with_built o (hierarchy_of ss) os) t K) (sym e)
      (new_kinds t os (kinds_from (hierarchy_of ss) (length (hierarchy_of ss).names) 1) K (kind_member (hierarchy_of ss) K n))

  -- the operator that a statement declares, by the names of its sorts
  pub found_stated : (name : Name) (arg : Option Name) (value : Name) → some_declares name arg value ss ≡ true
      → IsFound (operators_of ss) (stated_profile name arg value (hierarchy_of ss)) (stated_declaration name arg value (hierarchy_of ss))
  found_stated name arg value e =
      let h = hierarchy_of ss in
      let (s, m, f) = stated name arg value ss e in
      let has : HasFound h (operators_of ss) (Operators f.names f.args f.result f.said) =
      subst (HasFound h (operators_of ss)) f.is (member-all (λ (s : SeenLined). HasFound h (operators_of ss) s.shape) ss found_all s m) in
      let rank = rank_of h f.args f.result in
      let this : IsFound (operators_of ss) (profile_of f.token rank) rank.declaration = member-all (IsNamed (operators_of ss) rank) f.names has f.token f.member in
      subst (λ (p : Profile). IsFound (operators_of ss) p (stated_declaration name arg value h)) (profile_stated h name arg value s.shape f)
      (subst (IsFound (operators_of ss) (profile_of f.token rank)) (declaration_stated h name arg value s.shape f) this)

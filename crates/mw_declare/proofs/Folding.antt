-- What each operator has that statements declare, where a declaration of a new one gives it, and one more declaration keeps it.
use Rattle.std.proofs.Common.{◌≡◌, ℕ, List, [], ◌∷◌, length, Bool, true, false, Option, Some, None, All, if◌then◌else◌, refl}
use Rattle.std.specs.Prelude.{⊤, codes}
use Rattle.std.proofs.lemmas.List.Elements.{All-nil, All-cons, All-head, All-tail, All-weaker}
use Rattle.mw_logic.specs.Signature.{Declaration}
use Rattle.mw_module.specs.Attributes.{Attributes}
use Rattle.mw_module.specs.Forms.{Shape, Sorts, Subsorts, Operators, Variables, Statement, Import, Class}
use Rattle.mw_module.specs.Units.{SeenLined}
use Rattle.mw_declare.specs.declared.built.Truth.{Truth}
use Rattle.mw_declare.specs.Built.{truth_of, kinds_from}
use Rattle.mw_declare.specs.Hierarchy.{Hierarchy, hierarchy_of}
use Rattle.mw_declare.proofs.KindNames.{NamesKind, kinds_named}
use Rattle.mw_declare.specs.Meaning.{Name}
use Rattle.mw_declare.specs.Operators.{Rank, rank_of, Profile, same_profile, Declared, declared_again, with_operator, profile_of, with_named, with_operators, operators_from, Single, with_singles, choice_of, test_of, built_for, with_kinds, with_built, operators_of}

-- an operator of one declaration
abbrev pub declared_once : Profile → Declaration → Attributes → Declared
declared_once p d said = record { profile = p; declarations = d ∷ []; attributes = said }

module _ (P : Declared → Type 0) (again : (o : Declared) (p : Profile) (d : Declaration) (said : Attributes) → same_profile p o.profile ≡ true → P o → P (declared_once p d said) → P (declared_again o d said)) where
  pub all_with : (os : List Declared) (p : Profile) (d : Declaration) (said : Attributes) → All P os → P (declared_once p d said) → All P (with_operator os p d said)
  all_with [] p d said all one = All-cons P (declared_once p d said) [] one (All-nil P)
  all_with (o ∷ os) p d said all one = of (same_profile p o.profile) refl (all_with os p d said (All-tail P o os all) one)
    where
      this : P o
      this = All-head P o os all

      of : (b : Bool) → same_profile p o.profile ≡ b → All P (with_operator os p d said) → All P (if b then declared_again o d said ∷ os else o ∷ with_operator os p d said)
      of true e more = All-cons P (declared_again o d said) os (again o p d said e this one) (All-tail P o os all)
      of false e more = All-cons P o (with_operator os p d said) this more

  -- a name declared so
  abbrev pub HasNamed : Rank → Attributes → List Name → Type 0
  HasNamed rank said name = P (declared_once (profile_of name rank) rank.declaration said)

  all_named : (os : List Declared) (names : List (List Name)) (rank : Rank) (said : Attributes) → All P os → All (HasNamed rank said) names → All P (with_named os names rank said)
  all_named os [] rank said all each = all
  all_named os (name ∷ names) rank said all each =
      all_named (with_operator os (profile_of name rank) rank.declaration said) names rank said
      (all_with os (profile_of name rank) rank.declaration said all (All-head (HasNamed rank said) name names each)) (All-tail (HasNamed rank said) name names each)

  module _ (h : Hierarchy) where
    -- each name of a statement, declared so
    abbrev pub HasEach : Shape → Type 0
    HasEach (Sorts names) = ⊤
    HasEach (Subsorts groups) = ⊤
    HasEach (Operators names args result said) = All (HasNamed (rank_of h args result) said) names
    HasEach (Variables names S) = ⊤
    HasEach (Statement rule left right fragments executable) = ⊤
    HasEach (Import m) = ⊤
    HasEach (Class c as_) = ⊤

    abbrev pub HasEachLined : SeenLined → Type 0
    HasEachLined s = HasEach s.shape

    all_shaped : (os : List Declared) (s : Shape) → All P os → HasEach s → All P (with_operators h os s)
    all_shaped os (Sorts names) all each = all
    all_shaped os (Subsorts groups) all each = all
    all_shaped os (Operators names args result said) all each = all_named os names (rank_of h args result) said all each
    all_shaped os (Variables names S) all each = all
    all_shaped os (Statement rule left right fragments executable) all each = all
    all_shaped os (Import m) all each = all
    all_shaped os (Class c as_) all each = all

    all_from : (os : List Declared) (ss : List SeenLined) → All P os → All HasEachLined ss → All P (operators_from h os ss)
    all_from os [] all each = all
    all_from os (s ∷ ss) all each = all_from (with_operators h os s.shape) ss (all_shaped os s.shape all (All-head HasEachLined s ss each)) (All-tail HasEachLined s ss each)

    pub all_declared : (ss : List SeenLined) → All HasEachLined ss → All P (operators_from h [] ss)
    all_declared ss each = all_from [] ss (All-nil P) each

  -- and those that each kind has
  abbrev pub HasSingle : Single → Type 0
  HasSingle g = P (declared_once g.profile g.declaration g.attributes)

  abbrev pub HasKind : Truth → ℕ → Type 0
  HasKind t K = HasSingle (choice_of t K) × HasSingle (test_of t (codes "_==_") K) × HasSingle (test_of t (codes "_=/=_") K)

  all_kinds : (t : Truth) (os : List Declared) (Ks : List ℕ) → All P os → All (HasKind t) Ks → All P (with_kinds t os Ks)
  all_kinds t os [] all each = all
  all_kinds t os (K ∷ Ks) all each =
      let k = All-head (HasKind t) K Ks each in
      let c = choice_of t K in
      let e = test_of t (codes "_==_") K in
      let d = test_of t (codes "_=/=_") K in
      let first = all_with os c.profile c.declaration c.attributes all k.0 in
      let second = all_with (with_operator os c.profile c.declaration c.attributes) e.profile e.declaration e.attributes first k.1 in
      let third = all_with (with_operator (with_operator os c.profile c.declaration c.attributes) e.profile e.declaration e.attributes) d.profile d.declaration d.attributes second k.2 in
      all_kinds t (with_singles os (built_for t K)) Ks third (All-tail (HasKind t) K Ks each)

  pub all_operators : (ss : List SeenLined) → All (HasEachLined (hierarchy_of ss)) ss
      → ((t : Truth) → truth_of (hierarchy_of ss) ss ≡ Some t → (K : ℕ) → NamesKind (hierarchy_of ss) K → HasKind t K) → All P (operators_of ss)
  all_operators ss each built = of (truth_of (hierarchy_of ss) ss) refl
    where
      of : (truth : Option Truth) → truth_of (hierarchy_of ss) ss ≡ truth → All P (with_built truth (hierarchy_of ss) (operators_from (hierarchy_of ss) [] ss))
      of None e = all_declared (hierarchy_of ss) ss each
      of (Some t) e =
          all_kinds t (operators_from (hierarchy_of ss) [] ss) (kinds_from (hierarchy_of ss) (length (hierarchy_of ss).names) 1) (all_declared (hierarchy_of ss) ss each)
          (All-weaker (NamesKind (hierarchy_of ss)) (HasKind t) (built t e) (kinds_from (hierarchy_of ss) (length (hierarchy_of ss).names) 1) (kinds_named (hierarchy_of ss)))

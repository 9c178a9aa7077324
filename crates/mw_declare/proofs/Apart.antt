-- Operators that a module declares differ in their names or in their kinds, each named by its least sort.
use Rattle.std.proofs.Common.{◌≡◌, ◌∙◌, ℕ, zero, suc, List, [], ◌∷◌, map, length, Bool, true, false, Option, Some, None, option_map, slice_get, All, bytes_eq, if◌then◌else◌, refl, sym, ap, subst}
use Rattle.std.specs.Prelude.{⊤}
use Rattle.std.proofs.lemmas.Bool.{and_from, and_parts, both_ways, eq-eqb}
use Rattle.std.proofs.lemmas.List.Elements.{All-nil}
use Rattle.std.proofs.lemmas.Option.{same_Some, slice_get-map}
use Rattle.std.proofs.lemmas.Slice.Eq.{bytes_eq-Decides}
use Rattle.mw_logic.specs.Signature.{Operator, Declaration, IsOperator}
use Rattle.mw_module.specs.Attributes.{Attributes}
use Rattle.mw_module.specs.Forms.{Shape, Sorts, Subsorts, Operators, Variables, Statement, Import, Class}
use Rattle.mw_module.specs.Units.{SeenLined}
use Rattle.mw_declare.specs.declared.built.Reached.{Reached}
use Rattle.mw_declare.specs.declared.built.Truth.{Truth}
use Rattle.mw_declare.specs.declared.built.Built.{Built}
use Rattle.mw_declare.specs.Built.{truth_of, built_in, kinds_from}
use Rattle.mw_declare.specs.Hierarchy.{Hierarchy, hierarchy_of}
use Rattle.mw_declare.specs.Meaning.{Name}
use Rattle.mw_declare.specs.Operators.{Rank, rank_of, Profile, same_profile, Declared, declared_again, with_operator, profile_of, with_named, with_operators, operators_from, Single, with_singles, built_for, with_kinds, with_built, operators_of, operator_of, signature_of}
use Rattle.mw_declare.proofs.Folding.{declared_once, all_with}
use Rattle.mw_declare.proofs.Proper.{all_at}
use Rattle.mw_declare.proofs.Ranked.{same_args, same_result}

pub same_spelling : (p q : Profile) → same_profile p q ≡ true → p.spelling ≡ q.spelling
same_spelling p q e = (bytes_eq-Decides p.spelling q.spelling).0 (and_parts (bytes_eq p.spelling q.spelling) _ e).0

pub same_of : (p q : Profile) → p.spelling ≡ q.spelling → p.args ≡ q.args → p.result ≡ q.result → same_profile p q ≡ true
same_of p q s a r = and_from _ _ ((bytes_eq-Decides p.spelling q.spelling).1 s) (and_from _ _ ((bytes_eq-Decides p.args q.args).1 a) (eq-eqb p.result q.result r))

turned : (p q : Profile) → same_profile p q ≡ false → same_profile q p ≡ false
turned p q e = of (same_profile q p) refl
  where
    of : (b : Bool) → same_profile q p ≡ b → b ≡ false
    of false k = refl
    of true k = absurd (both_ways (same_profile p q) e (same_of p q (sym (same_spelling q p k)) (sym (same_args q p k)) (sym (same_result q p k))))

abbrev IsOther : Profile → Declared → Type 0
IsOther q o = same_profile q o.profile ≡ false

-- each differs from those behind it
abbrev AreApart : List Declared → Type 0
AreApart [] = ⊤
AreApart (o ∷ os) = All (IsOther o.profile) os × AreApart os

other_again : (q : Profile) (o : Declared) (p : Profile) (d : Declaration) (said : Attributes) → same_profile p o.profile ≡ true → IsOther q o → IsOther q (declared_once p d said) → IsOther q (declared_again o d said)
other_again q o p d said e this one = this

apart_with : (os : List Declared) (p : Profile) (d : Declaration) (said : Attributes) → AreApart os → AreApart (with_operator os p d said)
apart_with [] p d said a = (All-nil (IsOther p), tt)
apart_with (o ∷ os) p d said a = of (same_profile p o.profile) refl (apart_with os p d said a.1)
  where
    of : (b : Bool) → same_profile p o.profile ≡ b → AreApart (with_operator os p d said) → AreApart (if b then declared_again o d said ∷ os else o ∷ with_operator os p d said)
    of true e more = a
    of false e more = (all_with (IsOther o.profile) (other_again o.profile) os p d said a.0 (turned p o.profile e), more)

apart_named : (os : List Declared) (names : List (List Name)) (rank : Rank) (said : Attributes) → AreApart os → AreApart (with_named os names rank said)
apart_named os [] rank said a = a
apart_named os (name ∷ names) rank said a =
    apart_named (with_operator os (profile_of name rank) rank.declaration said) names rank said (apart_with os (profile_of name rank) rank.declaration said a)

module _ (h : Hierarchy) where
  apart_shape : (os : List Declared) (s : Shape) → AreApart os → AreApart (with_operators h os s)
  apart_shape os (Sorts names) a = a
  apart_shape os (Subsorts groups) a = a
  apart_shape os (Operators names args result said) a = apart_named os names (rank_of h args result) said a
  apart_shape os (Variables names S) a = a
  apart_shape os (Statement rule left right fragments executable) a = a
  apart_shape os (Import m) a = a
  apart_shape os (Class c as_) a = a

  apart_from : (os : List Declared) (ss : List SeenLined) → AreApart os → AreApart (operators_from h os ss)
  apart_from os [] a = a
  apart_from os (s ∷ ss) a = apart_from (with_operators h os s.shape) ss (apart_shape os s.shape a)

apart_kinds : (t : Truth) (os : List Declared) (Ks : List ℕ) → AreApart os → AreApart (with_kinds t os Ks)
apart_kinds t os [] a = a
apart_kinds t os (K ∷ Ks) a = apart_kinds t (with_singles os (built_for t K)) Ks (singles os (built_for t K) a)
  where
    singles : (os : List Declared) (gs : List Single) → AreApart os → AreApart (with_singles os gs)
    singles os [] a = a
    singles os (g ∷ gs) a = singles (with_operator os g.profile g.declaration g.attributes) gs (apart_with os g.profile g.declaration g.attributes a)

apart_all : (ss : List SeenLined) → AreApart (operators_of ss)
apart_all ss = of (truth_of (hierarchy_of ss) ss)
  where
    of : (truth : Option Truth) → AreApart (with_built truth (hierarchy_of ss) (operators_from (hierarchy_of ss) [] ss))
    of None = apart_from (hierarchy_of ss) [] ss tt
    of (Some t) =
        apart_kinds t (operators_from (hierarchy_of ss) [] ss) (kinds_from (hierarchy_of ss) (length (hierarchy_of ss).names) 1) (apart_from (hierarchy_of ss) [] ss tt)

one_place : (os : List Declared) → AreApart os → (i j : ℕ) (o p : Declared) → slice_get os i ≡ Some o → slice_get os j ≡ Some p → same_profile o.profile p.profile ≡ true → i ≡ j
one_place [] a i j o p e k same = cc
one_place (x ∷ xs) a zero zero o p e k same = refl
one_place (x ∷ xs) a zero (suc j) o p e k same =
    absurd (both_ways (same_profile o.profile p.profile) (subst (λ x. same_profile x.profile p.profile ≡ false) (same_Some x o e) (all_at (IsOther x.profile) xs a.0 (suc j) p k)) same)
one_place (x ∷ xs) a (suc i) zero o p e k same =
    absurd (both_ways (same_profile o.profile p.profile)
    (turned p.profile o.profile (subst (λ x. same_profile x.profile o.profile ≡ false) (same_Some x p k) (all_at (IsOther x.profile) xs a.0 (suc i) o e))) same)
one_place (x ∷ xs) a (suc i) (suc j) o p e k same = ap suc (one_place xs a.1 i j o p e k same)

-- an operator is that of a declared one
pub declared_at : (b : Built) (all os : List Declared) (i : ℕ) (o : Operator) → slice_get (map (operator_of b all) os) i ≡ Some o
    → (d : Declared) × (slice_get os i ≡ Some d) × (operator_of b all d ≡ o)
declared_at b all os i o e = of (slice_get os i) refl
  where
    of : (x : Option Declared) → slice_get os i ≡ x → (d : Declared) × (slice_get os i ≡ Some d) × (operator_of b all d ≡ o)
    of None k = let found : option_map (operator_of b all) None ≡ Some o = ap (option_map (operator_of b all)) (sym k) ∙ sym (slice_get-map (operator_of b all) os i) ∙ e in cc
    of (Some d) k = (d, k, same_Some (operator_of b all d) o (ap (option_map (operator_of b all)) (sym k) ∙ sym (slice_get-map (operator_of b all) os i) ∙ e))

pub operators_apart : (reached : Reached) (ss : List SeenLined) (f g : ℕ) (o p : Operator) → IsOperator (signature_of reached ss) f o → IsOperator (signature_of reached ss) g p
    → o.spelling ≡ p.spelling → o.args ≡ p.args → o.result ≡ p.result → f ≡ g
operators_apart reached ss zero g o p e k s a r = cc
operators_apart reached ss (suc i) zero o p e k s a r = cc
operators_apart reached ss (suc i) (suc j) o p e k s a r =
    let os = operators_of ss in
    let b = built_in reached (hierarchy_of ss) ss in
    let (d, at, is) = declared_at b os os i o e in
    let (c, by, that) = declared_at b os os j p k in
    let same = same_of d.profile c.profile (ap (λ o. o.spelling) is ∙ s ∙ ap (λ o. o.spelling) (sym that)) (ap (λ o. o.args) is ∙ a ∙ ap (λ o. o.args) (sym that))
    (ap (λ o. o.result) is ∙ r ∙ ap (λ o. o.result) (sym that)) in
    ap suc (one_place os (apart_all ss) i j d c at by same)

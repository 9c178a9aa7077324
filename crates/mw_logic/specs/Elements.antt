-- The elements of a term under an associative and commutative operator, and lists of elements that are the same. (Maude Manual, section 4.4.1; Meseguer
-- 1992, section 4.1: a configuration as a multiset of its objects and messages.)
use Rattle.std.specs.Prelude.{ℕ, List, [], ◌∷◌, ◌++◌, cond, nat_eq}
use Rattle.mw_logic.specs.Term.{RawTerm, numeral, quoted, variable, apply, RawTerms, nil, cons}
use Rattle.mw_logic.specs.Signature.{Signature, IsIdentity}
use Rattle.mw_logic.specs.Axioms.{EqualModulo}
use Rattle.mw_logic.specs.Parts.{IsCleanForm}

-- the arguments of t's flattened f: t alone for another top
abbrev mutual
  pub flat_arguments : ℕ → RawTerm → List RawTerm
  flat_arguments f (numeral n) = numeral n ∷ []
  flat_arguments f (quoted q) = quoted q ∷ []
  flat_arguments f (variable x) = variable x ∷ []
  flat_arguments f (apply g ts) = cond (nat_eq f g) (all_flat_arguments f ts) (apply g ts ∷ [])

  pub all_flat_arguments : ℕ → RawTerms → List RawTerm
  all_flat_arguments f nil = []
  all_flat_arguments f (cons t ts) = flat_arguments f t ++ all_flat_arguments f ts

-- t's elements under f: none where t is equal to f's identity, else the arguments of a clean form, flattened
pub data HasElements (sig : Signature) (f : ℕ) : RawTerm → List RawTerm → Type 0 where
  of_identity : {t : RawTerm} (e : RawTerm) → IsIdentity sig f e → EqualModulo sig t e → HasElements sig f t []
  of_others : {t : RawTerm} (u : RawTerm) → IsCleanForm sig t u → ((e : RawTerm) → IsIdentity sig f e → ¬ EqualModulo sig t e) → HasElements sig f t (flat_arguments f u)

-- The same elements, each as often, modulo the axioms: the lists are one another's permutation.
pub data SameElements (sig : Signature) : List RawTerm → List RawTerm → Type 0 where
  no_element : SameElements sig [] []
  also_element : {t u : RawTerm} {ts us : List RawTerm} → EqualModulo sig t u → SameElements sig ts us → SameElements sig (t ∷ ts) (u ∷ us)
  exchanged_elements : {t u : RawTerm} {ts : List RawTerm} → SameElements sig (t ∷ u ∷ ts) (u ∷ t ∷ ts)
  then_elements : {ts us vs : List RawTerm} → SameElements sig ts us → SameElements sig us vs → SameElements sig ts vs

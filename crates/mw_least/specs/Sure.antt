-- Sorts that ground terms have by their operators alone: sorts of whole kinds (tops), and results on arguments that have these.
use Rattle.std.specs.Prelude.{ℕ, ◌≡◌, ◌≤◌, List, [], ◌∷◌, ⊤, slice_get, Some, IsTrue, codes}
use Rattle.mw_logic.specs.Signature.{Signature, Sorted, sort, kind, Operator, IsOperator, IsSortNamed, Member, at_number}
use Rattle.mw_logic.specs.Sorts.{AtOrBelow}
use Rattle.mw_poset.specs.Order.{IsKindOf}
use Rattle.mw_logic.specs.Term.{RawTerm, RawTerms}
use Rattle.mw_term.specs.OperatorSets.{Lacks, AreApart, operators_in, operators_in_all}
use Rattle.mw_least.specs.declared.sure.Sure.{Sure}
use Rattle.mw_least.specs.declared.sure.Partial.{Partial}

-- S stands in the list at the number of its kind
pub record IsTop (pairs : List (ℕ × ℕ)) (tops : List ℕ) (S : ℕ) : Type 0 where
  pub kind : ℕ
  pub is_kind : IsKindOf pairs S kind
  pub top : slice_get tops kind ≡ Some S
  pub positive : 1 ≤ S

abbrev pub IsTopOf : List (ℕ × ℕ) → List ℕ → Sorted → Type 0
IsTopOf pairs tops (sort S) = IsTop pairs tops S
IsTopOf pairs tops (kind K) = ⊥

abbrev pub AreTops : List (ℕ × ℕ) → List ℕ → List Sorted → Type 0
AreTops pairs tops [] = ⊤
AreTops pairs tops (S ∷ Ss) = IsTopOf pairs tops S × AreTops pairs tops Ss

-- a declaration of o takes tops to R
pub record IsSupport (pairs : List (ℕ × ℕ)) (tops : List ℕ) (o : Operator) (R : ℕ) : Type 0 where
  pub args : List Sorted
  pub declared : Member (record { args = args; result = sort R }) o.declarations
  pub are_tops : AreTops pairs tops args

-- the top of kind K, where it has one, is at or above a result that o has on tops
abbrev pub IsSupportedIn : List (ℕ × ℕ) → List ℕ → Operator → ℕ → Type 0
IsSupportedIn pairs tops o K = (S : ℕ) → slice_get tops K ≡ Some S → 1 ≤ S → (R : ℕ) × IsSupport pairs tops o R × AtOrBelow pairs R S

abbrev pub IsSupported : List (ℕ × ℕ) → List ℕ → Operator → Type 0
IsSupported pairs tops o = (K : ℕ) → IsKindOf pairs o.result K → IsSupportedIn pairs tops o K

-- f is none of the operators
abbrev pub IsNone : Partial → ℕ → Type 0
IsNone partial f = Lacks partial.declared f × Lacks partial.built f

-- none of them stands in the term
abbrev pub IsApart : Partial → RawTerm → Type 0
IsApart partial t = AreApart (operators_in t) partial.declared × AreApart (operators_in t) partial.built

-- none of them stands in one of the terms
abbrev pub AreAllApart : Partial → RawTerms → Type 0
AreAllApart partial ts = AreApart (operators_in_all ts) partial.declared × AreApart (operators_in_all ts) partial.built

-- so is each operator that is none of the partial ones
abbrev pub AreSupported : Signature → List ℕ → Partial → Type 0
AreSupported sig tops partial = (f : ℕ) (o : Operator) → IsOperator sig f o → IsNone partial f → IsSupported sig.pairs tops o

-- of each operator a result on tops, or 0
abbrev pub AreResults : List (ℕ × ℕ) → List ℕ → List Operator → List ℕ → Type 0
AreResults pairs tops [] [] = ⊤
AreResults pairs tops [] (R ∷ Rs) = ⊥
AreResults pairs tops (o ∷ os) [] = ⊥
AreResults pairs tops (o ∷ os) (R ∷ Rs) = (1 ≤ R → IsSupport pairs tops o R) × AreResults pairs tops os Rs

-- the sorts of this name are at or below the tops of their kinds
abbrev pub AreTopped : Signature → List ℕ → List ℕ → Type 0
AreTopped sig tops name = (S : ℕ) → IsSortNamed sig S name → (T : ℕ) × IsTop sig.pairs tops T × AtOrBelow sig.pairs S T

-- numerals and quoted identifiers have the tops of their kinds
pub record AreConstantsTopped (sig : Signature) (tops : List ℕ) : Type 0 where
  pub numerals : IsTrue sig.nat → AreTopped sig tops (codes "Nat")
  pub quotes : IsTrue sig.qid → AreTopped sig tops (codes "Qid")

-- Where no partial operator stands in a canonical ground term, the sort at the place of the operator on top, if it isn't 0, is one that the term has.
pub record AreSure (sig : Signature) (sure : Sure) : Type 0 where
  pub tops : List ℕ
  pub supported : AreSupported sig tops sure.partial
  pub constants : (f R : ℕ) → at_number sure.results f ≡ Some R → AreConstantsTopped sig tops
  pub results : (f R : ℕ) (o : Operator) → IsOperator sig f o → at_number sure.results f ≡ Some R → 1 ≤ R → IsSupport sig.pairs tops o R

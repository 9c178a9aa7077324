-- The sort of a flattened term, by computing: a numeral has that of `s_` on the one before it, an associative operator
-- is taken from its last argument back.
use Rattle.std.specs.Prelude.{◌≡◌, ◌⊎◌, ℕ, suc, List, [], ◌∷◌, true, false, codes}
use Rattle.mw_logic.specs.Term.{Variable, RawTerm, numeral, quoted, variable, apply, RawTerms, nil, cons}
use Rattle.mw_logic.specs.Signature.{Signature, Sorted, sort, kind, Operator, IsOperator, IsSortNamed, IsSuccessor}
use Rattle.mw_logic.specs.Sorts.{Takes}
use Rattle.mw_logic.specs.Parts.{is_assoc}
use Rattle.mw_logic.specs.Preregular.{IsLeastResult}

-- R is the least result of o on arguments of the sorts Ss; or o takes no such arguments, and R is its kind
abbrev pub IsResultOn : Signature → Operator → List Sorted → Sorted → Type 0
IsResultOn sig o Ss R = IsLeastResult sig o Ss R ⊎ (((Q : Sorted) → Takes sig o Ss Q → ⊥) × (R ≡ kind o.result))

-- S is the computed sort of the term
mutual
  pub data ComputedSort (sig : Signature) : RawTerm → Sorted → Type 0 where
    zero_sort : {S : ℕ} → IsSortNamed sig S (codes "Zero") → ComputedSort sig (numeral 0) (sort S)
    number_sort : {n : ℕ} {S R : Sorted} (f : ℕ) (is : IsSuccessor sig f) → ComputedSort sig (numeral n) S → IsResultOn sig is.operator (S ∷ []) R → ComputedSort sig (numeral (suc n)) R
    quoted_sort : {q : List ℕ} {S : ℕ} → IsSortNamed sig S (codes "Qid") → ComputedSort sig (quoted q) (sort S)
    variable_sort : {x : Variable} → ComputedSort sig (variable x) (sort x.sort)
    plain_sort : {f : ℕ} {ts : RawTerms} {Ss : List Sorted} {R : Sorted} (o : Operator) → IsOperator sig f o → is_assoc sig f ≡ false
        → ComputedSorts sig ts Ss → IsResultOn sig o Ss R → ComputedSort sig (apply f ts) R
    chain_sort : {f : ℕ} {ts : RawTerms} {R : Sorted} (o : Operator) → IsOperator sig f o → is_assoc sig f ≡ true → Folds sig o ts R → ComputedSort sig (apply f ts) R

  -- the computed sorts of terms, one by one
  pub data ComputedSorts (sig : Signature) : RawTerms → List Sorted → Type 0 where
    no_sorts : ComputedSorts sig nil []
    more_sorts : {t : RawTerm} {ts : RawTerms} {S : Sorted} {Ss : List Sorted} → ComputedSort sig t S → ComputedSorts sig ts Ss → ComputedSorts sig (cons t ts) (S ∷ Ss)

  -- o over the terms, from the last one back
  pub data Folds (sig : Signature) : Operator → RawTerms → Sorted → Type 0 where
    last : {o : Operator} {t : RawTerm} {S : Sorted} → ComputedSort sig t S → Folds sig o (cons t nil) S
    before : {o : Operator} {t u : RawTerm} {us : RawTerms} {S Q R : Sorted} → ComputedSort sig t S → Folds sig o (cons u us) Q → IsResultOn sig o (S ∷ Q ∷ []) R
        → Folds sig o (cons t (cons u us)) R

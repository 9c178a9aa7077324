-- That the kinds of a fault are there.
use Rattle.std.specs.Prelude.{ℕ, zero, suc, ◌≡◌, ◌≤◌, ◌<◌, ◌-◌, length, List, [], ◌∷◌, get_or, slice_get, Some, refl}
use Rattle.std.proofs.Common.{sym, subst, ap, ◌∙◌, inl, inr, arith, Result, Ok, Err, IfOk}
use Rattle.std.proofs.lemmas.Option.{slice_get_within}
use Rattle.mw_logic.specs.Signature.{Signature, Sorted, sort, kind, Operator, IsOperator, Member, at_number}
use Rattle.mw_logic.specs.Preregular.{IsSortOf, HasItsSorts}
use Rattle.mw_print.specs.Sorts.{IsKindThere}
use Rattle.mw_sorts.specs.Entries.{IsEntry, AreEntries}
use Rattle.mw_sorts.specs.Groupings.{three_of}
use Rattle.mw_build.specs.SignatureFaults.{AreThere}

-- the kinds among an operator's entries are there
entries_there : (sig : Signature) (Ss : List Sorted) (Ks : List ℕ) → ((K : ℕ) → Member K Ks → IsSortOf sig K) → AreEntries sig Ss Ks → AreThere sig Ss
entries_there sig [] Ks h a = tt
entries_there sig (S ∷ Ss) [] h a = absurd a
entries_there sig (sort S ∷ Ss) (K ∷ Ks) h a = (tt, entries_there sig Ss Ks (λ L m. h L (inr m)) a.1)
entries_there sig (kind L ∷ Ss) (K ∷ Ks) h a = (subst (IsSortOf sig) (sym a.0) (h K (inl refl)), entries_there sig Ss Ks (λ M m. h M (inr m)) a.1)

pub fault_there : (sig : Signature) → HasItsSorts sig → (f : ℕ) (o : Operator) → IsOperator sig f o → (Ss : List Sorted) → AreEntries sig Ss o.args → AreThere sig Ss
fault_there sig numbers f o is Ss a = entries_there sig Ss o.args (numbers.args f o is) a

-- so are those among entries of its result's kind
pub results_there : (sig : Signature) → HasItsSorts sig → (f : ℕ) (o : Operator) → IsOperator sig f o → (Ss : List Sorted) → AreEntries sig Ss (three_of o) → AreThere sig Ss
results_there sig numbers f o is Ss a = entries_there sig Ss (three_of o) (λ K m. subst (IsSortOf sig) (three K m) (numbers.results f o is)) a
  where
    three : (K : ℕ) → Member K (three_of o) → o.result ≡ K
    three K (inl e) = e
    three K (inr (inl e)) = e
    three K (inr (inr (inl e))) = e
    three K (inr (inr (inr m))) = absurd m

pub entry_there : (sig : Signature) → HasItsSorts sig → (f : ℕ) (o : Operator) → IsOperator sig f o → (S : Sorted) → IsEntry sig o.result S → IsKindThere sig S
entry_there sig numbers f o is (sort S) e = tt
entry_there sig numbers f o is (kind K) e = subst (IsSortOf sig) (sym e) (numbers.results f o is)

get_there : {X : Type 0} (xs : List X) (i : ℕ) (x y : X) → slice_get xs i ≡ Some y → get_or xs i x ≡ y
get_there [] i x y h = absurd (cc)
get_there (z ∷ xs) zero x y h = cc
get_there (z ∷ xs) (suc i) x y h = get_there xs i x y h

-- the operator of this number that was found
pub operator_there : (os : List Operator) (f : ℕ) (o p : Operator) → o ≡ get_or os (f - 1) o → at_number os f ≡ Some p → o ≡ p
operator_there os zero o p e h = absurd (cc)
operator_there os (suc i) o p e h = let j : suc i - 1 ≡ i = omega arith in e ∙ ap (λ k. get_or os k o) j ∙ get_there os i o p h

-- a copy of what is the name
pub named_so : {E : Type 0} {m k : List ℕ} (r : Result (List ℕ) E) → m ≡ k → IfOk r (λ n. n ≡ m) → IfOk r (λ n. n ≡ k)
named_so (Ok n) e h = h ∙ e
named_so (Err x) e h = tt

-- numbers of operators that are there are within
pub number_within : (os : List Operator) (f : ℕ) (p : Operator) → at_number os f ≡ Some p → (1 ≤ f) × (f - 1 < length os)
number_within os zero p e = cc
number_within os (suc i) p e = let w = slice_get_within os i p e in (omega arith, omega (arith, w))

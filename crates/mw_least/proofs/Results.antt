-- What an operator gives on arguments that have sorts, and what has the sorts above its own.
use Rattle.std.specs.Prelude.{ℕ, List, [], ◌∷◌, Bool, true, false, ◌&&◌, IsTrue, refl, ⊤}
use Rattle.std.proofs.Common.{inl, inr, subst}
use Rattle.std.proofs.lemmas.Bool.{both_ways}
use Rattle.mw_logic.specs.Term.{RawTerm, apply, RawTerms, nil, cons}
use Rattle.mw_logic.specs.Signature.{Signature, Sorted, sort, Operator, IsOperator, SameKind, HasKind, IsRawTerm, an_operator, AreRawTerms, end, next, Member}
use Rattle.mw_logic.specs.Axioms.{EqualModulo}
use Rattle.mw_logic.specs.Sorts.{AtOrBelow, AreBelow, Takes, DeclaredSort, DeclaredSorts, HasSort}
use Rattle.mw_logic.specs.Accepted.{number_of_sort}
use Rattle.mw_logic.specs.Preregular.{AreOfKinds}
use Rattle.mw_logic.proofs.Canonical.{same_operator}
use Rattle.mw_logic.proofs.Soundness.{EqualArguments, none, at_head, at_tail, arguments-trans, under_all}
use Rattle.mw_logic.proofs.RawKept.{raw_kept, kind_unique}
use Rattle.mw_logic.proofs.SolutionLaws.{declared_kind}
use Rattle.mw_logic.proofs.BelowLaws.{IsBelow-trans}
use Rattle.mw_sorting.specs.ComputedSorts.{IsResultOn}
use Rattle.mw_sorting.specs.PreregularModulo.{IsPreregularModulo}

-- what has a sort has those above it
pub raise : (sig : Signature) (t : RawTerm) (R S : ℕ) → HasSort sig t (sort R) → AtOrBelow sig.pairs R S → HasSort sig t (sort S)
raise sig t R S h b = record { form = h.form; equal = h.equal; declared = h.declared; is_declared = h.is_declared; below = IsBelow-trans sig h.declared (sort R) (sort S) h.below b }

pub grounds : (a b : Bool) → IsTrue (a && b) → IsTrue a × IsTrue b
grounds true b h = (refl, h)
grounds false b h = absurd (both_ways _ refl h)

module _ (sig : Signature) where
  -- the terms have these sorts, one by one
  abbrev pub AllHave : RawTerms → List Sorted → Type 0
  AllHave nil [] = ⊤
  AllHave nil (S ∷ Ss) = ⊥
  AllHave (cons t ts) [] = ⊥
  AllHave (cons t ts) (S ∷ Ss) = HasSort sig t S × AllHave ts Ss

  -- the arguments of an operator are raw
  pub args_of : {f : ℕ} {ts : RawTerms} (o : Operator) → IsOperator sig f o → IsRawTerm sig (apply f ts) → AreRawTerms sig ts o.args
  args_of {f} {ts} o is (an_operator p there args) = subst (λ (x : Operator). AreRawTerms sig ts x.args) (same_operator sig f p o there is) args

module _ (sig : Signature) (ok : IsPreregularModulo sig) where
  of_its_kind : {t u : RawTerm} {K : ℕ} {D : Sorted} → IsRawTerm sig t → HasKind sig t K → EqualModulo sig t u → DeclaredSort sig u D → SameKind sig (number_of_sort D) K
  of_its_kind r k e d = let alike = raw_kept sig ok.accepted e in kind_unique sig ok.accepted (declared_kind sig ok.accepted ok.well_sorted (alike.0 r) d) (alike.1 _ k)

  -- terms of these sorts are equal to terms with declared sorts at or below them
  forms : {ts : RawTerms} {Ks : List ℕ} (Ss : List Sorted) → AreRawTerms sig ts Ks → AllHave sig ts Ss
      → (us : RawTerms) × (Ds : List Sorted) × EqualArguments sig ts us × DeclaredSorts sig us Ds × AreBelow sig Ds Ss × AreOfKinds sig Ds Ks
  forms [] end h = (nil, [], none, DeclaredSorts.end, tt, tt)
  forms (S ∷ Ss) end h = absurd h
  forms [] (next r k rest) h = absurd h
  forms (S ∷ Ss) (next {t} {ts} r k rest) h =
      let (us, Ds, e, ds, b, o) = forms Ss rest h.1 in
      (cons h.0.form us, h.0.declared ∷ Ds, arguments-trans (at_head ts h.0.equal) (at_tail h.0.form e), DeclaredSorts.next h.0.is_declared ds, (h.0.below, b), (of_its_kind r k h.0.equal h.0.is_declared, o))

  -- where an operator is declared to give R on the sorts of arguments, it has R on them
  pub applied_sort : (f : ℕ) (ts : RawTerms) (o : Operator) (Ss : List Sorted) (R : ℕ) → IsOperator sig f o → AreRawTerms sig ts o.args → AllHave sig ts Ss → Member (record { args = Ss; result = sort R }) o.declarations → HasSort sig (apply f ts) (sort R)
  applied_sort f ts o Ss R is args h d =
      let (us, Ds, e, ds, b, k) = forms Ss args h in
      let takes : Takes sig o Ds (sort R) = record { args = Ss; declares = inl d; fits = b } in
      let (Q, q) = ok.results f o is Ds k in
      by_result us Ds Q e ds takes q
    where
      by_result : (us : RawTerms) (Ds : List Sorted) (Q : Sorted) → EqualArguments sig ts us → DeclaredSorts sig us Ds → Takes sig o Ds (sort R) → IsResultOn sig o Ds Q → HasSort sig (apply f ts) (sort R)
      by_result us Ds Q e ds takes (inl l) = record { form = apply f us; equal = under_all f e; declared = Q; is_declared = DeclaredSort.of_operator o is ds l.takes l.least; below = l.least (sort R) takes }
      by_result us Ds Q e ds takes (inr n) = absurd (n.0 (sort R) takes)

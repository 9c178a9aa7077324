-- The computed sort of a term's normal form is at or below each declared sort of the term; so it is the least sort.
use Rattle.std.specs.Prelude.{◌≡◌, refl, ℕ, suc, List, [], ◌∷◌, zero, codes}
use Rattle.std.proofs.Common.{inl, inr, sym, subst, ◌∙◌}
use Rattle.mw_logic.specs.Term.{RawTerm, numeral, quoted, variable, apply, RawTerms, nil, cons}
use Rattle.mw_logic.specs.Signature.{Signature, Sorted, sort, Operator, IsOperator, SameKind, IsRawTerm, a_numeral, an_operator, AreRawTerms, end, next}
use Rattle.mw_logic.specs.Sorts as sorting
use Rattle.mw_logic.specs.Sorts.{AtOrBelow, IsBelow, AreBelow, Takes, DeclaredSort, DeclaredSorts, HasSort, IsLeastSort}
use Rattle.mw_logic.specs.Parts.{nested, all_nested}
use Rattle.mw_logic.specs.Preregular.{AreOfKinds}
use Rattle.mw_logic.specs.NormalForm.{normal_form, normal_forms}
use Rattle.mw_logic.proofs.KindLaws.{SameKind-trans}
use Rattle.mw_logic.proofs.Canonical.{IsCanonical, all_are}
use Rattle.mw_logic.proofs.CanonicalTerms.{fixed}
use Rattle.mw_logic.proofs.Invariance.{normal_form-kept}
use Rattle.mw_logic.proofs.Soundness.{normal_form-sound}
use Rattle.mw_logic.proofs.RawKept.{raw_kept}
use Rattle.mw_logic.proofs.RawArguments.{operator_of}
use Rattle.mw_logic.proofs.BelowLaws.{IsBelow-refl, IsBelow-trans, IsBelow-kind}
use Rattle.mw_sorting.specs.ComputedSorts.{ComputedSort, zero_sort, number_sort, quoted_sort, variable_sort, ComputedSorts, no_sorts, more_sorts, IsResultOn}
use Rattle.mw_sorting.specs.PreregularModulo.{IsOfKind, HasNaturals, IsPreregularModulo}
use Rattle.mw_sorting.proofs.Results.{result_monotone}
use Rattle.mw_sorting.proofs.Forms.{has_form, sort_kind}
use Rattle.mw_sorting.proofs.Agreement.{computed-agree}
use Rattle.mw_sorting.proofs.Applying.{Lower, applied_sort}

module _ (sig : Signature) (ok : IsPreregularModulo sig) where
  -- numbers have sorts at or below Nat, and those above 0 at or below NzNat
  next_low : (n : ℕ) (nats : HasNaturals sig) (S : Sorted) → ComputedSort sig (numeral n) S → IsBelow sig S (sort nats.Nat) → (R : Sorted) × ComputedSort sig (numeral (suc n)) R × IsBelow sig R (sort nats.NzNat)
  next_low n nats S s l =
      let is = nats.is in
      let same_nat : nats.Nat ≡ is.Nat = ok.accepted.sorts_differ nats.Nat is.Nat (codes "Nat") nats.nat_named is.named in
      let i : IsOfKind sig is.argument S = SameKind-trans (IsBelow-kind sig S (sort nats.Nat) l) (subst (λ N. SameKind sig N is.argument) (sym same_nat) is.of_argument) in
      let (R, r) = ok.results nats.successor is.operator is.is_there (S ∷ []) (subst (AreOfKinds sig (S ∷ [])) (sym is.takes_one) (i, tt)) in
      let takes : Takes sig is.operator (S ∷ []) (sort nats.NzNat) = record { args = sort nats.Nat ∷ []; declares = nats.declares; fits = (l, tt) } in
      (R, number_sort nats.successor is s r, low R r takes)
    where
      low : (R : Sorted) → IsResultOn sig nats.is.operator (S ∷ []) R → Takes sig nats.is.operator (S ∷ []) (sort nats.NzNat) → IsBelow sig R (sort nats.NzNat)
      low R (inl m) t = m.least (sort nats.NzNat) t
      low R (inr m) t = absurd (m.0 (sort nats.NzNat) t)

  number_low : (n : ℕ) → (nats : HasNaturals sig) → (S : Sorted) × ComputedSort sig (numeral n) S × IsBelow sig S (sort nats.Nat)
  number_low zero nats = (sort nats.Zero, zero_sort nats.zero_named, nats.zero_below)
  number_low (suc n) nats =
      let (S, s, l) = number_low n nats in
      let (R, r, m) = next_low n nats S s l in
      (R, r, IsBelow-trans sig R (sort nats.NzNat) (sort nats.Nat) m nats.nonzero_below)

  -- normal forms of terms have computed sorts at or below these, and of these kinds
  abbrev AreLower : RawTerms → List Sorted → List ℕ → Type 0
  AreLower ts Ds Ks = (Ss : List Sorted) × ComputedSorts sig (normal_forms sig ts) Ss × AreBelow sig Ss Ds × AreOfKinds sig Ss Ks

  raw_forms : (ts : RawTerms) (Ks : List ℕ) → AreRawTerms sig ts Ks → AreRawTerms sig (all_nested sig (normal_forms sig ts)) Ks
  raw_forms nil Ks end = end
  raw_forms (cons t ts) Ks (next {K = K} {Ks = Ls} r k rest) =
      let alike = raw_kept sig ok.accepted (normal_form-sound sig ok.accepted r) in
      next (alike.0 r) (alike.1 K k) (raw_forms ts Ls rest)

  applied_lowest : (f : ℕ) (p o : Operator) → IsOperator sig f p → IsOperator sig f o → (ts : RawTerms) → AreRawTerms sig ts p.args → (Ds : List Sorted) (D : Sorted) → IsResultOn sig o Ds D → (AreRawTerms sig ts o.args → AreLower ts Ds o.args)
      → Lower sig ok (normal_form sig (apply f ts)) D
  applied_lowest f p o there is ts args Ds D d all =
      let raw : AreRawTerms sig ts o.args = operator_of sig f (λ (o : Operator). AreRawTerms sig ts o.args) is there args in
      let (Ss, ss, b, ks) = all raw in
      let (Q, q) = ok.results f o is Ss ks in
      let (R, r, l) = applied_sort sig ok f o is (normal_forms sig ts) Ss Q (all_are sig ok.accepted ts) (raw_forms ts o.args raw) ss q in
      (R, r, IsBelow-trans sig R Q D l (result_monotone sig ok.well_sorted f o is Ss Ds Q D d b q))

  mutual
    -- the normal form's computed sort is at or below each declared sort
    pub lowest : (u : RawTerm) (D : Sorted) → IsRawTerm sig u → DeclaredSort sig u D → Lower sig ok (normal_form sig u) D
    lowest (numeral n) D (a_numeral b l) (sorting.of_zero {S = A} m) = (sort A, zero_sort m, IsBelow-refl sig (sort A))
    lowest (numeral n) D (a_numeral b l) (sorting.of_nonzero {n = m} {S = A} w) =
        let nats = ok.naturals b in
        let (S, s, low) = number_low m nats in
        let (R, r, d) = next_low m nats S s low in
        (R, r, subst (λ X. IsBelow sig R (sort X)) (ok.accepted.sorts_differ nats.NzNat A (codes "NzNat") nats.nonzero_named w) d)
    lowest (quoted q) D r (sorting.of_quoted {S = A} m) = (sort A, quoted_sort m, IsBelow-refl sig (sort A))
    lowest (variable x) D r sorting.of_variable = (sort x.sort, variable_sort, IsBelow-refl sig (sort x.sort))
    lowest (apply f ts) D (an_operator p there args) (sorting.of_operator {Ss = Ds} o is ds takes least) =
        applied_lowest f p o there is ts args Ds D (inl (record { takes = takes; least = least })) (λ raw. all_lowest ts Ds o.args raw ds)
    lowest (apply f ts) D (an_operator p there args) (sorting.of_kind {Ss = Ds} o is ds none) =
        applied_lowest f p o there is ts args Ds D (inr (none, refl)) (λ raw. all_lowest ts Ds o.args raw ds)

    all_lowest : (ts : RawTerms) (Ds : List Sorted) (Ks : List ℕ) → AreRawTerms sig ts Ks → DeclaredSorts sig ts Ds → AreLower ts Ds Ks
    all_lowest nil Ds Ks end sorting.end = ([], no_sorts, tt, tt)
    all_lowest (cons t ts) Ds Ks (next {K = K} {Ks = Ls} r k rest) (sorting.next {S = D} {Ss = Es} d ds) =
        let (S, s, b) = lowest t D r d in
        let (Ss, ss, bs, ks) = all_lowest ts Es Ls rest ds in
        let alike = raw_kept sig ok.accepted (normal_form-sound sig ok.accepted r) in
        (S ∷ Ss, more_sorts s ss, (b, bs), (sort_kind sig ok.accepted ok.well_sorted K (normal_form sig t) S (alike.0 r, alike.1 K k) s, ks))

  -- the computed sort of a canonical term is its least sort
  pub computed-least : (t : RawTerm) (S : Sorted) → IsCanonical sig t → IsRawTerm sig (nested sig t) → ComputedSort sig t S → IsLeastSort sig (nested sig t) S
  computed-least t S k raw s = record {
    has = let u = has_form sig t S s raw in record { form = u.form; equal = u.equal; declared = S; is_declared = u.declared; below = IsBelow-refl sig S };
    least = λ T h.
        let (R, r, l) = lowest h.form h.declared ((raw_kept sig ok.accepted h.equal).0 raw) h.is_declared in
        let e : normal_form sig h.form ≡ t = sym (normal_form-kept sig ok.accepted h.equal) ∙ fixed sig ok.accepted t k in
        let r2 : ComputedSort sig t R = subst (λ t. ComputedSort sig t R) e r in
        IsBelow-trans sig S R T (computed-agree sig ok.accepted ok.well_sorted ok.naturals t S R s r2) (IsBelow-trans sig R h.declared T l h.below);
  }

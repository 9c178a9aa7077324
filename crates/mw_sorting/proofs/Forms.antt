-- A term's computed sort is the declared sort of a term that is equal to it; so it is a sort that the term has, and of
-- its kind.
use Rattle.std.specs.Prelude.{◌≡◌, ◌<◌, ◌^◌, ℕ, suc, List, ◌∷◌, true, refl}
use Rattle.std.proofs.Common.{inl, inr, sym, subst, arith}
use Rattle.mw_logic.specs.Term.{RawTerm, numeral, apply, RawTerms, nil, cons, unary, binary}
use Rattle.mw_logic.specs.Signature.{Signature, Sorted, Operator, IsOperator, IsRawTerm, a_numeral, an_operator, AreRawTerms, next}
use Rattle.mw_logic.specs.Axioms.{EqualModulo, done, then, backward, successor}
use Rattle.mw_logic.specs.Accepted.{IsAccepted, IsWellSorted}
use Rattle.mw_logic.specs.Sorts as sorting
use Rattle.mw_logic.specs.Sorts.{DeclaredSort, DeclaredSorts}
use Rattle.mw_logic.specs.Parts.{nested, all_nested, nest, chain}
use Rattle.mw_logic.proofs.AxiomLaws.{under_first}
use Rattle.mw_logic.proofs.Soundness.{EqualArguments, none, at_head, at_tail, arguments-trans, under_all}
use Rattle.mw_logic.proofs.RawKept.{raw_kept, kind_unique}
use Rattle.mw_logic.proofs.SolutionLaws.{declared_kind}
use Rattle.mw_logic.proofs.RawArguments.{IsTermOf}
use Rattle.mw_sorting.specs.ComputedSorts.{ComputedSort, zero_sort, number_sort, quoted_sort, variable_sort, plain_sort, chain_sort, ComputedSorts, no_sorts, more_sorts, Folds, last, before, IsResultOn}
use Rattle.mw_sorting.specs.PreregularModulo.{IsOfKind}

-- a term equal to t of this declared sort
pub record Form (sig : Signature) (t : RawTerm) (S : Sorted) : Type 0 where
  pub form : RawTerm
  pub equal : EqualModulo sig t form
  pub declared : DeclaredSort sig form S

-- the same of terms, one by one
pub record Forms (sig : Signature) (ts : RawTerms) (Ss : List Sorted) : Type 0 where
  pub forms : RawTerms
  pub equal : EqualArguments sig ts forms
  pub declared : DeclaredSorts sig forms Ss

declared_by : (sig : Signature) (f : ℕ) (o : Operator) → IsOperator sig f o → {us : RawTerms} {Ss : List Sorted} {R : Sorted} → DeclaredSorts sig us Ss → IsResultOn sig o Ss R → DeclaredSort sig (apply f us) R
declared_by sig f o is ds (inl l) = sorting.of_operator o is ds l.takes l.least
declared_by sig f o is {us} ds (inr n) = subst (DeclaredSort sig (apply f us)) (sym n.1) (sorting.of_kind o is ds n.0)

module _ (sig : Signature) where
  first_raw : {t : RawTerm} {ts : RawTerms} {Ks : List ℕ} → AreRawTerms sig (cons t ts) Ks → IsRawTerm sig t
  first_raw (next r k rest) = r

  second_raw : {t u : RawTerm} {f : ℕ} → IsRawTerm sig (binary f t u) → IsRawTerm sig u
  second_raw (an_operator o is (next r k (next s l rest))) = s

  head_raw : {t : RawTerm} {f : ℕ} {ts : RawTerms} → IsRawTerm sig (apply f (cons t ts)) → IsRawTerm sig t
  head_raw (an_operator o is args) = first_raw args

  args_raw : {f : ℕ} {ts : RawTerms} → IsRawTerm sig (apply f ts) → (Ks : List ℕ) × AreRawTerms sig ts Ks
  args_raw (an_operator o is args) = (o.args, args)

  smaller : {n : ℕ} → IsRawTerm sig (numeral (suc n)) → IsRawTerm sig (numeral n) × (suc n < 2 ^ 128)
  smaller {n} (a_numeral b l) = (a_numeral b (omega (arith, l)), l)

  mutual
    pub has_form : (t : RawTerm) (S : Sorted) → ComputedSort sig t S → IsRawTerm sig (nested sig t) → Form sig (nested sig t) S
    has_form t S (zero_sort n) r = record { form = numeral 0; equal = done; declared = sorting.of_zero n }
    has_form t R (number_sort {n} {S} f is s q) r =
        let (rn, l) = smaller r in
        let u : Form sig (numeral n) S = has_form (numeral n) S s rn in
        record {
          form = unary f u.form;
          equal = then (backward (successor is l)) (under_first nil u.equal);
          declared = declared_by sig f is.operator is.is_there (sorting.next u.declared sorting.end) q;
        }
    has_form t S (quoted_sort n) r = record { form = t; equal = done; declared = sorting.of_quoted n }
    has_form t S variable_sort r = record { form = t; equal = done; declared = sorting.of_variable }
    has_form t R (plain_sort {f} {ts} {Ss} o is h ss q) r =
        let e : nested sig (apply f ts) ≡ apply f (all_nested sig ts) = rw h refl in
        let (Ks, args) = args_raw (subst (IsRawTerm sig) e r) in
        let us : Forms sig (all_nested sig ts) Ss = have_forms ts Ss Ks ss args in
        subst (λ t. Form sig t R) (sym e) (record { form = apply f us.forms; equal = under_all f us.equal; declared = declared_by sig f o is us.declared q })
    has_form t R (chain_sort {f} {ts} o is h q) r =
        let e : nested sig (apply f ts) ≡ nest true f (all_nested sig ts) = rw h refl in
        subst (λ t. Form sig t R) (sym e) (fold_form f o is ts R q (subst (IsRawTerm sig) e r))

    have_forms : (ts : RawTerms) (Ss : List Sorted) (Ks : List ℕ) → ComputedSorts sig ts Ss → AreRawTerms sig (all_nested sig ts) Ks → Forms sig (all_nested sig ts) Ss
    have_forms ts Ss Ks no_sorts r = record { forms = nil; equal = none; declared = sorting.end }
    have_forms (cons t ts) (S ∷ Ss) Ks (more_sorts s ss) (next {Ks = Ls} r k rest) =
        let u = has_form t S s r in
        let us = have_forms ts Ss Ls ss rest in
        record { forms = cons u.form us.forms; equal = arguments-trans (at_head (all_nested sig ts) u.equal) (at_tail u.form us.equal); declared = sorting.next u.declared us.declared }

    fold_form : (f : ℕ) (o : Operator) → IsOperator sig f o → (ts : RawTerms) (R : Sorted) → Folds sig o ts R → IsRawTerm sig (nest true f (all_nested sig ts)) → Form sig (nest true f (all_nested sig ts)) R
    fold_form f o is ts R (last {t = t} s) r = has_form t R s r
    fold_form f o is ts R (before {t = t} {u = u} {us = us} {S = S} {Q = Q} s q p) r =
        let v = has_form t S s (head_raw r) in
        let w = fold_form f o is (cons u us) Q q (second_raw r) in
        record {
          form = binary f v.form w.form;
          equal = under_all f (arguments-trans (at_head (cons (chain f (nested sig u) (all_nested sig us)) nil) v.equal) (at_tail v.form (at_head nil w.equal)));
          declared = declared_by sig f o is (sorting.next v.declared (sorting.next w.declared sorting.end)) p;
        }

  -- a term's computed sort is of its kind
  pub sort_kind : IsAccepted sig → IsWellSorted sig → (K : ℕ) (t : RawTerm) (S : Sorted) → IsTermOf sig K t → ComputedSort sig t S → IsOfKind sig K S
  sort_kind accepted fitting K t S p s =
      let u : Form sig (nested sig t) S = has_form t S s p.0 in
      let q = raw_kept sig accepted u.equal in
      kind_unique sig accepted (declared_kind sig accepted fitting (q.0 p.0) u.declared) (q.1 K p.1)

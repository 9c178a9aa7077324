-- What an operator gives on a sort and its identity's: the same, up to the order, for all sorts that the identity has.
use Rattle.std.proofs.Common.{◌≡◌, ◌∙◌, ℕ, List, [], ◌∷◌, ◌<◌, length, map, Bool, true, false, refl, sym, subst, inl, inr}
use Rattle.std.specs.Prelude.{slice_get, Option, Some, None, IsTrue}
use Rattle.mw_logic.specs.Term.{numeral, nil, constant}
use Rattle.mw_logic.specs.Signature.{Signature, Sorted, Operator, IsOperator, Identity, identity_term, constant_of, numeral_of, at_number, IsRawTerm, a_numeral, an_operator, AreRawTerms, end, HasKind}
use Rattle.mw_logic.specs.Sorts.{IsBelow}
use Rattle.mw_logic.specs.Accepted.{IsAccepted, number_of_sort}
use Rattle.mw_logic.specs.Preregular.{IsSortOf, AreOfKinds}
use Rattle.mw_logic.specs.Parts.{is_assoc}
use Rattle.mw_logic.proofs.KindLaws.{SameKind-sym, SameKind-trans}
use Rattle.mw_logic.proofs.BelowLaws.{IsBelow-refl, IsBelow-trans}
use Rattle.mw_logic.proofs.RawArguments.{operator_of}
use Rattle.mw_logic.proofs.Soundness.{nested-identity, is_associative}
use Rattle.mw_sorting.specs.ComputedSorts.{IsResultOn, ComputedSort, plain_sort, no_sorts}
use Rattle.mw_sorting.specs.PreregularModulo.{IsOfKind, HasNaturals}
use Rattle.mw_sorting.proofs.Results.{result_kind, result_monotone}
use Rattle.mw_sorting.proofs.Forms.{sort_kind}
use Rattle.mw_sorting.proofs.Agreement.{computed-agree}
use Rattle.mw_term.specs.Signatures.{sorted_of}
use Rattle.mw_term.specs.declared.signature.Sorted.{Sorted as Held}
use Rattle.mw_sorts.specs.declared.diagram.Diagram.{Diagram}
use Rattle.mw_sorts.specs.Entries.{place_in}
use Rattle.mw_sorts.specs.Sorting.{Sorting, AreEntriesOf}
use Rattle.mw_sorts.specs.declared.numbers.Numbers.{Numbers}
use Rattle.mw_sorts.specs.Numbers.{IsTableOfNumbers, HaveNumbers}
use Rattle.mw_sorts.specs.Diagrams.{IsDiagram, HaveDiagrams}
use Rattle.mw_sorts.specs.Groupings.{IsOrderSorted, AreAlike}
use Rattle.mw_sorts.specs.Leaving.{IsIdentitySort, IsBeside, StaysLow, Raises, KeepsLow, KeepsAllLow, IsFirstLeft}
use Rattle.mw_sorts.proofs.Getting.{get-none, get-map, map-get, some_same}
use Rattle.mw_sorts.proofs.Connected.{there-with}
use Rattle.mw_sorts.proofs.Twos.{TwoSteps, two_steps}

module _ (sig : Signature) (ok : IsOrderSorted sig) (f : ℕ) (o : Operator) (is : IsOperator sig f o) where
  -- the identity's sort is of the operator's kind
  pub identity-kind : (E : Sorted) → IsIdentitySort sig o E → IsOfKind sig o.result E
  identity-kind E (i, named, computed) =
      let (assoc, raw, k) = ok.accepted.identity f o i is named in
      let e = sym (nested-identity sig ok.accepted i) in
      sort_kind sig ok.accepted ok.fitting o.result (identity_term i) E (subst (IsRawTerm sig) e raw, subst (λ t. HasKind sig t o.result) e k) computed

  -- two of its sorts are alike
  pub identity-alike : (IsTrue sig.nat → HasNaturals sig) → (E D : Sorted) → IsIdentitySort sig o E → IsIdentitySort sig o D → IsBelow sig E D
  identity-alike naturals E D (i, named, computed) (j, called, found) =
      let one : i ≡ j = cc in
      computed-agree sig ok.accepted ok.fitting naturals (identity_term i) E D computed (subst (λ (x : Identity). ComputedSort sig (identity_term x) D) (sym one) found)

  -- so is the result
  pub beside-kind : (E S R : Sorted) → IsBeside sig o E S R → IsOfKind sig o.result R
  beside-kind E S R (inl r) = result_kind sig ok.fitting f o is (E ∷ S ∷ []) R r
  beside-kind E S R (inr r) = result_kind sig ok.fitting f o is (S ∷ E ∷ []) R r

  -- which is there
  pub beside-there : (E S R : Sorted) → IsBeside sig o E S R → IsSortOf sig (number_of_sort R)
  beside-there E S R r = there-with sig ok.sorts (number_of_sort R) o.result (beside-kind E S R r) (ok.sorts.results f o is)

  -- what is at or below one result on each side, is at or below all
  pub stays-low : (E S P Q : Sorted) → IsResultOn sig o (E ∷ S ∷ []) P → IsResultOn sig o (S ∷ E ∷ []) Q → IsBelow sig S P → IsBelow sig S Q → StaysLow sig o E S
  stays-low E S P Q p q a b R (inl r) = IsBelow-trans sig S P R a (result_monotone sig ok.fitting f o is (E ∷ S ∷ []) (E ∷ S ∷ []) P R r (IsBelow-refl sig E, (IsBelow-refl sig S, tt)) p)
  stays-low E S P Q p q a b R (inr r) = IsBelow-trans sig S Q R b (result_monotone sig ok.fitting f o is (S ∷ E ∷ []) (S ∷ E ∷ []) Q R r (IsBelow-refl sig S, (IsBelow-refl sig E, tt)) q)

  module _ (places : List ℕ) (d : Diagram) (diagram : IsDiagram sig places o d) where
    -- the result on two sorts of its kind, where it has an identity
    pub beside : (i : Identity) → o.identity ≡ Some i → (S T : Sorted) → IsOfKind sig o.result S → IsOfKind sig o.result T → TwoSteps sig places o d S T
    beside i named S T s t =
        let (A, B, args, a, b) = ok.accepted.assoc f o is (ok.accepted.identity f o i is named).0 in
        two_steps sig places o d A B S T diagram args (SameKind-trans s (SameKind-sym a)) (SameKind-trans t (SameKind-sym b))

    -- what was looked up is the result
    pub looked-up : (i : Identity) → o.identity ≡ Some i → (given : List ℕ) → given ≡ places → (S T R : Sorted) → IsOfKind sig o.result S → IsOfKind sig o.result T
        → ((s : Signature) (p : Operator) (K L : ℕ) → IsDiagram s given p d → p.args ≡ K ∷ L ∷ [] → IsOfKind s K S → IsOfKind s L T → IsResultOn s p (S ∷ T ∷ []) R) → IsResultOn sig o (S ∷ T ∷ []) R
    looked-up i named given e S T R s t found =
        let (A, B, args, a, b) = ok.accepted.assoc f o is (ok.accepted.identity f o i is named).0 in
        found sig o A B (subst (λ (ps : List ℕ). IsDiagram sig ps o d) (sym e) diagram) args (SameKind-trans s (SameKind-sym a)) (SameKind-trans t (SameKind-sym b))

    -- the same of sorts that are alike
    pub low-alike : (E D S T : Sorted) → IsIdentitySort sig o E → IsIdentitySort sig o D → IsBelow sig E D → IsOfKind sig o.result T → AreAlike sig S T → StaysLow sig o E T → StaysLow sig o D S
    low-alike E D S T e named l t (up, down) low R (inl r) =
        let w = beside e.0 e.1 E T (identity-kind E e) t in
        IsBelow-trans sig S T R up (IsBelow-trans sig T (_) R (low (_) (inl w.is)) (result_monotone sig ok.fitting f o is (E ∷ T ∷ []) (D ∷ S ∷ []) (_) R r (l, (down, tt)) w.is))
    low-alike E D S T e named l t (up, down) low R (inr r) =
        let w = beside e.0 e.1 T E t (identity-kind E e) in
        IsBelow-trans sig S T R up (IsBelow-trans sig T (_) R (low (_) (inr w.is)) (result_monotone sig ok.fitting f o is (T ∷ E ∷ []) (S ∷ D ∷ []) (_) R r (down, (l, tt)) w.is))

-- all entries of the operator's kind, or those before one
module _ (sorting : Sorting) (ok : IsOrderSorted sorting.signature) (naturals : IsTrue sorting.signature.nat → HasNaturals sorting.signature) (o : Operator) (entries : List Held) (h : AreEntriesOf sorting o.result (map sorted_of entries)) (f : ℕ)
    (is : IsOperator sorting.signature f o) (d : Diagram) (diagram : IsDiagram sorting.signature sorting.places o d) (E : Sorted) (e : IsIdentitySort sorting.signature o E) where
  abbrev sg : Signature
  sg = sorting.signature

  abbrev place : Sorted → ℕ
  place S = place_in sorting.places (length (map sorted_of entries)) S

  -- an entry that is like S stays low, so S does
  keeps : (S : Sorted) → IsOfKind sg o.result S → ((T : Held) → slice_get entries (place S) ≡ Some T → StaysLow sg o E (sorted_of T)) → KeepsLow sg o S
  keeps S s low D named =
      let (T, g, up, down) = h.all S s in
      let (x, there, same) = map-get sorted_of entries (place S) T g in
      low-alike sg ok f o is sorting.places d diagram E D S T e named (identity-alike sg ok f o is naturals E D e named) (h.of_kind (place S) T g) (up, down) (subst (StaysLow sg o E) same (low x there))

  pub keeps-all : ((m : ℕ) (T : Held) → slice_get entries m ≡ Some T → StaysLow sg o E (sorted_of T)) → KeepsAllLow sg o
  keeps-all low S s = keeps S s (low (place S))

  pub first-left : (n : ℕ) (S : Held) → slice_get entries n ≡ Some S → Raises sg o E (sorted_of S) → ((m : ℕ) (T : Held) → m < n → slice_get entries m ≡ Some T → StaysLow sg o E (sorted_of T)) → IsFirstLeft sg o (sorted_of S)
  first-left n S at raised low =
      let there = get-map sorted_of entries n S at in
      record {
        entry = h.entry n (sorted_of S) there;
        raises = (E, e, raised);
        first = λ T t before. keeps T t (λ x g. low (place T) x (subst (λ (p : ℕ). place T < p) (h.at_place n (sorted_of S) there) (h.in_order T (sorted_of S) t (h.of_kind n (sorted_of S) there) before)) g);
      }

-- a constant takes no arguments
pub constant-args : (sig : Signature) (c : ℕ) → IsRawTerm sig (constant c) → (p : Operator) → IsOperator sig c p → AreRawTerms sig nil p.args
constant-args sig c (an_operator q there args) p is = operator_of sig c (λ (o : Operator). AreRawTerms sig nil o.args) is there args

pub no-kinds : (sig : Signature) (Ks : List ℕ) → AreRawTerms sig nil Ks → AreOfKinds sig [] Ks
no-kinds sig Ks end = tt

-- its sort is its result on none
pub constant-sort : (sig : Signature) → IsAccepted sig → (c : ℕ) → IsRawTerm sig (constant c) → (p : Operator) → IsOperator sig c p → (R : Sorted) → IsResultOn sig p [] R → ComputedSort sig (constant c) R
constant-sort sig ok c raw p is R r = by_test (is_assoc sig c) refl
  where
    none : {K L : ℕ} → AreRawTerms sig nil (K ∷ L ∷ []) → ⊥
    none a = elim a [ ]

    by_test : (b : Bool) → is_assoc sig c ≡ b → ComputedSort sig (constant c) R
    by_test false h = plain_sort p is h no_sorts r
    by_test true h =
        let (K, L, args, k, l) = ok.assoc c p is (is_associative sig ok c p is h) in
        absurd (none (subst (AreRawTerms sig nil) args (constant-args sig c raw p is)))

-- where an identity is a constant, its diagram gives its sort
pub constant-found : (sig : Signature) → IsAccepted sig → (places : List ℕ) (diagrams : List Diagram) → HaveDiagrams sig places diagrams → (f : ℕ) (o : Operator) → IsOperator sig f o → (c : ℕ) → o.identity ≡ Some (constant_of c) → (d : Diagram)
    → Some d ≡ at_number diagrams c → (R : Sorted) → ((s : Signature) (p : Operator) → IsDiagram s places p d → AreOfKinds s [] p.args → IsResultOn s p [] R) → ComputedSort sig (constant c) R
constant-found sig ok places diagrams ds f o is c named d at R found = of_raw raw
  where
    raw : IsRawTerm sig (constant c)
    raw = (ok.identity f o (constant_of c) is named).1

    of_raw : IsRawTerm sig (constant c) → ComputedSort sig (constant c) R
    of_raw (an_operator p there args) =
        let (x, here, diagram) = ds c p there in
        let same : x ≡ d = some_same (sym here ∙ sym at) in
        constant-sort sig ok c raw p there R (found sig p (subst (IsDiagram sig places p) same diagram) (no-kinds sig p.args args))

pub constant-there : (sig : Signature) → IsAccepted sig → (places : List ℕ) (diagrams : List Diagram) → HaveDiagrams sig places diagrams → (f : ℕ) (o : Operator) → IsOperator sig f o → (c : ℕ) → o.identity ≡ Some (constant_of c) → None ≡ at_number diagrams c → ⊥
constant-there sig ok places diagrams ds f o is c named at = of_raw (ok.identity f o (constant_of c) is named).1
  where
    of_raw : IsRawTerm sig (constant c) → ⊥
    of_raw (an_operator p there args) = let (x, here, diagram) = ds c p there in get-none (at ∙ here)

-- where it is a numeral, there is a table
pub number-there : (sig : Signature) → IsAccepted sig → (numbers : Option Numbers) → HaveNumbers sig numbers → (f : ℕ) (o : Operator) → IsOperator sig f o → (n : ℕ) → o.identity ≡ Some (numeral_of n) → (table : Numbers) × (numbers ≡ Some table) × IsTableOfNumbers sig table
number-there sig ok numbers have f o is n named = of_raw (ok.identity f o (numeral_of n) is named).1
  where
    of_raw : IsRawTerm sig (numeral n) → (table : Numbers) × (numbers ≡ Some table) × IsTableOfNumbers sig table
    of_raw (a_numeral nat l) = have nat

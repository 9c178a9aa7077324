-- What ground terms have since they are made of operators that give a sort on arguments of it.
use Rattle.std.specs.Prelude.{◌≡◌, ◌≤◌, ◌<◌, ◌-◌, ℕ, length, slice_index_or, slice_get, zero, suc, List, [], ◌∷◌, Bool, true, false, IsTrue, Some, codes, refl, ⊤}
use Rattle.std.proofs.Common.{◌∙◌, ◌+◌, ◌++◌, ⊎_elim, inl, inr, add-one, sym, subst, ap, arith, take, drop}
use Rattle.std.proofs.lemmas.Bool.{both_ways, cases_lt}
use Rattle.std.proofs.lemmas.List.{take_all}
use Rattle.std.proofs.lemmas.Option.{same_Some, slice_get_within}
use Rattle.mw_logic.specs.Term.{RawTerm, numeral, quoted, variable, apply, RawTerms, nil, cons, is_ground, are_ground}
use Rattle.mw_logic.specs.Terms.{terms_of}
use Rattle.mw_logic.specs.Signature.{Signature, Sorted, sort, kind, Operator, IsOperator, IsSortNamed, Declaration, SameKind, HasKind, of_numeral, of_quoted, of_operator, IsRawTerm, a_numeral, an_operator, AreRawTerms, next, Member, at_number}
use Rattle.mw_logic.specs.Axioms.{done}
use Rattle.mw_logic.specs.Sorts.{AtOrBelow, DeclaredSort, HasSort}
use Rattle.mw_logic.specs.Parts.{is_assoc, nested, all_nested, nest, chain}
use Rattle.mw_logic.specs.Preregular.{AreOfKinds, HasItsSorts}
use Rattle.mw_logic.proofs.KindLaws.{SameKind-trans, SameKind-sym}
use Rattle.mw_logic.proofs.Canonical.{IsCanonical, AreCanonical, canonical, assoc_operator}
use Rattle.mw_logic.proofs.CanonicalTerms.{fixed}
use Rattle.mw_logic.proofs.BelowLaws.{AtOrBelow-kind, AtOrBelow-trans}
use Rattle.mw_sorting.specs.PreregularModulo.{HasNaturals, IsPreregularModulo}
use Rattle.mw_term.proofs.OperatorSets.{lacks_top, arguments_apart, first_apart, others_apart}
use Rattle.mw_least.specs.declared.sure.Partial.{Partial}
use Rattle.mw_least.specs.declared.closed.Closed.{Closed}
use Rattle.mw_least.specs.declared.closed.Home.{Home}
use Rattle.mw_least.specs.Sure.{AreAllApart, IsNone, IsApart}
use Rattle.mw_least.specs.Closed.{AreAbove, TakesTo, IsClosedFor, AreClosedFor, IsClosed, IsHome, AreHomes, AreWithin, Has, EachHas}
use Rattle.mw_least.proofs.Results.{raise, grounds, AllHave, args_of, applied_sort}
use Rattle.mw_least.proofs.Tops.{at_within, first_member}
use Rattle.mw_builtin.proofs.Forms.{not_alone}

-- the declaration that takes arguments of a sort to another
pub takes_by : (pairs : List (ℕ × ℕ)) (o : Operator) (d : Declaration) (S R : ℕ) → Member d o.declarations → d.result ≡ sort R → AreAbove pairs S d.args → TakesTo pairs o S R
takes_by pairs o d S R m e a =
    let is : d ≡ record { args = d.args; result = sort R } = ap (λ s. record { args = d.args; result = s }) e in
    record { args = d.args; declared = subst (λ x. Member x o.declarations) is m; are_above = a }

module _ (sig : Signature) where
  -- each of the terms has sort S
  abbrev pub AllOf : ℕ → RawTerms → Type 0
  AllOf S nil = ⊤
  AllOf S (cons t ts) = HasSort sig t (sort S) × AllOf S ts

  -- so they have the sorts above it
  all_raised : (S : ℕ) (ts : RawTerms) (Ks : List ℕ) (Ss : List Sorted) → AllOf S ts → AreRawTerms sig ts Ks → AreOfKinds sig Ss Ks → AreAbove sig.pairs S Ss → AllHave sig ts Ss
  all_raised S nil [] [] h raw k a = tt
  all_raised S nil [] (T ∷ Ss) h raw k a = absurd k
  all_raised S ts (K ∷ Ks) [] h raw k a = absurd k
  all_raised S (cons t ts) [] Ss h raw k a = elim raw [ ]
  all_raised S nil (K ∷ Ks) (T ∷ Ss) h raw k a = elim raw [ ]
  all_raised S (cons t ts) (K ∷ Ks) (kind L ∷ Ss) h raw k a = absurd a.0
  all_raised S (cons t ts) (K ∷ Ks) (sort T ∷ Ss) h (next r i rest) k a = (raise sig t S T h.0 a.0, all_raised S ts Ks Ss h.1 rest k.1 a.1)

module _ (sig : Signature) (ok : IsPreregularModulo sig) (numbers : HasItsSorts sig) where
  -- an operator that takes arguments of a sort to R gives R on them
  taken_sort : (f : ℕ) (ts : RawTerms) (o : Operator) (S R : ℕ) → IsOperator sig f o → IsRawTerm sig (apply f ts) → AllOf sig S ts → TakesTo sig.pairs o S R → HasSort sig (apply f ts) (sort R)
  taken_sort f ts o S R is raw h s =
      let d = numbers.declarations f o is (record { args = s.args; result = sort R }) s.declared in
      let args = args_of sig o is raw in
      applied_sort sig ok f ts o s.args R is args (all_raised sig S ts o.args s.args h args d.args s.are_above) s.declared

  closed_sort : (f : ℕ) (ts : RawTerms) (o : Operator) (S : ℕ) → IsOperator sig f o → IsRawTerm sig (apply f ts) → AllOf sig S ts → IsClosedFor sig.pairs o S → HasSort sig (apply f ts) (sort S)
  closed_sort f ts o S is raw h s = raise sig (apply f ts) s.0 S (taken_sort f ts o S s.0 is raw h s.1) s.2

  -- Terms that have a sort if they are of its kind.
  module _ (S : ℕ) where
    abbrev IsIn : RawTerm → Type 0
    IsIn t = (K : ℕ) → IsRawTerm sig t → HasKind sig t K → SameKind sig K S → HasSort sig t (sort S)

    abbrev AreIn : RawTerms → Type 0
    AreIn nil = ⊤
    AreIn (cons t ts) = IsIn t × AreIn ts

    -- arguments of sorts at or above it are of its kind
    all_in : (ts : RawTerms) (Ks : List ℕ) (Ss : List Sorted) → AreIn ts → AreRawTerms sig ts Ks → AreOfKinds sig Ss Ks → AreAbove sig.pairs S Ss → AllOf sig S ts
    all_in nil [] [] h raw k a = tt
    all_in nil [] (T ∷ Ss) h raw k a = absurd k
    all_in ts (K ∷ Ks) [] h raw k a = absurd k
    all_in (cons t ts) [] Ss h raw k a = elim raw [ ]
    all_in nil (K ∷ Ks) (T ∷ Ss) h raw k a = elim raw [ ]
    all_in (cons t ts) (K ∷ Ks) (kind L ∷ Ss) h raw k a = absurd a.0
    all_in (cons t ts) (K ∷ Ks) (sort T ∷ Ss) h (next r i rest) k a = (h.0 K r i (SameKind-trans (SameKind-sym k.0) (SameKind-sym (AtOrBelow-kind a.0))), all_in ts Ks Ss h.1 rest k.1 a.1)

    taken_in : (f : ℕ) (ts : RawTerms) (o : Operator) (R : ℕ) → IsOperator sig f o → IsRawTerm sig (apply f ts) → AreIn ts → TakesTo sig.pairs o S R → HasSort sig (apply f ts) (sort R)
    taken_in f ts o R is raw h s =
        let d = numbers.declarations f o is (record { args = s.args; result = sort R }) s.declared in
        taken_sort f ts o S R is raw (all_in ts o.args s.args h (args_of sig o is raw) d.args s.are_above) s

  -- Terms of a closed sort's kind in which no operator stands that is outside.
  module _ (c : Closed) (closed : IsClosed sig c) where
    -- the term has the sort, and so has each of a list
    abbrev IsOfIt : RawTerm → Type 0
    IsOfIt = IsIn c.sort

    abbrev AllOfIt : RawTerms → Type 0
    AllOfIt = AreIn c.sort

    taken_of : (f : ℕ) (ts : RawTerms) (o : Operator) (R : ℕ) → IsOperator sig f o → IsRawTerm sig (apply f ts) → AllOfIt ts → TakesTo sig.pairs o c.sort R → HasSort sig (apply f ts) (sort R)
    taken_of = taken_in c.sort

    operator_of_it : (f : ℕ) (ts : RawTerms) → IsNone c.outside f → AllOfIt ts → IsOfIt (apply f ts)
    operator_of_it f ts lacks h K raw (of_operator o is j) k =
        let (R, takes, below) = closed.operators f o is (SameKind-trans j k) lacks in
        raise sig (apply f ts) R c.sort (taken_of f ts o R is raw h takes) below

    -- a constant of a sort below a named one
    of_constant : (t : RawTerm) (D N : ℕ) → DeclaredSort sig t (sort D) → AtOrBelow sig.pairs D N → AtOrBelow sig.pairs N c.sort → HasSort sig t (sort c.sort)
    of_constant t D N d b l = record { form = t; equal = done; declared = sort D; is_declared = d; below = AtOrBelow-trans b l }

    numeral_of_it : (n : ℕ) → IsOfIt (numeral n)
    numeral_of_it n K (a_numeral b m) (of_numeral N named there s) k =
        let nats = ok.naturals b in
        let l = closed.constants.numerals b N named (SameKind-trans s k) in
        let one : nats.Nat ≡ N = ok.accepted.sorts_differ nats.Nat N (codes "Nat") nats.nat_named named in
        by_number n nats (subst (AtOrBelow sig.pairs nats.Zero) one nats.zero_below) (subst (AtOrBelow sig.pairs nats.NzNat) one nats.nonzero_below) (λ D d m. of_constant (numeral n) D N d m l)
      where
        by_number : (n : ℕ) (nats : HasNaturals sig) → AtOrBelow sig.pairs nats.Zero N → AtOrBelow sig.pairs nats.NzNat N → ((D : ℕ) → DeclaredSort sig (numeral n) (sort D) → AtOrBelow sig.pairs D N → HasSort sig (numeral n) (sort c.sort)) → HasSort sig (numeral n) (sort c.sort)
        by_number zero nats z p has = has nats.Zero (DeclaredSort.of_zero nats.zero_named) z
        by_number (suc m) nats z p has = has nats.NzNat (DeclaredSort.of_nonzero nats.nonzero_named) p

    quoted_of_it : (q : List ℕ) → IsOfIt (quoted q)
    quoted_of_it q K raw (of_quoted N named b s) k = of_constant (quoted q) N N (DeclaredSort.of_quoted named) AtOrBelow.same (closed.constants.quotes b N named (SameKind-trans s k))

    by_assoc : (b : Bool) (f : ℕ) (ts : RawTerms) → IsNone c.outside f → AllOfIt ts → IsOfIt (nest true f ts) → IsOfIt (nest b f ts)
    by_assoc true f ts lacks h k = k
    by_assoc false f ts lacks h k = operator_of_it f ts lacks h

    mutual
      each_of_it : (t : RawTerm) → IsTrue (is_ground t) → IsApart c.outside t → IsOfIt (nested sig t)
      each_of_it (numeral n) g p = numeral_of_it n
      each_of_it (quoted q) g p = quoted_of_it q
      each_of_it (variable x) g p = absurd (both_ways _ refl g)
      each_of_it (apply f ts) g p =
          let lacks : IsNone c.outside f = (lacks_top f ts c.outside.declared p.0, lacks_top f ts c.outside.built p.1) in
          let rest : AreAllApart c.outside ts = (arguments_apart f ts c.outside.declared p.0, arguments_apart f ts c.outside.built p.1) in
          by_assoc (is_assoc sig f) f (all_nested sig ts) lacks (all_of_it ts g rest) (nest_of_it f ts lacks g rest)

      all_of_it : (ts : RawTerms) → IsTrue (are_ground ts) → AreAllApart c.outside ts → AllOfIt (all_nested sig ts)
      all_of_it nil g p = tt
      all_of_it (cons t ts) g p =
          let both = grounds (is_ground t) (are_ground ts) g in
          (each_of_it t both.0 (first_apart t ts c.outside.declared p.0, first_apart t ts c.outside.built p.1), all_of_it ts both.1 (others_apart t ts c.outside.declared p.0, others_apart t ts c.outside.built p.1))

      nest_of_it : (f : ℕ) (ts : RawTerms) → IsNone c.outside f → IsTrue (are_ground ts) → AreAllApart c.outside ts → IsOfIt (nest true f (all_nested sig ts))
      nest_of_it f nil lacks g p = operator_of_it f nil lacks tt
      nest_of_it f (cons t nil) lacks g p = each_of_it t (grounds (is_ground t) true g).0 (first_apart t nil c.outside.declared p.0, first_apart t nil c.outside.built p.1)
      nest_of_it f (cons t (cons u us)) lacks g p =
          let both = grounds (is_ground t) (are_ground (cons u us)) g in
          operator_of_it f (cons (nested sig t) (cons (chain f (nested sig u) (all_nested sig us)) nil)) lacks (
            each_of_it t both.0 (first_apart t (cons u us) c.outside.declared p.0, first_apart t (cons u us) c.outside.built p.1),
            (nest_of_it f (cons u us) lacks both.1 (others_apart t (cons u us) c.outside.declared p.0, others_apart t (cons u us) c.outside.built p.1), tt),
          )

    -- so have the two arguments of three or more, nested to the right
    two_of_it : (f : ℕ) (t u : RawTerm) (us : RawTerms) → IsNone c.outside f → IsTrue (are_ground (cons t (cons u us))) → AreAllApart c.outside (cons t (cons u us)) → AllOfIt (cons (nested sig t) (cons (chain f (nested sig u) (all_nested sig us)) nil))
    two_of_it f t u us lacks g p =
        let both = grounds (is_ground t) (are_ground (cons u us)) g in (
          each_of_it t both.0 (first_apart t (cons u us) c.outside.declared p.0, first_apart t (cons u us) c.outside.built p.1),
          (nest_of_it f (cons u us) lacks both.1 (others_apart t (cons u us) c.outside.declared p.0, others_apart t (cons u us) c.outside.built p.1), tt),
        )

    -- an operator's result on terms of the sort is a sort of each canonical ground term with the operator on top
    has_result : (b : Bool) (f : ℕ) (ts : RawTerms) (o : Operator) (R : ℕ) → IsOperator sig f o → is_assoc sig f ≡ b → IsCanonical sig (apply f ts) → IsRawTerm sig (nest b f (all_nested sig ts)) → IsTrue (are_ground ts) → IsNone c.outside f → AreAllApart c.outside ts
        → TakesTo sig.pairs o c.sort R → HasSort sig (nest b f (all_nested sig ts)) (sort R)
    has_result false f ts o R is h k raw g lacks p s = taken_of f (all_nested sig ts) o R is raw (all_of_it ts g p) s
    has_result true f nil o R is h k raw g lacks p s = taken_of f nil o R is raw tt s
    has_result true f (cons t nil) o R is h k raw g lacks p s = absurd (not_alone sig f t h k)
    has_result true f (cons t (cons u us)) o R is h k raw g lacks p s =
        taken_of f (cons (nested sig t) (cons (chain f (nested sig u) (all_nested sig us)) nil)) o R is raw (two_of_it f t u us lacks g p) s

    -- so a canonical ground term has the result that its operator has on the sort, where no operator outside stands in it
    pub made_of_closed : (f : ℕ) (ts : RawTerms) (o : Operator) (R : ℕ) → IsOperator sig f o → IsApart c.outside (apply f ts) → TakesTo sig.pairs o c.sort R → Has sig R (apply f ts)
    made_of_closed f ts o R is apart s fixed raw ground =
        has_result (is_assoc sig f) f ts o R is refl (subst (IsCanonical sig) fixed (canonical sig ok.accepted (nested sig (apply f ts)))) raw ground
        (lacks_top f ts c.outside.declared apart.0, lacks_top f ts c.outside.built apart.1) (arguments_apart f ts c.outside.declared apart.0, arguments_apart f ts c.outside.built apart.1) s

    -- Terms of the sorts above it, on arguments in which no operator outside stands.
    module _ (S : ℕ) (below : AtOrBelow sig.pairs c.sort S) where
      made_in : (t : RawTerm) → IsTrue (is_ground t) → IsApart c.outside t → IsIn S (nested sig t)
      made_in t g p K r i k = raise sig (nested sig t) c.sort S (each_of_it t g p K r i (SameKind-trans k (SameKind-sym (AtOrBelow-kind below)))) below

      first_made : (t : RawTerm) (ts : RawTerms) → IsTrue (are_ground (cons t ts)) → AreAllApart c.outside (cons t ts) → IsIn S (nested sig t)
      first_made t ts g p = made_in t (grounds (is_ground t) (are_ground ts) g).0 (first_apart t ts c.outside.declared p.0, first_apart t ts c.outside.built p.1)

      others_ground : (t : RawTerm) (ts : RawTerms) → IsTrue (are_ground (cons t ts)) → IsTrue (are_ground ts)
      others_ground t ts g = (grounds (is_ground t) (are_ground ts) g).1

      others_all_apart : (t : RawTerm) (ts : RawTerms) → AreAllApart c.outside (cons t ts) → AreAllApart c.outside ts
      others_all_apart t ts p = (others_apart t ts c.outside.declared p.0, others_apart t ts c.outside.built p.1)

      all_made : (ts : RawTerms) → IsTrue (are_ground ts) → AreAllApart c.outside ts → AreIn S (all_nested sig ts)
      all_made nil g p = tt
      all_made (cons t ts) g p = (first_made t ts g p, all_made ts (others_ground t ts g) (others_all_apart t ts p))

      module _ (f : ℕ) (o : Operator) (is : IsOperator sig f o) (gives : IsClosedFor sig.pairs o S) where
        has_in : (ts : RawTerms) → IsRawTerm sig (apply f ts) → AreIn S ts → HasSort sig (apply f ts) (sort S)
        has_in ts raw h = raise sig (apply f ts) gives.0 S (taken_in S f ts o gives.0 is raw h gives.1) gives.2

        chain_in : (t : RawTerm) (ts : RawTerms) → IsTrue (are_ground (cons t ts)) → AreAllApart c.outside (cons t ts) → IsIn S (chain f (nested sig t) (all_nested sig ts))
        chain_in t nil g p = first_made t nil g p
        chain_in t (cons u us) g p = λ K raw i k.
            has_in (cons (nested sig t) (cons (chain f (nested sig u) (all_nested sig us)) nil)) raw
            (first_made t (cons u us) g p, (chain_in u us (others_ground t (cons u us) g) (others_all_apart t (cons u us) p), tt))

        nest_in : (b : Bool) (ts : RawTerms) → is_assoc sig f ≡ b → IsCanonical sig (apply f ts) → IsRawTerm sig (nest b f (all_nested sig ts)) → IsTrue (are_ground ts) → AreAllApart c.outside ts → HasSort sig (nest b f (all_nested sig ts)) (sort S)
        nest_in false ts e k raw g p = has_in (all_nested sig ts) raw (all_made ts g p)
        nest_in true nil e k raw g p = has_in nil raw tt
        nest_in true (cons t nil) e k raw g p = absurd (not_alone sig f t e k)
        nest_in true (cons t (cons u us)) e k raw g p =
            has_in (cons (nested sig t) (cons (chain f (nested sig u) (all_nested sig us)) nil)) raw
            (first_made t (cons u us) g p, (chain_in u us (others_ground t (cons u us) g) (others_all_apart t (cons u us) p), tt))

        -- an operator that gives a sort on arguments of it has it on arguments that are made so
        pub closed_on_made : (ts : RawTerms) → AreAllApart c.outside ts → Has sig S (apply f ts)
        closed_on_made ts p fixed raw g = nest_in (is_assoc sig f) ts refl (subst (IsCanonical sig) fixed (canonical sig ok.accepted (nested sig (apply f ts)))) raw g p

  -- Terms whose arguments have a sort for which the operator on top is closed.
  module _ (S : ℕ) where
    one_has : (t : RawTerm) → IsCanonical sig t → IsRawTerm sig (nested sig t) → IsTrue (is_ground t) → Has sig S t → HasSort sig (nested sig t) (sort S)
    one_has t k raw g h = h (fixed sig ok.accepted t k) raw g

    all_have : (ts : List RawTerm) (Ks : List ℕ) → AreCanonical sig (terms_of ts) → AreRawTerms sig (all_nested sig (terms_of ts)) Ks → IsTrue (are_ground (terms_of ts)) → EachHas sig S ts → AllOf sig S (all_nested sig (terms_of ts))
    all_have [] Ks k raw g h = tt
    all_have (t ∷ ts) [] k raw g h = elim raw [ ]
    all_have (t ∷ ts) (K ∷ Ks) k (next r i rest) g h =
        let both = grounds (is_ground t) (are_ground (terms_of ts)) g in
        (one_has t k.0 r both.0 h.0, all_have ts Ks k.1 rest both.1 h.1)

    -- those of an associative operator, nested to the right
    module _ (f : ℕ) (o : Operator) (is : IsOperator sig f o) (gives : IsClosedFor sig.pairs o S) where
      two_have : (t : RawTerm) (v : RawTerm) → IsRawTerm sig (apply f (cons t (cons v nil))) → (IsRawTerm sig t → HasSort sig t (sort S)) → (IsRawTerm sig v → HasSort sig v (sort S)) → HasSort sig (apply f (cons t (cons v nil))) (sort S)
      two_have t v (an_operator p there (next r i (next q j rest))) h k = closed_sort f (cons t (cons v nil)) o S is (an_operator p there (next r i (next q j rest))) (h r, (k q, tt)) gives

      chain_has : (t : RawTerm) (ts : List RawTerm) → AreCanonical sig (terms_of (t ∷ ts)) → IsTrue (are_ground (terms_of (t ∷ ts))) → EachHas sig S (t ∷ ts)
          → IsRawTerm sig (chain f (nested sig t) (all_nested sig (terms_of ts))) → HasSort sig (chain f (nested sig t) (all_nested sig (terms_of ts))) (sort S)
      chain_has t [] k g h raw = one_has t k.0 raw (grounds (is_ground t) true g).0 h.0
      chain_has t (u ∷ us) k g h raw =
          let both = grounds (is_ground t) (are_ground (terms_of (u ∷ us))) g in
          two_have (nested sig t) (chain f (nested sig u) (all_nested sig (terms_of us))) raw (λ r. one_has t k.0 r both.0 h.0) (λ r. chain_has u us k.1 both.1 h.1 r)

      nest_has : (b : Bool) (ts : List RawTerm) → is_assoc sig f ≡ b → IsCanonical sig (apply f (terms_of ts)) → IsRawTerm sig (nest b f (all_nested sig (terms_of ts))) → IsTrue (are_ground (terms_of ts)) → EachHas sig S ts
          → HasSort sig (nest b f (all_nested sig (terms_of ts))) (sort S)
      nest_has false ts e k raw g h = closed_sort f (all_nested sig (terms_of ts)) o S is raw (all_have ts o.args k.0 (args_of sig o is raw) g h) gives
      nest_has true [] e k raw g h = closed_sort f nil o S is raw tt gives
      nest_has true (t ∷ ts) e k raw g h = chain_has t ts k.0 g h raw

      -- an operator that gives a sort on arguments of it has it on arguments that have it
      pub closed_on_all : (ts : List RawTerm) → EachHas sig S ts → Has sig S (apply f (terms_of ts))
      closed_on_all ts h fixed raw g = nest_has (is_assoc sig f) ts refl (subst (IsCanonical sig) fixed (canonical sig ok.accepted (nested sig (apply f (terms_of ts))))) raw g h

-- the home at the place of an operator
home_at : (sig : Signature) (os : List Operator) (hs : List Home) (f : ℕ) (o : Operator) (h : Home) → AreHomes sig os hs → at_number os f ≡ Some o → at_number hs f ≡ Some h → IsHome sig o h
home_at sig os hs zero o h a e r = absurd (cc)
home_at sig os [] (suc i) o h a e r = absurd (cc)
home_at sig [] (g ∷ gs) (suc i) o h a e r = absurd (cc)
home_at sig (q ∷ os) (g ∷ gs) (suc zero) o h a e r = subst (IsHome sig o) (same_Some g h r) (subst (λ x. IsHome sig x g) (same_Some q o e) a.0)
home_at sig (q ∷ os) (g ∷ gs) (suc (suc i)) o h a e r = home_at sig os gs (suc i) o h a.1 e r

-- the operator on top is there
operator_there : (sig : Signature) (f : ℕ) (ts : RawTerms) → IsRawTerm sig (nested sig (apply f ts)) → (o : Operator) × IsOperator sig f o
operator_there sig f ts raw = by_test (is_assoc sig f) refl raw
  where
    by_test : (b : Bool) → is_assoc sig f ≡ b → IsRawTerm sig (nest b f (all_nested sig ts)) → (o : Operator) × IsOperator sig f o
    by_test true h raw = let (o, is, a) = assoc_operator sig f h in (o, is)
    by_test false h (an_operator o is args) = (o, is)

-- the home at a place is of a closed sort
pub home_closed : (sig : Signature) (os : List Operator) (hs : List Home) (f : ℕ) (h : Home) → AreHomes sig os hs → at_number hs f ≡ Some h → 1 ≤ h.result → IsClosed sig h.closed
home_closed sig os hs zero h a r l = absurd (cc)
home_closed sig os [] (suc i) h a r l = absurd (cc)
home_closed sig [] (g ∷ gs) (suc i) h a r l = absurd a
home_closed sig (q ∷ os) (g ∷ gs) (suc zero) h a r l = (subst (λ x. IsHome sig q x) (same_Some g h r) a.0 l).0
home_closed sig (q ∷ os) (g ∷ gs) (suc (suc i)) h a r l = home_closed sig os gs (suc i) h a.1 r l

-- what the home of an operator tells of each canonical ground term with it on top
pub at_home : (sig : Signature) → IsPreregularModulo sig → HasItsSorts sig → (homes : List Home) → AreHomes sig sig.operators homes → (f : ℕ) (ts : RawTerms) (h : Home) (S : ℕ) → at_number homes f ≡ Some h → 1 ≤ h.result → IsApart h.closed.outside (apply f ts) → AtOrBelow sig.pairs h.result S → Has sig S (apply f ts)
at_home sig ok numbers homes a f ts h S at l apart below fixed raw ground =
    let (o, is) = operator_there sig f ts raw in
    let (closed, takes) = home_at sig sig.operators homes f o h a is at l in
    raise sig (nested sig (apply f ts)) h.result S (made_of_closed sig ok numbers h.closed closed f ts o h.result is apart takes fixed raw ground) below

-- one more home, and none
pub homes_more : (sig : Signature) (os : List Operator) (o d : Operator) (h : Home) (hs : List Home) → 1 ≤ length os → o ≡ slice_index_or os 0 d → IsHome sig o h
    → AreHomes sig (take (length os - 1) (drop 1 os)) hs → AreHomes sig os (h ∷ hs)
homes_more sig [] o d h hs l e s a = absurd (omega arith)
homes_more sig (p ∷ os) o d h hs l e s a = (subst (λ x. IsHome sig x h) e s, subst (λ q. AreHomes sig q hs) (take_all (length (p ∷ os) - 1) os (omega arith)) a)

-- one more operator: it is closed for the sort or of another kind, or it is outside now
pub closed_more : (sig : Signature) (S n : ℕ) (o : Operator) (before after : Partial) → slice_get sig.operators n ≡ Some o → ((f : ℕ) → IsNone after f → IsNone before f) → (SameKind sig o.result S → IsNone after (n + 1) → IsClosedFor sig.pairs o S)
    → ((f : ℕ) (p : Operator) → f ≤ n → IsOperator sig f p → SameKind sig p.result S → IsNone before f → IsClosedFor sig.pairs p S)
    → (f : ℕ) (p : Operator) → f ≤ n + 1 → IsOperator sig f p → SameKind sig p.result S → IsNone after f → IsClosedFor sig.pairs p S
closed_more sig S n o before after is keeps here all f p l e k h = ⊎_elim
    (λ (q : n < f).
    let last : f ≡ n + 1 = omega (arith, q, l) in
    let there : IsOperator sig (suc n) p = subst (λ g. IsOperator sig g p) (last ∙ add-one n) e in
    let one : o ≡ p = same_Some o p (sym is ∙ there) in
    subst (λ (x : Operator). IsClosedFor sig.pairs x S) one (here (subst (λ (x : Operator). SameKind sig x.result S) (sym one) k) (subst (IsNone after) last h)))
    (λ (q : f ≤ n). all f p q e k (keeps f h))
    (cases_lt n f)

pub closed_all : (sig : Signature) (S n : ℕ) (outside : Partial) → length sig.operators ≤ n
    → ((f : ℕ) (p : Operator) → f ≤ n → IsOperator sig f p → SameKind sig p.result S → IsNone outside f → IsClosedFor sig.pairs p S) → AreClosedFor sig S outside
closed_all sig S n outside l all zero p e k h = absurd (cc)
closed_all sig S n outside l all (suc f) p e k h = let w = slice_get_within sig.operators f p e in all (suc f) p (omega (arith, l, w)) e k h

-- one more sort that isn't of the name, or of another kind, or at or below the sort
pub within_more : (sig : Signature) (S : ℕ) (name : List ℕ) (n : ℕ) → (IsSortNamed sig (n + 1) name → SameKind sig (n + 1) S → AtOrBelow sig.pairs (n + 1) S)
    → ((T : ℕ) → T ≤ n → IsSortNamed sig T name → SameKind sig T S → AtOrBelow sig.pairs T S) → (T : ℕ) → T ≤ n + 1 → IsSortNamed sig T name → SameKind sig T S → AtOrBelow sig.pairs T S
within_more sig S name n here all T l e k = ⊎_elim
    (λ (q : n < T). let last : T ≡ n + 1 = omega (arith, q, l) in
    subst (λ R. AtOrBelow sig.pairs R S) (sym last) (here (subst (λ R. IsSortNamed sig R name) last e) (subst (λ R. SameKind sig R S) last k)))
    (λ (q : T ≤ n). all T q e k)
    (cases_lt n T)

pub within_all : (sig : Signature) (S : ℕ) (name : List ℕ) (n : ℕ) → length sig.sorts ≤ n → ((T : ℕ) → T ≤ n → IsSortNamed sig T name → SameKind sig T S → AtOrBelow sig.pairs T S) → AreWithin sig S name
within_all sig S name n l all T e = let w = at_within sig.sorts T name e in all T (omega (arith, w.1, l)) e

-- one more closed sort
pub all_but_last : (sig : Signature) (cs : List Closed) (c : Closed) → ((d : Closed) → Member d cs → IsClosed sig d) → IsClosed sig c → (d : Closed) → Member d (cs ++ c ∷ []) → IsClosed sig d
all_but_last sig [] c all h d (inl e) = subst (IsClosed sig) e h
all_but_last sig [] c all h d (inr m) = absurd m
all_but_last sig (b ∷ cs) c all h d (inl e) = all d (inl e)
all_but_last sig (b ∷ cs) c all h d (inr m) = all_but_last sig cs c (λ x n. all x (inr n)) h d m

-- the first of the closed sorts, whose arguments an operator takes to a sort
pub first_home : (sig : Signature) (pairs : List (ℕ × ℕ)) (o : Operator) (cs : List Closed) (d : Closed) (R : ℕ) → sig.pairs ≡ pairs → 1 ≤ length cs → ((c : Closed) → Member c cs → IsClosed sig c) → TakesTo pairs o (slice_index_or cs 0 d).sort R
    → IsClosed sig (slice_index_or cs 0 d) × TakesTo sig.pairs o (slice_index_or cs 0 d).sort R
first_home sig pairs o cs d R e l all t = (all (slice_index_or cs 0 d) (first_member cs (slice_index_or cs 0 d) d l refl), subst (λ ps. TakesTo ps o (slice_index_or cs 0 d).sort R) (sym e) t)

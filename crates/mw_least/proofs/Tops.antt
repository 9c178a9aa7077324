-- What ground terms have by their operators alone.
use Rattle.std.specs.Prelude.{◌≡◌, ◌≤◌, ◌<◌, ◌-◌, ℕ, length, slice_index_or, zero, suc, List, [], ◌∷◌, Bool, true, false, IsTrue, Some, codes, refl, ⊤}
use Rattle.std.proofs.Common.{◌∙◌, ◌+◌, ⊎_elim, add-one, slice_get, inl, inr, sym, subst, ap, arith, take, drop}
use Rattle.std.proofs.lemmas.Bool.{both_ways, cases_lt}
use Rattle.std.proofs.lemmas.List.{take_all}
use Rattle.std.proofs.lemmas.Option.{same_Some, slice_get_within}
use Rattle.mw_logic.specs.Term.{RawTerm, numeral, quoted, variable, apply, RawTerms, nil, cons, is_ground, are_ground}
use Rattle.mw_logic.specs.Signature.{Signature, Sorted, sort, kind, Operator, IsOperator, IsSortNamed, Declaration, SameKind, same, up, down, HasKind, of_numeral, of_quoted, of_operator, IsRawTerm, a_numeral, an_operator, AreRawTerms, next, Member, at_number}
use Rattle.mw_logic.specs.Axioms.{done}
use Rattle.mw_logic.specs.Sorts.{AtOrBelow, DeclaredSort, HasSort}
use Rattle.mw_logic.specs.Parts.{is_assoc, nested, all_nested, nest, chain}
use Rattle.mw_logic.specs.NormalForm.{normal_form}
use Rattle.mw_logic.specs.Preregular.{AreOfKinds, HasItsSorts}
use Rattle.mw_logic.proofs.KindLaws.{SameKind-trans, SameKind-sym}
use Rattle.mw_logic.proofs.Canonical.{IsCanonical, canonical, assoc_operator}
use Rattle.mw_logic.proofs.BelowLaws.{AtOrBelow-kind, IsBelow-trans}
use Rattle.mw_poset.specs.Order.{IsKindOf}
use Rattle.mw_poset.proofs.Reading.{kinds_same}
use Rattle.mw_sorting.specs.PreregularModulo.{HasNaturals, IsPreregularModulo}
use Rattle.mw_term.proofs.OperatorSets.{lacks_top, arguments_apart, first_apart, others_apart}
use Rattle.mw_least.specs.declared.sure.Partial.{Partial}
use Rattle.mw_least.specs.declared.sure.Sure.{Sure}
use Rattle.mw_least.specs.Sure.{AreAllApart, IsNone, IsApart, IsTop, AreTops, IsSupport, IsSupportedIn, IsSupported, AreSupported, AreTopped, AreConstantsTopped, AreResults, AreSure}
use Rattle.mw_builtin.proofs.Forms.{not_alone}
use Rattle.mw_least.proofs.Results.{raise, grounds, AllHave, args_of, applied_sort}

pub result_at : (pairs : List (ℕ × ℕ)) (tops : List ℕ) (os : List Operator) (Rs : List ℕ) (f : ℕ) (o : Operator) (R : ℕ) → AreResults pairs tops os Rs → at_number os f ≡ Some o → at_number Rs f ≡ Some R → 1 ≤ R → IsSupport pairs tops o R
result_at pairs tops os Rs zero o R a e r p = absurd (cc)
result_at pairs tops [] Rs (suc i) o R a e r p = absurd (cc)
result_at pairs tops (q ∷ os) [] (suc i) o R a e r p = absurd a
result_at pairs tops (q ∷ os) (Q ∷ Rs) (suc zero) o R a e r p =
    let same : Q ≡ R = same_Some Q R r in
    subst (IsSupport pairs tops o) same (subst (λ x. IsSupport pairs tops x Q) (same_Some q o e) (a.0 (subst (λ S. 1 ≤ S) (sym same) p)))
result_at pairs tops (q ∷ os) (Q ∷ Rs) (suc (suc i)) o R a e r p = result_at pairs tops os Rs (suc i) o R a.1 e r p

-- kinds are told by the pairs
kind_by_pairs : {sig other : Signature} → other.pairs ≡ sig.pairs → {S T : ℕ} → SameKind sig S T → SameKind other S T
kind_by_pairs e same = same
kind_by_pairs e (up {S} {T} m k) = up (subst (λ ps. Member (S, T) ps) (sym e) m) (kind_by_pairs e k)
kind_by_pairs e (down {S} {T} m k) = down (subst (λ ps. Member (T, S) ps) (sym e) m) (kind_by_pairs e k)

-- sorts of one kind have one number of it
kind_kept : (sig : Signature) (S T K : ℕ) → SameKind sig S T → IsKindOf sig.pairs S K → IsKindOf sig.pairs T K
kind_kept sig S T K s k = record {
  same = λ g e. SameKind-trans (SameKind-sym (kind_by_pairs e s)) (k.same g e);
  least = λ g e U h. k.least g e U (SameKind-trans (kind_by_pairs e s) h);
}

-- the first of a list, and the rest
pub rest_member : {X : Type 0} (xs : List X) → 1 ≤ length xs → (x : X) → Member x (take (length xs - 1) (drop 1 xs)) → Member x xs
rest_member [] h x m = absurd (omega arith)
rest_member (y ∷ ys) h x m = inr (subst (λ l. Member x l) (take_all (length (y ∷ ys) - 1) ys (omega arith)) m)

pub later_member : {X : Type 0} (xs : List X) → 1 ≤ length xs → (first x : X) → first ≡ slice_index_or xs 0 first → (first ≡ x → ⊥) → Member x xs → Member x (take (length xs - 1) (drop 1 xs))
later_member [] h first x e n m = absurd m
later_member (y ∷ ys) h first x e n m = ⊎_elim
    (λ (k : y ≡ x). absurd (n (e ∙ k)))
    (λ (k : Member x ys). subst (λ l. Member x l) (sym (take_all (length (y ∷ ys) - 1) ys (omega arith))) k)
    m

pub first_member : {X : Type 0} (xs : List X) (x d : X) → 1 ≤ length xs → x ≡ slice_index_or xs 0 d → Member x xs
first_member [] x d h e = absurd (omega arith)
first_member (y ∷ ys) x d h e = inl (sym e)

-- the declaration that takes tops to a sort
pub support_by : (pairs : List (ℕ × ℕ)) (tops : List ℕ) (o : Operator) (d : Declaration) (R : ℕ) → Member d o.declarations → d.result ≡ sort R → AreTops pairs tops d.args → IsSupport pairs tops o R
support_by pairs tops o d R m e a =
    let is : d ≡ record { args = d.args; result = sort R } = ap (λ s. record { args = d.args; result = s }) e in
    record { args = d.args; declared = subst (λ x. Member x o.declarations) is m; are_tops = a }

-- one more result
pub results_more : (pairs : List (ℕ × ℕ)) (tops : List ℕ) (os : List Operator) (o d : Operator) (R : ℕ) (Rs : List ℕ) → 1 ≤ length os → o ≡ slice_index_or os 0 d → (1 ≤ R → IsSupport pairs tops o R)
    → AreResults pairs tops (take (length os - 1) (drop 1 os)) Rs → AreResults pairs tops os (R ∷ Rs)
results_more pairs tops [] o d R Rs h e s a = absurd (omega arith)
results_more pairs tops (p ∷ os) o d R Rs h e s a =
    ((λ k. subst (λ x. IsSupport pairs tops x R) e (s k)), subst (λ l. AreResults pairs tops l Rs) (take_all (length (p ∷ os) - 1) os (omega arith)) a)

pub results_none : (pairs : List (ℕ × ℕ)) (tops : List ℕ) (os : List Operator) → length os < 1 → AreResults pairs tops os []
results_none pairs tops [] h = tt
results_none pairs tops (o ∷ os) h = absurd (omega arith)

-- one more operator: it is supported, or the set has it now
pub supported_more : (sig : Signature) (tops : List ℕ) (n : ℕ) (o : Operator) (before after : Partial) → slice_get sig.operators n ≡ Some o → ((f : ℕ) → IsNone after f → IsNone before f) → (IsNone after (n + 1) → IsSupported sig.pairs tops o)
    → ((f : ℕ) (p : Operator) → f ≤ n → IsOperator sig f p → IsNone before f → IsSupported sig.pairs tops p) → (f : ℕ) (p : Operator) → f ≤ n + 1 → IsOperator sig f p → IsNone after f → IsSupported sig.pairs tops p
supported_more sig tops n o before after is keeps here all f p l e h = ⊎_elim
    (λ (k : n < f).
    let last : f ≡ n + 1 = omega (arith, k, l) in
    let there : IsOperator sig (suc n) p = subst (λ g. IsOperator sig g p) (last ∙ add-one n) e in
    subst (IsSupported sig.pairs tops) (same_Some o p (sym is ∙ there)) (here (subst (IsNone after) last h)))
    (λ (k : f ≤ n). all f p k e (keeps f h))
    (cases_lt n f)

pub supported_all : (sig : Signature) (tops : List ℕ) (n : ℕ) (partial : Partial) → length sig.operators ≤ n → ((f : ℕ) (p : Operator) → f ≤ n → IsOperator sig f p → IsNone partial f → IsSupported sig.pairs tops p)
    → (f : ℕ) (p : Operator) → IsOperator sig f p → IsNone partial f → IsSupported sig.pairs tops p
supported_all sig tops n partial l all zero p e h = absurd (cc)
supported_all sig tops n partial l all (suc f) p e h = let w = slice_get_within sig.operators f p e in all (suc f) p (omega (arith, l, w)) e h

-- a kind has one number
pub supported_in : (sig : Signature) (tops : List ℕ) (o : Operator) (K : ℕ) → IsKindOf sig.pairs o.result K → IsSupportedIn sig.pairs tops o K → IsSupported sig.pairs tops o
supported_in sig tops o K k s L l = subst (IsSupportedIn sig.pairs tops o) (kinds_same sig.pairs sig o.result o.result K L k l refl same) s

-- a number's place in a list is one of its first ones
pub at_within : {X : Type 0} (xs : List X) (S : ℕ) (x : X) → at_number xs S ≡ Some x → (1 ≤ S) × (S ≤ length xs)
at_within xs zero x e = cc
at_within xs (suc i) x e = let w = slice_get_within xs i x e in (omega arith, omega (arith, w))

-- one more sort that isn't of the name, or has the top of its kind
pub topped_more : (sig : Signature) (tops name : List ℕ) (n : ℕ) → (IsSortNamed sig (n + 1) name → (T : ℕ) × IsTop sig.pairs tops T × AtOrBelow sig.pairs (n + 1) T)
    → ((S : ℕ) → S ≤ n → IsSortNamed sig S name → (T : ℕ) × IsTop sig.pairs tops T × AtOrBelow sig.pairs S T) → (S : ℕ) → S ≤ n + 1 → IsSortNamed sig S name → (T : ℕ) × IsTop sig.pairs tops T × AtOrBelow sig.pairs S T
topped_more sig tops name n here all S l e = ⊎_elim
    (λ (k : n < S). let last : S ≡ n + 1 = omega (arith, k, l) in
    subst (λ R. (T : ℕ) × IsTop sig.pairs tops T × AtOrBelow sig.pairs R T) (sym last) (here (subst (λ R. IsSortNamed sig R name) last e)))
    (λ (k : S ≤ n). all S k e)
    (cases_lt n S)

pub topped_all : (sig : Signature) (tops name : List ℕ) (n : ℕ) → length sig.sorts ≤ n → ((S : ℕ) → S ≤ n → IsSortNamed sig S name → (T : ℕ) × IsTop sig.pairs tops T × AtOrBelow sig.pairs S T) → AreTopped sig tops name
topped_all sig tops name n l all S e = let w = at_within sig.sorts S name e in all S (omega (arith, w.1, l)) e

-- two tops of one kind are one
one_top : (sig : Signature) (tops : List ℕ) (S T : ℕ) → IsTop sig.pairs tops S → IsTop sig.pairs tops T → SameKind sig S T → S ≡ T
one_top sig tops S T a b k =
    let kinds : a.kind ≡ b.kind = kinds_same sig.pairs sig S T a.kind b.kind a.is_kind b.is_kind refl k in
    same_Some S T (sym a.top ∙ ap (λ K. slice_get tops K) kinds ∙ b.top)

module _ (sig : Signature) (ok : IsPreregularModulo sig) (numbers : HasItsSorts sig) (tops : List ℕ) (partial : Partial) (supported : AreSupported sig tops partial) (constants : AreConstantsTopped sig tops) where
  -- a sort below Nat has the top of its kind
  of_constant : (t : RawTerm) (S T N : ℕ) (D : ℕ) → DeclaredSort sig t (sort D) → AtOrBelow sig.pairs D N → IsTop sig.pairs tops S → SameKind sig N S → IsTop sig.pairs tops T → AtOrBelow sig.pairs N T → HasSort sig t (sort S)
  of_constant t S T N D d b top k other l =
      let same : T ≡ S = one_top sig tops T S other top (SameKind-trans (SameKind-sym (AtOrBelow-kind l)) k) in
      record { form = t; equal = done; declared = sort D; is_declared = d; below = IsBelow-trans sig (sort D) (sort N) (sort S) b (subst (AtOrBelow sig.pairs N) same l) }

  numeral_top : (n S K : ℕ) → IsRawTerm sig (numeral n) → HasKind sig (numeral n) K → SameKind sig S K → IsTop sig.pairs tops S → HasSort sig (numeral n) (sort S)
  numeral_top n S K (a_numeral b m) (of_numeral N named there k) s top =
      let nats = ok.naturals b in
      let (T, is, l) = constants.numerals b N named in
      let one : nats.Nat ≡ N = ok.accepted.sorts_differ nats.Nat N (codes "Nat") nats.nat_named named in
      by_number n nats (subst (AtOrBelow sig.pairs nats.Zero) one nats.zero_below) (subst (AtOrBelow sig.pairs nats.NzNat) one nats.nonzero_below) (λ D d m. of_constant (numeral n) S T N D d m top (SameKind-trans k (SameKind-sym s)) is l)
    where
      by_number : (n : ℕ) (nats : HasNaturals sig) → AtOrBelow sig.pairs nats.Zero N → AtOrBelow sig.pairs nats.NzNat N → ((D : ℕ) → DeclaredSort sig (numeral n) (sort D) → AtOrBelow sig.pairs D N → HasSort sig (numeral n) (sort S)) → HasSort sig (numeral n) (sort S)
      by_number zero nats z p has = has nats.Zero (DeclaredSort.of_zero nats.zero_named) z
      by_number (suc m) nats z p has = has nats.NzNat (DeclaredSort.of_nonzero nats.nonzero_named) p

  quoted_top : (q : List ℕ) (S K : ℕ) → HasKind sig (quoted q) K → SameKind sig S K → IsTop sig.pairs tops S → HasSort sig (quoted q) (sort S)
  quoted_top q S K (of_quoted N named b k) s top =
      let (T, is, l) = constants.quotes b N named in
      of_constant (quoted q) S T N N (DeclaredSort.of_quoted named) AtOrBelow.same top (SameKind-trans k (SameKind-sym s)) is l

  -- the term has the tops of its kind, and so has each of a list
  abbrev HasTops : RawTerm → Type 0
  HasTops t = (S K : ℕ) → IsRawTerm sig t → HasKind sig t K → SameKind sig S K → IsTop sig.pairs tops S → HasSort sig t (sort S)

  abbrev AllTops : RawTerms → Type 0
  AllTops nil = ⊤
  AllTops (cons t ts) = HasTops t × AllTops ts

  all_have : (ts : RawTerms) (Ks : List ℕ) (Ss : List Sorted) → AllTops ts → AreRawTerms sig ts Ks → AreOfKinds sig Ss Ks → AreTops sig.pairs tops Ss → AllHave sig ts Ss
  all_have nil [] [] h raw k a = tt
  all_have nil [] (S ∷ Ss) h raw k a = absurd k
  all_have ts (K ∷ Ks) [] h raw k a = absurd k
  all_have (cons t ts) [] Ss h raw k a = elim raw [ ]
  all_have nil (K ∷ Ks) (S ∷ Ss) h raw k a = elim raw [ ]
  all_have (cons t ts) (K ∷ Ks) (kind L ∷ Ss) h raw k a = absurd a.0
  all_have (cons t ts) (K ∷ Ks) (sort S ∷ Ss) h (next r i rest) k a = (h.0 S K r i k.0 a.0, all_have ts Ks Ss h.1 rest k.1 a.1)

  -- an operator on arguments with tops has its result on tops, and if it isn't partial a top
  support_sort : (f : ℕ) (ts : RawTerms) (o : Operator) (R : ℕ) → IsOperator sig f o → IsRawTerm sig (apply f ts) → AllTops ts → IsSupport sig.pairs tops o R → HasSort sig (apply f ts) (sort R)
  support_sort f ts o R is raw h s =
      let d = numbers.declarations f o is (record { args = s.args; result = sort R }) s.declared in
      let args = args_of sig o is raw in
      applied_sort sig ok f ts o s.args R is args (all_have ts o.args s.args h args d.args s.are_tops) s.declared

  operator_tops : (f : ℕ) (ts : RawTerms) → IsNone partial f → AllTops ts → HasTops (apply f ts)
  operator_tops f ts lacks h S K raw (of_operator o is j) k top =
      let r = supported f o is lacks top.kind (kind_kept sig S o.result top.kind (SameKind-trans k (SameKind-sym j)) top.is_kind) S top.top top.positive in
      raise sig (apply f ts) r.0 S (support_sort f ts o r.0 is raw h r.1) r.2

  by_assoc : (b : Bool) (f : ℕ) (ts : RawTerms) → IsNone partial f → AllTops ts → HasTops (nest true f ts) → HasTops (nest b f ts)
  by_assoc true f ts lacks h k = k
  by_assoc false f ts lacks h k = operator_tops f ts lacks h

  mutual
    each_tops : (t : RawTerm) → IsTrue (is_ground t) → IsApart partial t → HasTops (nested sig t)
    each_tops (numeral n) g p = λ S K raw h k top. numeral_top n S K raw h k top
    each_tops (quoted q) g p = λ S K raw h k top. quoted_top q S K h k top
    each_tops (variable x) g p = absurd (both_ways _ refl g)
    each_tops (apply f ts) g p =
        let lacks : IsNone partial f = (lacks_top f ts partial.declared p.0, lacks_top f ts partial.built p.1) in
        let rest : AreAllApart partial ts = (arguments_apart f ts partial.declared p.0, arguments_apart f ts partial.built p.1) in
        by_assoc (is_assoc sig f) f (all_nested sig ts) lacks (all_tops ts g rest) (nest_tops f ts lacks g rest)

    all_tops : (ts : RawTerms) → IsTrue (are_ground ts) → AreAllApart partial ts → AllTops (all_nested sig ts)
    all_tops nil g p = tt
    all_tops (cons t ts) g p =
        let both = grounds (is_ground t) (are_ground ts) g in
        (each_tops t both.0 (first_apart t ts partial.declared p.0, first_apart t ts partial.built p.1), all_tops ts both.1 (others_apart t ts partial.declared p.0, others_apart t ts partial.built p.1))

    nest_tops : (f : ℕ) (ts : RawTerms) → IsNone partial f → IsTrue (are_ground ts) → AreAllApart partial ts → HasTops (nest true f (all_nested sig ts))
    nest_tops f nil lacks g p = operator_tops f nil lacks tt
    nest_tops f (cons t nil) lacks g p = each_tops t (grounds (is_ground t) true g).0 (first_apart t nil partial.declared p.0, first_apart t nil partial.built p.1)
    nest_tops f (cons t (cons u us)) lacks g p =
        let both = grounds (is_ground t) (are_ground (cons u us)) g in
        operator_tops f (cons (nested sig t) (cons (chain f (nested sig u) (all_nested sig us)) nil)) lacks (
          each_tops t both.0 (first_apart t (cons u us) partial.declared p.0, first_apart t (cons u us) partial.built p.1),
          (nest_tops f (cons u us) lacks both.1 (others_apart t (cons u us) partial.declared p.0, others_apart t (cons u us) partial.built p.1), tt),
        )

  -- an operator's result on tops is a sort of each canonical ground term with the operator on top
  has_support : (b : Bool) (f : ℕ) (ts : RawTerms) (o : Operator) (R : ℕ) → IsOperator sig f o → is_assoc sig f ≡ b → IsCanonical sig (apply f ts) → IsRawTerm sig (nest b f (all_nested sig ts)) → IsTrue (are_ground ts) → IsNone partial f → AreAllApart partial ts
      → IsSupport sig.pairs tops o R → HasSort sig (nest b f (all_nested sig ts)) (sort R)
  has_support false f ts o R is h k raw g lacks p s = support_sort f (all_nested sig ts) o R is raw (all_tops ts g p) s
  has_support true f nil o R is h k raw g lacks p s = support_sort f nil o R is raw tt s
  has_support true f (cons t nil) o R is h k raw g lacks p s = absurd (not_alone sig f t h k)
  has_support true f (cons t (cons u us)) o R is h k raw g lacks p s =
      let both = grounds (is_ground t) (are_ground (cons u us)) g in
      support_sort f (cons (nested sig t) (cons (chain f (nested sig u) (all_nested sig us)) nil)) o R is raw (
        each_tops t both.0 (first_apart t (cons u us) partial.declared p.0, first_apart t (cons u us) partial.built p.1),
        (nest_tops f (cons u us) lacks both.1 (others_apart t (cons u us) partial.declared p.0, others_apart t (cons u us) partial.built p.1), tt),
      ) s

  -- the operator on top is there
  top_operator : (b : Bool) (f : ℕ) (ts : RawTerms) → is_assoc sig f ≡ b → IsRawTerm sig (nest b f (all_nested sig ts)) → (o : Operator) × IsOperator sig f o
  top_operator true f ts h raw = let (o, is, a) = assoc_operator sig f h in (o, is)
  top_operator false f ts h (an_operator o is args) = (o, is)

pub positive : (R : ℕ) → (R ≡ 0 → ⊥) → 1 ≤ R
positive zero h = absurd (h refl)
positive (suc n) h = omega arith

-- the sort at an operator's place is one of each canonical ground term with the operator on top in which no partial one stands, and so are those above it
pub sure_there : (sig : Signature) → IsPreregularModulo sig → HasItsSorts sig → (sure : Sure) → AreSure sig sure → (t : RawTerm) (f : ℕ) (ts : RawTerms) → t ≡ apply f ts → IsApart sure.partial t
    → (R S : ℕ) → at_number sure.results f ≡ Some R → (R ≡ 0 → ⊥) → AtOrBelow sig.pairs R S → normal_form sig (nested sig t) ≡ t → IsRawTerm sig (nested sig t) → IsTrue (is_ground t) → HasSort sig (nested sig t) (sort S)
sure_there sig ok numbers sure a t f ts is apart R S at p below fixed raw ground =
    let none = subst (λ u. IsApart sure.partial u) is apart in
    let k : IsCanonical sig (apply f ts) = subst (IsCanonical sig) (fixed ∙ is) (canonical sig ok.accepted (nested sig t)) in
    let (o, there) = top_operator sig ok numbers a.tops sure.partial a.supported (a.constants f R at) (is_assoc sig f) f ts refl (subst (λ u. IsRawTerm sig (nested sig u)) is raw) in
    let h = has_support sig ok numbers a.tops sure.partial a.supported (a.constants f R at) (is_assoc sig f) f ts o R there refl k (subst (λ u. IsRawTerm sig (nested sig u)) is raw) (subst (λ u. IsTrue (is_ground u)) is ground)
    (lacks_top f ts sure.partial.declared none.0, lacks_top f ts sure.partial.built none.1) (arguments_apart f ts sure.partial.declared none.0, arguments_apart f ts sure.partial.built none.1) (a.results f R o there at (positive R p)) in
    subst (λ u. HasSort sig (nested sig u) (sort S)) (sym is) (raise sig (nested sig (apply f ts)) R S h below)

-- results on tops, where constants have these
pub results_sure : (sig : Signature) (tops : List ℕ) (partial : Partial) (results : List ℕ) → AreSupported sig tops partial → AreConstantsTopped sig tops → AreResults sig.pairs tops sig.operators results → AreSure sig (record { partial = partial; results = results })
results_sure sig tops partial results supported constants r = record {
  tops = tops;
  supported = supported;
  constants = λ f R at. constants;
  results = λ f R o is at l. result_at sig.pairs tops sig.operators results f o R r is at l;
}

-- no results tell nothing
pub no_results : (sig : Signature) (tops : List ℕ) (partial : Partial) (results : List ℕ) → AreSupported sig tops partial → AreResults sig.pairs tops [] results → AreSure sig (record { partial = partial; results = results })
no_results sig tops partial [] supported r = record { tops = tops; supported = supported; constants = λ f R at. absurd (nothing_at f R at); results = λ f R o is at l. absurd (nothing_at f R at) }
  where
    nothing_at : (f R : ℕ) → at_number [] f ≡ Some R → ⊥
    nothing_at zero R e = cc
    nothing_at (suc f) R e = cc
no_results sig tops partial (R ∷ Rs) supported r = absurd r

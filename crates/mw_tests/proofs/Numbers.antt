-- The signature with numbers is accepted, well sorted, and has its sorts and those of numbers; and what stands on its terms is one of them.
use Rattle.std.specs.Prelude.{◌≡◌, ◌<◌, ◌≤◌, ◌^◌, ℕ, zero, suc, List, [], ◌∷◌, Bool, true, Option, Some, refl, length}
use Rattle.std.specs.List.{AllByRecursion, slice_get}
use Rattle.std.proofs.Common.{inl, inr, arith, ap, subst, sym}
use Rattle.std.proofs.lemmas.Bool.{false≢true}
use Rattle.mw_logic.specs.Term.{RawTerm, Variable, numeral, variable, apply, RawTerms, nil, cons}
use Rattle.mw_logic.specs.Signature.{Declaration, Operator, Identity, IsOperator, at_number, Member, sort, SameKind, same, up, down, HasKind, of_numeral, of_variable, of_operator, IsRawTerm, a_numeral, a_variable, an_operator, AreRawTerms, next, end}
use Rattle.mw_logic.specs.Sorts.{AtOrBelow, above}
use Rattle.mw_logic.specs.Kinds.{is_successor}
use Rattle.mw_logic.specs.Parts.{nested, all_nested, nest, chain, number_of_terms}
use Rattle.mw_logic.specs.Accepted.{IsAccepted, IsWellSorted, number_of_sort}
use Rattle.mw_logic.specs.Preregular.{IsSortOf, IsDeclarationOf, HasItsSorts}
use Rattle.mw_logic.proofs.AcceptedTest.{is_accepted-sound, is_well_sorted-sound}
use Rattle.mw_logic.proofs.KindLaws.{SameKind-sym}
use Rattle.mw_logic.proofs.Successor.{is_successor-true}
use Rattle.mw_sorting.specs.PreregularModulo.{HasNaturals}
use Rattle.mw_term.specs.declared.raw.Raw.{Raw}
use Rattle.mw_term.specs.Raws.{raw_terms}
use Rattle.mw_tests.specs.Numbers.{numbers, joining_of, closed_on, s_of_numbers, c_of_numbers, IsTerm, AreTerms, MayTake}

pub accepted : IsAccepted numbers
accepted = is_accepted-sound numbers refl

pub well_sorted : IsWellSorted numbers
well_sorted = is_well_sorted-sound numbers refl

-- each sort is of kind 1
number_kind : SameKind numbers 3 1
number_kind = down (inl refl) same

one_kind : (S : ℕ) → IsSortOf numbers S → SameKind numbers S 1
one_kind zero h = absurd (omega (arith, h.0))
one_kind (suc zero) h = same
one_kind (suc (suc zero)) h = up (inr (inl refl)) number_kind
one_kind (suc (suc (suc zero))) h = number_kind
one_kind (suc (suc (suc (suc zero)))) h = down (inr (inr (inl refl))) number_kind
one_kind (suc (suc (suc (suc (suc n))))) h = absurd (omega (arith, h.1))

-- what holds of each operator of the list holds of each by its number
at_each : (P : Operator → Type 0) (os : List Operator) → AllByRecursion P os → (f : ℕ) (o : Operator) → at_number os f ≡ Some o → P o
at_each P os all zero o e = cc
at_each P os all (suc i) o e = within os all i e
  where
    within : (os : List Operator) → AllByRecursion P os → (i : ℕ) → slice_get os i ≡ Some o → P o
    within [] all i e = cc
    within (p ∷ ps) all zero e = let h : p ≡ o = cc in subst P h all.0
    within (p ∷ ps) all (suc i) e = within ps all.1 i e

-- and of each member
of_member : {X : Type 0} (P : X → Type 0) (xs : List X) → AllByRecursion P xs → (x : X) → Member x xs → P x
of_member P [] all x m = absurd m
of_member P (y ∷ ys) all x (inl e) = subst P e all.0
of_member P (y ∷ ys) all x (inr m) = of_member P ys all.1 x m

-- an operator's kinds and declarations are there
record HasItsOwn (o : Operator) : Type 0 where
  pub args : AllByRecursion (IsSortOf numbers) o.args
  pub result : IsSortOf numbers o.result
  pub declarations : AllByRecursion (IsDeclarationOf numbers o) o.declarations

one : IsSortOf numbers 1
one = (omega arith, omega arith)

closed_declares : (name : List ℕ) (ds : List Declaration) (c : Bool) (e : Option Identity) (S : ℕ) → IsSortOf numbers S → IsDeclarationOf numbers (joining_of name ds c e) (closed_on S)
closed_declares name ds c e S h = record {
  args = (one_kind S h, (one_kind S h, tt));
  result = SameKind-sym (one_kind S h);
  args_there = of_member (λ T. IsSortOf numbers (number_of_sort T)) (sort S ∷ sort S ∷ []) (h, (h, tt));
  result_there = h;
}

two : (name : List ℕ) (ds : List Declaration) (c : Bool) (e : Option Identity) → AllByRecursion (IsDeclarationOf numbers (joining_of name ds c e)) ds → HasItsOwn (joining_of name ds c e)
two name ds c e all = record { args = (one, (one, tt)); result = one; declarations = all }

at : (S : ℕ) → 1 ≤ S → S ≤ 4 → IsSortOf numbers S
at S l m = (l, m)

next_is : HasItsOwn s_of_numbers
next_is = record {
  args = (one, tt);
  result = one;
  declarations = (
    record {
      args = (number_kind, tt);
      result = SameKind-sym (one_kind 2 (at 2 (omega arith) (omega arith)));
      args_there = of_member (λ T. IsSortOf numbers (number_of_sort T)) (sort 3 ∷ []) (at 3 (omega arith) (omega arith), tt);
      result_there = at 2 (omega arith) (omega arith);
    },
    tt,
  );
}

constant_is : HasItsOwn c_of_numbers
constant_is = record {
  args = tt;
  result = one;
  declarations = (record { args = tt; result = SameKind-sym number_kind; args_there = λ T m. absurd m; result_there = at 3 (omega arith) (omega arith) }, tt);
}

declares : (name : List ℕ) (ds : List Declaration) (c : Bool) (e : Option Identity) (S : ℕ) → 1 ≤ S → S ≤ 4 → IsDeclarationOf numbers (joining_of name ds c e) (closed_on S)
declares name ds c e S l m = closed_declares name ds c e S (at S l m)

each_has : AllByRecursion HasItsOwn numbers.operators
each_has = (
  next_is,
  (
    two _ _ _ _ (declares _ _ _ _ 4 (omega arith) (omega arith), tt),
    (
      two _ _ _ _ (declares _ _ _ _ 2 (omega arith) (omega arith), (declares _ _ _ _ 3 (omega arith) (omega arith), tt)),
      (constant_is, (two _ _ _ _ (declares _ _ _ _ 3 (omega arith) (omega arith), tt), tt)),
    ),
  ),
)

pairs_there : AllByRecursion (λ (p : ℕ × ℕ). IsSortOf numbers p.0 × IsSortOf numbers p.1) numbers.pairs
pairs_there = (
  (one, at 3 (omega arith) (omega arith)),
  ((at 2 (omega arith) (omega arith), at 3 (omega arith) (omega arith)), ((at 3 (omega arith) (omega arith), at 4 (omega arith) (omega arith)), tt)),
)

pub sorts_held : HasItsSorts numbers
sorts_held = record {
  pairs = λ S T m. of_member (λ (p : ℕ × ℕ). IsSortOf numbers p.0 × IsSortOf numbers p.1) numbers.pairs pairs_there (S, T) m;
  args = λ f o e. of_member (IsSortOf numbers) o.args (at_each HasItsOwn numbers.operators each_has f o e).args;
  results = λ f o e. (at_each HasItsOwn numbers.operators each_has f o e).result;
  declarations = λ f o e. of_member (IsDeclarationOf numbers o) o.declarations (at_each HasItsOwn numbers.operators each_has f o e).declarations;
}

-- `s_` is the first operator alone
next_one : (f : ℕ) → is_successor numbers f ≡ true → f ≡ 1
unfolding is_successor
next_one zero h = absurd (false≢true h)
next_one (suc zero) h = refl
next_one (suc (suc zero)) h = absurd (false≢true h)
next_one (suc (suc (suc zero))) h = absurd (false≢true h)
next_one (suc (suc (suc (suc zero)))) h = absurd (false≢true h)
next_one (suc (suc (suc (suc (suc zero))))) h = absurd (false≢true h)
next_one (suc (suc (suc (suc (suc (suc n)))))) h = absurd (false≢true h)

pub naturals : HasNaturals numbers
naturals = record {
  Zero = 1;
  NzNat = 2;
  Nat = 3;
  zero_named = refl;
  nonzero_named = refl;
  nat_named = refl;
  zero_below = above (inl refl) AtOrBelow.same;
  nonzero_below = above (inr (inl refl)) AtOrBelow.same;
  successor = 1;
  is = record { operator = _; is_there = refl; nat = refl; spelled = refl; Nat = 3; named = refl; of_kind = number_kind; argument = 1; takes_one = refl; of_argument = number_kind };
  declares = inl (inl refl);
  only = λ g is. next_one g (is_successor-true numbers g is);
}

-- numerals and variables are terms
pub numeral_term : (n : ℕ) → n < 2 ^ 128 → IsTerm (numeral n)
numeral_term n l = record { raw = a_numeral refl l; of_kind = of_numeral 3 refl refl number_kind }

pub variable_term : (x : Variable) → IsSortOf numbers x.sort → IsTerm (variable x)
variable_term x h = record { raw = a_variable; of_kind = of_variable (one_kind x.sort h) }

-- a list of terms under an associative operator
chain_raw : (f : ℕ) (o : Operator) → IsOperator numbers f o → o.args ≡ 1 ∷ 1 ∷ [] → o.result ≡ 1 → (t : RawTerm) → IsTerm t → (us : RawTerms) → AreTerms us
    → IsRawTerm numbers (chain f (nested numbers t) (all_nested numbers us)) × HasKind numbers (chain f (nested numbers t) (all_nested numbers us)) 1
chain_raw f o e a r t h nil hs = (h.raw, h.of_kind)
chain_raw f o e a r t h (cons u us) hs =
    let rest : _ = chain_raw f o e a r u hs.0 us hs.1 in (
      an_operator o e (subst (λ Ks. AreRawTerms numbers (cons (nested numbers t) (cons (chain f (nested numbers u) (all_nested numbers us)) nil)) Ks) (sym a) (next h.raw h.of_kind (next rest.0 rest.1 end))),
      of_operator o e (subst (λ K. SameKind numbers K 1) (sym r) same),
    )

chain_term : (f : ℕ) (o : Operator) → IsOperator numbers f o → o.args ≡ 1 ∷ 1 ∷ [] → o.result ≡ 1 → ((ts : RawTerms) → nested numbers (apply f ts) ≡ nest true f (all_nested numbers ts)) → (ts : RawTerms) → 0 < number_of_terms ts → AreTerms ts → IsTerm (apply f ts)
chain_term f o e a r n nil l hs = absurd (omega (arith, l))
chain_term f o e a r n (cons t us) l hs =
    let all : _ = chain_raw f o e a r t hs.0 us hs.1 in
    record { raw = subst (IsRawTerm numbers) (sym (n (cons t us))) all.0; of_kind = subst (λ u. HasKind numbers u 1) (sym (n (cons t us))) all.1 }

next_term : (ts : RawTerms) → number_of_terms ts ≡ 1 → AreTerms ts → IsTerm (apply 1 ts)
next_term nil l hs = absurd (omega (arith, l))
next_term (cons t nil) l hs = record { raw = an_operator _ refl (next hs.0.raw hs.0.of_kind end); of_kind = of_operator _ refl same }
next_term (cons t (cons u us)) l hs = absurd (omega (arith, l))

constant_term : (ts : RawTerms) → number_of_terms ts ≡ 0 → IsTerm (apply 4 ts)
constant_term nil l = record { raw = an_operator _ refl end; of_kind = of_operator _ refl same }
constant_term (cons t ts) l = absurd (omega (arith, l))

-- an operator on as many terms as it may take is a term
pub applied_term : (f : ℕ) (ts : RawTerms) → MayTake f (number_of_terms ts) → AreTerms ts → IsTerm (apply f ts)
applied_term f ts (inl h) hs = subst (λ g. IsTerm (apply g ts)) (sym h.0) (next_term ts h.1 hs)
applied_term f ts (inr (inl h)) hs = subst (λ g. IsTerm (apply g ts)) (sym h.0) (constant_term ts h.1)
applied_term f ts (inr (inr (inl e, l))) hs = subst (λ g. IsTerm (apply g ts)) (sym e) (chain_term 2 _ refl refl refl (λ us. refl) ts l hs)
applied_term f ts (inr (inr (inr (inl e), l))) hs = subst (λ g. IsTerm (apply g ts)) (sym e) (chain_term 3 _ refl refl refl (λ us. refl) ts l hs)
applied_term f ts (inr (inr (inr (inr e), l))) hs = subst (λ g. IsTerm (apply g ts)) (sym e) (chain_term 5 _ refl refl refl (λ us. refl) ts l hs)

number_of-raw : (ts : List Raw) → number_of_terms (raw_terms ts) ≡ length ts
number_of-raw [] = refl
number_of-raw (t ∷ ts) = ap suc (number_of-raw ts)

pub applied_list : (f : ℕ) (ts : List Raw) (args : RawTerms) → raw_terms ts ≡ args → MayTake f (length ts) → AreTerms (raw_terms ts) → IsTerm (apply f args)
applied_list f ts args e m hs = subst (λ us. IsTerm (apply f us)) e (applied_term f (raw_terms ts) (subst (MayTake f) (sym (number_of-raw ts)) m) hs)

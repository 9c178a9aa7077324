-- A pattern whose arguments become one element each has a match only with a term of as many elements.
use Rattle.std.specs.Prelude.{◌≡◌, ℕ, suc, List, [], ◌∷◌, length, Bool, true, false, cond, nat_eq, IsTrue, refl}
use Rattle.std.proofs.Common.{◌∙◌, inl, ap, sym, subst, arith}
use Rattle.mw_logic.specs.Term.{RawTerm, apply, RawTerms, nil, cons, join}
use Rattle.mw_logic.specs.Terms.{args_of, terms_of}
use Rattle.mw_logic.specs.Signature.{Signature, Member}
use Rattle.mw_logic.specs.Accepted.{IsAccepted}
use Rattle.mw_logic.specs.Parts.{is_assoc, number_of_terms}
use Rattle.mw_logic.specs.TermOrder.{stands_after, insert_term, sorted_terms}
use Rattle.mw_logic.specs.NormalForm.{is_comm, identity_of, elements, flattened, arranged}
use Rattle.mw_logic.proofs.Canonical.{IsCanonical}
use Rattle.mw_position.specs.Positions.{IsNumbered, AreWithin}
use Rattle.mw_position.proofs.Counting.{all_within_counted}
use Rattle.mw_arguments.specs.Arguments.{Spells, HasArity}
use Rattle.mw_arguments.proofs.Arguments.{spelled}
use Rattle.mw_matching.specs.Matches.{Theory, evaluated, evaluated_all, Fits, IsMatch, HasArities}
use Rattle.mw_matching.specs.Patterns.{is_rigid, leading, theory}
use Rattle.mw_matching.specs.Found.{Values, is_single, fits, found}
use Rattle.mw_matching.proofs.Matches.{all_evaluated_canonical, number_evaluated, fits_longer}
use Rattle.mw_matching.proofs.Patterns.{rigid_element}
use Rattle.mw_matching.proofs.FoundSingle.{fits_single}
use Rattle.mw_matching.proofs.FoundMatches.{found_once}
use Rattle.mw_solving.proofs.Members.{member_from}
use Rattle.mw_search.specs.Goals.{top_of}
use Rattle.mw_search.proofs.BagLists.{number_terms}
use Rattle.mw_match.specs.Parts.{HasOtherNumber}

-- so many in order, too
number_inserted : (t : RawTerm) (us : RawTerms) → number_of_terms (insert_term t us) ≡ suc (number_of_terms us)
number_inserted t nil = refl
number_inserted t (cons u us) = by_test (stands_after t u) (number_inserted t us)
  where
    by_test : (b : Bool) → number_of_terms (insert_term t us) ≡ suc (number_of_terms us) → number_of_terms (cond b (cons u (insert_term t us)) (cons t (cons u us))) ≡ suc (suc (number_of_terms us))
    by_test true h = ap suc h
    by_test false h = refl

number_sorted : (ts : RawTerms) → number_of_terms (sorted_terms ts) ≡ number_of_terms ts
number_sorted nil = refl
number_sorted (cons t ts) = number_inserted t (sorted_terms ts) ∙ ap suc (number_sorted ts)

number_arranged : (c : Bool) (ts : RawTerms) → number_of_terms (arranged c ts) ≡ number_of_terms ts
number_arranged false ts = refl
number_arranged true ts = number_sorted ts

front_all : (b : Bool) (n m : ℕ) → cond b (suc n) 0 ≡ suc m → b ≡ true
front_all true n m h = refl
front_all false n m h = absurd (omega (arith, h))

module _ (sig : Signature) (ok : IsAccepted sig) (single : List (List ℕ)) (f : ℕ) (assoc : is_assoc sig f ≡ true) where
  abbrev T : Theory
  T = theory sig (fits sig single) (is_single single)

  abbrev front : RawTerms → ℕ
  front qs = leading sig (is_single single) f qs

  -- each of these gives one element
  number_given : (qs : RawTerms) (us : Values) → front qs ≡ number_of_terms qs → Fits sig T 0 us → AreWithin (length us) qs → number_of_terms (flattened (identity_of sig f) f (evaluated_all sig us qs)) ≡ number_of_terms qs
  number_given nil us a g w = refl
  number_given (cons q qs) us a g w =
      let r : is_rigid sig (is_single single) f q ≡ true = front_all (is_rigid sig (is_single single) f q) (front qs) (number_of_terms qs) a in
      let n : front (cons q qs) ≡ suc (front qs) = rw r refl in
      let one : elements (identity_of sig f) f (evaluated sig us q) ≡ cons (evaluated sig us q) nil = rigid_element sig ok (fits sig single) (is_single single) (fits_single sig single) f q us r g w.0 in
      ap (λ zs. number_of_terms (join zs (flattened (identity_of sig f) f (evaluated_all sig us qs)))) one ∙ ap suc (number_given qs us (omega (arith, a, n)) g w.1)

  number_matched : (qs : RawTerms) (t : RawTerm) (vs us : Values) → HasArity sig f (number_of_terms qs) → Fits sig T 0 vs → IsCanonical sig t → front qs ≡ number_of_terms qs → IsMatch sig T (apply f qs) t vs us
      → number_of_terms (elements (identity_of sig f) f t) ≡ number_of_terms qs
  number_matched qs t vs us a g k r m =
      let fit : Fits sig T 0 us = fits_longer sig ok T vs us g m.begins m.fits in
      let within : AreWithin (length us) qs = all_within_counted (length vs) (length us) qs (let s = m.size in omega (arith, s)) in
      let s : Spells sig f (number_of_terms qs) (elements (identity_of sig f) f t) (evaluated_all sig us qs) =
      spelled sig ok f assoc (number_of_terms qs) (a.some assoc) t k (evaluated_all sig us qs)
      (record { canonical = all_evaluated_canonical sig ok T us qs fit within; size = number_evaluated sig ok T us qs; gives = m.gives }) in
      ap number_of_terms (sym s.whole) ∙ number_arranged (is_comm sig f) (flattened (identity_of sig f) f (evaluated_all sig us qs)) ∙ number_given qs us r fit within

none_of : {X : Type 0} (P : X → Type 0) (xs : List X) → ((x : X) → Member x xs → P x) → ((x : X) → P x → ⊥) → xs ≡ []
none_of P [] a h = refl
none_of P (x ∷ xs) a h = absurd (h x (a x (inl refl)))

pub other_number_none : (sig : Signature) → IsAccepted sig → (single : List (List ℕ)) (p t : RawTerm) (vs : Values) → HasOtherNumber sig single p t → HasArities sig p → IsNumbered (length vs) p
    → Fits sig (theory sig (fits sig single) (is_single single)) 0 vs → IsCanonical sig t → found sig single p t vs ≡ []
other_number_none sig ok single p t vs h a n g k =
    let f : ℕ = top_of p in
    let qs : RawTerms = args_of p in
    let T : Theory = theory sig (fits sig single) (is_single single) in
    let all = found_once sig ok single p t vs a n g k in
    let arity : HasArities sig (apply f qs) = subst (HasArities sig) h.is a in
    none_of (IsMatch sig T p t vs) (found sig single p t vs) (λ us m. (all.all us).0 (member_from us (found sig single p t vs) m))
    (λ us m. h.differs (number_matched sig ok single f h.assoc qs t vs us arity.0 g k h.rigid (subst (λ p. IsMatch sig T p t vs us) h.is m)))

-- as it is told by numbers
same_numbers : (m n : ℕ) → IsTrue (nat_eq m n) → m ≡ n
same_numbers m n h = grind arith

pub other_number_there : (sig s : Signature) (single : List (List ℕ)) (p t : RawTerm) (f : ℕ) (ps ts : List RawTerm) (n : ℕ) → s ≡ sig → p ≡ apply f (terms_of ps) → is_assoc s f ≡ true → terms_of ts ≡ elements (identity_of s f) f t
    → (length ts ≡ length ps → ⊥) → n ≡ leading s (is_single single) f (terms_of ps) → IsTrue (nat_eq n (length ps)) → HasOtherNumber sig single p t
other_number_there sig s single p t f ps ts n same is assoc elements_are differs front all =
    let here : HasOtherNumber s single (apply f (terms_of ps)) t = record {
      is = refl;
      assoc = assoc;
      rigid = sym front ∙ same_numbers n (length ps) all ∙ sym (number_terms ps);
      differs = λ e. differs (sym (number_terms ts) ∙ ap number_of_terms elements_are ∙ e ∙ number_terms ps);
    } in
    subst (λ s. HasOtherNumber s single p t) same (subst (λ p. HasOtherNumber s single p t) (sym is) here)

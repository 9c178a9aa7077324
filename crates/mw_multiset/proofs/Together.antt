-- Multisets of elements, and what an associative and commutative operator makes of them.
use Rattle.std.specs.Prelude.{◌≡◌, ℕ, List, [], ◌∷◌, ◌++◌, All, true, Option, IsPermutation, refl}
use Rattle.std.proofs.Common.{sym, ap, ◌∙◌}
use Rattle.std.proofs.lemmas.List.Elements.{recursion_from_All, All-from_recursion, All-append}
use Rattle.std.proofs.lemmas.List.Sorted.{All-permutation}
use Rattle.mw_logic.specs.Term.{RawTerm, RawTerms, nil, cons, join}
use Rattle.mw_logic.specs.Terms.{terms_of, list_of}
use Rattle.mw_logic.specs.Signature.{Signature, Identity}
use Rattle.mw_logic.specs.Accepted.{IsAccepted}
use Rattle.mw_logic.specs.Parts.{is_assoc}
use Rattle.mw_logic.specs.TermOrder.{sorted_terms}
use Rattle.mw_logic.specs.NormalForm.{is_comm, identity_of, elements, flattened, rebuilt, applied_in}
use Rattle.mw_logic.proofs.Canonical.{Each, IsElement, IsCanonical, flattened-elements}
use Rattle.mw_logic.proofs.CanonicalTerms.{applied-elements}
use Rattle.mw_logic.proofs.Replacing.{flattened-join}
use Rattle.mw_logic.proofs.SortLaws.{sorted_terms-right}
use Rattle.mw_logic.proofs.SortedLists.{sorted_terms-permutation}
use Rattle.mw_arguments.proofs.Middles.{in_front}
use Rattle.mw_deduction.specs.Standing.{filled}
use Rattle.mw_deduction.specs.Replay.{opened}
use Rattle.mw_multiset.specs.Together.{parts, together, IsMember, AreMembers}

pub terms-append : (xs ys : List RawTerm) → terms_of (xs ++ ys) ≡ join (terms_of xs) (terms_of ys)
terms-append [] ys = refl
terms-append (x ∷ xs) ys = ap (cons x) (terms-append xs ys)

pub terms_list : (ts : RawTerms) → terms_of (list_of ts) ≡ ts
terms_list nil = refl
terms_list (cons t ts) = ap (cons t) (terms_list ts)

pub list_terms : (xs : List RawTerm) → list_of (terms_of xs) ≡ xs
list_terms [] = refl
list_terms (x ∷ xs) = ap (λ ys. x ∷ ys) (list_terms xs)

-- what holds of each of a list holds of each of the terms
pub each_of : (P : RawTerm → Type 0) (xs : List RawTerm) → All P xs → Each P (terms_of xs)
each_of P xs h = by_list xs (recursion_from_All P xs h)
  where
    by_list : (ys : List RawTerm) → Rattle.std.specs.List.AllByRecursion P ys → Each P (terms_of ys)
    by_list [] k = tt
    by_list (y ∷ ys) k = (k.0, by_list ys k.1)

pub all_of : (P : RawTerm → Type 0) (ts : RawTerms) → Each P ts → All P (list_of ts)
all_of P ts h = All-from_recursion P (list_of ts) (by_list ts h)
  where
    by_list : (us : RawTerms) → Each P us → Rattle.std.specs.List.AllByRecursion P (list_of us)
    by_list nil k = tt
    by_list (cons u us) k = (k.0, by_list us k.1)

pub each_weaker : (P Q : RawTerm → Type 0) → ((x : RawTerm) → P x → Q x) → (ts : RawTerms) → Each P ts → Each Q ts
each_weaker P Q w nil h = tt
each_weaker P Q w (cons t ts) h = (w t h.0, each_weaker P Q w ts h.1)

module _ (sig : Signature) (f : ℕ) where
  pub elements_of : (ts : RawTerms) → Each (IsMember sig f) ts → Each (IsElement (identity_of sig f) f) ts
  elements_of ts h = each_weaker (IsMember sig f) (IsElement (identity_of sig f) f) (λ x k. k.element) ts h

module _ (sig : Signature) (ok : IsAccepted sig) (f : ℕ) (assoc : is_assoc sig f ≡ true) (comm : is_comm sig f ≡ true) where
  abbrev e : Option Identity
  e = identity_of sig f

  pub applied_is : (ts : RawTerms) → applied_in sig f ts ≡ rebuilt e f (sorted_terms (flattened e f ts))
  applied_is ts = rw (assoc, comm) refl

  flat : (ts : RawTerms) → Each (IsMember sig f) ts → flattened e f ts ≡ ts
  flat ts h = flattened-elements e f ts (elements_of sig f ts h)

  -- f on elements
  pub on_members : (ts : RawTerms) → Each (IsMember sig f) ts → applied_in sig f ts ≡ rebuilt e f (sorted_terms ts)
  on_members ts h = applied_is ts ∙ ap (λ us. rebuilt e f (sorted_terms us)) (flat ts h)

  -- in any order
  pub together-permutation : (xs ys : List RawTerm) → AreMembers sig f xs → IsPermutation xs ys → together sig f xs ≡ together sig f ys
  together-permutation xs ys h p =
      let k : AreMembers sig f ys = All-permutation (IsMember sig f) xs ys p h in
      on_members (terms_of xs) (each_of (IsMember sig f) xs h) ∙ ap (rebuilt e f) (sorted_terms-permutation xs ys p) ∙ sym (on_members (terms_of ys) (each_of (IsMember sig f) ys k))

  -- f on a term between others, by its elements
  pub filled_is : (b a : RawTerms) (t : RawTerm) → Each (IsMember sig f) b → Each (IsMember sig f) a → filled sig (opened f b a) t ≡ rebuilt e f (sorted_terms (join (elements e f t) (join b a)))
  filled_is b a t hb ha =
      applied_is (join b (cons t a)) ∙ ap (λ us. rebuilt e f (sorted_terms us)) (flattened-join e f b (cons t a) ∙ ap (λ z. join z (join (elements e f t) (flattened e f a))) (flat b hb) ∙ ap (λ z. join b (join (elements e f t) z)) (flat a ha))
      ∙ ap (rebuilt e f) (in_front b (elements e f t) a)

  -- beside others that are the same in order
  pub filled_same : (b a c d : RawTerms) (t : RawTerm) → Each (IsMember sig f) b → Each (IsMember sig f) a → Each (IsMember sig f) c → Each (IsMember sig f) d
      → sorted_terms (join b a) ≡ sorted_terms (join c d) → filled sig (opened f b a) t ≡ filled sig (opened f c d) t
  filled_same b a c d t hb ha hc hd s =
      let us : RawTerms = elements e f t in
      filled_is b a t hb ha ∙ ap (rebuilt e f) (sym (sorted_terms-right us (join b a)) ∙ ap (λ zs. sorted_terms (join us zs)) s ∙ sorted_terms-right us (join c d)) ∙ sym (filled_is c d t hc hd)

  -- a term among others is its elements with them
  pub filled_together : (t : RawTerm) (rest : List RawTerm) → AreMembers sig f (parts sig f t) → AreMembers sig f rest → filled sig (opened f nil (terms_of rest)) t ≡ together sig f (parts sig f t ++ rest)
  filled_together t rest h k =
      let us : RawTerms = elements e f t in
      let both : AreMembers sig f (parts sig f t ++ rest) = All-append (IsMember sig f) (parts sig f t) rest h k in
      let q : terms_of (parts sig f t ++ rest) ≡ join us (terms_of rest) = terms-append (parts sig f t) rest ∙ ap (λ z. join z (terms_of rest)) (terms_list us) in
      filled_is nil (terms_of rest) t tt (each_of (IsMember sig f) rest k) ∙ ap (λ z. rebuilt e f (sorted_terms z)) (sym q) ∙ sym (on_members (terms_of (parts sig f t ++ rest)) (each_of (IsMember sig f) (parts sig f t ++ rest) both))

  -- a term is its elements together
  pub alone_together : (t : RawTerm) → IsCanonical sig t → together sig f (parts sig f t) ≡ t
  alone_together t k = ap (applied_in sig f) (terms_list (elements e f t)) ∙ applied-elements sig ok f assoc t k

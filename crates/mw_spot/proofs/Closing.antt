-- What a level's operator is on its arguments, where a term came among them by its elements.
use Rattle.std.specs.Prelude.{◌≡◌, ◌≤◌, ℕ, List, ◌++◌, take, drop, length, Bool, true, false, Option, refl}
use Rattle.std.proofs.Common.{ap, sym, subst, ◌∙◌, arith}
use Rattle.mw_logic.specs.Term.{RawTerm, RawTerms, nil, cons, join}
use Rattle.mw_logic.specs.Terms.{terms_of}
use Rattle.mw_logic.specs.Signature.{Signature, Identity}
use Rattle.mw_logic.specs.Accepted.{IsAccepted}
use Rattle.mw_logic.specs.Parts.{is_assoc}
use Rattle.mw_logic.specs.TermOrder.{sorted_terms}
use Rattle.mw_logic.specs.NormalForm.{is_comm, identity_of, elements, flattened, arranged, applied_in, rebuilt}
use Rattle.mw_logic.proofs.Canonical.{Each, IsElement, IsCanonical, AreCanonical, Each-join, Each-arranged, each_canonical, all_canonical, arranged-one, arranged-twice, flattened-elements, elements_are}
use Rattle.mw_logic.proofs.SortLaws.{join_assoc, join-nil}
use Rattle.mw_logic.proofs.Pushed.{terms_of-append}
use Rattle.mw_logic.proofs.Replacing.{flattened-join, applied-arranged}
use Rattle.mw_arguments.proofs.Arguments.{in_order}
use Rattle.mw_redex.proofs.Standing.{placed_anywhere}
use Rattle.mw_deduction.specs.Standing.{Open, filled, IsClear}
use Rattle.mw_stack.specs.Own.{own, spread, IsOrdered}
use Rattle.mw_spot.specs.Walks.{level_of, IsOrderly}
use Rattle.mw_spot.proofs.Levels.{beside}

-- a list of arguments on which the operator is what the level is with t in its hole
pub record IsClosing (sig : Signature) (o : Open) (t : RawTerm) (ts : RawTerms) : Type 0 where
  pub canonical : AreCanonical sig ts
  pub elements : is_assoc sig o.operator ≡ true → Each (IsElement (identity_of sig o.operator) o.operator) ts
  pub ordered : IsOrdered sig o.operator ts
  pub gives : applied_in sig o.operator ts ≡ filled sig o t

module _ (sig : Signature) (ok : IsAccepted sig) (f : ℕ) (t : RawTerm) (k : IsCanonical sig t) where
  -- what a canonical term is under the operator
  pub spread_ordered : IsOrdered sig f (spread sig f t)
  spread_ordered = by_assoc (is_assoc sig f) refl
    where
      by_assoc : (m : Bool) → is_assoc sig f ≡ m → IsOrdered sig f (spread sig f t)
      by_assoc true h = rw h (in_order sig ok f h t k)
      by_assoc false h = rw h (arranged-one (is_comm sig f) t)

  spread_canonical : Each (IsCanonical sig) (spread sig f t)
  spread_canonical = by_assoc (is_assoc sig f) refl
    where
      by_assoc : (m : Bool) → is_assoc sig f ≡ m → Each (IsCanonical sig) (spread sig f t)
      by_assoc true h = rw h ((elements_are sig ok f h t k).1)
      by_assoc false h = rw h (k, tt)

  spread_elements : is_assoc sig f ≡ true → Each (IsElement (identity_of sig f) f) (spread sig f t)
  spread_elements h = rw h ((elements_are sig ok f h t k).0)

  -- the operator makes the same of it as of the term
  spread_again : (b a : RawTerms) → applied_in sig f (join b (join (spread sig f t) a)) ≡ applied_in sig f (join b (cons t a))
  spread_again b a = by_assoc (is_assoc sig f) refl
    where
      by_assoc : (m : Bool) → is_assoc sig f ≡ m → applied_in sig f (join b (join (spread sig f t) a)) ≡ applied_in sig f (join b (cons t a))
      by_assoc true h =
          let e : Option Identity = identity_of sig f in
          let es : RawTerms = elements e f t in
          let one : flattened e f (join es a) ≡ join es (flattened e f a) = flattened-join e f es a ∙ ap (λ us. join us (flattened e f a)) (flattened-elements e f es (elements_are sig ok f h t k).0) in
          let q : flattened e f (join b (join es a)) ≡ flattened e f (join b (cons t a)) = flattened-join e f b (join es a) ∙ ap (join (flattened e f b)) one ∙ sym (flattened-join e f b (cons t a)) in
          rw h (ap (λ us. rebuilt e f (arranged (is_comm sig f) us)) q)
      by_assoc false h = rw h refl

module _ (sig : Signature) (ok : IsAccepted sig) (o : Open) (clear : IsClear sig o) (t : RawTerm) (k : IsCanonical sig t) where
  -- put in order among the others
  pub closing_in_order : is_comm sig o.operator ≡ true → (us ts : RawTerms) → join o.before o.after ≡ us → ts ≡ arranged (is_comm sig o.operator) (join us (spread sig o.operator t)) → IsClosing sig o t ts
  closing_in_order comm us ts e p =
      let sp : RawTerms = spread sig o.operator t in
      let all : RawTerms = join us sp in
      let c : Bool = is_comm sig o.operator in
      let one : applied_in sig o.operator all ≡ applied_in sig o.operator (join us (cons t nil)) =
      ap (λ zs. applied_in sig o.operator (join us zs)) (sym (join-nil sp)) ∙ spread_again sig ok o.operator t k us nil in
      let two : applied_in sig o.operator (join us (cons t nil)) ≡ filled sig o t =
      placed_anywhere sig ok o.operator comm t us nil o.before o.after (ap sorted_terms (join-nil us ∙ sym e)) in
      record {
        canonical = subst (AreCanonical sig) (sym p) (all_canonical sig (arranged c all) (of_each (IsCanonical sig) us e (each_canonical sig o.before clear.before) (each_canonical sig o.after clear.after) (spread_canonical sig ok o.operator t k)));
        elements = λ h. subst (Each (IsElement (identity_of sig o.operator) o.operator)) (sym p)
            (of_each (IsElement (identity_of sig o.operator) o.operator) us e (clear.before_elements h) (clear.after_elements h) (spread_elements sig ok o.operator t k h));
        ordered = subst (IsOrdered sig o.operator) (sym p) (arranged-twice c all);
        gives = ap (applied_in sig o.operator) p ∙ applied-arranged sig ok o.operator all ∙ one ∙ two;
      }
    where
      of_each : (P : RawTerm → Type 0) (us : RawTerms) → join o.before o.after ≡ us → Each P o.before → Each P o.after → Each P (spread sig o.operator t) → Each P (arranged (is_comm sig o.operator) (join us (spread sig o.operator t)))
      of_each P us e b a s =
          Each-arranged P (is_comm sig o.operator) (join us (spread sig o.operator t)) (Each-join P us (spread sig o.operator t) (subst (Each P) e (Each-join P o.before o.after b a)) s)

  -- put between the others
  pub closing_between : is_comm sig o.operator ≡ false → (ts : RawTerms) → ts ≡ join (join o.before (spread sig o.operator t)) o.after → IsClosing sig o t ts
  closing_between comm ts p =
      record {
        canonical = subst (AreCanonical sig) (sym p) (all_canonical sig (join (join o.before (spread sig o.operator t)) o.after) (of_each (IsCanonical sig) (each_canonical sig o.before clear.before) (each_canonical sig o.after clear.after) (spread_canonical sig ok o.operator t k)));
        elements = λ h. subst (Each (IsElement (identity_of sig o.operator) o.operator)) (sym p)
            (of_each (IsElement (identity_of sig o.operator) o.operator) (clear.before_elements h) (clear.after_elements h) (spread_elements sig ok o.operator t k h));
        ordered = ap (λ c. arranged c ts) comm;
        gives = ap (applied_in sig o.operator) (p ∙ join_assoc o.before (spread sig o.operator t) o.after) ∙ spread_again sig ok o.operator t k o.before o.after;
      }
    where
      of_each : (P : RawTerm → Type 0) → Each P o.before → Each P o.after → Each P (spread sig o.operator t) → Each P (join (join o.before (spread sig o.operator t)) o.after)
      of_each P b a s = Each-join P (join o.before (spread sig o.operator t)) o.after (Each-join P o.before (spread sig o.operator t) b s) a

-- what calls answer: a term that is put among the arguments of a level, and the operator's on all of them
module _ (sig : Signature) (ok : IsAccepted sig) (f at : ℕ) (xs : List RawTerm) (o : Open) (e : level_of f at xs ≡ o) (t : RawTerm) (k : IsCanonical sig t) (r : RawTerm) where
  abbrev Closes : List RawTerm → Type 0
  Closes ys = AreCanonical sig (own 0 ys) → (is_assoc sig f ≡ true → Each (IsElement (identity_of sig f) f) (own 0 ys)) → IsOrdered sig f (own 0 ys) → r ≡ applied_in sig f (own 0 ys)

  abbrev Puts : List RawTerm → List RawTerm → Type 0
  Puts us ys = 0 ≤ length us → IsOrdered sig f (own 0 us) → IsOrdered sig f (spread sig f t) → own 0 ys ≡ arranged (is_comm sig f) (join (own 0 us) (spread sig f t))

  closed : (ys : List RawTerm) → IsClosing sig (level_of f at xs) t (own 0 ys) → Closes ys → r ≡ filled sig (level_of f at xs) t
  closed ys c h = h c.canonical c.elements c.ordered ∙ c.gives

  pub filled_in_order : is_comm sig o.operator ≡ true → IsOrderly sig o → IsClear sig o → (ys : List RawTerm) → Puts xs ys → Closes ys → r ≡ filled sig o t
  filled_in_order comm orderly clear ys p h =
      subst (λ o. is_comm sig o.operator ≡ true → IsOrderly sig o → IsClear sig o → r ≡ filled sig o t) e here comm orderly clear
    where
      here : is_comm sig f ≡ true → IsOrderly sig (level_of f at xs) → IsClear sig (level_of f at xs) → r ≡ filled sig (level_of f at xs) t
      here comm orderly clear =
          let ordered : IsOrdered sig f (terms_of xs) = subst (λ ts. arranged (is_comm sig f) ts ≡ ts) (beside at xs) orderly in
          closed ys (closing_in_order sig ok (level_of f at xs) clear t k comm (terms_of xs) (own 0 ys) (beside at xs) (p (omega arith) ordered (spread_ordered sig ok f t k))) h

  pub filled_between : is_comm sig o.operator ≡ false → IsClear sig o → (us vs ys zs : List RawTerm) → us ≡ take at xs → vs ≡ drop at xs → Puts us ys → zs ≡ ys ++ vs → Closes zs → r ≡ filled sig o t
  filled_between comm clear us vs ys zs front back p q h =
      subst (λ o. is_comm sig o.operator ≡ false → IsClear sig o → r ≡ filled sig o t) e here comm clear
    where
      here : is_comm sig f ≡ false → IsClear sig (level_of f at xs) → r ≡ filled sig (level_of f at xs) t
      here comm clear =
          let put : terms_of ys ≡ join (terms_of (take at xs)) (spread sig f t) =
          p (omega arith) (ap (λ c. arranged c (terms_of us)) comm) (spread_ordered sig ok f t k) ∙ ap (λ c. arranged c (join (terms_of us) (spread sig f t))) comm ∙ ap (λ us. join (terms_of us) (spread sig f t)) front in
          let all : terms_of zs ≡ join (join (terms_of (take at xs)) (spread sig f t)) (terms_of (drop at xs)) =
          ap terms_of q ∙ terms_of-append ys vs ∙ ap (λ ts. join ts (terms_of vs)) put ∙ ap (λ vs. join (join (terms_of (take at xs)) (spread sig f t)) (terms_of vs)) back in
          closed zs (closing_between sig ok (level_of f at xs) clear t k comm (own 0 zs) all) h

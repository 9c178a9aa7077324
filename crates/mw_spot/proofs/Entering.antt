-- Into arguments, and out of them: the walk stands where the moves do.
use Rattle.std.specs.Prelude.{◌≡◌, ◌+◌, ◌-◌, ◌<◌, ◌≤◌, ◌^◌, min, ℕ, suc, List, [], ◌∷◌, ◌++◌, take, drop, length, get_or, Bool, true, false, cond, ◌&&◌, nat_eq, nat_lt, refl}
use Rattle.std.proofs.Common.{ap, sym, subst, ◌∙◌, arith, drop-cons}
use Rattle.std.proofs.lemmas.List.{take-append-drop, length-take}
use Rattle.std.proofs.Math.Seq.{take-append_seam, drop-append_seam}
use Rattle.mw_logic.specs.Term.{RawTerm, numeral, quoted, variable, apply, RawTerms, nil, cons, join}
use Rattle.mw_logic.specs.Terms.{terms_of, front, skip}
use Rattle.mw_logic.specs.Signature.{Signature}
use Rattle.mw_logic.specs.Accepted.{IsAccepted}
use Rattle.mw_logic.specs.Parts.{is_assoc, number_of_terms}
use Rattle.mw_logic.specs.Kinds.{is_successor}
use Rattle.mw_logic.specs.TermOrder.{stands_after}
use Rattle.mw_logic.specs.NormalForm.{is_comm, arranged, counted}
use Rattle.mw_logic.proofs.Pushed.{terms_of-append}
use Rattle.mw_logic.proofs.Canonical.{Each, IsCanonical, nat_eq-refl}
use Rattle.mw_logic.proofs.SortedLists.{Climbs, climbs, sorted_terms-climbing}
use Rattle.mw_arguments.specs.Places.{chosen, others, Rise}
use Rattle.mw_arguments.proofs.Arguments.{args_in_order}
use Rattle.mw_arguments.proofs.Middles.{Divided, first_there, others-middle}
use Rattle.mw_stack.proofs.Piles.{number-terms_of}
use Rattle.mw_deduction.specs.Standing.{Open}
use Rattle.mw_deduction.specs.Replay.{Stand, opened, going_in, into_argument, into_several, MayGoIn, MayGoAmong}
use Rattle.mw_deduction.proofs.Taking.{into_is, front-join, skip-join}
use Rattle.mw_redex.proofs.Middles.{number-join}
use Rattle.mw_spot.specs.Walks.{Walked, level_of, IsOrderly, IsAt}
use Rattle.mw_spot.proofs.Exchanging.{same_cut}
use Rattle.mw_spot.proofs.Raised.{same_first, same_operator, same_arguments}

same_rest : {t u : RawTerm} {ts us : RawTerms} → cons t ts ≡ cons u us → ts ≡ us
same_rest e = cc

same_level : (f g : ℕ) (b a c d : RawTerms) → f ≡ g → b ≡ c → a ≡ d → opened f b a ≡ opened g c d
same_level f g b a c d p q r = ap (λ h. opened h b a) p ∙ ap (λ us. opened g us a) q ∙ ap (opened g c) r

-- what is left of a list in order is in order
others_each : (P : RawTerm → Type 0) (i : ℕ) (ks : List ℕ) (ts : RawTerms) → Each P ts → Each P (others i ks ts)
others_each P i [] ts h = h
others_each P i (k ∷ ks) nil h = tt
others_each P i (k ∷ ks) (cons t ts) h = by_test (nat_eq i k) (others_each P (suc i) ks ts h.1) (others_each P (suc i) (k ∷ ks) ts h.1)
  where
    by_test : (b : Bool) → Each P (others (suc i) ks ts) → Each P (others (suc i) (k ∷ ks) ts) → Each P (cond b (others (suc i) ks ts) (cons t (others (suc i) (k ∷ ks) ts)))
    by_test true p q = p
    by_test false p q = (h.0, q)

others_climb : (i : ℕ) (ks : List ℕ) (ts : RawTerms) → Climbs ts → Climbs (others i ks ts)
others_climb i [] ts h = h
others_climb i (k ∷ ks) nil h = tt
others_climb i (k ∷ ks) (cons t ts) h = by_test (nat_eq i k) (others_climb (suc i) ks ts h.1) (others_climb (suc i) (k ∷ ks) ts h.1)
  where
    by_test : (b : Bool) → Climbs (others (suc i) ks ts) → Climbs (others (suc i) (k ∷ ks) ts) → Climbs (cond b (others (suc i) ks ts) (cons t (others (suc i) (k ∷ ks) ts)))
    by_test true p q = p
    by_test false p q = (others_each (λ u. stands_after t u ≡ false) (suc i) (k ∷ ks) ts h.0, q)

-- the arguments of a canonical term are in order
counted_list : (s : Bool) (f : ℕ) (us ts : RawTerms) → counted s f us ≡ apply f ts → us ≡ ts
counted_list s f nil ts e = cc
counted_list s f (cons (numeral n) nil) ts e = by_test (s && nat_lt (suc n) (2 ^ 128)) e
  where
    by_test : (b : Bool) → cond b (numeral (suc n)) (apply f (cons (numeral n) nil)) ≡ apply f ts → cons (numeral n) nil ≡ ts
    by_test true e = cc
    by_test false e = cc
counted_list s f (cons (quoted q) nil) ts e = cc
counted_list s f (cons (variable x) nil) ts e = cc
counted_list s f (cons (apply g vs) nil) ts e = cc
counted_list s f (cons t (cons u us)) ts e = cc

module _ (sig : Signature) (ok : IsAccepted sig) where
  in_order : (f : ℕ) (ts : RawTerms) → IsCanonical sig (apply f ts) → arranged (is_comm sig f) ts ≡ ts
  in_order f ts k = by_assoc (is_assoc sig f) refl
    where
      by_assoc : (m : Bool) → is_assoc sig f ≡ m → arranged (is_comm sig f) ts ≡ ts
      by_assoc true h = args_in_order sig ok f h ts k
      by_assoc false h = counted_list (is_successor sig f) f (arranged (is_comm sig f) ts) ts (rw h at k.1)

  left_in_order : (f : ℕ) (ks : List ℕ) (ts : RawTerms) → IsCanonical sig (apply f ts) → arranged (is_comm sig f) (others 1 ks ts) ≡ others 1 ks ts
  left_in_order f ks ts k = by_comm (is_comm sig f) refl
    where
      by_comm : (c : Bool) → is_comm sig f ≡ c → arranged (is_comm sig f) (others 1 ks ts) ≡ others 1 ks ts
      by_comm false e = rw e refl
      by_comm true e = rw e (sorted_terms-climbing (others 1 ks ts) (others_climb 1 ks ts (climbs ts (subst (λ c. arranged c ts ≡ ts) e (in_order f ts k)))))

  module _ (w : Walked) (S : Stand) (here : IsAt sig w S) (k : IsCanonical sig S.hand) where
    -- into an argument
    module _ (i : ℕ) (may : MayGoIn sig i S.hand) (f : ℕ) (args : List RawTerm) (is : w.hand ≡ apply f (terms_of args)) where
      whole : apply f (terms_of args) ≡ apply may.operator (join may.before (cons may.argument may.after))
      whole = sym is ∙ sym here.hand ∙ may.is

      size : length args ≡ number_of_terms may.before + suc (number_of_terms may.after)
      size = sym (number-terms_of args) ∙ ap number_of_terms (same_arguments whole) ∙ number-join may.before (cons may.argument may.after)

      pub from_one : 1 ≤ i
      from_one = let n = may.number in omega (arith, n)

      pub to_last : i ≤ length args
      to_last = let n = may.number in let s = size in omega (arith, n, s)

      pub entered : (at : ℕ) (left : List RawTerm) (x : RawTerm) → suc at ≡ i → left ≡ take at args ++ drop (suc at) args → get_or args at x ≡ x
          → IsAt sig (record { opens = level_of f at left ∷ w.opens; hand = x }) (into_argument sig i S.hand S)
      entered at left x e l g =
          let s = size in
          let n = may.number in
          let below : at < length args = omega (arith, e, n, s) in
          let b : RawTerms = terms_of (take at args) in
          let a : RawTerms = terms_of (drop (suc at) args) in
          let parts : take at args ++ (x ∷ drop (suc at) args) ≡ args = ap (λ y. take at args ++ (y ∷ drop (suc at) args)) (sym g) ∙ ap (λ ys. take at args ++ ys) (sym (drop-cons args at x below)) ∙ take-append-drop at args in
          let cut : join b (cons x a) ≡ join may.before (cons may.argument may.after) = sym (terms_of-append (take at args) (x ∷ drop (suc at) args)) ∙ ap terms_of parts ∙ same_arguments whole in
          let long : length (take at args) ≡ at = length-take at args ∙ omega (arith, below) in
          let number : number_of_terms b ≡ number_of_terms may.before = number-terms_of (take at args) ∙ long ∙ omega (arith, e, n) in
          let same = same_cut b may.before (cons x a) (cons may.argument may.after) number cut in
          let front : take at left ≡ take at args = ap (take at) l ∙ ap (λ n. take n (take at args ++ drop (suc at) args)) (sym long) ∙ take-append_seam (take at args) (drop (suc at) args) in
          let back : drop at left ≡ drop (suc at) args = ap (drop at) l ∙ ap (λ n. drop n (take at args ++ drop (suc at) args)) (sym long) ∙ drop-append_seam (take at args) (drop (suc at) args) in
          let level : level_of f at left ≡ opened may.operator may.before may.after =
          same_level f may.operator (terms_of (take at left)) (terms_of (drop at left)) may.before may.after (same_operator whole) (ap terms_of front ∙ same.0) (ap terms_of back ∙ same_rest same.1) in
          let canonical : IsCanonical sig (apply may.operator (join may.before (cons may.argument may.after))) = subst (IsCanonical sig) may.is k in
          let one : others 1 (i ∷ []) (join may.before (cons may.argument may.after)) ≡ join may.before may.after = others-middle 1 i [] may.before may.argument may.after (omega (arith, n)) in
          let order : IsOrderly sig (opened may.operator may.before may.after) =
          subst (λ ts. arranged (is_comm sig may.operator) ts ≡ ts) one (left_in_order may.operator (i ∷ []) (join may.before (cons may.argument may.after)) canonical) in
          let stands : IsAt sig (record { opens = level_of f at left ∷ w.opens; hand = x }) (going_in sig (opened may.operator may.before may.after) may.argument S) = record {
            opens = ap (λ os. opened may.operator may.before may.after ∷ os) here.opens ∙ ap (λ o. o ∷ w.opens) (sym level);
            hand = sym (same_first same.1);
            orderly = (subst (IsOrderly sig) (sym level) order, here.orderly);
          } in
          subst (λ t. IsAt sig (record { opens = level_of f at left ∷ w.opens; hand = x }) (into_argument sig i t S)) (sym may.is)
          (subst (IsAt sig (record { opens = level_of f at left ∷ w.opens; hand = x })) (sym (into_is sig i may.operator may.before may.argument may.after S may.number)) stands)

    -- into several
    module _ (i : ℕ) (ks : List ℕ) (may : MayGoAmong sig (i ∷ ks) S.hand) (f : ℕ) (args : List RawTerm) (is : w.hand ≡ apply f (terms_of args)) where
      pub entered_among : (o : Open) (t : RawTerm) → o.operator ≡ f → join o.before o.after ≡ others 1 (i ∷ ks) (terms_of args) → number_of_terms o.before ≡ min (i - 1) (number_of_terms (others 1 (i ∷ ks) (terms_of args)))
          → t ≡ apply f (chosen 1 (i ∷ ks) (terms_of args)) → IsAt sig (record { opens = o ∷ w.opens; hand = t }) (into_several sig (i ∷ ks) S.hand S)
      entered_among o t e j n h =
          let takes = may.takes in
          let whole : apply f (terms_of args) ≡ apply takes.operator takes.args = sym is ∙ sym here.hand ∙ takes.term in
          let same_list : terms_of args ≡ takes.args = same_arguments whole in
          let rise : Rise 1 (suc (number_of_terms (terms_of args))) (i ∷ ks) = subst (λ ts. Rise 1 (suc (number_of_terms ts)) (i ∷ ks)) (sym same_list) takes.rise in
          let hand : S.hand ≡ apply f (terms_of args) = here.hand ∙ is in
          subst (λ u. IsAt sig (record { opens = o ∷ w.opens; hand = t }) (into_several sig (i ∷ ks) u S)) (sym hand) (by_place (terms_of args) refl (first_there i ks (terms_of args) rise) hand)
        where
          by_place : (ts : RawTerms) → terms_of args ≡ ts → (m : ℕ) × (i ≡ suc m) × (u : RawTerm) × Divided ts m u → S.hand ≡ apply f (terms_of args)
              → IsAt sig (record { opens = o ∷ w.opens; hand = t }) (into_several sig (i ∷ ks) (apply f (terms_of args)) S)
          by_place ts q (m, p, u, d) hand =
              let z : i ≡ 1 + number_of_terms d.before = let s = d.size in omega (arith, p, s) in
              let y : i - 1 ≡ number_of_terms d.before = omega (arith, z) in
              let all : terms_of args ≡ join d.before (cons u d.after) = q ∙ d.whole in
              let rest : RawTerms = others (suc i) ks d.after in
              let left : others 1 (i ∷ ks) (terms_of args) ≡ join d.before rest = ap (others 1 (i ∷ ks)) all ∙ others-middle 1 i ks d.before u d.after z in
              let first : front (i - 1) (terms_of args) ≡ d.before = ap (front (i - 1)) all ∙ ap (λ j. front j (join d.before (cons u d.after))) y ∙ front-join d.before (cons u d.after) in
              let behind : skip (i - 1) (terms_of args) ≡ cons u d.after = ap (skip (i - 1)) all ∙ ap (λ j. skip j (join d.before (cons u d.after))) y ∙ skip-join d.before (cons u d.after) in
              let second : others i (i ∷ ks) (skip (i - 1) (terms_of args)) ≡ rest = ap (others i (i ∷ ks)) behind ∙ rw (nat_eq-refl i) refl in
              let l = ap number_of_terms left in
              let c = number-join d.before rest in
              let number : number_of_terms o.before ≡ number_of_terms d.before = omega (arith, n, l, c, y) in
              let same = same_cut o.before d.before o.after rest number (j ∙ left) in
              let level : o ≡ opened f (front (i - 1) (terms_of args)) (others i (i ∷ ks) (skip (i - 1) (terms_of args))) =
              same_level o.operator f o.before o.after (front (i - 1) (terms_of args)) (others i (i ∷ ks) (skip (i - 1) (terms_of args))) e (same.0 ∙ sym first) (same.1 ∙ sym second) in
              let order : IsOrderly sig o =
              subst (λ g. arranged (is_comm sig g) (join o.before o.after) ≡ join o.before o.after) (sym e)
              (subst (λ ts. arranged (is_comm sig f) ts ≡ ts) (sym j) (left_in_order f (i ∷ ks) (terms_of args) (subst (IsCanonical sig) hand k))) in
              record {
                opens = ap (λ os. opened f (front (i - 1) (terms_of args)) (others i (i ∷ ks) (skip (i - 1) (terms_of args))) ∷ os) here.opens ∙ ap (λ p. p ∷ w.opens) (sym level);
                hand = sym h;
                orderly = (order, here.orderly);
              }

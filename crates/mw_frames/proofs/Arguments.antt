-- Arguments of a frame as they stand in the term that it is.
use Rattle.std.specs.Prelude.{◌≡◌, ◌^◌, ◌&&◌, nat_lt, ℕ, suc, Bool, true, false, cond, refl, Option}
use Rattle.std.proofs.Common.{sym, subst, ap, ◌∙◌, true≢false}
use Rattle.std.proofs.lemmas.Bool.{ltb-true, and_parts}
use Rattle.mw_logic.specs.Term.{RawTerm, numeral, quoted, variable, RawTerms, apply, nil, cons, join}
use Rattle.mw_logic.specs.Signature.{Signature, Identity}
use Rattle.mw_logic.specs.Accepted.{IsAccepted}
use Rattle.mw_logic.specs.Kinds.{is_successor}
use Rattle.mw_logic.specs.Parts.{is_assoc, number_of_terms}
use Rattle.mw_logic.specs.NormalForm.{is_comm, identity_of, elements, flattened, rebuilt, successor_of, counted, arranged, applied_in}
use Rattle.mw_logic.specs.CanonicalPart.{AreSeveral}
use Rattle.mw_logic.proofs.SortLaws.{join_assoc}
use Rattle.mw_logic.proofs.Canonical.{Each, IsElement, IsCanonical, AreCanonical, Each-arranged, each_canonical, all_canonical, flattened-elements, elements_are}
use Rattle.mw_logic.proofs.Holes.{Each-parts}
use Rattle.mw_logic.proofs.Replacing.{applied-arranged}
use Rattle.mw_logic.proofs.Soundness.{IsLong, rebuilt-several, several-arranged}
use Rattle.mw_logic.proofs.Successor.{is_successor-sound}
use Rattle.mw_deduction.specs.Replay.{MayGoIn}
use Rattle.mw_frames.specs.Fair.{IsFair}
use Rattle.mw_stack.specs.Own.{spread}
use Rattle.mw_stack.specs.Hidden.{IsHiddenNumeral}

pub several_of : (b : RawTerms) (x : RawTerm) (a : RawTerms) → IsLong (join b a) → AreSeveral (join b (cons x a))
several_of nil x nil l = elim l [ ]
several_of nil x (cons y a) l = tt
several_of (cons y nil) x a l = tt
several_of (cons y (cons z b)) x a l = tt

module _ (sig : Signature) (ok : IsAccepted sig) where
  -- Where nothing has to be flattened and no numeral counted, an operator stands on its arguments in order.
  pub applied_list : (f : ℕ) (ts : RawTerms) → IsFair sig f ts → (is_assoc sig f ≡ true → AreSeveral ts) → Each (λ t. ¬ IsHiddenNumeral sig f t) ts → applied_in sig f ts ≡ apply f (arranged (is_comm sig f) ts)
  applied_list f ts fair l seen = by_assoc (is_assoc sig f) refl
    where
      c : Bool
      c = is_comm sig f

      -- one argument that isn't a numeral to be counted
      alone : (t : RawTerm) → ¬ IsHiddenNumeral sig f t → successor_of (is_successor sig f) f t ≡ apply f (cons t nil)
      alone (numeral n) h = by_test (is_successor sig f && nat_lt (suc n) (2 ^ 128)) refl
        where
          by_test : (b : Bool) → (is_successor sig f && nat_lt (suc n) (2 ^ 128)) ≡ b → cond b (numeral (suc n)) (apply f (cons (numeral n) nil)) ≡ apply f (cons (numeral n) nil)
          by_test false e = refl
          by_test true e = let p = and_parts _ _ e in absurd (h (record { number = n; is = refl; successor = is_successor-sound sig f p.0; folds = ltb-true _ _ p.1 }))
      alone (quoted q) h = refl
      alone (variable x) h = refl
      alone (apply g us) h = refl

      over : (us : RawTerms) → Each (λ t. ¬ IsHiddenNumeral sig f t) us → counted (is_successor sig f) f us ≡ apply f us
      over nil h = refl
      over (cons t nil) h = alone t h.0
      over (cons t (cons u us)) h = refl

      by_assoc : (m : Bool) → is_assoc sig f ≡ m → applied_in sig f ts ≡ apply f (arranged c ts)
      by_assoc true h = rw (h, flattened-elements (identity_of sig f) f ts (fair.elements h)) (rebuilt-several (identity_of sig f) f (arranged c ts) (several-arranged c ts (l h)))
      by_assoc false h = rw h (over (arranged c ts) (Each-arranged (λ t. ¬ IsHiddenNumeral sig f t) c ts seen))

  -- Into one of them, which stands between b and a.
  pub goes_into : (f : ℕ) (own : RawTerms) (x : RawTerm) (rest b a : RawTerms) (t : RawTerm) → IsFair sig f (join own (cons x rest)) → (is_assoc sig f ≡ true → IsLong (join own rest))
      → Each (λ t. ¬ IsHiddenNumeral sig f t) (join own (cons x rest)) → arranged (is_comm sig f) (join own (cons x rest)) ≡ join b (cons x a)
      → t ≡ applied_in sig f (join own (cons x rest)) → MayGoIn sig (suc (number_of_terms b)) t
  goes_into f own x rest b a t fair l seen e h =
      let c : Bool = is_comm sig f in
      let k = Each-parts (IsCanonical sig) b (cons x a) (subst (Each (IsCanonical sig)) e (Each-arranged (IsCanonical sig) c _ (each_canonical sig _ fair.canonical))) in
      let es : (is_assoc sig f ≡ true → Each (IsElement (identity_of sig f) f) b × Each (IsElement (identity_of sig f) f) (cons x a)) =
      λ q. Each-parts (IsElement (identity_of sig f) f) b (cons x a) (subst (Each (IsElement (identity_of sig f) f)) e (Each-arranged (IsElement (identity_of sig f) f) c _ (fair.elements q))) in
      record {
        operator = f;
        before = b;
        argument = x;
        after = a;
        is = h ∙ applied_list f (join own (cons x rest)) fair (λ q. several_of own x rest (l q)) seen ∙ ap (apply f) e;
        number = refl;
        clear = record {
          before = all_canonical sig b k.0;
          after = all_canonical sig a k.1.1;
          before_elements = λ q. (es q).0;
          after_elements = λ q. (es q).1.1;
          others = λ q. long b a (subst AreSeveral e (several-arranged c _ (several_of own x rest (l q))));
        };
      }
    where
      long : (b a : RawTerms) → AreSeveral (join b (cons x a)) → IsLong (join b a)
      long nil nil l = elim l [ ]
      long nil (cons y a) l = tt
      long (cons y b) a l = tt

  flattened-joined : (e : Option Identity) (f : ℕ) (ts us : RawTerms) → flattened e f (join ts us) ≡ join (flattened e f ts) (flattened e f us)
  flattened-joined e f nil us = refl
  flattened-joined e f (cons t ts) us = ap (join (elements e f t)) (flattened-joined e f ts us) ∙ sym (join_assoc (elements e f t) (flattened e f ts) (flattened e f us))

  -- an argument's elements come in its place
  pub spliced : (f : ℕ) (b : RawTerms) (t : RawTerm) (a : RawTerms) → IsCanonical sig t → applied_in sig f (join b (cons t a)) ≡ applied_in sig f (join b (join (spread sig f t) a))
  spliced f b t a k = by_assoc (is_assoc sig f) refl
    where
      e : Option Identity
      e = identity_of sig f

      by_assoc : (m : Bool) → is_assoc sig f ≡ m → applied_in sig f (join b (cons t a)) ≡ applied_in sig f (join b (join (spread sig f t) a))
      by_assoc false h = rw h refl
      by_assoc true h =
          let z : flattened e f (elements e f t) ≡ elements e f t = flattened-elements e f _ (elements_are sig ok f h t k).0 in
          let l : flattened e f (join b (cons t a)) ≡ join (flattened e f b) (join (elements e f t) (flattened e f a)) = flattened-joined e f b (cons t a) in
          let r : flattened e f (join b (join (elements e f t) a)) ≡ join (flattened e f b) (join (elements e f t) (flattened e f a)) =
          flattened-joined e f b (join (elements e f t) a) ∙ ap (join (flattened e f b)) (flattened-joined e f (elements e f t) a ∙ ap (λ xs. join xs (flattened e f a)) z) in
          rw h (ap (λ xs. rebuilt e f (arranged (is_comm sig f) xs)) (l ∙ sym r))

  pub spread_fits : (f : ℕ) (t : RawTerm) → IsCanonical sig t → AreCanonical sig (spread sig f t) × (is_assoc sig f ≡ true → Each (IsElement (identity_of sig f) f) (spread sig f t))
  spread_fits f t k = by_assoc (is_assoc sig f) refl
    where
      by_assoc : (m : Bool) → is_assoc sig f ≡ m → AreCanonical sig (spread sig f t) × (is_assoc sig f ≡ true → Each (IsElement (identity_of sig f) f) (spread sig f t))
      by_assoc false h = rw h ((k, tt), λ q. absurd (true≢false (sym q)))
      by_assoc true h = let p = elements_are sig ok f h t k in rw h (all_canonical sig _ p.1, λ q. p.0)

  -- what an operator gives hangs on the order of its arguments only where it isn't commutative
  pub same_applied : (f : ℕ) (ts us : RawTerms) → arranged (is_comm sig f) ts ≡ arranged (is_comm sig f) us → applied_in sig f ts ≡ applied_in sig f us
  same_applied f ts us e = sym (applied-arranged sig ok f ts) ∙ ap (applied_in sig f) e ∙ applied-arranged sig ok f us

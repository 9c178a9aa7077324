-- A level with a term in its hole: its operator on all arguments, where the term is seen.
use Rattle.std.specs.Prelude.{◌≡◌, ◌<◌, ◌+◌, ◌^◌, ℕ, suc, max, Bool, true, false, ◌&&◌, nat_lt, Option, refl}
use Rattle.std.proofs.Common.{ap, sym, subst, ◌∙◌, arith}
use Rattle.std.proofs.lemmas.Bool.{both_ways, eqb-true, and_parts, ltb-true}
use Rattle.mw_logic.specs.Term.{RawTerm, numeral, quoted, variable, apply, RawTerms, nil, cons, join}
use Rattle.mw_logic.specs.Terms.{args_of}
use Rattle.mw_logic.specs.Signature.{Signature, Identity}
use Rattle.mw_logic.specs.Accepted.{IsAccepted}
use Rattle.mw_logic.specs.Parts.{is_assoc, number_of_terms}
use Rattle.mw_logic.specs.Kinds.{is_successor}
use Rattle.mw_logic.specs.NormalForm.{is_comm, identity_of, is_identity, own_arguments, elements, flattened, arranged, counted, applied_in, height}
use Rattle.mw_logic.specs.CanonicalPart.{AreSeveral}
use Rattle.mw_logic.proofs.Canonical.{Each-join, IsCanonical, each_canonical, all_canonical, arranged-one, flattened-elements, applied_canonical, is_identity-arguments, nat_eq-refl}
use Rattle.mw_logic.proofs.Soundness.{IsLong, long-join, long-arranged, several-join, several-arranged, rebuilt-several}
use Rattle.mw_logic.proofs.Replacing.{flattened-join}
use Rattle.mw_logic.proofs.SortedLists.{Climbs, climbs}
use Rattle.mw_logic.proofs.Successor.{is_successor-sound}
use Rattle.mw_arguments.proofs.Arguments.{args_in_order}
use Rattle.mw_deduction.specs.Standing.{Open, filled, IsClear, IsSeenBy}
use Rattle.mw_redex.proofs.Middles.{number-join}
use Rattle.mw_spot.specs.Spots.{stands_on, is_spread}
use Rattle.mw_spot.proofs.Among.{with_all, number_all}

pub long_several : (ts : RawTerms) → AreSeveral ts → IsLong ts
long_several nil l = absurd l
long_several (cons t ts) l = tt

pub long_number : (ts : RawTerms) → IsLong ts → 0 < number_of_terms ts
long_number nil l = absurd l
long_number (cons t ts) l = omega arith

pub long_middle : (b : RawTerms) (x : RawTerm) (a : RawTerms) → IsLong (join b (cons x a))
long_middle nil x a = tt
long_middle (cons t b) x a = tt

-- of other terms beside them there are several
several_beside : (b es a : RawTerms) → IsLong es → IsLong (join b a) → AreSeveral (join b (join es a))
several_beside nil es a l m = several-join es a l m
several_beside (cons t b) es a l m = several-join (cons t b) (join es a) tt (long-join es a l)

own_alone : (f : ℕ) (t : RawTerm) → stands_on f t ≡ false → own_arguments f t ≡ cons t nil
own_alone f (numeral n) h = refl
own_alone f (quoted q) h = refl
own_alone f (variable x) h = refl
own_alone f (apply g nil) h = refl
own_alone f (apply g (cons t ts)) h = rw h refl

own_several : (f : ℕ) (es : RawTerms) → AreSeveral es → own_arguments f (apply f es) ≡ es
own_several f nil l = absurd l
own_several f (cons e es) l = rw (nat_eq-refl f) refl

-- an operator that doesn't count on stands on its arguments
counts_on : (s : Bool) (f : ℕ) (ts : RawTerms) → ((n : ℕ) → ts ≡ cons (numeral n) nil → (s && nat_lt (suc n) (2 ^ 128)) ≡ false) → counted s f ts ≡ apply f ts
counts_on s f nil h = refl
counts_on s f (cons (numeral n) nil) h = rw (h n refl) refl
counts_on s f (cons (quoted q) nil) h = refl
counts_on s f (cons (variable x) nil) h = refl
counts_on s f (cons (apply g ts) nil) h = refl
counts_on s f (cons t (cons u us)) h = refl

module _ (sig : Signature) (ok : IsAccepted sig) where
  -- no term is its operator on it alone
  lone : (f : ℕ) (u : RawTerm) → is_assoc sig f ≡ true → IsCanonical sig (apply f (cons u nil)) → ⊥
  lone f u h k =
      let e : elements (identity_of sig f) f u ≡ cons u nil = (k.2 h).0 in
      let p : applied_in sig f (cons u nil) ≡ u = rw (h, e, arranged-one (is_comm sig f) u) refl in
      let q : height u ≡ 1 + max (height u) 0 = ap height (sym p ∙ k.1) in
      omega (arith, q)

  -- what stands on several is its operator on its arguments
  pub stands_on_its : (f : ℕ) (t : RawTerm) → is_assoc sig f ≡ true → IsCanonical sig t → stands_on f t ≡ true → (t ≡ apply f (args_of t)) × AreSeveral (args_of t)
  stands_on_its f (numeral n) h k e = absurd (both_ways _ refl e)
  stands_on_its f (quoted q) h k e = absurd (both_ways _ refl e)
  stands_on_its f (variable x) h k e = absurd (both_ways _ refl e)
  stands_on_its f (apply g nil) h k e = absurd (both_ways _ refl e)
  stands_on_its f (apply g (cons u nil)) h k e = let z : f ≡ g = eqb-true f g e in absurd (lone f u h (subst (λ g. IsCanonical sig (apply g (cons u nil))) (sym z) k))
  stands_on_its f (apply g (cons u (cons v vs))) h k e = let z : f ≡ g = eqb-true f g e in (ap (λ f. apply f (cons u (cons v vs))) (sym z), tt)

  -- several arguments are in order
  pub spread_order : (f : ℕ) (es : RawTerms) → is_assoc sig f ≡ true → IsCanonical sig (apply f es) → is_comm sig f ≡ true → Climbs es
  spread_order f es h k c = climbs es (subst (λ m. arranged m es ≡ es) c (args_in_order sig ok f h es k))

  module _ (o : Open) (clear : IsClear sig o) where
    b : RawTerms
    b = o.before

    -- under an associative operator
    filled_elements : (t : RawTerm) (es : RawTerms) → is_assoc sig o.operator ≡ true → IsSeenBy sig o t → own_arguments o.operator t ≡ es → IsLong es → filled sig o t ≡ apply o.operator (with_all sig o es)
    filled_elements t es h seen own l =
        let f : ℕ = o.operator in
        let e : Option Identity = identity_of sig f in
        let n : is_identity e t ≡ false = seen.not_identity h in
        let p : elements e f t ≡ es = rw n own in
        let q : flattened e f (join o.before (cons t o.after)) ≡ join o.before (join es o.after) =
        flattened-join e f o.before (cons t o.after) ∙ rw (p, flattened-elements e f o.before (clear.before_elements h), flattened-elements e f o.after (clear.after_elements h)) refl in
        rw (h, q) (rebuilt-several e f (with_all sig o es) (several-arranged (is_comm sig f) (join o.before (join es o.after)) (several_beside o.before es o.after l (clear.others h))))

    -- under another
    filled_alone : (t : RawTerm) → is_assoc sig o.operator ≡ false → IsSeenBy sig o t → filled sig o t ≡ apply o.operator (with_all sig o (cons t nil))
    filled_alone t h seen = rw h (counts_on (is_successor sig o.operator) o.operator (with_all sig o (cons t nil)) not_counted)
      where
        by_size : (b a : RawTerms) (n : ℕ) → number_of_terms b + (1 + number_of_terms a) ≡ 1 → arranged (is_comm sig o.operator) (join b (cons t a)) ≡ cons (numeral n) nil → t ≡ numeral n
        by_size nil nil n s e = let w : cons t nil ≡ cons (numeral n) nil = sym (arranged-one (is_comm sig o.operator) t) ∙ e in cc
        by_size nil (cons u a) n s e = absurd (omega (arith, s))
        by_size (cons u b) a n s e = absurd (omega (arith, s))

        not_counted : (n : ℕ) → with_all sig o (cons t nil) ≡ cons (numeral n) nil → (is_successor sig o.operator && nat_lt (suc n) (2 ^ 128)) ≡ false
        not_counted n e =
            let s = ap number_of_terms e in
            let m = number_all sig o (cons t nil) in
            by_test (is_successor sig o.operator && nat_lt (suc n) (2 ^ 128)) refl (by_size o.before o.after n (omega (arith, s, m)) e)
          where
            by_test : (c : Bool) → (is_successor sig o.operator && nat_lt (suc n) (2 ^ 128)) ≡ c → t ≡ numeral n → c ≡ false
            by_test false p q = refl
            by_test true p q =
                let r = and_parts (is_successor sig o.operator) (nat_lt (suc n) (2 ^ 128)) p in
                absurd (seen.not_numeral n (is_successor-sound sig o.operator r.0) q (ltb-true (suc n) (2 ^ 128) r.1))

    pub filled_spread : (es : RawTerms) → is_assoc sig o.operator ≡ true → IsSeenBy sig o (apply o.operator es) → AreSeveral es → filled sig o (apply o.operator es) ≡ apply o.operator (with_all sig o es)
    filled_spread es h seen l = filled_elements (apply o.operator es) es h seen (own_several o.operator es l) (long_several es l)

    pub filled_one : (t : RawTerm) → is_spread sig o t ≡ false → IsSeenBy sig o t → filled sig o t ≡ apply o.operator (with_all sig o (cons t nil))
    filled_one t s seen = by_assoc (is_assoc sig o.operator) refl
      where
        by_assoc : (m : Bool) → is_assoc sig o.operator ≡ m → filled sig o t ≡ apply o.operator (with_all sig o (cons t nil))
        by_assoc false h = filled_alone t h seen
        by_assoc true h = filled_elements t (cons t nil) h seen (own_alone o.operator t (subst (λ m. (m && stands_on o.operator t) ≡ false) h s)) tt

    -- it is canonical, and seen by another level
    pub filled_canonical : (t : RawTerm) → IsCanonical sig t → IsCanonical sig (filled sig o t)
    filled_canonical t k =
        applied_canonical sig ok o.operator (join o.before (cons t o.after))
        (all_canonical sig (join o.before (cons t o.after)) (Each-join (IsCanonical sig) o.before (cons t o.after) (each_canonical sig o.before clear.before) (k, each_canonical sig o.after clear.after)))

    on_some : (p : Open) (f : ℕ) (ts : RawTerms) → IsLong ts → IsSeenBy sig p (apply f ts)
    on_some p f nil l = absurd l
    on_some p f (cons t ts) l = record { not_identity = λ h. is_identity-arguments (identity_of sig p.operator) f t ts; not_numeral = λ n s e m. cc }

    pub long_all : (es : RawTerms) → IsLong es → IsLong (with_all sig o es)
    long_all es l = long-arranged (is_comm sig o.operator) (join o.before (join es o.after)) (longer o.before)
      where
        longer : (b : RawTerms) → IsLong (join b (join es o.after))
        longer nil = long-join es o.after l
        longer (cons t b) = tt

    -- where the term comes as several arguments, these are fewer than all
    pub filled_several : (t : RawTerm) → IsCanonical sig t → IsSeenBy sig o t → is_spread sig o t ≡ true → (filled sig o t ≡ apply o.operator (with_all sig o (args_of t))) × AreSeveral (args_of t)
    filled_several t k seen s =
        let r = and_parts (is_assoc sig o.operator) (stands_on o.operator t) s in
        let (e, l) = stands_on_its o.operator t r.0 k r.1 in
        (ap (filled sig o) e ∙ filled_spread (args_of t) r.0 (subst (IsSeenBy sig o) e seen) l, l)

    pub several_fewer : (t : RawTerm) → is_spread sig o t ≡ true → number_of_terms (args_of t) < number_of_terms (with_all sig o (args_of t))
    several_fewer t s =
        let r = and_parts (is_assoc sig o.operator) (stands_on o.operator t) s in
        let beside = long_number (join o.before o.after) (clear.others r.0) in
        omega (arith, beside, number-join o.before o.after, number_all sig o (args_of t))

    pub filled_seen : (p : Open) (t : RawTerm) → IsCanonical sig t → IsSeenBy sig o t → IsSeenBy sig p (filled sig o t)
    filled_seen p t k seen = by_spread (is_spread sig o t) refl
      where
        by_spread : (m : Bool) → is_spread sig o t ≡ m → IsSeenBy sig p (filled sig o t)
        by_spread false s = subst (IsSeenBy sig p) (sym (filled_one t s seen)) (on_some p o.operator (with_all sig o (cons t nil)) (long_all (cons t nil) tt))
        by_spread true s =
            let (v, l) = filled_several t k seen s in
            subst (IsSeenBy sig p) (sym v) (on_some p o.operator (with_all sig o (args_of t)) (long_all (args_of t) (long_several (args_of t) l)))

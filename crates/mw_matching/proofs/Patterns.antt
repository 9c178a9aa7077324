-- Rigid arguments become elements; so the splits that take them first lose nothing.
use Rattle.std.specs.Prelude.{◌≡◌, ◌<◌, ◌≤◌, ◌⊎◌, ◌+◌, ℕ, suc, List, length, Bool, true, false, not, ◌&&◌, ◌||◌, cond, nat_eq, nat_lt, Option, Some, None, is_some, unwrap_or, refl}
use Rattle.std.proofs.Common.{ap, sym, subst, ◌∙◌, inl, inr, arith}
use Rattle.std.proofs.lemmas.Bool.{and_parts, not-true, ltb-true, cases_lt}
use Rattle.mw_logic.specs.Term.{RawTerm, numeral, quoted, variable, apply, RawTerms, nil, cons, join}
use Rattle.mw_logic.specs.Signature.{Signature, Identity, constant_of, numeral_of}
use Rattle.mw_logic.specs.Accepted.{IsAccepted}
use Rattle.mw_logic.specs.Kinds.{is_successor}
use Rattle.mw_logic.specs.Parts.{is_assoc, number_of_terms}
use Rattle.mw_logic.specs.TermOrder.{insert_term, sorted_terms, stands_after}
use Rattle.mw_logic.specs.NormalForm.{is_comm, identity_of, is_identity, own_arguments, elements, flattened, rebuilt, arranged, counted, applied_in}
use Rattle.mw_logic.proofs.Canonical.{IsElement, IsCanonical, is_identity-arguments, arranged-nil, arranged-one, Backed, own_arguments-backed}
use Rattle.mw_split.specs.Lists.{AllOnce}
use Rattle.mw_position.specs.Positions.{IsNumbered, IsWithin, AreWithin}
use Rattle.mw_arguments.specs.Arguments.{Gives, HasArity}
use Rattle.mw_arguments.proofs.ListPieces.{number_join}
use Rattle.mw_arguments.proofs.Once.{once_same}
use Rattle.mw_arguments.proofs.Splits.{exact}
use Rattle.mw_matching.specs.Matches.{matches, evaluated, evaluated_all, Fits, IsMatch, HasArities, IsTheory}
use Rattle.mw_matching.specs.Rigid.{FirstAreElements, rigid_splits}
use Rattle.mw_matching.specs.Patterns.{is_one, number_ones, has_one_under_both, is_rigid, leading, behind, splits_for, theory, AreSingle, InCase, FrontsFit}
use Rattle.mw_matching.proofs.Matches.{get_there, number_evaluated, matches_once}
use Rattle.mw_matching.proofs.Rigid.{rigid_given_once}

insert_some : (t : RawTerm) (us : RawTerms) → (u : RawTerm) × (vs : RawTerms) × (insert_term t us ≡ cons u vs)
insert_some t nil = (t, nil, refl)
insert_some t (cons u us) = by_test (stands_after t u)
  where
    by_test : (b : Bool) → (x : RawTerm) × (vs : RawTerms) × (cond b (cons u (insert_term t us)) (cons t (cons u us)) ≡ cons x vs)
    by_test true = (u, insert_term t us, refl)
    by_test false = (t, cons u us, refl)

arranged_some : (c : Bool) (t : RawTerm) (ts : RawTerms) → (u : RawTerm) × (vs : RawTerms) × (arranged c (cons t ts) ≡ cons u vs)
arranged_some false t ts = (t, ts, refl)
arranged_some true t ts = insert_some t (sorted_terms ts)

counted_free : (g : ℕ) (ts : RawTerms) → counted false g ts ≡ apply g ts
counted_free g nil = refl
counted_free g (cons (numeral n) nil) = refl
counted_free g (cons (quoted q) nil) = refl
counted_free g (cons (variable x) nil) = refl
counted_free g (cons (apply h xs) nil) = refl
counted_free g (cons t (cons u us)) = refl

quoted_element : (e : Option Identity) (f : ℕ) (q : List ℕ) → IsElement e f (quoted q)
quoted_element None f q = refl
quoted_element (Some (constant_of c)) f q = refl
quoted_element (Some (numeral_of n)) f q = refl

-- in order they are as many
number_insert : (t : RawTerm) (us : RawTerms) → number_of_terms (insert_term t us) ≡ suc (number_of_terms us)
number_insert t nil = refl
number_insert t (cons u us) = by_test (stands_after t u) (number_insert t us)
  where
    by_test : (b : Bool) → number_of_terms (insert_term t us) ≡ suc (number_of_terms us) → number_of_terms (cond b (cons u (insert_term t us)) (cons t (cons u us))) ≡ suc (suc (number_of_terms us))
    by_test true r = ap suc r
    by_test false r = refl

number_sorted : (ts : RawTerms) → number_of_terms (sorted_terms ts) ≡ number_of_terms ts
number_sorted nil = refl
number_sorted (cons t ts) = number_insert t (sorted_terms ts) ∙ ap suc (number_sorted ts)

number_arranged : (c : Bool) (ts : RawTerms) → number_of_terms (arranged c ts) ≡ number_of_terms ts
number_arranged true ts = number_sorted ts
number_arranged false ts = refl

-- two terms or more, put under g, are one element under another operator
several_element : (e : Option Identity) (f : ℕ) (d : Option Identity) (g : ℕ) (ts : RawTerms) → nat_eq f g ≡ false → 2 ≤ number_of_terms ts → IsElement e f (rebuilt d g ts)
several_element e f d g nil n l = absurd (omega (arith, l))
several_element e f d g (cons t nil) n l = absurd (omega (arith, l))
several_element e f d g (cons t (cons u us)) n l = rw (is_identity-arguments e g t (cons u us), n) refl

-- one term is itself
alone_element : (e : Option Identity) (f : ℕ) (d : Option Identity) (g : ℕ) (c : Bool) (ts : RawTerms) (t : RawTerm) → ts ≡ cons t nil → IsElement e f t → IsElement e f (rebuilt d g (arranged c ts))
alone_element e f d g c ts t w o = subst (λ us. IsElement e f (rebuilt d g us)) (sym (ap (arranged c) w ∙ arranged-one c t)) o

none_left : (ts : RawTerms) → number_of_terms ts ≤ 0 → ts ≡ nil
none_left nil l = refl
none_left (cons t ts) l = absurd (omega (arith, l))

some_backed : (ts : RawTerms) → Backed None ts → 1 ≤ number_of_terms ts
some_backed nil b = cc
some_backed (cons t ts) b = omega arith

-- where there is no identity each term becomes an element, or more
all_become : (f : ℕ) (ts : RawTerms) → number_of_terms ts ≤ number_of_terms (flattened None f ts)
all_become f nil = omega arith
all_become f (cons t ts) =
    let m = number_join (own_arguments f t) (flattened None f ts) in
    let s = some_backed (own_arguments f t) (own_arguments-backed None f t) in
    let l = all_become f ts in
    omega (arith, m, s, l)

module _ (sig : Signature) (ok : IsAccepted sig) (has : ℕ → RawTerm → Bool) (single : ℕ → ℕ → Bool) (singles : AreSingle sig has single) where
  -- under a free operator other than f stands one element
  free_element : (f g : ℕ) (ts : RawTerms) → nat_eq f g ≡ false → is_assoc sig g ≡ false → is_successor sig g ≡ false → (ts ≡ nil → is_identity (identity_of sig f) (apply g nil) ≡ false)
      → IsElement (identity_of sig f) f (applied_in sig g ts)
  free_element f g ts n a s i =
      let e : applied_in sig g ts ≡ apply g (arranged (is_comm sig g) ts) = rw (a, s) (counted_free g (arranged (is_comm sig g) ts)) in
      subst (IsElement (identity_of sig f) f) (sym e) (of ts i)
    where
      of : (ts : RawTerms) → (ts ≡ nil → is_identity (identity_of sig f) (apply g nil) ≡ false) → IsElement (identity_of sig f) f (apply g (arranged (is_comm sig g) ts))
      of nil i = subst (λ us. IsElement (identity_of sig f) f (apply g us)) (sym (arranged-nil (is_comm sig g))) (rw (i refl) refl)
      of (cons t ts) i =
          let (u, us, w) = arranged_some (is_comm sig g) t ts in
          subst (λ us. IsElement (identity_of sig f) f (apply g us)) (sym w) (rw (is_identity-arguments (identity_of sig f) g u us, n) refl)

  -- so does it under an associative one that stands on two elements or more
  assoc_element : (f g : ℕ) (ts : RawTerms) → nat_eq f g ≡ false → is_assoc sig g ≡ true → 2 ≤ number_of_terms (flattened (identity_of sig g) g ts) → IsElement (identity_of sig f) f (applied_in sig g ts)
  assoc_element f g ts n a l =
      let m = number_arranged (is_comm sig g) (flattened (identity_of sig g) g ts) in
      rw a (several_element (identity_of sig f) f (identity_of sig g) g (arranged (is_comm sig g) (flattened (identity_of sig g) g ts)) n (omega (arith, m, l)))

  one_element : (f : ℕ) (q : RawTerm) (us : List RawTerm) → is_one sig single f q ≡ true → Fits sig (theory sig has single) 0 us → IsWithin (length us) q → IsElement (identity_of sig f) f (evaluated sig us q)
  one_element f (numeral n) us h g w = rw (not-true (is_identity (identity_of sig f) (numeral n)) h) refl
  one_element f (quoted q) us h g w = quoted_element (identity_of sig f) f q
  one_element f (variable x) us h g w =
      let (u, e) = get_there us x.sort w in
      let p = g x.sort u (omega arith) e in
      subst (IsElement (identity_of sig f) f) (ap (λ o. unwrap_or o (variable x)) (sym e)) (singles f x.sort u h p.0 p.1)
  one_element f (apply h ts) us r g w =
      let (n, r1) = and_parts _ _ r in
      let (s, i) = and_parts _ _ r1 in
      by_assoc (not-true (nat_eq f h) n) (not-true (is_identity (identity_of sig f) (apply h ts)) i) (is_assoc sig h) refl s
    where
      not_named : (ts : RawTerms) → is_identity (identity_of sig f) (apply h ts) ≡ false → evaluated_all sig us ts ≡ nil → is_identity (identity_of sig f) (apply h nil) ≡ false
      not_named nil i e = i
      not_named (cons t ts) i e = cc

      several : (d : Option Identity) → identity_of sig h ≡ d → not (is_some d) ≡ true → nat_lt 1 (number_of_terms ts) ≡ true → 2 ≤ number_of_terms (flattened (identity_of sig h) h (evaluated_all sig us ts))
      several None e n l =
          let a = ltb-true 1 (number_of_terms ts) l in
          let m = number_evaluated sig ok (theory sig has single) us ts in
          let k : number_of_terms (evaluated_all sig us ts) ≤ number_of_terms (flattened (identity_of sig h) h (evaluated_all sig us ts)) = rw e (all_become h (evaluated_all sig us ts)) in
          omega (arith, a, m, k)
      several (Some d) e n l = cc

      by_assoc : nat_eq f h ≡ false → is_identity (identity_of sig f) (apply h ts) ≡ false → (b : Bool) → is_assoc sig h ≡ b
          → cond b (not (is_some (identity_of sig h)) && nat_lt 1 (number_of_terms ts)) (not (is_successor sig h)) ≡ true → IsElement (identity_of sig f) f (applied_in sig h (evaluated_all sig us ts))
      by_assoc n i false a s = free_element f h (evaluated_all sig us ts) n a (not-true (is_successor sig h) s) (λ e. not_named ts i e)
      by_assoc n i true a s = let (d, l) = and_parts _ _ s in assoc_element f h (evaluated_all sig us ts) n a (several (identity_of sig h) refl d l)

  -- what becomes one element stays one, and the others may become more
  ones_become : (f : ℕ) (qs : RawTerms) (us : List RawTerm) → Fits sig (theory sig has single) 0 us → AreWithin (length us) qs → number_ones sig single f qs ≤ number_of_terms (flattened (identity_of sig f) f (evaluated_all sig us qs))
  ones_become f nil us g w = omega arith
  ones_become f (cons q qs) us g w = by_test (ones_become f qs us g w.1) (is_one sig single f q) refl
    where
      m : number_of_terms (flattened (identity_of sig f) f (evaluated_all sig us (cons q qs))) ≡ number_of_terms (elements (identity_of sig f) f (evaluated sig us q)) + number_of_terms (flattened (identity_of sig f) f (evaluated_all sig us qs))
      m = number_join (elements (identity_of sig f) f (evaluated sig us q)) (flattened (identity_of sig f) f (evaluated_all sig us qs))

      by_test : number_ones sig single f qs ≤ number_of_terms (flattened (identity_of sig f) f (evaluated_all sig us qs)) → (b : Bool) → is_one sig single f q ≡ b
          → cond b (suc (number_ones sig single f qs)) (number_ones sig single f qs) ≤ number_of_terms (flattened (identity_of sig f) f (evaluated_all sig us (cons q qs)))
      by_test l true r =
          let k : number_of_terms (elements (identity_of sig f) f (evaluated sig us q)) ≡ 1 = ap number_of_terms (one_element f q us r g w.0) in
          omega (arith, m, k, l)
      by_test l false r = omega (arith, m, l)

  -- zs is one term, which is an element under f
  abbrev IsAlone : ℕ → RawTerms → Type 0
  IsAlone f zs = (t : RawTerm) × (zs ≡ cons t nil) × IsElement (identity_of sig f) f t

  -- of arguments that become one element under g alone it is one under f too, if one of them becomes one under both
  one_left : (f g : ℕ) (qs : RawTerms) (us : List RawTerm) → has_one_under_both sig single f g qs ≡ true → Fits sig (theory sig has single) 0 us → AreWithin (length us) qs
      → number_of_terms (flattened (identity_of sig g) g (evaluated_all sig us qs)) ≤ 1 → IsAlone f (flattened (identity_of sig g) g (evaluated_all sig us qs))
  one_left f g nil us h k w l = cc
  one_left f g (cons q qs) us h k w l =
      by_test (elements (identity_of sig g) g (evaluated sig us q)) (flattened (identity_of sig g) g (evaluated_all sig us qs)) (λ i. one_element g q us i k w.0) (λ h l. one_left f g qs us h k w.1 l)
      (is_one sig single f q && is_one sig single g q) refl h l
    where
      by_test : (own rest : RawTerms) → (is_one sig single g q ≡ true → own ≡ cons (evaluated sig us q) nil) → (has_one_under_both sig single f g qs ≡ true → number_of_terms rest ≤ 1 → IsAlone f rest)
          → (b : Bool) → (is_one sig single f q && is_one sig single g q) ≡ b → (b || has_one_under_both sig single f g qs) ≡ true → number_of_terms (join own rest) ≤ 1 → IsAlone f (join own rest)
      by_test own rest one later true e h l =
          let (a, b) = and_parts _ _ e in
          let o = one b in
          let n : number_of_terms own ≡ 1 = ap number_of_terms o in
          let m = number_join own rest in
          (evaluated sig us q, ap (λ xs. join xs rest) o ∙ ap (cons (evaluated sig us q)) (none_left rest (omega (arith, m, n, l))), one_element f q us a k w.0)
      by_test own rest one later false e h l =
          let m = number_join own rest in
          let (t, z, o) = later h (omega (arith, m, l)) in
          let n : number_of_terms rest ≡ 1 = ap number_of_terms z in
          (t, ap (λ xs. join xs rest) (none_left own (omega (arith, m, n, l))) ∙ z, o)

  -- under an associative operator stand two elements, or one that is one under f
  held_element : (f g : ℕ) (ts : RawTerms) → nat_eq f g ≡ false → is_assoc sig g ≡ true → (number_of_terms (flattened (identity_of sig g) g ts) ≤ 1 → IsAlone f (flattened (identity_of sig g) g ts))
      → IsElement (identity_of sig f) f (applied_in sig g ts)
  held_element f g ts n a one = by_number (cases_lt 1 (number_of_terms (flattened (identity_of sig g) g ts)))
    where
      by_number : (1 < number_of_terms (flattened (identity_of sig g) g ts)) ⊎ (number_of_terms (flattened (identity_of sig g) g ts) ≤ 1) → IsElement (identity_of sig f) f (applied_in sig g ts)
      by_number (inl l) = assoc_element f g ts n a (omega (arith, l))
      by_number (inr l) = let (t, w, o) = one l in rw a (alone_element (identity_of sig f) f (identity_of sig g) g (is_comm sig g) (flattened (identity_of sig g) g ts) t w o)

  pub rigid_element : (f : ℕ) (q : RawTerm) (us : List RawTerm) → is_rigid sig single f q ≡ true → Fits sig (theory sig has single) 0 us → IsWithin (length us) q → IsElement (identity_of sig f) f (evaluated sig us q)
  rigid_element f (numeral n) us h g w = one_element f (numeral n) us h g w
  rigid_element f (quoted q) us h g w = one_element f (quoted q) us h g w
  rigid_element f (variable x) us h g w = one_element f (variable x) us h g w
  rigid_element f (apply h ts) us r g w = by_top (is_one sig single f (apply h ts)) refl r
    where
      by_ones : (b : Bool) → nat_lt 1 (number_ones sig single h ts) ≡ b → (b || has_one_under_both sig single f h ts) ≡ true → number_of_terms (flattened (identity_of sig h) h (evaluated_all sig us ts)) ≤ 1
          → IsAlone f (flattened (identity_of sig h) h (evaluated_all sig us ts))
      by_ones true e r l =
          let a = ltb-true 1 (number_ones sig single h ts) e in
          let k = ones_become h ts us g w in
          absurd (omega (arith, a, k, l))
      by_ones false e r l = one_left f h ts us r g w l

      by_top : (b : Bool) → is_one sig single f (apply h ts) ≡ b
          → (b || (not (nat_eq f h) && (is_assoc sig h && (nat_lt 1 (number_ones sig single h ts) || has_one_under_both sig single f h ts)))) ≡ true → IsElement (identity_of sig f) f (applied_in sig h (evaluated_all sig us ts))
      by_top true e r = one_element f (apply h ts) us e g w
      by_top false e r =
          let (n, r1) = and_parts _ _ r in
          let (a, r2) = and_parts _ _ r1 in
          held_element f h (evaluated_all sig us ts) (not-true (nat_eq f h) n) a (λ l. by_ones (nat_lt 1 (number_ones sig single h ts)) refl r2 l)

  first_elements : (f : ℕ) (qs : RawTerms) (us : List RawTerm) → Fits sig (theory sig has single) 0 us → AreWithin (length us) qs → FirstAreElements (identity_of sig f) f (leading sig single f qs) (evaluated_all sig us qs)
  first_elements f nil us g w = tt
  first_elements f (cons q qs) us g w = by_test (is_rigid sig single f q) refl (first_elements f qs us g w.1)
    where
      by_test : (b : Bool) → is_rigid sig single f q ≡ b → FirstAreElements (identity_of sig f) f (leading sig single f qs) (evaluated_all sig us qs)
          → FirstAreElements (identity_of sig f) f (cond b (suc (leading sig single f qs)) 0) (evaluated_all sig us (cons q qs))
      by_test true e r = (rigid_element f q us e g w.0, r)
      by_test false e r = tt

  counts : (f : ℕ) (qs : RawTerms) → leading sig single f qs + behind sig single f qs ≡ number_of_terms qs
  counts f nil = omega arith
  counts f (cons q qs) = by_test (is_rigid sig single f q) (counts f qs)
    where
      by_test : (b : Bool) → leading sig single f qs + behind sig single f qs ≡ number_of_terms qs → cond b (suc (leading sig single f qs)) 0 + cond b (behind sig single f qs) (suc (number_of_terms qs)) ≡ suc (number_of_terms qs)
      by_test true r = omega (arith, r)
      by_test false r = omega arith

  -- the splits that take rigid arguments first make a theory
  pub rigid_theory : IsTheory sig (theory sig has single) (FrontsFit sig single)
  rigid_theory = record {
    exact = λ f qs t a k. by_axioms f qs t a k (is_assoc sig f) (is_comm sig f) refl refl;
    shown = λ f qs us g w. known (is_assoc sig f && is_comm sig f) (first_elements f qs us g w);
  }
    where
      known : {P : Type 0} (b : Bool) → P → InCase b P
      known true p = p
      known false p = tt

      plain : (f : ℕ) (qs : RawTerms) (t : RawTerm) → HasArity sig f (number_of_terms qs) → IsCanonical sig t → (b : Bool) → (is_assoc sig f && is_comm sig f) ≡ b → b ≡ false
          → AllOnce (λ ts. Gives sig f (number_of_terms qs) t ts × FrontsFit sig single f qs ts) (splits_for sig single f qs t)
      plain f qs t a k true e d = cc
      plain f qs t a k false e d = rw e (once_same (Gives sig f (number_of_terms qs) t) _ _ (λ ts g. (g, tt)) (λ ts g. g.0) (exact sig ok f (number_of_terms qs) a t k))

      by_axioms : (f : ℕ) (qs : RawTerms) (t : RawTerm) → HasArity sig f (number_of_terms qs) → IsCanonical sig t → (x y : Bool) → is_assoc sig f ≡ x → is_comm sig f ≡ y
          → AllOnce (λ ts. Gives sig f (number_of_terms qs) t ts × FrontsFit sig single f qs ts) (splits_for sig single f qs t)
      by_axioms f qs t a k true true h c =
          let n = counts f qs in
          let s = a.some h in
          let l = rigid_given_once sig ok f h c (leading sig single f qs) (behind sig single f qs) (omega (arith, n, s)) t k in
          rw (h, c) (subst (λ m. AllOnce (λ ts. Gives sig f m t ts × FirstAreElements (identity_of sig f) f (leading sig single f qs) ts) (rigid_splits (identity_of sig f) f (leading sig single f qs) (behind sig single f qs) (elements (identity_of sig f) f t))) n l)
      by_axioms f qs t a k false y h c = plain f qs t a k (is_assoc sig f && is_comm sig f) refl (rw h refl)
      by_axioms f qs t a k true false h c = plain f qs t a k (is_assoc sig f && is_comm sig f) refl (rw (h, c) refl)

  -- all matches of a pattern by these splits, each once
  pub matches_by_splits_once : (p t : RawTerm) (vs : List RawTerm) → HasArities sig p → IsNumbered (length vs) p → Fits sig (theory sig has single) 0 vs → IsCanonical sig t
      → AllOnce (IsMatch sig (theory sig has single) p t vs) (matches (theory sig has single) p t vs)
  matches_by_splits_once = matches_once sig ok (theory sig has single) (FrontsFit sig single) rigid_theory

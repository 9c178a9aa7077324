-- The list of entries for a term: each match for the whole and, where wanted, for a proper part, and each once.
use Rattle.std.specs.Prelude.{◌≡◌, ◌≤◌, ◌⊎◌, ℕ, List, [], ◌++◌, map, length, Bool, true, false, not, ◌&&◌, cond, nat_eq, ◌-◌, Option, Some, None, refl}
use Rattle.std.proofs.Common.{inl, inr, ap, sym, subst, ◌∙◌, arith, append-nil}
use Rattle.std.proofs.lemmas.Bool.{both_ways, and_parts, not-true}
use Rattle.std.proofs.lemmas.Option.{none-some}
use Rattle.mw_logic.specs.Term.{RawTerm, numeral, quoted, variable, apply, RawTerms, nil, cons}
use Rattle.mw_logic.specs.Signature.{Signature, Identity, constant_of, numeral_of}
use Rattle.mw_logic.specs.Accepted.{IsAccepted}
use Rattle.mw_logic.specs.CanonicalPart.{AreSeveral}
use Rattle.mw_logic.specs.Parts.{is_assoc, number_of_terms}
use Rattle.mw_logic.specs.NormalForm.{is_comm, identity_of, is_identity, own_arguments, elements, applied_in}
use Rattle.mw_logic.proofs.Canonical.{IsElement, assoc-true, arranged-nil, is_identity-arguments}
use Rattle.mw_split.specs.Lists.{AllOnce}
use Rattle.mw_position.specs.Positions.{counted, IsNumbered}
use Rattle.mw_position.proofs.Counting.{within_counted}
use Rattle.mw_arguments.specs.Places.{chosen}
use Rattle.mw_arguments.proofs.Once.{once_mapped, once_same, once_none}
use Rattle.mw_matching.specs.Matches.{Theory, evaluated, Fits, IsMatch, HasArities}
use Rattle.mw_matching.specs.Patterns.{is_rigid, theory}
use Rattle.mw_matching.specs.Found.{Values, are_none, fits, is_single, found}
use Rattle.mw_matching.proofs.Matches.{fits_longer}
use Rattle.mw_matching.proofs.Patterns.{rigid_element}
use Rattle.mw_matching.proofs.FoundMatches.{found_once}
use Rattle.mw_matching.proofs.FoundSingle.{fits_single}
use Rattle.mw_solving.specs.Values.{IsValue}
use Rattle.mw_solving.specs.Inside.{Entry, joins, whole_entry, left_entries, entries_from, proper_entries, entries}
use Rattle.mw_solving.proofs.Members.{once_joined}
use Rattle.mw_solving.proofs.Parts.{several_number, elements_several, arguments_several}
use Rattle.mw_solving.proofs.ProperParts.{HasPart, part_chosen, parts_once}

-- us are values by which p's instance is t or, where `inside`, a proper part that these numbers take of t
abbrev pub HasEntry : Signature → Theory → RawTerm → RawTerm → Values → Bool → Option (List ℕ) → Values → Type 0
HasEntry sig T p t vs inside None us = IsMatch sig T p t vs us
HasEntry sig T p t vs false (Some ks) us = ⊥
HasEntry sig T p t vs true (Some ks) us = HasPart sig T p t vs (Some ks) us

-- a pattern that is the identity becomes no element
identity_instance : (sig : Signature) (e : Option Identity) (p : RawTerm) (us : Values) → HasArities sig p → is_identity e p ≡ true → is_identity e (evaluated sig us p) ≡ true
identity_instance sig e (numeral n) us a i = i
identity_instance sig e (quoted q) us a i = i
identity_instance sig None (variable x) us a i = cc
identity_instance sig (Some i) (variable x) us a w = absurd (not_variable i w)
  where
    not_variable : (i : Identity) → is_identity (Some i) (variable x) ≡ true → ⊥
    not_variable (constant_of c) w = cc
    not_variable (numeral_of n) w = cc
identity_instance sig e (apply g (cons t ts)) us a i = absurd (both_ways _ (is_identity-arguments e g t ts) i)
identity_instance sig e (apply g nil) us a i = by_assoc (is_assoc sig g) refl
  where
    by_assoc : (b : Bool) → is_assoc sig g ≡ b → is_identity e (applied_in sig g nil) ≡ true
    by_assoc true h = let l = a.0.some h in absurd (omega (arith, l))
    by_assoc false h = let w : applied_in sig g nil ≡ apply g nil = rw (h, arranged-nil (is_comm sig g)) refl in ap (is_identity e) w ∙ i

-- there are own arguments
own_some : (f : ℕ) (t : RawTerm) → are_none (own_arguments f t) ≡ false
own_some f (numeral n) = refl
own_some f (quoted q) = refl
own_some f (variable x) = refl
own_some f (apply g nil) = refl
own_some f (apply g (cons t ts)) = by_test (nat_eq f g)
  where
    by_test : (b : Bool) → are_none (cond b (cons t ts) (cons (apply g (cons t ts)) nil)) ≡ false
    by_test true = refl
    by_test false = refl

named_none : (e : Option Identity) (f : ℕ) (t : RawTerm) (b : Bool) → is_identity e t ≡ b → are_none (elements e f t) ≡ b
named_none e f t true w = rw w refl
named_none e f t false w = rw w (own_some f t)

module _ (sig : Signature) (ok : IsAccepted sig) (single : List (List ℕ)) (p : RawTerm) (vs : Values) where
  abbrev T : Theory
  T = theory sig (fits sig single) (is_single single)

  abbrev Proper : RawTerm → Entry → Type 0
  Proper t x = HasPart sig T p t vs x.0 x.1

  module _ (m : ℕ) (met : counted (length vs) p ≡ m) (g : Fits sig T 0 vs) (numbered : IsNumbered (length vs) p) (a : HasArities sig p) where
    -- what becomes one element or none becomes no part
    nothing_joined : (f : ℕ) (own : RawTerms) (us : Values) → joins sig single f p ≡ false → AreSeveral own → IsMatch sig T p (apply f own) vs us → ⊥
    nothing_joined f own us j s mt = by_test (is_rigid sig (is_single single) f p) refl (are_none (elements (identity_of sig f) f p)) refl j
      where
        two : 2 ≤ number_of_terms own
        two = several_number own s

        has : elements (identity_of sig f) f (evaluated sig us p) ≡ own
        has = ap (elements (identity_of sig f) f) mt.gives ∙ elements_several (identity_of sig f) f own s

        rigid : is_rigid sig (is_single single) f p ≡ true → ⊥
        rigid r =
            let l = mt.size in
            let one : IsElement (identity_of sig f) f (evaluated sig us p) =
            rigid_element sig ok (fits sig single) (is_single single) (fits_single sig single) f p us r (fits_longer sig ok T vs us g mt.begins mt.fits) (within_counted (length vs) (length us) p (omega (arith, l))) in
            let n : number_of_terms own ≡ 1 = ap number_of_terms (sym has ∙ one) in
            omega (arith, n, two)

        none : (b : Bool) → is_identity (identity_of sig f) p ≡ b → are_none (elements (identity_of sig f) f p) ≡ true → ⊥
        none false i w = both_ways _ (named_none (identity_of sig f) f p false i) w
        none true i w =
            let n : is_identity (identity_of sig f) (evaluated sig us p) ≡ true = identity_instance sig (identity_of sig f) p us a i in
            let z : elements (identity_of sig f) f (evaluated sig us p) ≡ nil = rw n refl in
            let k : number_of_terms own ≡ 0 = ap number_of_terms (sym has ∙ z) in
            omega (arith, k, two)

        by_test : (x : Bool) → is_rigid sig (is_single single) f p ≡ x → (y : Bool) → are_none (elements (identity_of sig f) f p) ≡ y → (not x && not y) ≡ false → ⊥
        by_test true r y w j = rigid r
        by_test false r true w j = none (is_identity (identity_of sig f) p) refl w
        by_test false r false w j = both_ways _ j refl

    nothing_taken : (f : ℕ) (h : is_assoc sig f ≡ true) (args : RawTerms) → joins sig single f p ≡ false → (x : Entry) → Proper (apply f args) x → ⊥
    nothing_taken f h args j (None, us) k = k
    nothing_taken f h args j (Some ks, us) (w, d, mt) =
        let q = part_chosen sig ok f h args ks w d in
        nothing_joined f (chosen 1 ks args) us j q.several (subst (λ w. IsMatch sig T p w vs us) q.part mt)

    -- only an associative operator has proper parts
    not_taken : (f : ℕ) (args : RawTerms) → is_assoc sig f ≡ false → (x : Entry) → Proper (apply f args) x → ⊥
    not_taken f args h (None, us) k = k
    not_taken f args h (Some ks, us) (w, d, mt) =
        let t : apply f args ≡ apply d.takes.operator d.takes.args = d.takes.term in
        let is_f : d.takes.operator ≡ f = cc in
        both_ways _ (ap (is_assoc sig) is_f ∙ h) (assoc-true sig d.takes.operator d.takes.assoc.operator d.takes.assoc.is_there d.takes.assoc.assoc)

    module _ (free : length single ≤ m) where
      pub proper_once : (t : RawTerm) → IsValue sig t → AllOnce (Proper t) (proper_entries sig single p m vs t)
      proper_once (numeral n) v = once_none (Proper (numeral n)) none
        where
          none : (x : Entry) → Proper (numeral n) x → ⊥
          none (None, us) k = k
          none (Some ks, us) (w, d, mt) = let t : numeral n ≡ apply d.takes.operator d.takes.args = d.takes.term in cc
      proper_once (quoted q) v = once_none (Proper (quoted q)) none
        where
          none : (x : Entry) → Proper (quoted q) x → ⊥
          none (None, us) k = k
          none (Some ks, us) (w, d, mt) = let t : quoted q ≡ apply d.takes.operator d.takes.args = d.takes.term in cc
      proper_once (variable y) v = once_none (Proper (variable y)) none
        where
          none : (x : Entry) → Proper (variable y) x → ⊥
          none (None, us) k = k
          none (Some ks, us) (w, d, mt) = let t : variable y ≡ apply d.takes.operator d.takes.args = d.takes.term in cc
      proper_once (apply f args) v = by_test (is_assoc sig f) refl (joins sig single f p) refl
        where
          all : (h : is_assoc sig f ≡ true) → joins sig single f p ≡ true → AllOnce (Proper (apply f args))
              (left_entries sig single p m vs f args 0 ++ cond (is_comm sig f) [] (entries_from sig single p m vs f args 1 (number_of_terms args - 2)))
          all h j =
              let (r, k) = and_parts (not (is_rigid sig (is_single single) f p)) (not (are_none (elements (identity_of sig f) f p))) j in
              let named : is_identity (identity_of sig f) p ≡ false = not_named (is_identity (identity_of sig f) p) refl (not-true (are_none (elements (identity_of sig f) f p)) k) in
              parts_once sig ok single f h p named vs m met args (several_number args (arguments_several sig ok f h args v)) g numbered a v.canonical free
            where
              not_named : (b : Bool) → is_identity (identity_of sig f) p ≡ b → are_none (elements (identity_of sig f) f p) ≡ false → b ≡ false
              not_named false i w = refl
              not_named true i w = absurd (both_ways _ w (named_none (identity_of sig f) f p true i))

          by_test : (x : Bool) → is_assoc sig f ≡ x → (y : Bool) → joins sig single f p ≡ y → AllOnce (Proper (apply f args)) (cond (x && y)
              (left_entries sig single p m vs f args 0 ++ cond (is_comm sig f) [] (entries_from sig single p m vs f args 1 (number_of_terms args - 2))) [])
          by_test false h y j = once_none (Proper (apply f args)) (not_taken f args h)
          by_test true h false j = once_none (Proper (apply f args)) (nothing_taken f h args j)
          by_test true h true j = all h j

      -- the whole and, where wanted, the proper parts
      abbrev Whole : RawTerm → Entry → Type 0
      Whole t x = (x.0 ≡ None) × IsMatch sig T p t vs x.1

      whole_once : (t : RawTerm) → IsValue sig t → AllOnce (Whole t) (map whole_entry (found sig single p t vs))
      whole_once t v =
          once_mapped (IsMatch sig T p t vs) (Whole t) whole_entry (found sig single p t vs) (found_once sig ok single p t vs a numbered g v.canonical)
          (λ us mt. (refl, mt)) (λ x y. (x.1, y.1, ap {B = Entry} (λ o. (o, x.1)) (sym y.0))) (λ us ws mt nt e. ap (λ (x : Entry). x.1) e)

      pub entries_once : (inside : Bool) (t : RawTerm) → IsValue sig t → AllOnce (λ (x : Entry). HasEntry sig T p t vs inside x.0 x.1) (entries sig single p m vs inside t)
      entries_once false t v =
          subst (AllOnce (λ (x : Entry). HasEntry sig T p t vs false x.0 x.1)) (sym (append-nil (map whole_entry (found sig single p t vs))))
          (once_same (Whole t) (λ (x : Entry). HasEntry sig T p t vs false x.0 x.1) (map whole_entry (found sig single p t vs)) there back (whole_once t v))
        where
          there : (x : Entry) → Whole t x → HasEntry sig T p t vs false x.0 x.1
          there (None, us) (e, mt) = mt
          there (Some ks, us) (e, mt) = absurd (none-some ks (sym e))

          back : (x : Entry) → HasEntry sig T p t vs false x.0 x.1 → Whole t x
          back (None, us) mt = (refl, mt)
          back (Some ks, us) k = absurd k
      entries_once true t v =
          once_same (λ x. Whole t x ⊎ Proper t x) (λ (x : Entry). HasEntry sig T p t vs true x.0 x.1) (entries sig single p m vs true t) there back
          (once_joined (Whole t) (Proper t) (map whole_entry (found sig single p t vs)) (proper_entries sig single p m vs t) (whole_once t v) (proper_once t v) apart)
        where
          there : (x : Entry) → Whole t x ⊎ Proper t x → HasEntry sig T p t vs true x.0 x.1
          there (None, us) (inl y) = y.1
          there (Some ks, us) (inl y) = absurd (none-some ks (sym y.0))
          there (None, us) (inr k) = absurd k
          there (Some ks, us) (inr k) = k

          back : (x : Entry) → HasEntry sig T p t vs true x.0 x.1 → Whole t x ⊎ Proper t x
          back (None, us) mt = inl (refl, mt)
          back (Some ks, us) k = inr k

          apart : (x : Entry) → Whole t x → Proper t x → ⊥
          apart (None, us) y k = k
          apart (Some ks, us) y k = none-some ks (sym y.0)

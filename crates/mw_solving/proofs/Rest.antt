-- A pattern with more elements behind: its matches are values of the pattern's own variables, and one for these elements.
use Rattle.std.specs.Prelude.{◌≡◌, ◌<◌, ◌≤◌, ◌⊎◌, ℕ, suc, List, [], ◌∷◌, ◌++◌, length, take, Bool, true, false, cond, nat_eq, Option, Some, slice_get, unwrap_or, refl}
use Rattle.std.proofs.Common.{inl, inr, ap, sym, subst, ◌∙◌, arith, length-append}
use Rattle.std.proofs.lemmas.Bool.{both_ways, cases_lt, eqb-true}
use Rattle.std.proofs.lemmas.List.{length-take-le}
use Rattle.std.proofs.lemmas.Option.{same_Some, slice_get_past, slice_get_within}
use Rattle.mw_logic.specs.Term.{RawTerm, numeral, quoted, variable, apply, RawTerms, nil, cons, join}
use Rattle.mw_logic.specs.Signature.{Signature, Identity}
use Rattle.mw_logic.specs.Accepted.{IsAccepted}
use Rattle.mw_logic.specs.Parts.{is_assoc, number_of_terms}
use Rattle.mw_logic.specs.NormalForm.{is_comm, identity_of, is_identity, own_arguments, elements, flattened, arranged}
use Rattle.mw_logic.proofs.SortLaws.{join-nil}
use Rattle.mw_logic.proofs.Canonical.{IsCanonical, arranged-left}
use Rattle.mw_logic.proofs.CanonicalTerms.{elements-applied, flattened-backed}
use Rattle.mw_logic.proofs.Replacing.{flattened-join}
use Rattle.mw_split.specs.Lists.{AllOnce}
use Rattle.mw_position.specs.Positions.{position, counted, counted_all, IsNumbered, AreNumbered, IsWithin, Begins}
use Rattle.mw_position.proofs.Begins.{begins_same, begins_then, begins_at, begins_put, begins_last, begins_append, begins_whole, begins_take, take_begins}
use Rattle.mw_position.proofs.Counting.{counted_grows, within_counted, all_within_counted}
use Rattle.mw_arguments.specs.Arguments.{Gives, Spells, HasArity}
use Rattle.mw_arguments.proofs.Arguments.{in_order, spelled, given}
use Rattle.mw_arguments.proofs.ListPieces.{number_join}
use Rattle.mw_matching.specs.Matches.{Theory, evaluated, evaluated_all, Fits, IsMatch, HasArities, AllHaveArities}
use Rattle.mw_matching.specs.Patterns.{theory}
use Rattle.mw_matching.specs.Found.{Values, fits, is_single, is_element_under_all, found}
use Rattle.mw_matching.proofs.Matches.{get_there, evaluated_longer, evaluated_canonical, all_evaluated_canonical, number_evaluated, fits_longer}
use Rattle.mw_matching.proofs.FoundMatches.{found_once}
use Rattle.mw_solving.specs.Inside.{with_rest}

evaluated-join : (sig : Signature) (us : Values) (ts vs : RawTerms) → evaluated_all sig us (join ts vs) ≡ join (evaluated_all sig us ts) (evaluated_all sig us vs)
evaluated-join sig us nil vs = refl
evaluated-join sig us (cons t ts) vs = ap (cons (evaluated sig us t)) (evaluated-join sig us ts vs)

-- the position behind those that were met
behind_numbered : (n m : ℕ) (ts : RawTerms) → AreNumbered n ts → counted_all n ts ≡ m
    → AreNumbered n (join ts (cons (variable (position m)) nil)) × (counted_all n (join ts (cons (variable (position m)) nil)) ≡ suc m)
behind_numbered n m nil a w = ((omega (arith, w), tt), omega (arith, w))
behind_numbered n m (cons t ts) a w = let (b, d) = behind_numbered (counted n t) m ts a.1 w in ((a.0, b), d)

behind_arities : (sig : Signature) (m : ℕ) (ts : RawTerms) → AllHaveArities sig ts → AllHaveArities sig (join ts (cons (variable (position m)) nil))
behind_arities sig m nil a = (tt, tt)
behind_arities sig m (cons t ts) a = (a.0, behind_arities sig m ts a.1)

-- a pattern's own arguments
own_numbered : (f n : ℕ) (p : RawTerm) → IsNumbered n p → AreNumbered n (own_arguments f p) × (counted_all n (own_arguments f p) ≡ counted n p)
own_numbered f n (numeral k) a = ((tt, tt), refl)
own_numbered f n (quoted q) a = ((tt, tt), refl)
own_numbered f n (variable x) a = ((a, tt), refl)
own_numbered f n (apply g nil) a = ((tt, tt), refl)
own_numbered f n (apply g (cons t ts)) a = by_test (nat_eq f g)
  where
    by_test : (b : Bool) → AreNumbered n (cond b (cons t ts) (cons (apply g (cons t ts)) nil)) × (counted_all n (cond b (cons t ts) (cons (apply g (cons t ts)) nil)) ≡ counted n (apply g (cons t ts)))
    by_test true = (a, refl)
    by_test false = ((a, tt), refl)

own_arities : (sig : Signature) (f : ℕ) (p : RawTerm) → HasArities sig p → AllHaveArities sig (own_arguments f p)
own_arities sig f (numeral k) a = (tt, tt)
own_arities sig f (quoted q) a = (tt, tt)
own_arities sig f (variable x) a = (tt, tt)
own_arities sig f (apply g nil) a = (a, tt)
own_arities sig f (apply g (cons t ts)) a = by_test (nat_eq f g)
  where
    by_test : (b : Bool) → AllHaveArities sig (cond b (cons t ts) (cons (apply g (cons t ts)) nil))
    by_test true = a.1
    by_test false = (a, tt)

module _ (sig : Signature) (ok : IsAccepted sig) (single : List (List ℕ)) (f : ℕ) (h : is_assoc sig f ≡ true) (p : RawTerm) (named : is_identity (identity_of sig f) p ≡ false) where
  abbrev e : Option Identity
  e = identity_of sig f

  abbrev c : Bool
  c = is_comm sig f

  abbrev T : Theory
  T = theory sig (fits sig single) (is_single single)

  -- the instance's elements are those of the instances of the pattern's elements
  elements_evaluated : (us : Values) → Fits sig T 0 us → IsWithin (length us) p → arranged c (flattened e f (evaluated_all sig us (elements e f p))) ≡ elements e f (evaluated sig us p)
  elements_evaluated us g w = rw named (of p g w)
    where
      alone : (p : RawTerm) → Fits sig T 0 us → IsWithin (length us) p → own_arguments f p ≡ cons p nil → arranged c (flattened e f (evaluated_all sig us (own_arguments f p))) ≡ elements e f (evaluated sig us p)
      alone p g w i = rw i (ap (arranged c) (join-nil (elements e f (evaluated sig us p))) ∙ in_order sig ok f h (evaluated sig us p) (evaluated_canonical sig ok T us p g w))

      of : (p : RawTerm) → Fits sig T 0 us → IsWithin (length us) p → arranged c (flattened e f (evaluated_all sig us (own_arguments f p))) ≡ elements e f (evaluated sig us p)
      of (numeral k) g w = alone (numeral k) g w refl
      of (quoted q) g w = alone (quoted q) g w refl
      of (variable x) g w = alone (variable x) g w refl
      of (apply k nil) g w = alone (apply k nil) g w refl
      of (apply k (cons t ts)) g w = by_test (nat_eq f k) refl
        where
          by_test : (b : Bool) → nat_eq f k ≡ b → arranged c (flattened e f (evaluated_all sig us (own_arguments f (apply k (cons t ts))))) ≡ elements e f (evaluated sig us (apply k (cons t ts)))
          by_test false q = alone (apply k (cons t ts)) g w (rw q refl)
          by_test true q =
              let i : f ≡ k = eqb-true f k q in
              let a = all_evaluated_canonical sig ok T us (cons t ts) g w in
              let b = elements-applied sig ok f h (evaluated_all sig us (cons t ts)) a (flattened-backed sig ok e f (evaluated sig us t) (evaluated_all sig us ts)) in
              rw q (subst (λ k. arranged c (flattened e f (evaluated_all sig us (cons t ts))) ≡ elements e f (evaluated sig us (apply k (cons t ts)))) i (sym b))

  module _ (vs : Values) (m : ℕ) (met : counted (length vs) p ≡ m) where
    abbrev qs : RawTerms
    qs = join (elements e f p) (cons (variable (position m)) nil)

    -- us are values of the pattern's variables, and r is one more: the elements of the instance and those of r are zs
    pub record IsRest (zs : RawTerms) (us : Values) (r : RawTerm) : Type 0 where
      pub begins : Begins vs us
      pub size : length us ≡ m
      pub fits : Fits sig T (length vs) us
      pub canonical : IsCanonical sig r
      pub whole : arranged c (join (elements e f (evaluated sig us p)) (elements e f r)) ≡ zs

    rest_elements : (us ws : Values) (r : RawTerm) → Begins us ws → length us ≡ m → slice_get ws m ≡ Some r → Fits sig T 0 ws
        → arranged c (flattened e f (evaluated_all sig ws qs)) ≡ arranged c (join (elements e f (evaluated sig us p)) (elements e f r))
    rest_elements us ws r b l i g =
        let own : RawTerms = evaluated_all sig ws (elements e f p) in
        let value : evaluated sig ws (variable (position m)) ≡ r = ap (λ o. unwrap_or o (variable (position m))) i in
        let within : IsWithin (length us) p = within_counted (length vs) (length us) p (omega (arith, l, met)) in
        let k = slice_get_within ws m r i in
        let longer : IsWithin (length ws) p = within_counted (length vs) (length ws) p (omega (arith, k, met)) in
        ap (λ ts. arranged c (flattened e f ts)) (evaluated-join sig ws (elements e f p) (cons (variable (position m)) nil) ∙ ap (λ v. join own (cons v nil)) value)
        ∙ ap (arranged c) (flattened-join e f own (cons r nil) ∙ ap (join (flattened e f own)) (join-nil (elements e f r)))
        ∙ sym (arranged-left c (flattened e f own) (elements e f r))
        ∙ ap (λ ts. arranged c (join ts (elements e f r))) (elements_evaluated ws g longer ∙ ap (elements e f) (evaluated_longer sig ok T us ws p b within))

    module _ (g : Fits sig T 0 vs) (numbered : IsNumbered (length vs) p) (a : HasArities sig p) (t : RawTerm) (kt : IsCanonical sig t) where
      qs_numbered : AreNumbered (length vs) qs × (counted_all (length vs) qs ≡ suc m)
      qs_numbered = rw named (let (n, w) = own_numbered f (length vs) p numbered in behind_numbered (length vs) m (own_arguments f p) n (w ∙ met))

      qs_some : 1 ≤ number_of_terms qs
      qs_some = let n = number_join (elements e f p) (cons (variable (position m)) nil) in omega (arith, n)

      -- a match is such values
      pub rest_of : (ws : Values) → IsMatch sig T (with_rest sig f p m) t vs ws → (us : Values) × (r : RawTerm) × (ws ≡ us ++ r ∷ []) × IsRest (elements e f t) us r
      rest_of ws mt =
          let size : length ws ≡ suc m = mt.size ∙ qs_numbered.1 in
          let us : Values = take m ws in
          let l : length us ≡ m = length-take-le m ws (omega (arith, size)) in
          let b : Begins us ws = begins_take m ws in
          let (r, i) = get_there ws m (omega (arith, size)) in
          let up = counted_grows (length vs) p in
          let all : Fits sig T 0 ws = fits_longer sig ok T vs ws g mt.begins mt.fits in
          let whole : ws ≡ us ++ r ∷ [] = sym (begins_whole (us ++ r ∷ []) ws (begins_put us ws r b (ap (slice_get ws) l ∙ i)) (let n = length-append us (r ∷ []) in omega (arith, n, l, size))) in
          let spells : Spells sig f (number_of_terms qs) (elements e f t) (evaluated_all sig ws qs) = spelled sig ok f h (number_of_terms qs) qs_some t kt (evaluated_all sig ws qs)
          (record {
            canonical = all_evaluated_canonical sig ok T ws qs all (all_within_counted (length vs) (length ws) qs (let s = mt.size in omega (arith, s)));
            size = number_evaluated sig ok T ws qs;
            gives = mt.gives;
          }) in (
            us,
            r,
            whole,
            record {
              begins = take_begins m vs ws mt.begins (omega (arith, up, met));
              size = l;
              fits = λ j u n w. mt.fits j u n (begins_at us ws j u b w);
              canonical = (mt.fits m r (omega (arith, up, met)) i).0;
              whole = sym (rest_elements us ws r b l i all) ∙ spells.whole;
            },
          )

      module _ (free : length single ≤ m) where
        -- and such values are a match
        pub of_rest : (us : Values) (r : RawTerm) → IsRest (elements e f t) us r → IsMatch sig T (with_rest sig f p m) t vs (us ++ r ∷ [])
        of_rest us r d =
            let ws : Values = us ++ r ∷ [] in
            let l : length us ≡ m = d.size in
            let b : Begins us ws = begins_append us (r ∷ []) in
            let n = length-append us (r ∷ []) in
            let i : slice_get ws m ≡ Some r = ap (slice_get ws) (sym l) ∙ begins_last us ws r (begins_same ws) in
            let begins : Begins vs ws = begins_then vs us ws d.begins b in
            let size : length ws ≡ suc m = omega (arith, n, l) in
            let new : Fits sig T (length vs) ws = λ j u o w. at_place us r d j u o w in
            let all : Fits sig T 0 ws = fits_longer sig ok T vs ws g begins new in
            let count = qs_numbered.1 in
            let gives : Gives sig f (number_of_terms qs) t (evaluated_all sig ws qs) = given sig ok f h (number_of_terms qs) qs_some t kt (evaluated_all sig ws qs)
            (record {
              canonical = all_evaluated_canonical sig ok T ws qs all (all_within_counted (length vs) (length ws) qs (omega (arith, count, size)));
              size = number_evaluated sig ok T ws qs;
              whole = rest_elements us ws r b l i all ∙ d.whole;
            }) in
            record {
              begins = begins;
              size = size ∙ sym count;
              gives = gives.gives;
              fits = new;
            }
          where
            -- nothing is asked of the last position
            at_last : (us : Values) (r : RawTerm) → IsRest (elements e f t) us r → T.has m r ≡ true
            at_last us r d = ap (λ o. is_element_under_all sig (unwrap_or o []) r) (slice_get_past single m free)

            at_place : (us : Values) (r : RawTerm) → IsRest (elements e f t) us r → (j : ℕ) (u : RawTerm) → length vs ≤ j → slice_get (us ++ r ∷ []) j ≡ Some u → IsCanonical sig u × (T.has j u ≡ true)
            at_place us r d j u o w = by_place (cases_lt j m)
              where
                by_place : (j < m) ⊎ (m ≤ j) → IsCanonical sig u × (T.has j u ≡ true)
                by_place (inl k) =
                    let l = d.size in
                    let (x, i) = get_there us j (omega (arith, k, l)) in
                    let s : x ≡ u = same_Some x u (sym (begins_at us (us ++ r ∷ []) j x (begins_append us (r ∷ [])) i) ∙ w) in
                    d.fits j u o (i ∙ ap Some s)
                by_place (inr k) =
                    let l = d.size in
                    let n = length-append us (r ∷ []) in
                    let y = slice_get_within (us ++ r ∷ []) j u w in
                    let i : j ≡ m = omega (arith, k, l, n, y) in
                    let s : r ≡ u = same_Some r u (sym (begins_last us (us ++ r ∷ []) r (begins_same (us ++ r ∷ []))) ∙ ap (slice_get (us ++ r ∷ [])) (l ∙ sym i) ∙ w) in
                    (subst (IsCanonical sig) s d.canonical, subst (λ n. T.has n u ≡ true) (sym i) (subst (λ u. T.has m u ≡ true) s (at_last us r d)))

        pub rests_once : AllOnce (IsMatch sig T (with_rest sig f p m) t vs) (found sig single (with_rest sig f p m) t vs)
        rests_once = found_once sig ok single (with_rest sig f p m) t vs (arity, behind_arities sig m (elements e f p) own) qs_numbered.0 g kt
          where
            arity : HasArity sig f (number_of_terms qs)
            arity = record { some = λ k. qs_some; two = λ n k. absurd (both_ways _ n h) }

            own : AllHaveArities sig (elements e f p)
            own = rw named (own_arities sig f p a)

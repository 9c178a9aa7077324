-- `all_matches` lists all matches of a pattern, each once, whatever the axioms.
use Rattle.std.specs.Prelude.{◌≡◌, ℕ, List, flat_map, length, Bool, true, false, ◌&&◌, cond, refl}
use Rattle.std.proofs.Common.{ap, sym, subst, ◌∙◌, arith}
use Rattle.std.proofs.lemmas.Bool.{and_parts}
use Rattle.mw_logic.specs.Term.{RawTerm, numeral, quoted, variable, apply, RawTerms, nil, cons}
use Rattle.mw_logic.specs.Signature.{Signature}
use Rattle.mw_logic.specs.Accepted.{IsAccepted}
use Rattle.mw_logic.specs.Parts.{is_assoc, number_of_terms}
use Rattle.mw_logic.specs.NormalForm.{is_comm, identity_of, elements, arranged, applied_in}
use Rattle.mw_logic.specs.TermOrder.{sorted_terms}
use Rattle.mw_logic.proofs.Canonical.{IsCanonical, AreCanonical, elements_are}
use Rattle.mw_logic.proofs.SortedLists.{climbs}
use Rattle.mw_split.specs.Lists.{AllOnce}
use Rattle.mw_position.specs.Positions.{IsNumbered, AreNumbered}
use Rattle.mw_position.proofs.Counting.{all_within_counted}
use Rattle.mw_position.proofs.Begins.{begins_same, begins_whole, begins_unique}
use Rattle.mw_arguments.specs.Arguments.{Gives, Spells}
use Rattle.mw_arguments.specs.Splits.{splits_of}
use Rattle.mw_arguments.proofs.Once.{once_flat_mapped, once_same, once_one, once_none, flat_map-same}
use Rattle.mw_arguments.proofs.Arguments.{in_order, spelled, given}
use Rattle.mw_arguments.proofs.Splits.{exact}
use Rattle.mw_matching.specs.Matches.{evaluated_all, Fits, IsMatch, AreMatches, HasArities, AllHaveArities}
use Rattle.mw_matching.specs.Patterns.{is_rigid, theory, AreSingle}
use Rattle.mw_matching.specs.Bagged.{shares, bag_matches, IsBagMatch}
use Rattle.mw_matching.specs.AllMatches.{all_matches, all_row_matches, all_bag_matches}
use Rattle.mw_matching.proofs.Matches.{closed_once, at_variable_once, row_match, row_match_parts, all_evaluated_canonical, number_evaluated, fits_longer, no_more}
use Rattle.mw_matching.proofs.Patterns.{rigid_element}
use Rattle.mw_matching.proofs.Bagged.{AreElements, Known, bag_matches_once}

module _ (sig : Signature) (ok : IsAccepted sig) (has : ℕ → RawTerm → Bool) (single : ℕ → ℕ → Bool) (singles : AreSingle sig has single) where
  -- the two ways to write the recursion
  same_bag : (f : ℕ) (qs zs : RawTerms) (vs : List RawTerm) → bag_matches (identity_of sig f) f (is_rigid sig single f) (all_matches sig has single) qs zs vs ≡ all_bag_matches sig has single f qs zs vs
  same_bag f nil nil vs = refl
  same_bag f nil (cons z zs) vs = refl
  same_bag f (cons q qs) zs vs =
      flat_map-same _ _ (shares (identity_of sig f) f (is_rigid sig single f q) zs) (λ c. flat_map-same _ _ (all_matches sig has single q c.0 vs) (λ us. same_bag f qs c.1 us))

  sized : (f : ℕ) (qs : RawTerms) (t : RawTerm) (vs us : List RawTerm) → IsMatch sig (theory sig has single) (apply f qs) t vs us → Fits sig (theory sig has single) 0 vs → AreCanonical sig (evaluated_all sig us qs)
  sized f qs t vs us m g =
      all_evaluated_canonical sig ok (theory sig has single) us qs (fits_longer sig ok (theory sig has single) vs us g m.begins m.fits) (all_within_counted (length vs) (length us) qs (let s = m.size in omega (arith, s)))

  mutual
    pub all_matches_once : (p t : RawTerm) (vs : List RawTerm) → HasArities sig p → IsNumbered (length vs) p → Fits sig (theory sig has single) 0 vs → IsCanonical sig t → AllOnce (IsMatch sig (theory sig has single) p t vs) (all_matches sig has single p t vs)
    all_matches_once (numeral n) t vs a h g k = closed_once sig ok (theory sig has single) (numeral n) t (numeral n) vs refl (λ us b. refl)
    all_matches_once (quoted q) t vs a h g k = closed_once sig ok (theory sig has single) (quoted q) t (quoted q) vs refl (λ us b. refl)
    all_matches_once (variable x) t vs a h g k = at_variable_once sig ok (theory sig has single) x t vs k h
    all_matches_once (apply f qs) t vs a h g k = by_axioms (is_assoc sig f && is_comm sig f) refl (all_known f qs a.1) (λ ts n. all_row_matches_once qs ts vs a.1 h g n)
      where
        by_splits : ((ts : RawTerms) → AreCanonical sig ts → AllOnce (AreMatches sig (theory sig has single) qs ts vs) (all_row_matches sig has single qs ts vs))
            → AllOnce (IsMatch sig (theory sig has single) (apply f qs) t vs) (flat_map (λ ts. all_row_matches sig has single qs ts vs) (splits_of sig f (number_of_terms qs) t))
        by_splits r =
            once_same (λ us. (ts : RawTerms) × Gives sig f (number_of_terms qs) t ts × AreMatches sig (theory sig has single) qs ts vs us) (IsMatch sig (theory sig has single) (apply f qs) t vs) _
            (λ us m. let (ts, r, b) = m in record { begins = b.begins; size = b.size; gives = ap (applied_in sig f) b.gives ∙ r.gives; fits = b.fits })
            (λ us m. (evaluated_all sig us qs, record { canonical = sized f qs t vs us m g; size = number_evaluated sig ok (theory sig has single) us qs; gives = m.gives }, record { begins = m.begins; size = m.size; gives = refl; fits = m.fits }))
            (once_flat_mapped (Gives sig f (number_of_terms qs) t) (λ ts us. AreMatches sig (theory sig has single) qs ts vs us) (λ ts. all_row_matches sig has single qs ts vs) (splits_of sig f (number_of_terms qs) t)
            (exact sig ok f (number_of_terms qs) a.0 t k) (λ ts q. r ts q.canonical) (λ us xs ys r q b d. sym b.gives ∙ d.gives))

        by_shares : (x : is_assoc sig f ≡ true) (y : is_comm sig f ≡ true) → Known sig ok f x y (theory sig has single) (is_rigid sig single f) (all_matches sig has single) (λ q us r w n. rigid_element sig ok has single singles f q us r w n.0) qs
            → AllOnce (IsMatch sig (theory sig has single) (apply f qs) t vs) (all_bag_matches sig has single f qs (elements (identity_of sig f) f t) vs)
        by_shares x y known =
            let zs : RawTerms = elements (identity_of sig f) f t in
            let els = elements_are sig ok f x t k in
            let i : arranged (is_comm sig f) zs ≡ zs = in_order sig ok f x t k in
            let o : sorted_terms zs ≡ zs = rw y at i in
            let z : AreElements sig ok f x y zs = record { each_element = els.0; each_canonical = els.1; climbs = climbs zs o } in
            let l = bag_matches_once sig ok f x y (theory sig has single) (is_rigid sig single f) (all_matches sig has single) (λ q us r w n. rigid_element sig ok has single singles f q us r w n.0) qs zs vs known h g z in
            once_same (IsBagMatch sig (theory sig has single) f qs zs vs) (IsMatch sig (theory sig has single) (apply f qs) t vs) _ (λ us b. there us b) (λ us m. back us m)
            (subst (λ l. AllOnce (IsBagMatch sig (theory sig has single) f qs zs vs) l) (same_bag f qs zs vs) l)
          where
            there : (us : List RawTerm) → IsBagMatch sig (theory sig has single) f qs (elements (identity_of sig f) f t) vs us → IsMatch sig (theory sig has single) (apply f qs) t vs us
            there us b =
                let c : AreCanonical sig (evaluated_all sig us qs) =
                all_evaluated_canonical sig ok (theory sig has single) us qs (fits_longer sig ok (theory sig has single) vs us g b.begins b.fits) (all_within_counted (length vs) (length us) qs (let s = b.size in omega (arith, s))) in
                let q : Gives sig f (number_of_terms qs) t (evaluated_all sig us qs) =
                given sig ok f x (number_of_terms qs) (a.0.some x) t k (evaluated_all sig us qs) (record { canonical = c; size = number_evaluated sig ok (theory sig has single) us qs; whole = rw y b.gives }) in
                record { begins = b.begins; size = b.size; gives = q.gives; fits = b.fits }

            back : (us : List RawTerm) → IsMatch sig (theory sig has single) (apply f qs) t vs us → IsBagMatch sig (theory sig has single) f qs (elements (identity_of sig f) f t) vs us
            back us m =
                let s : Spells sig f (number_of_terms qs) (elements (identity_of sig f) f t) (evaluated_all sig us qs) =
                spelled sig ok f x (number_of_terms qs) (a.0.some x) t k (evaluated_all sig us qs) (record { canonical = sized f qs t vs us m g; size = number_evaluated sig ok (theory sig has single) us qs; gives = m.gives }) in
                record { begins = m.begins; size = m.size; gives = rw y at s.whole; fits = m.fits }

        by_axioms : (b : Bool) → (is_assoc sig f && is_comm sig f) ≡ b
            → ((x : is_assoc sig f ≡ true) (y : is_comm sig f ≡ true) → Known sig ok f x y (theory sig has single) (is_rigid sig single f) (all_matches sig has single) (λ q us r w n. rigid_element sig ok has single singles f q us r w n.0) qs)
            → ((ts : RawTerms) → AreCanonical sig ts → AllOnce (AreMatches sig (theory sig has single) qs ts vs) (all_row_matches sig has single qs ts vs))
            → AllOnce (IsMatch sig (theory sig has single) (apply f qs) t vs) (cond b (all_bag_matches sig has single f qs (elements (identity_of sig f) f t) vs) (flat_map (λ ts. all_row_matches sig has single qs ts vs) (splits_of sig f (number_of_terms qs) t)))
        by_axioms true e known r = let (x, y) = and_parts _ _ e in by_shares x y (known x y)
        by_axioms false e known r = by_splits r

    all_known : (f : ℕ) (qs : RawTerms) → AllHaveArities sig qs → (x : is_assoc sig f ≡ true) (y : is_comm sig f ≡ true)
        → Known sig ok f x y (theory sig has single) (is_rigid sig single f) (all_matches sig has single) (λ q us r w n. rigid_element sig ok has single singles f q us r w n.0) qs
    all_known f nil a x y = tt
    all_known f (cons q qs) a x y = ((λ t vs n g k. all_matches_once q t vs a.0 n g k), all_known f qs a.1 x y)

    all_row_matches_once : (ps ts : RawTerms) (vs : List RawTerm) → AllHaveArities sig ps → AreNumbered (length vs) ps → Fits sig (theory sig has single) 0 vs → AreCanonical sig ts
        → AllOnce (AreMatches sig (theory sig has single) ps ts vs) (all_row_matches sig has single ps ts vs)
    all_row_matches_once nil nil vs a h g k = once_one (AreMatches sig (theory sig has single) nil nil vs) vs (record { begins = begins_same vs; size = refl; gives = refl; fits = no_more sig ok (theory sig has single) vs }) (λ us m. sym (begins_whole vs us m.begins m.size))
    all_row_matches_once nil (cons t ts) vs a h g k = once_none (AreMatches sig (theory sig has single) nil (cons t ts) vs) (λ us m. (let e = m.gives in cc))
    all_row_matches_once (cons q qs) nil vs a h g k = once_none (AreMatches sig (theory sig has single) (cons q qs) nil vs) (λ us m. (let e = m.gives in cc))
    all_row_matches_once (cons q qs) (cons t ts) vs a h g k =
        once_same (λ ws. (us : List RawTerm) × IsMatch sig (theory sig has single) q t vs us × AreMatches sig (theory sig has single) qs ts us ws) (AreMatches sig (theory sig has single) (cons q qs) (cons t ts) vs) (all_row_matches sig has single (cons q qs) (cons t ts) vs)
        (row_match sig ok (theory sig has single) q qs t ts vs) (row_match_parts sig ok (theory sig has single) q qs t ts vs)
        (once_flat_mapped (IsMatch sig (theory sig has single) q t vs) (λ us ws. AreMatches sig (theory sig has single) qs ts us ws) (λ us. all_row_matches sig has single qs ts us) (all_matches sig has single q t vs) (all_matches_once q t vs a.0 h.0 g k.0)
        (λ us m. all_row_matches_once qs ts us a.1 (subst (λ n. AreNumbered n qs) (sym m.size) h.1) (fits_longer sig ok (theory sig has single) vs us g m.begins m.fits) k.1)
        (λ ws x y m n b d. begins_unique x y ws (m.size ∙ sym n.size) b.begins d.begins))

-- Under an associative operator the first pattern takes a share of the elements, and the others what it leaves. A list
-- of shares that has each share of a match once gives each match once.
use Rattle.std.specs.Prelude.{◌≡◌, ℕ, List, [], ◌∷◌, ◌++◌, map, flat_map, length, Bool, true, false, cond, Option, refl}
use Rattle.std.proofs.Common.{ap, sym, subst, ◌∙◌, arith}
use Rattle.std.proofs.lemmas.Bool.{both_ways}
use Rattle.mw_logic.specs.Term.{RawTerm, apply, RawTerms, nil, cons, join}
use Rattle.mw_logic.specs.Signature.{Signature, Identity}
use Rattle.mw_logic.specs.Accepted.{IsAccepted}
use Rattle.mw_logic.specs.Parts.{is_assoc, number_of_terms}
use Rattle.mw_logic.specs.NormalForm.{is_comm, identity_of, elements, flattened, rebuilt, arranged}
use Rattle.mw_logic.proofs.SortLaws.{join-nil}
use Rattle.mw_logic.proofs.Canonical.{Each, IsElement, IsCanonical, AreCanonical, arranged-right, arranged-twice, arranged-nil, elements_are, elements-backed, elements-rebuilt}
use Rattle.mw_logic.proofs.Holes.{Each-unarranged, Each-parts}
use Rattle.mw_logic.proofs.Invariance.{elements_kept}
use Rattle.mw_split.specs.Lists.{AllOnce}
use Rattle.mw_position.specs.Positions.{Begins, counted_all, AreWithin}
use Rattle.mw_position.proofs.Counting.{within_counted, all_within_counted}
use Rattle.mw_position.proofs.Begins.{begins_same, begins_whole, begins_unique}
use Rattle.mw_arguments.specs.Arguments.{Gives, Spells, HasArity}
use Rattle.mw_arguments.specs.Pieces.{is_backed}
use Rattle.mw_arguments.proofs.Once.{once_flat_mapped, once_same, once_one, once_none}
use Rattle.mw_arguments.proofs.Arguments.{backed, from_backed, in_order, rebuilt_again, spelled, given}
use Rattle.mw_matching.specs.Matches.{Theory, evaluated, evaluated_all, Fits, IsMatch, AreMatches}
use Rattle.mw_matching.specs.Bagged.{Share}
use Rattle.mw_matching.proofs.Matches.{row_match, row_match_parts, evaluated_canonical, all_evaluated_canonical, number_evaluated, fits_longer, evaluated_longer, no_more}

pub flat_map-mapped : {A B C : Type 0} (g : B → List C) (at : A → B) (xs : List A) → flat_map g (map at xs) ≡ flat_map (λ x. g (at x)) xs
flat_map-mapped g at [] = refl
flat_map-mapped g at (x ∷ xs) = ap (λ r. g (at x) ++ r) (flat_map-mapped g at xs)

module _ (sig : Signature) (ok : IsAccepted sig) (f : ℕ) (h : is_assoc sig f ≡ true) where
  abbrev e : Option Identity
  e = identity_of sig f

  abbrev c : Bool
  c = is_comm sig f

  -- a list of elements, in order where the operator is commutative
  pub record AreElementsOf (zs : RawTerms) : Type 0 where
    pub each_element : Each (IsElement e f) zs
    pub each_canonical : Each (IsCanonical sig) zs
    pub order : arranged c zs ≡ zs

  -- a canonical value whose elements, with what it leaves, are zs
  pub record IsPart (zs : RawTerms) (s : Share) : Type 0 where
    pub canonical : IsCanonical sig s.0
    pub order : arranged c s.1 ≡ s.1
    pub whole : arranged c (join (elements e f s.0) s.1) ≡ zs

  -- a term's elements are such a list
  pub elements_of : (t : RawTerm) → IsCanonical sig t → AreElementsOf (elements e f t)
  elements_of t k = let p = elements_are sig ok f h t k in record { each_element = p.0; each_canonical = p.1; order = in_order sig ok f h t k }

  -- and it is the operator on them
  pub value_again : (t : RawTerm) → IsCanonical sig t → rebuilt e f (elements e f t) ≡ t
  value_again t k = ap (rebuilt e f) (sym (in_order sig ok f h t k)) ∙ elements_kept sig ok f h t k

  -- the operator on elements has these elements again
  pub elements_again : (zs : RawTerms) → Each (IsElement e f) zs → is_backed e zs ≡ true → elements e f (rebuilt e f zs) ≡ zs
  elements_again zs z b = elements-rebuilt e f zs (backed e zs b) z

  pub value_canonical : (zs : RawTerms) → AreElementsOf zs → IsCanonical sig (rebuilt e f zs)
  value_canonical zs z = rebuilt_again sig ok f h zs z.order z.each_element z.each_canonical

  -- the parts of such a list
  pub each_part : (P : RawTerm → Type 0) (zs ps rs : RawTerms) → arranged c (join ps rs) ≡ zs → Each P zs → Each P ps × Each P rs
  each_part P zs ps rs w a = Each-parts P ps rs (Each-unarranged P c (join ps rs) (subst (Each P) (sym w) a))

  pub left_elements : (zs : RawTerms) (s : Share) → AreElementsOf zs → IsPart zs s → AreElementsOf s.1
  left_elements zs s z p = record {
    each_element = (each_part (IsElement e f) zs (elements e f s.0) s.1 p.whole z.each_element).1;
    each_canonical = (each_part (IsCanonical sig) zs (elements e f s.0) s.1 p.whole z.each_canonical).1;
    order = p.order;
  }

  -- a part in order, where it may be empty, and what is left
  pub part_share : (zs ps rs : RawTerms) → AreElementsOf zs → arranged c ps ≡ ps → arranged c rs ≡ rs → arranged c (join ps rs) ≡ zs → is_backed e ps ≡ true → IsPart zs (rebuilt e f ps, rs)
  part_share zs ps rs z op or w b =
      let a = (each_part (IsElement e f) zs ps rs w z.each_element).0 in
      let k = (each_part (IsCanonical sig) zs ps rs w z.each_canonical).0 in
      record {
        canonical = rebuilt_again sig ok f h ps op a k;
        order = or;
        whole = ap (λ ys. arranged c (join ys rs)) (elements_again ps a b) ∙ w;
      }

  module _ (T : Theory) where
    -- us are the values vs and behind them those of the other variables of ps; the elements of ps' instances are zs
    pub record AreShared (ps zs : RawTerms) (vs us : List RawTerm) : Type 0 where
      pub begins : Begins vs us
      pub size : length us ≡ counted_all (length vs) ps
      pub gives : arranged c (flattened e f (evaluated_all sig us ps)) ≡ zs
      pub fits : Fits sig T (length vs) us

    -- what the first pattern takes, and what it leaves
    abbrev pub taken_share : RawTerm → RawTerms → List RawTerm → Share
    taken_share q qs ws = (evaluated sig ws q, arranged c (flattened e f (evaluated_all sig ws qs)))

    abbrev Then : RawTerm → RawTerms → List RawTerm → Share → List RawTerm → Type 0
    Then q qs vs s ws = (us : List RawTerm) × IsMatch sig T q s.0 vs us × AreShared qs s.1 us ws

    as_list : (qs zs : RawTerms) (us ws : List RawTerm) → AreShared qs zs us ws → AreMatches sig T qs (evaluated_all sig ws qs) us ws
    as_list qs zs us ws m = record { begins = m.begins; size = m.size; gives = refl; fits = m.fits }

    -- all values fit, and all variables have one
    pub all_fit : (qs zs : RawTerms) (vs ws : List RawTerm) → Fits sig T 0 vs → AreShared qs zs vs ws → Fits sig T 0 ws
    all_fit qs zs vs ws g b = fits_longer sig ok T vs ws g b.begins b.fits

    pub all_within : (qs zs : RawTerms) (vs ws : List RawTerm) → AreShared qs zs vs ws → AreWithin (length ws) qs
    all_within qs zs vs ws b = all_within_counted (length vs) (length ws) qs (let s = b.size in omega (arith, s))

    together : (q : RawTerm) (qs zs : RawTerms) (vs ws : List RawTerm) (s : Share) → IsPart zs s → Then q qs vs s ws → AreShared (cons q qs) zs vs ws
    together q qs zs vs ws s p (us, m, r) =
        let a = row_match sig ok T q qs s.0 (evaluated_all sig ws qs) vs ws (us, m, as_list qs s.1 us ws r) in
        let g : evaluated sig ws q ≡ s.0 = head_of a.gives in
        record {
          begins = a.begins;
          size = a.size;
          gives = ap (λ v. arranged c (join (elements e f v) (flattened e f (evaluated_all sig ws qs)))) g
              ∙ sym (arranged-right c (elements e f s.0) (flattened e f (evaluated_all sig ws qs))) ∙ ap (λ ys. arranged c (join (elements e f s.0) ys)) r.gives ∙ p.whole;
          fits = a.fits;
        }
      where
        head_of : {x y : RawTerm} {xs ys : RawTerms} → cons x xs ≡ cons y ys → x ≡ y
        head_of w = cc

    -- what the first takes is a share
    pub is_part : (q : RawTerm) (qs zs : RawTerms) (vs ws : List RawTerm) → Fits sig T 0 vs → AreShared (cons q qs) zs vs ws → IsPart zs (taken_share q qs ws)
    is_part q qs zs vs ws g b =
        let rest : RawTerms = flattened e f (evaluated_all sig ws qs) in
        let w : AreWithin (length ws) (cons q qs) = all_within (cons q qs) zs vs ws b in
        record {
          canonical = evaluated_canonical sig ok T ws q (all_fit (cons q qs) zs vs ws g b) w.0;
          order = arranged-twice c rest;
          whole = arranged-right c (elements e f (evaluated sig ws q)) rest ∙ b.gives;
        }

    apart : (q : RawTerm) (qs zs : RawTerms) (vs ws : List RawTerm) → AreShared (cons q qs) zs vs ws → Then q qs vs (taken_share q qs ws) ws
    apart q qs zs vs ws b =
        let t : RawTerm = evaluated sig ws q in
        let a : AreMatches sig T (cons q qs) (cons t (evaluated_all sig ws qs)) vs ws = record { begins = b.begins; size = b.size; gives = refl; fits = b.fits } in
        let (us, m, r) = row_match_parts sig ok T q qs t (evaluated_all sig ws qs) vs ws a in
        (us, m, record { begins = r.begins; size = r.size; gives = refl; fits = r.fits })

    same_share : (q : RawTerm) (qs : RawTerms) (vs ws : List RawTerm) (s d : Share) → Then q qs vs s ws → Then q qs vs d ws → s ≡ d
    same_share q qs vs ws s d (us, m, r) (us2, m2, r2) =
        let i : s.0 ≡ d.0 = sym m.gives ∙ sym (evaluated_longer sig ok T us ws q r.begins (within_counted (length vs) (length us) q (let s = m.size in omega (arith, s))))
        ∙ evaluated_longer sig ok T us2 ws q r2.begins (within_counted (length vs) (length us2) q (let s = m2.size in omega (arith, s))) ∙ m2.gives in
        let j : s.1 ≡ d.1 = sym r.gives ∙ r2.gives in
        ap (λ v. (v, s.1)) i ∙ ap (λ zs. (d.0, zs)) j

    -- no patterns take nothing
    pub nothing_once : (vs : List RawTerm) → AllOnce (AreShared nil nil vs) (vs ∷ [])
    nothing_once vs = once_one (AreShared nil nil vs) vs (record { begins = begins_same vs; size = refl; gives = arranged-nil c; fits = no_more sig ok T vs }) (λ us m. sym (begins_whole vs us m.begins m.size))

    pub nothing_left : (z : RawTerm) (zs : RawTerms) (vs : List RawTerm) → AllOnce (AreShared nil (cons z zs) vs) []
    nothing_left z zs vs = once_none (AreShared nil (cons z zs) vs) (λ us m. (let w : nil ≡ cons z zs = sym (arranged-nil c) ∙ m.gives in cc))

    -- P are shares, and each match has one of them; M gives the first pattern's matches, and F the others'
    pub step_once : (q : RawTerm) (qs zs : RawTerms) (vs : List RawTerm) (P : Share → Type 0) (shares : List Share)
        (M : RawTerm → List (List RawTerm)) (F : RawTerms → List RawTerm → List (List RawTerm))
        → Fits sig T 0 vs → AllOnce P shares → ((s : Share) → P s → IsPart zs s) → ((ws : List RawTerm) → AreShared (cons q qs) zs vs ws → IsPart zs (taken_share q qs ws) → P (taken_share q qs ws))
        → ((s : Share) → P s → AllOnce (IsMatch sig T q s.0 vs) (M s.0)) → ((s : Share) (us : List RawTerm) → P s → IsMatch sig T q s.0 vs us → AllOnce (AreShared qs s.1 us) (F s.1 us))
        → AllOnce (AreShared (cons q qs) zs vs) (flat_map (λ (s : Share). flat_map (λ us. F s.1 us) (M s.0)) shares)
    step_once q qs zs vs P shares M F g l part has first rest =
        once_same (λ ws. (s : Share) × P s × Then q qs vs s ws) (AreShared (cons q qs) zs vs) (flat_map (λ (s : Share). flat_map (λ us. F s.1 us) (M s.0)) shares)
        (λ ws m. there ws m) (λ ws b. (taken_share q qs ws, has ws b (is_part q qs zs vs ws g b), apart q qs zs vs ws b))
        (once_flat_mapped P (Then q qs vs) (λ (s : Share). flat_map (λ us. F s.1 us) (M s.0)) shares l
        (λ s p. once_flat_mapped (IsMatch sig T q s.0 vs) (λ us ws. AreShared qs s.1 us ws) (λ us. F s.1 us) (M s.0) (first s p) (λ us m. rest s us p m)
        (λ ws x y m n a b. begins_unique x y ws (m.size ∙ sym n.size) a.begins b.begins))
        (λ ws s d a b x y. same_share q qs vs ws s d x y))
      where
        there : (ws : List RawTerm) → (s : Share) × P s × Then q qs vs s ws → AreShared (cons q qs) zs vs ws
        there ws (s, p, t) = together q qs zs vs ws s (part s p) t

    -- the last pattern takes all
    pub last_once : (q : RawTerm) (zs : RawTerms) (vs : List RawTerm) (M : RawTerm → List (List RawTerm)) → Fits sig T 0 vs → AreElementsOf zs → ((t : RawTerm) → IsCanonical sig t → AllOnce (IsMatch sig T q t vs) (M t))
        → AllOnce (AreShared (cons q nil) zs vs) (cond (is_backed e zs) (M (rebuilt e f zs)) [])
    last_once q zs vs M g z first = by_test (is_backed e zs) refl
      where
        all_of : (us : List RawTerm) → AreShared (cons q nil) zs vs us → IsCanonical sig (evaluated sig us q) × (elements e f (evaluated sig us q) ≡ zs)
        all_of us b =
            let p = is_part q nil zs vs us g b in
            (p.canonical, sym (in_order sig ok f h (evaluated sig us q) p.canonical) ∙ ap (arranged c) (sym (join-nil (elements e f (evaluated sig us q)))) ∙ b.gives)

        by_test : (b : Bool) → is_backed e zs ≡ b → AllOnce (AreShared (cons q nil) zs vs) (cond b (M (rebuilt e f zs)) [])
        by_test true i =
            once_same (IsMatch sig T q (rebuilt e f zs) vs) (AreShared (cons q nil) zs vs) (M (rebuilt e f zs))
            (λ us m. record {
              begins = m.begins;
              size = m.size;
              gives = ap (λ v. arranged c (join (elements e f v) nil)) m.gives ∙ ap (λ ys. arranged c (join ys nil)) (elements_again zs z.each_element i) ∙ ap (arranged c) (join-nil zs) ∙ z.order;
              fits = m.fits;
            })
            (λ us b. (let (k, w) = all_of us b in record { begins = b.begins; size = b.size; gives = sym (value_again (evaluated sig us q) k) ∙ ap (rebuilt e f) w; fits = b.fits }))
            (first (rebuilt e f zs) (value_canonical zs z))
        by_test false i =
            once_none (AreShared (cons q nil) zs vs)
            (λ us b. (let (k, w) = all_of us b in both_ways _ i (subst (λ ys. is_backed e ys ≡ true) w (from_backed e _ (elements-backed e f (evaluated sig us q))))))

    -- shared elements of a term are its matches
    pub matches_shared : (qs : RawTerms) (t : RawTerm) (vs : List RawTerm) (xs : List (List RawTerm)) → HasArity sig f (number_of_terms qs) → Fits sig T 0 vs → IsCanonical sig t
        → AllOnce (AreShared qs (elements e f t) vs) xs → AllOnce (IsMatch sig T (apply f qs) t vs) xs
    matches_shared qs t vs xs a g k l = once_same (AreShared qs (elements e f t) vs) (IsMatch sig T (apply f qs) t vs) xs (λ us b. there us b) (λ us m. back us m) l
      where
        canonical : (us : List RawTerm) → Begins vs us → length us ≡ counted_all (length vs) qs → Fits sig T (length vs) us → AreCanonical sig (evaluated_all sig us qs)
        canonical us b s n = all_evaluated_canonical sig ok T us qs (fits_longer sig ok T vs us g b n) (all_within_counted (length vs) (length us) qs (omega (arith, s)))

        there : (us : List RawTerm) → AreShared qs (elements e f t) vs us → IsMatch sig T (apply f qs) t vs us
        there us b =
            let q : Gives sig f (number_of_terms qs) t (evaluated_all sig us qs) = given sig ok f h (number_of_terms qs) (a.some h) t k (evaluated_all sig us qs)
            (record { canonical = canonical us b.begins b.size b.fits; size = number_evaluated sig ok T us qs; whole = b.gives }) in
            record { begins = b.begins; size = b.size; gives = q.gives; fits = b.fits }

        back : (us : List RawTerm) → IsMatch sig T (apply f qs) t vs us → AreShared qs (elements e f t) vs us
        back us m =
            let s : Spells sig f (number_of_terms qs) (elements e f t) (evaluated_all sig us qs) = spelled sig ok f h (number_of_terms qs) (a.some h) t k (evaluated_all sig us qs)
            (record { canonical = canonical us m.begins m.size m.fits; size = number_evaluated sig ok T us qs; gives = m.gives }) in
            record { begins = m.begins; size = m.size; gives = s.whole; fits = m.fits }

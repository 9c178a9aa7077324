-- Taken one at a time, the arguments under an associative and commutative operator have all their matches, each once.
use Rattle.std.specs.Prelude.{◌≡◌, ℕ, List, [], ◌∷◌, filter, flat_map, length, Bool, true, false, Option, refl}
use Rattle.std.proofs.Common.{inl, ap, sym, subst, ◌∙◌, arith}
use Rattle.std.proofs.lemmas.Bool.{both_ways}
use Rattle.mw_logic.specs.Term.{RawTerm, RawTerms, nil, cons, join}
use Rattle.mw_logic.specs.Signature.{Signature, Identity}
use Rattle.mw_logic.specs.Accepted.{IsAccepted}
use Rattle.mw_logic.specs.Parts.{is_assoc, Among}
use Rattle.mw_logic.specs.TermOrder.{insert_term, sorted_terms}
use Rattle.mw_logic.specs.NormalForm.{is_comm, identity_of, elements, flattened, rebuilt, arranged}
use Rattle.mw_logic.proofs.SortLaws.{join-nil, sorted_terms-right, sorted_terms-idempotent}
use Rattle.mw_logic.proofs.Elements.{taken, taken-insert}
use Rattle.mw_logic.proofs.Canonical.{Each, IsElement, IsCanonical, elements-backed, elements-rebuilt}
use Rattle.mw_logic.proofs.Holes.{Each-unarranged, Each-parts}
use Rattle.mw_logic.proofs.Inside.{Among-insert}
use Rattle.mw_logic.proofs.Invariance.{elements_kept}
use Rattle.mw_logic.proofs.SortedLists.{Climbs, climbs, sorted_terms-climbing}
use Rattle.mw_split.specs.Lists.{AllOnce}
use Rattle.mw_position.specs.Positions.{IsNumbered, AreNumbered, AreWithin}
use Rattle.mw_position.proofs.Counting.{within_counted, all_within_counted}
use Rattle.mw_position.proofs.Begins.{begins_same, begins_whole, begins_unique}
use Rattle.mw_arguments.specs.Pieces.{ArePieces, is_backed}
use Rattle.mw_arguments.specs.Bags.{runs, heads}
use Rattle.mw_arguments.specs.Splits.{pieces}
use Rattle.mw_arguments.proofs.Once.{once_mapped, once_filtered, once_flat_mapped, once_same, once_one, once_none}
use Rattle.mw_arguments.proofs.Arguments.{backed, from_backed, in_order, rebuilt_again}
use Rattle.mw_arguments.proofs.Standing.{each_among, put_back, climbs_taken}
use Rattle.mw_arguments.proofs.Runs.{heads_once}
use Rattle.mw_arguments.proofs.Splits.{of_pieces}
use Rattle.mw_matching.specs.Matches.{Theory, evaluated, evaluated_all, Fits, IsMatch, AreMatches}
use Rattle.mw_matching.specs.Bagged.{Share, first_of, second_of, share_of, shares, IsShare, bag_matches, IsBagMatch}
use Rattle.mw_matching.proofs.Matches.{row_match, row_match_parts, evaluated_canonical, fits_longer, evaluated_longer, no_more}

module _ (sig : Signature) (ok : IsAccepted sig) (f : ℕ) (h : is_assoc sig f ≡ true) (ac : is_comm sig f ≡ true) where
  abbrev e : Option Identity
  e = identity_of sig f

  -- a list of elements in order
  pub record AreElements (zs : RawTerms) : Type 0 where
    pub each_element : Each (IsElement e f) zs
    pub each_canonical : Each (IsCanonical sig) zs
    pub climbs : Climbs zs

  -- what a share leaves is such a list too
  left_elements : (zs : RawTerms) (b : Bool) (c : Share) → AreElements zs → IsShare sig f b zs c → AreElements c.1
  left_elements zs b c z s = record {
    each_element = part (IsElement e f) z.each_element;
    each_canonical = part (IsCanonical sig) z.each_canonical;
    climbs = climbs c.1 s.order;
  }
    where
      part : (P : RawTerm → Type 0) → Each P zs → Each P c.1
      part P a = (Each-parts P (elements e f c.0) c.1 (Each-unarranged P true (join (elements e f c.0) c.1) (subst (Each P) (sym s.whole) a))).1

  -- one element
  single_shares_once : (zs : RawTerms) → AreElements zs → AllOnce (IsShare sig f true zs) (shares e f true zs)
  single_shares_once zs z = once_mapped (λ d. Among zs d) (IsShare sig f true zs) (λ d. (d, taken d zs)) (heads (runs zs)) (heads_once zs z.climbs) there back (λ a b m n w. ap (λ (c : Share). c.0) w)
    where
      there : (d : RawTerm) → Among zs d → IsShare sig f true zs (d, taken d zs)
      there d m =
          let s : IsElement e f d = each_among (IsElement e f) d zs z.each_element m in
          let o : sorted_terms (taken d zs) ≡ taken d zs = sorted_terms-climbing (taken d zs) (climbs_taken d zs z.climbs) in
          record {
            canonical = each_among (IsCanonical sig) d zs z.each_canonical m;
            order = o;
            whole = rw s (ap (insert_term d) o ∙ put_back d zs z.climbs m);
            single = λ _. s;
          }

      back : (c : Share) → IsShare sig f true zs c → (d : RawTerm) × Among zs d × ((d, taken d zs) ≡ c)
      back c s =
          let i : IsElement e f c.0 = s.single refl in
          let w : insert_term c.0 (sorted_terms c.1) ≡ zs = rw i at s.whole in
          let t : taken c.0 zs ≡ c.1 = ap (taken c.0) (sym w) ∙ taken-insert c.0 (sorted_terms c.1) ∙ s.order in
          (c.0, subst (λ ys. Among ys c.0) w (Among-insert c.0 c.0 (sorted_terms c.1) (inl refl)), ap (λ zs. (c.0, zs)) t)

  -- any part
  abbrev Halves : RawTerms → List RawTerms → Type 0
  Halves zs ps = ArePieces true 2 zs ps × (is_backed e (first_of ps) ≡ true)

  two : (zs : RawTerms) (ps : List RawTerms) → ArePieces true 2 zs ps → (p r : RawTerms) × (ps ≡ p ∷ r ∷ []) × (sorted_terms p ≡ p) × (sorted_terms r ≡ r) × (sorted_terms (join p r) ≡ zs)
  two zs [] a = let n = a.size in absurd (omega (arith, n))
  two zs (p ∷ []) a = let n = a.size in absurd (omega (arith, n))
  two zs (p ∷ q ∷ r ∷ ps) a = let n = a.size in absurd (omega (arith, n))
  two zs (p ∷ r ∷ []) a = (p, r, refl, a.order.0, a.order.1.0, ap (λ ys. sorted_terms (join p ys)) (sym (join-nil r)) ∙ a.whole)

  any_shares_once : (zs : RawTerms) → AreElements zs → AllOnce (IsShare sig f false zs) (shares e f false zs)
  any_shares_once zs z =
      once_mapped (Halves zs) (IsShare sig f false zs) (share_of e f) (filter (λ ps. is_backed e (first_of ps)) (pieces true 2 zs))
      (once_filtered (ArePieces true 2 zs) (λ ps. is_backed e (first_of ps)) (pieces true 2 zs) (of_pieces sig ok f true 2 zs (sorted_terms-climbing zs z.climbs))) there back one
    where
      first_elements : (p r : RawTerms) → sorted_terms (join p r) ≡ zs → (P : RawTerm → Type 0) → Each P zs → Each P p
      first_elements p r w P a = (Each-parts P p r (Each-unarranged P true (join p r) (subst (Each P) (sym w) a))).0

      again : (p r : RawTerms) → sorted_terms (join p r) ≡ zs → is_backed e p ≡ true → elements e f (rebuilt e f p) ≡ p
      again p r w b = elements-rebuilt e f p (backed e p b) (first_elements p r w (IsElement e f) z.each_element)

      there : (ps : List RawTerms) → Halves zs ps → IsShare sig f false zs (rebuilt e f (first_of ps), second_of ps)
      there ps (a, b) =
          let (p, r, w, op, o, whole) = two zs ps a in
          let b2 : is_backed e p ≡ true = subst (λ ps. is_backed e (first_of ps) ≡ true) w b in
          subst (λ ps. IsShare sig f false zs (rebuilt e f (first_of ps), second_of ps)) (sym w) (record {
            canonical = rebuilt_again sig ok f h p (rw ac op) (first_elements p r whole (IsElement e f) z.each_element) (first_elements p r whole (IsCanonical sig) z.each_canonical);
            order = o;
            whole = ap (λ ys. sorted_terms (join ys r)) (again p r whole b2) ∙ whole;
            single = λ w. absurd (both_ways _ refl w);
          })

      back : (c : Share) → IsShare sig f false zs c → (ps : List RawTerms) × Halves zs ps × (share_of e f ps ≡ c)
      back c s =
          let i : arranged (is_comm sig f) (elements e f c.0) ≡ elements e f c.0 = in_order sig ok f h c.0 s.canonical in
          let o : sorted_terms (elements e f c.0) ≡ elements e f c.0 = rw ac at i in
          let r : rebuilt e f (elements e f c.0) ≡ c.0 = ap (rebuilt e f) (sym i) ∙ elements_kept sig ok f h c.0 s.canonical in
          (elements e f c.0 ∷ c.1 ∷ [], (record { size = refl; order = (o, (s.order, tt)); whole = ap (λ ys. sorted_terms (join (elements e f c.0) ys)) (join-nil c.1) ∙ s.whole }, from_backed e _ (elements-backed e f c.0)), ap (λ v. (v, c.1)) r)

      one : (ps qs : List RawTerms) → Halves zs ps → Halves zs qs → share_of e f ps ≡ share_of e f qs → ps ≡ qs
      one ps qs (a, b) (a2, b2) w =
          let (p, r, x, op, o, whole) = two zs ps a in
          let (p2, r2, x2, op2, o2, whole2) = two zs qs a2 in
          let k : is_backed e p ≡ true = subst (λ ps. is_backed e (first_of ps) ≡ true) x b in
          let k2 : is_backed e p2 ≡ true = subst (λ ps. is_backed e (first_of ps) ≡ true) x2 b2 in
          let v : rebuilt e f p ≡ rebuilt e f p2 = ap (λ ps. rebuilt e f (first_of ps)) (sym x) ∙ ap (λ (c : Share). c.0) w ∙ ap (λ ps. rebuilt e f (first_of ps)) x2 in
          let u : r ≡ r2 = ap second_of (sym x) ∙ ap (λ (c : Share). c.1) w ∙ ap second_of x2 in
          let y : p ≡ p2 = sym (again p r whole k) ∙ ap (elements e f) v ∙ again p2 r2 whole2 k2 in
          x ∙ ap (λ p. p ∷ r ∷ []) y ∙ ap (λ r. p2 ∷ r ∷ []) u ∙ sym x2

  pub shares_once : (b : Bool) (zs : RawTerms) → AreElements zs → AllOnce (IsShare sig f b zs) (shares e f b zs)
  shares_once true zs z = single_shares_once zs z
  shares_once false zs z = any_shares_once zs z

  module _ (T : Theory) (rigid : RawTerm → Bool) (M : RawTerm → RawTerm → List RawTerm → List (List RawTerm))
      (single : (q : RawTerm) (us : List RawTerm) → rigid q ≡ true → Fits sig T 0 us → AreWithin (length us) (cons q nil) → IsElement e f (evaluated sig us q)) where
    -- each pattern's matches are known
    abbrev pub Known : RawTerms → Type 0
    Known nil = Unit {0}
    Known (cons q qs) = ((t : RawTerm) (vs : List RawTerm) → IsNumbered (length vs) q → Fits sig T 0 vs → IsCanonical sig t → AllOnce (IsMatch sig T q t vs) (M q t vs)) × Known qs

    abbrev Then : RawTerm → RawTerms → List RawTerm → Share → List RawTerm → Type 0
    Then q qs vs c ws = (us : List RawTerm) × IsMatch sig T q c.0 vs us × IsBagMatch sig T f qs c.1 us ws

    -- the matches of the rest, as a list
    as_list : (qs zs : RawTerms) (us ws : List RawTerm) → IsBagMatch sig T f qs zs us ws → AreMatches sig T qs (evaluated_all sig ws qs) us ws
    as_list qs zs us ws m = record { begins = m.begins; size = m.size; gives = refl; fits = m.fits }

    together : (q : RawTerm) (qs zs : RawTerms) (vs ws : List RawTerm) → (c : Share) × IsShare sig f (rigid q) zs c × Then q qs vs c ws → IsBagMatch sig T f (cons q qs) zs vs ws
    together q qs zs vs ws (c, s, (us, m, r)) =
        let a = row_match sig ok T q qs c.0 (evaluated_all sig ws qs) vs ws (us, m, as_list qs c.1 us ws r) in
        let g : evaluated sig ws q ≡ c.0 = head_of a.gives in
        record {
          begins = a.begins;
          size = a.size;
          gives = ap (λ v. sorted_terms (join (elements e f v) (flattened e f (evaluated_all sig ws qs)))) g
              ∙ sym (sorted_terms-right (elements e f c.0) (flattened e f (evaluated_all sig ws qs))) ∙ ap (λ ys. sorted_terms (join (elements e f c.0) ys)) r.gives ∙ s.whole;
          fits = a.fits;
        }
      where
        head_of : {x y : RawTerm} {xs ys : RawTerms} → cons x xs ≡ cons y ys → x ≡ y
        head_of w = cc

    apart : (q : RawTerm) (qs zs : RawTerms) (vs ws : List RawTerm) → Fits sig T 0 vs → IsBagMatch sig T f (cons q qs) zs vs ws → (c : Share) × IsShare sig f (rigid q) zs c × Then q qs vs c ws
    apart q qs zs vs ws g b =
        let t : RawTerm = evaluated sig ws q in
        let rest : RawTerms = flattened e f (evaluated_all sig ws qs) in
        let a : AreMatches sig T (cons q qs) (cons t (evaluated_all sig ws qs)) vs ws = record { begins = b.begins; size = b.size; gives = refl; fits = b.fits } in
        let (us, m, r) = row_match_parts sig ok T q qs t (evaluated_all sig ws qs) vs ws a in
        let gw : Fits sig T 0 ws = fits_longer sig ok T vs ws g b.begins b.fits in
        let w : AreWithin (length ws) (cons q qs) = all_within_counted (length vs) (length ws) (cons q qs) (let s = b.size in omega (arith, s)) in (
          (t, sorted_terms rest),
          record {
            canonical = evaluated_canonical sig ok T ws q gw w.0;
            order = sorted_terms-idempotent rest;
            whole = sorted_terms-right (elements e f t) rest ∙ b.gives;
            single = λ k. single q ws k gw (w.0, tt);
          },
          (us, m, record { begins = r.begins; size = r.size; gives = refl; fits = r.fits }),
        )

    pub bag_matches_once : (qs zs : RawTerms) (vs : List RawTerm) → Known qs → AreNumbered (length vs) qs → Fits sig T 0 vs → AreElements zs → AllOnce (IsBagMatch sig T f qs zs vs) (bag_matches e f rigid M qs zs vs)
    bag_matches_once nil nil vs k n g z = once_one (IsBagMatch sig T f nil nil vs) vs (record { begins = begins_same vs; size = refl; gives = refl; fits = no_more sig ok T vs }) (λ us m. sym (begins_whole vs us m.begins m.size))
    bag_matches_once nil (cons y zs) vs k n g z = once_none (IsBagMatch sig T f nil (cons y zs) vs) (λ us m. (let w = m.gives in cc))
    bag_matches_once (cons q qs) zs vs k n g z =
        once_same (λ ws. (c : Share) × IsShare sig f (rigid q) zs c × Then q qs vs c ws) (IsBagMatch sig T f (cons q qs) zs vs) (bag_matches e f rigid M (cons q qs) zs vs)
        (together q qs zs vs) (λ ws b. apart q qs zs vs ws g b)
        (once_flat_mapped (IsShare sig f (rigid q) zs) (Then q qs vs) (λ c. flat_map (λ us. bag_matches e f rigid M qs c.1 us) (M q c.0 vs)) (shares e f (rigid q) zs) (shares_once (rigid q) zs z)
        (λ c s. once_flat_mapped (IsMatch sig T q c.0 vs) (λ us ws. IsBagMatch sig T f qs c.1 us ws) (λ us. bag_matches e f rigid M qs c.1 us) (M q c.0 vs) (k.0 c.0 vs n.0 g s.canonical)
        (λ us m. bag_matches_once qs c.1 us k.1 (subst (λ i. AreNumbered i qs) (sym m.size) n.1) (fits_longer sig ok T vs us g m.begins m.fits) (left_elements zs (rigid q) c z s))
        (λ ws x y m p a b. begins_unique x y ws (m.size ∙ sym p.size) a.begins b.begins))
        (λ ws c d s u x y. same_share ws c d x y))
      where
        same_share : (ws : List RawTerm) (c d : Share) → Then q qs vs c ws → Then q qs vs d ws → c ≡ d
        same_share ws c d (us, m, r) (us2, m2, r2) =
            let i : c.0 ≡ d.0 = sym m.gives ∙ sym (evaluated_longer sig ok T us ws q r.begins (within_counted (length vs) (length us) q (let s = m.size in omega (arith, s))))
            ∙ evaluated_longer sig ok T us2 ws q r2.begins (within_counted (length vs) (length us2) q (let s = m2.size in omega (arith, s))) ∙ m2.gives in
            let j : c.1 ≡ d.1 = sym r.gives ∙ r2.gives in
            ap (λ v. (v, c.1)) i ∙ ap (λ zs. (d.0, zs)) j

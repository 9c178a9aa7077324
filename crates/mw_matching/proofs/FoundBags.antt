-- Under an operator that is associative and commutative each pattern takes a share of the multiset: each match once.
use Rattle.std.specs.Prelude.{◌≡◌, ◌*◌, ◌≤◌, ℕ, zero, suc, List, [], ◌∷◌, ◌++◌, map, flat_map, length, Bool, true, false, cond, Option, Some, None, is_some, slice_get, unwrap_or, refl}
use Rattle.std.proofs.Common.{ap, sym, subst, ◌∙◌, arith, append-nil}
use Rattle.std.proofs.lemmas.Bool.{both_ways, eqb-true}
use Rattle.mw_logic.specs.Term.{RawTerm, numeral, quoted, variable, apply, RawTerms, nil, cons, join}
use Rattle.mw_logic.specs.Signature.{Signature, Identity}
use Rattle.mw_logic.specs.Accepted.{IsAccepted}
use Rattle.mw_logic.specs.Parts.{is_assoc, number_of_terms}
use Rattle.mw_logic.specs.TermOrder.{sorted_terms}
use Rattle.mw_logic.specs.NormalForm.{is_comm, identity_of, elements, flattened, rebuilt, arranged}
use Rattle.mw_logic.proofs.Elements.{taken}
use Rattle.mw_logic.proofs.Canonical.{Each, IsElement, IsCanonical, elements-backed}
use Rattle.mw_logic.proofs.SortedLists.{occurrences, same_itself, climbs, sorted_terms-climbing}
use Rattle.mw_split.specs.Lists.{AllOnce}
use Rattle.mw_position.specs.Positions.{Begins, IsNumbered, AreNumbered, AreWithin}
use Rattle.mw_position.proofs.Begins.{begins_at}
use Rattle.mw_arguments.specs.Pieces.{is_backed}
use Rattle.mw_arguments.specs.Bags.{runs, heads}
use Rattle.mw_arguments.proofs.Once.{once_mapped, once_same, once_one, once_none}
use Rattle.mw_arguments.proofs.Arguments.{in_order}
use Rattle.mw_arguments.proofs.Spread.{occurrences-join, occurrences-sorted}
use Rattle.mw_matching.specs.Matches.{Theory, evaluated, evaluated_all, Fits, IsMatch}
use Rattle.mw_matching.specs.Patterns.{is_rigid, theory}
use Rattle.mw_matching.specs.Bagged.{Share, IsShare}
use Rattle.mw_matching.specs.Multisets.{is_within, left_behind, term_at, without, news, is_variable, times_in, at_least_one, times, part_of, rest_of, parts}
use Rattle.mw_matching.specs.Found.{Values, is_single, fits, value_of, are_none, found, found_bag}
use Rattle.mw_matching.proofs.Matches.{get_there, fits_longer}
use Rattle.mw_matching.proofs.Bagged.{AreElements, shares_once}
use Rattle.mw_matching.proofs.FoundArguments.{IsKnown, AreKnown}
use Rattle.mw_matching.proofs.FoundParts.{Halves, IsCopied, parts_once}
use Rattle.mw_matching.proofs.Multisets.{climbs_left, within_whole, within_joined, left_joined, news_shares}
use Rattle.mw_matching.proofs.FoundRows.{rigid_taken, backed_some}
use Rattle.mw_matching.proofs.FoundShares.{AreElementsOf, IsPart, elements_again, each_part, part_share, value_again, AreShared, all_within, left_elements, nothing_once, nothing_left, step_once, last_once, flat_map-mapped}

-- as many as are met, and at least one
some_times : (n : ℕ) → 1 ≤ at_least_one n
some_times zero = omega arith
some_times (suc n) = omega arith

at_most : (n o r : ℕ) → n * o ≤ r → o ≤ r → at_least_one n * o ≤ r
at_most zero o r a b = omega (arith, b)
at_most (suc n) o r a b = a

-- what is not empty stands for a term
some_backed : (e : Option Identity) (ps : RawTerms) → (is_some e ≡ false → 1 ≤ number_of_terms ps) → is_backed e ps ≡ true
some_backed (Some i) ps a = refl
some_backed None nil a = let o : 1 ≤ 0 = a refl in absurd (omega (arith, o))
some_backed None (cons p ps) a = refl

-- a variable that has its value
given_value : (sig : Signature) (q u : RawTerm) (vs ws : Values) → value_of q vs ≡ Some u → Begins vs ws → evaluated sig ws q ≡ u
given_value sig (numeral n) u vs ws e b = cc
given_value sig (quoted x) u vs ws e b = cc
given_value sig (variable x) u vs ws e b = ap (λ o. unwrap_or o (variable x)) (begins_at vs ws x.sort u b e)
given_value sig (apply g qs) u vs ws e b = cc

given_canonical : (sig : Signature) (T : Theory) (q u : RawTerm) (vs : Values) → value_of q vs ≡ Some u → Fits sig T 0 vs → IsCanonical sig u
given_canonical sig T (numeral n) u vs e g = cc
given_canonical sig T (quoted x) u vs e g = cc
given_canonical sig T (variable x) u vs e g = (g x.sort u (omega arith) e).0
given_canonical sig T (apply f qs) u vs e g = cc

found_given : (sig : Signature) (single : List (List ℕ)) (q u : RawTerm) (vs : Values) → value_of q vs ≡ Some u → found sig single q u vs ≡ vs ∷ []
found_given sig single (numeral n) u vs e = cc
found_given sig single (quoted x) u vs e = cc
found_given sig single (variable x) u vs e = rw (e, same_itself u) refl
found_given sig single (apply g qs) u vs e = cc

-- one variable has one value
same_values : (sig : Signature) (ws : Values) (q p : RawTerm) → is_variable q p ≡ true → AreWithin (length ws) (cons q nil) → evaluated sig ws p ≡ evaluated sig ws q
same_values sig ws (variable x) (variable y) e w =
    let i : x.sort ≡ y.sort = eqb-true x.sort y.sort e in
    let (u, a) = get_there ws x.sort w.0 in
    let b : slice_get ws y.sort ≡ Some u = subst (λ n. slice_get ws n ≡ Some u) i a in
    ap (λ o. unwrap_or o (variable y)) b ∙ ap (λ o. unwrap_or o (variable x)) (sym a)
same_values sig ws (variable x) (numeral n) e w = cc
same_values sig ws (variable x) (quoted y) e w = cc
same_values sig ws (variable x) (apply g ps) e w = cc
same_values sig ws (numeral n) p e w = cc
same_values sig ws (quoted x) p e w = cc
same_values sig ws (apply f qs) p e w = cc

module _ (sig : Signature) (ok : IsAccepted sig) (single : List (List ℕ)) (f : ℕ) (h : is_assoc sig f ≡ true) (ac : is_comm sig f ≡ true) where
  abbrev e : Option Identity
  e = identity_of sig f

  abbrev T : Theory
  T = theory sig (fits sig single) (is_single single)

  in_bag : (zs : RawTerms) → arranged (is_comm sig f) zs ≡ zs → sorted_terms zs ≡ zs
  in_bag zs o = rw ac at o

  joined_bag : (ps rs zs : RawTerms) → arranged (is_comm sig f) (join ps rs) ≡ zs → sorted_terms (join ps rs) ≡ zs
  joined_bag ps rs zs o = rw ac at o

  -- each variable's value is taken as often as the variable stands there
  copied : (ws : Values) (q : RawTerm) (ps : RawTerms) (v : RawTerm) → AreWithin (length ws) (cons q nil) → times_in q ps * occurrences v (elements e f (evaluated sig ws q)) ≤ occurrences v (flattened e f (evaluated_all sig ws ps))
  copied ws q nil v w = omega arith
  copied ws q (cons p ps) v w =
      let r = copied ws q ps v w in
      let j = occurrences-join v (elements e f (evaluated sig ws p)) (flattened e f (evaluated_all sig ws ps)) in
      let s : cond (is_variable q p) 1 0 * occurrences v (elements e f (evaluated sig ws q)) ≤ occurrences v (elements e f (evaluated sig ws p)) = by_test (is_variable q p) refl in
      omega (arith, r, j, s)
    where
      by_test : (b : Bool) → is_variable q p ≡ b → cond b 1 0 * occurrences v (elements e f (evaluated sig ws q)) ≤ occurrences v (elements e f (evaluated sig ws p))
      by_test true i = let o : occurrences v (elements e f (evaluated sig ws p)) ≡ occurrences v (elements e f (evaluated sig ws q)) = ap (λ t. occurrences v (elements e f t)) (same_values sig ws q p i w) in omega (arith, o)
      by_test false i = omega arith

  all_copied : (q : RawTerm) (qs zs : RawTerms) (vs ws : Values) (v : RawTerm) → AreShared sig ok f h T (cons q qs) zs vs ws → times q (cons q qs) * occurrences v (elements e f (evaluated sig ws q)) ≤ occurrences v zs
  all_copied q qs zs vs ws v b =
      let own : RawTerms = elements e f (evaluated sig ws q) in
      let rest : RawTerms = flattened e f (evaluated_all sig ws qs) in
      let w : sorted_terms (join own rest) ≡ zs = joined_bag own rest zs b.gives in
      let n : occurrences v (join own rest) ≡ occurrences v zs = sym (occurrences-sorted v (join own rest)) ∙ ap (occurrences v) w in
      let j = occurrences-join v own rest in
      let a = copied ws q (cons q qs) v ((all_within sig ok f h T (cons q qs) zs vs ws b).0, tt) in
      at_most (times_in q (cons q qs)) (occurrences v own) (occurrences v zs) (omega (arith, a, n)) (omega (arith, n, j))

  -- what the others find of what is left
  abbrev Rest : RawTerm → RawTerms → Values → Type 0
  Rest q qs vs = (t : RawTerm) (us : Values) (ys : RawTerms) → IsMatch sig T q t vs us → AreElementsOf sig ok f h ys → AllOnce (AreShared sig ok f h T qs ys us) (found_bag sig single f qs ys us)

  -- a value that is there
  given_parts : (zs : RawTerms) (u : RawTerm) → AreElementsOf sig ok f h zs → IsCanonical sig u
      → AllOnce (λ (s : Share). IsPart sig ok f h zs s × (s.0 ≡ u)) (cond (is_within (elements e f u) zs) ((u, left_behind (elements e f u) zs) ∷ []) [])
  given_parts zs u z ku = by_test (is_within (elements e f u) zs) refl
    where
      only_left : (s : Share) → IsPart sig ok f h zs s → s.0 ≡ u → (is_within (elements e f u) zs ≡ true) × (s.1 ≡ left_behind (elements e f u) zs)
      only_left s p i =
          let own : RawTerms = elements e f u in
          let a = climbs own (in_bag own (in_order sig ok f h u ku)) in
          let w : sorted_terms (join own s.1) ≡ zs = subst (λ v. sorted_terms (join (elements e f v) s.1) ≡ zs) i (joined_bag (elements e f s.0) s.1 zs p.whole) in
          (within_joined own s.1 zs a w, sym (left_joined own s.1 zs a (in_bag s.1 p.order) w))

      by_test : (b : Bool) → is_within (elements e f u) zs ≡ b → AllOnce (λ (s : Share). IsPart sig ok f h zs s × (s.0 ≡ u)) (cond b ((u, left_behind (elements e f u) zs) ∷ []) [])
      by_test true w =
          let climbing = climbs zs (in_bag zs z.order) in
          let o = sorted_terms-climbing (left_behind (elements e f u) zs) (climbs_left (elements e f u) zs climbing) in
          let j = within_whole (elements e f u) zs climbing w in
          once_one (λ (s : Share). IsPart sig ok f h zs s × (s.0 ≡ u)) (u, left_behind (elements e f u) zs) (record { canonical = ku; order = rw ac o; whole = rw ac j }, refl)
          (λ s p. ap (λ v. (v, s.1)) p.1 ∙ ap (λ rs. (u, rs)) (only_left s p.0 p.1).1)
      by_test false w = once_none (λ (s : Share). IsPart sig ok f h zs s × (s.0 ≡ u)) (λ s p. both_ways _ w (only_left s p.0 p.1).0)

  given_taken : (q : RawTerm) (qs zs : RawTerms) (vs : Values) (u : RawTerm) → value_of q vs ≡ Some u → IsKnown sig ok single q → IsNumbered (length vs) q → Fits sig T 0 vs → AreElementsOf sig ok f h zs → Rest q qs vs
      → AllOnce (AreShared sig ok f h T (cons q qs) zs vs) (cond (is_within (elements e f u) zs) (found_bag sig single f qs (left_behind (elements e f u) zs) vs) [])
  given_taken q qs zs vs u i k n g z rest =
      subst (AllOnce (AreShared sig ok f h T (cons q qs) zs vs)) (by_test (is_within (elements e f u) zs))
      (step_once sig ok f h T q qs zs vs (λ (s : Share). IsPart sig ok f h zs s × (s.0 ≡ u)) (cond (is_within (elements e f u) zs) ((u, left_behind (elements e f u) zs) ∷ []) [])
      (λ t. found sig single q t vs) (λ zs us. found_bag sig single f qs zs us) g (given_parts zs u z (given_canonical sig T q u vs i g)) (λ s p. p.0)
      (λ ws b p. (p, given_value sig q u vs ws i b.begins))
      (λ s p. k s.0 vs n g p.0.canonical)
      (λ s us p m. rest s.0 us s.1 m (left_elements sig ok f h zs s z p.0)))
    where
      by_test : (b : Bool) → flat_map (λ (s : Share). flat_map (λ us. found_bag sig single f qs s.1 us) (found sig single q s.0 vs)) (cond b ((u, left_behind (elements e f u) zs) ∷ []) [])
          ≡ cond b (found_bag sig single f qs (left_behind (elements e f u) zs) vs) []
      by_test false = refl
      by_test true =
          ap (λ xs. flat_map (λ us. found_bag sig single f qs (left_behind (elements e f u) zs) us) xs ++ []) (found_given sig single q u vs i)
          ∙ append-nil (found_bag sig single f qs (left_behind (elements e f u) zs) vs ++ []) ∙ append-nil (found_bag sig single f qs (left_behind (elements e f u) zs) vs)

  -- one of the different elements
  element_parts : (zs : RawTerms) → AreElementsOf sig ok f h zs
      → AllOnce (λ (s : Share). IsPart sig ok f h zs s × IsElement e f s.0) (map (λ n. (term_at n zs, without n zs)) (news zs 0 (number_of_terms zs)))
  element_parts zs z =
      let climbing = climbs zs (in_bag zs z.order) in
      let y : AreElements sig ok f h ac zs = record { each_element = z.each_element; each_canonical = z.each_canonical; climbs = climbing } in
      let l : AllOnce (IsShare sig f true zs) (map (λ d. (d, taken d zs)) (heads (runs zs))) = shares_once sig ok f h ac true zs y in
      subst (AllOnce (λ (s : Share). IsPart sig ok f h zs s × IsElement e f s.0)) (sym (news_shares e f zs climbing))
      (once_same (IsShare sig f true zs) (λ (s : Share). IsPart sig ok f h zs s × IsElement e f s.0) (map (λ d. (d, taken d zs)) (heads (runs zs)))
      (λ s i. (record { canonical = i.canonical; order = rw ac i.order; whole = rw ac i.whole }, i.single refl))
      (λ s p. record { canonical = p.0.canonical; order = in_bag s.1 p.0.order; whole = joined_bag (elements e f s.0) s.1 zs p.0.whole; single = λ _. p.1 }) l)

  element_taken : (q : RawTerm) (qs zs : RawTerms) (vs : Values) → IsKnown sig ok single q → IsNumbered (length vs) q → Fits sig T 0 vs → AreElementsOf sig ok f h zs → is_rigid sig (is_single single) f q ≡ true → Rest q qs vs
      → AllOnce (AreShared sig ok f h T (cons q qs) zs vs) (flat_map (λ n. flat_map (λ us. found_bag sig single f qs (without n zs) us) (found sig single q (term_at n zs) vs)) (news zs 0 (number_of_terms zs)))
  element_taken q qs zs vs k n g z r rest =
      subst (AllOnce (AreShared sig ok f h T (cons q qs) zs vs))
      (flat_map-mapped (λ (s : Share). flat_map (λ us. found_bag sig single f qs s.1 us) (found sig single q s.0 vs)) (λ n. (term_at n zs, without n zs)) (news zs 0 (number_of_terms zs)))
      (step_once sig ok f h T q qs zs vs (λ (s : Share). IsPart sig ok f h zs s × IsElement e f s.0) (map (λ n. (term_at n zs, without n zs)) (news zs 0 (number_of_terms zs)))
      (λ t. found sig single q t vs) (λ zs us. found_bag sig single f qs zs us) g (element_parts zs z) (λ s p. p.0)
      (λ ws b p. (p, rigid_taken sig ok single f h q qs zs vs ws r g b))
      (λ s p. k s.0 vs n g p.0.canonical)
      (λ s us p m. rest s.0 us s.1 m (left_elements sig ok f h zs s z p.0)))

  -- a part that is there as often as it is needed
  abbrev Suits : ℕ → RawTerms → Share → Type 0
  Suits m zs s = IsPart sig ok f h zs s × ((v : RawTerm) → m * occurrences v (elements e f s.0) ≤ occurrences v zs)

  abbrev half_share : Halves → Share
  half_share ps = (rebuilt e f ps.0, ps.1)

  copied_parts : (m : ℕ) (zs : RawTerms) → 1 ≤ m → AreElementsOf sig ok f h zs
      → AllOnce (Suits m zs) (map half_share (map (λ c. (part_of zs c, rest_of zs c)) (parts (is_some e) m zs)))
  copied_parts m zs some z =
      once_mapped (IsCopied (is_some e) m zs) (Suits m zs) half_share (map (λ c. (part_of zs c, rest_of zs c)) (parts (is_some e) m zs))
      (parts_once (is_some e) m zs some (climbs zs (in_bag zs z.order))) there back one
    where
      each_of : (ps : Halves) → IsCopied (is_some e) m zs ps → Each (IsElement e f) ps.0
      each_of ps i = (each_part sig ok f h (IsElement e f) zs ps.0 ps.1 (rw ac i.whole) z.each_element).0

      again : (ps : Halves) → IsCopied (is_some e) m zs ps → elements e f (rebuilt e f ps.0) ≡ ps.0
      again ps i = elements_again sig ok f h ps.0 (each_of ps i) (some_backed e ps.0 i.some)

      there : (ps : Halves) → IsCopied (is_some e) m zs ps → Suits m zs (half_share ps)
      there ps i = (
        part_share sig ok f h zs ps.0 ps.1 z (rw ac i.order) (rw ac i.left) (rw ac i.whole) (some_backed e ps.0 i.some),
        λ v. subst (λ ys. m * occurrences v ys ≤ occurrences v zs) (sym (again ps i)) (i.copies v),
      )

      back : (s : Share) → Suits m zs s → (ps : Halves) × IsCopied (is_some e) m zs ps × (half_share ps ≡ s)
      back s p = (
        (elements e f s.0, s.1),
        record {
          order = in_bag (elements e f s.0) (in_order sig ok f h s.0 p.0.canonical);
          left = in_bag s.1 p.0.order;
          whole = joined_bag (elements e f s.0) s.1 zs p.0.whole;
          copies = p.1;
          some = λ w. backed_some e (elements e f s.0) (elements-backed e f s.0) w;
        },
        ap (λ v. (v, s.1)) (value_again sig ok f h s.0 p.0.canonical),
      )

      one : (ps qs : Halves) → IsCopied (is_some e) m zs ps → IsCopied (is_some e) m zs qs → half_share ps ≡ half_share qs → ps ≡ qs
      one ps qs i j w =
          let a : ps.0 ≡ qs.0 = sym (again ps i) ∙ ap (λ (s : Share). elements e f s.0) w ∙ again qs j in
          let b : ps.1 ≡ qs.1 = ap (λ (s : Share). s.1) w in
          ap (λ ys. (ys, ps.1)) a ∙ ap (λ ys. (qs.0, ys)) b

  part_taken : (q : RawTerm) (qs zs : RawTerms) (vs : Values) → IsKnown sig ok single q → IsNumbered (length vs) q → Fits sig T 0 vs → AreElementsOf sig ok f h zs → Rest q qs vs
      → AllOnce (AreShared sig ok f h T (cons q qs) zs vs)
      (flat_map (λ c. flat_map (λ us. found_bag sig single f qs (rest_of zs c) us) (found sig single q (rebuilt e f (part_of zs c)) vs)) (parts (is_some e) (times q (cons q qs)) zs))
  part_taken q qs zs vs k n g z rest =
      let m : ℕ = times q (cons q qs) in
      let cs = parts (is_some e) m zs in
      subst (AllOnce (AreShared sig ok f h T (cons q qs) zs vs))
      (flat_map-mapped (λ (s : Share). flat_map (λ us. found_bag sig single f qs s.1 us) (found sig single q s.0 vs)) half_share (map (λ c. (part_of zs c, rest_of zs c)) cs)
      ∙ flat_map-mapped (λ (ps : Halves). flat_map (λ us. found_bag sig single f qs ps.1 us) (found sig single q (rebuilt e f ps.0) vs)) (λ c. (part_of zs c, rest_of zs c)) cs)
      (step_once sig ok f h T q qs zs vs (Suits m zs) (map half_share (map (λ c. (part_of zs c, rest_of zs c)) cs))
      (λ t. found sig single q t vs) (λ zs us. found_bag sig single f qs zs us) g (copied_parts m zs (some_times (times_in q (cons q qs))) z) (λ s p. p.0)
      (λ ws b p. (p, (λ v. all_copied q qs zs vs ws v b)))
      (λ s p. k s.0 vs n g p.0.canonical)
      (λ s us p m. rest s.0 us s.1 m (left_elements sig ok f h zs s z p.0)))

  -- the first pattern, and then the others
  bag_step : (q : RawTerm) (qs zs : RawTerms) (vs : Values) → IsKnown sig ok single q → IsNumbered (length vs) q → Fits sig T 0 vs → AreElementsOf sig ok f h zs → Rest q qs vs
      → AllOnce (AreShared sig ok f h T (cons q qs) zs vs) (found_bag sig single f (cons q qs) zs vs)
  bag_step q qs zs vs k n g z rest = by_value (value_of q vs) refl
    where
      last_or_part : (ps : RawTerms) → ps ≡ qs → AllOnce (AreShared sig ok f h T (cons q ps) zs vs)
          (cond (are_none ps) (cond (is_backed e zs) (found sig single q (rebuilt e f zs) vs) [])
          (flat_map (λ c. flat_map (λ us. found_bag sig single f ps (rest_of zs c) us) (found sig single q (rebuilt e f (part_of zs c)) vs)) (parts (is_some e) (times q (cons q ps)) zs)))
      last_or_part nil i = last_once sig ok f h T q zs vs (λ t. found sig single q t vs) g z (λ t kt. k t vs n g kt)
      last_or_part (cons p ps) i = part_taken q (cons p ps) zs vs k n g z (subst (λ qs. Rest q qs vs) (sym i) rest)

      by_rigid : (r : Bool) → is_rigid sig (is_single single) f q ≡ r → AllOnce (AreShared sig ok f h T (cons q qs) zs vs)
          (cond r (flat_map (λ n. flat_map (λ us. found_bag sig single f qs (without n zs) us) (found sig single q (term_at n zs) vs)) (news zs 0 (number_of_terms zs)))
          (cond (are_none qs) (cond (is_backed e zs) (found sig single q (rebuilt e f zs) vs) [])
          (flat_map (λ c. flat_map (λ us. found_bag sig single f qs (rest_of zs c) us) (found sig single q (rebuilt e f (part_of zs c)) vs)) (parts (is_some e) (times q (cons q qs)) zs))))
      by_rigid true r = element_taken q qs zs vs k n g z r rest
      by_rigid false r = last_or_part qs refl

      by_value : (o : Option RawTerm) → value_of q vs ≡ o → AllOnce (AreShared sig ok f h T (cons q qs) zs vs)
          (cond (is_some o) (cond (is_within (elements e f (unwrap_or o q)) zs) (found_bag sig single f qs (left_behind (elements e f (unwrap_or o q)) zs) vs) [])
          (cond (is_rigid sig (is_single single) f q) (flat_map (λ n. flat_map (λ us. found_bag sig single f qs (without n zs) us) (found sig single q (term_at n zs) vs)) (news zs 0 (number_of_terms zs)))
          (cond (are_none qs) (cond (is_backed e zs) (found sig single q (rebuilt e f zs) vs) [])
          (flat_map (λ c. flat_map (λ us. found_bag sig single f qs (rest_of zs c) us) (found sig single q (rebuilt e f (part_of zs c)) vs)) (parts (is_some e) (times q (cons q qs)) zs)))))
      by_value (Some u) i = given_taken q qs zs vs u i k n g z rest
      by_value None i = by_rigid (is_rigid sig (is_single single) f q) refl

  pub bag_once : (qs zs : RawTerms) (vs : Values) → AreKnown sig ok single qs → AreNumbered (length vs) qs → Fits sig T 0 vs → AreElementsOf sig ok f h zs → AllOnce (AreShared sig ok f h T qs zs vs) (found_bag sig single f qs zs vs)
  bag_once nil nil vs k n g z = nothing_once sig ok f h T vs
  bag_once nil (cons y ys) vs k n g z = nothing_left sig ok f h T y ys vs
  bag_once (cons q qs) zs vs k n g z =
      bag_step q qs zs vs k.0 n.0 g z
      (λ t us ys m y. bag_once qs ys us k.1 (subst (λ i. AreNumbered i qs) (sym m.size) n.1) (fits_longer sig ok T vs us g m.begins m.fits) y)

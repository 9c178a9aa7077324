-- Under an operator that is associative and not commutative each pattern takes the first of the elements that are left:
-- each match once.
use Rattle.std.specs.Prelude.{◌≡◌, ◌⊎◌, ◌+◌, ◌<◌, ◌≤◌, ℕ, zero, suc, List, [], ◌∷◌, map, flat_map, length, Bool, true, false, cond, Option, Some, None, is_some, refl}
use Rattle.std.proofs.Common.{inl, inr, ap, sym, subst, ◌∙◌, arith, append-nil}
use Rattle.std.proofs.lemmas.Bool.{both_ways, cases_lt}
use Rattle.mw_logic.specs.Term.{RawTerm, RawTerms, nil, cons, join}
use Rattle.mw_logic.specs.Terms.{front, skip}
use Rattle.mw_logic.specs.Signature.{Signature, Identity}
use Rattle.mw_logic.specs.Accepted.{IsAccepted}
use Rattle.mw_logic.specs.Parts.{is_assoc, number_of_terms}
use Rattle.mw_logic.specs.NormalForm.{is_comm, identity_of, elements, rebuilt}
use Rattle.mw_logic.proofs.Canonical.{IsElement, Backed, elements-backed}
use Rattle.mw_split.specs.Lists.{Member, AllOnce}
use Rattle.mw_position.specs.Positions.{IsNumbered, AreNumbered}
use Rattle.mw_arguments.specs.Pieces.{is_backed}
use Rattle.mw_arguments.proofs.Once.{once_mapped, once_same, once_one, once_none}
use Rattle.mw_arguments.proofs.ListPieces.{front_join, skip_join, join_parts, number_skip, number_join}
use Rattle.mw_matching.specs.Matches.{Theory, evaluated, Fits, IsMatch}
use Rattle.mw_matching.specs.Patterns.{is_rigid, theory}
use Rattle.mw_matching.specs.Bagged.{Share}
use Rattle.mw_matching.specs.Found.{Values, is_single, fits, first_term, are_none, numbers_from, fronts, found, found_row}
use Rattle.mw_matching.proofs.Matches.{fits_longer}
use Rattle.mw_matching.proofs.Patterns.{rigid_element}
use Rattle.mw_matching.proofs.FoundSingle.{fits_single}
use Rattle.mw_matching.proofs.FoundArguments.{IsKnown, AreKnown}
use Rattle.mw_matching.proofs.FoundShares.{AreElementsOf, IsPart, part_share, value_again, AreShared, all_fit, all_within, is_part, left_elements, nothing_once, nothing_left, step_once, last_once, flat_map-mapped}

-- numbers from n on, each once
one_more : (n count : ℕ) (xs : List ℕ) → AllOnce (λ i. (suc n ≤ i) × (i < suc n + count)) xs → AllOnce (λ i. (n ≤ i) × (i < n + suc count)) (n ∷ xs)
one_more n count xs r = record {
  once = ((λ m. (let a = ((r.all n).0 m).0 in absurd (omega (arith, a)))), r.once);
  all = λ i. ((λ m. there i m), (λ p. back i p));
}
  where
    there : (i : ℕ) → Member i (n ∷ xs) → (n ≤ i) × (i < n + suc count)
    there i (inl w) = (omega (arith, w), omega (arith, w))
    there i (inr m) = let (a, b) = (r.all i).0 m in (omega (arith, a), omega (arith, b))

    back : (i : ℕ) → (n ≤ i) × (i < n + suc count) → Member i (n ∷ xs)
    back i (a, b) = by_place (cases_lt n i)
      where
        by_place : (n < i) ⊎ (i ≤ n) → Member i (n ∷ xs)
        by_place (inl l) = inr ((r.all i).1 (l, omega (arith, b)))
        by_place (inr l) = inl (omega (arith, a, l))

pub numbers_once : (n count : ℕ) → AllOnce (λ i. (n ≤ i) × (i < n + count)) (numbers_from n count)
numbers_once n zero = once_none (λ i. (n ≤ i) × (i < n + 0)) (λ i p. (let a = p.0 in let b = p.1 in omega (arith, a, b)))
numbers_once n (suc count) = one_more n count (numbers_from (suc n) count) (numbers_once (suc n) count)

fronts_once : (b : Bool) (n : ℕ) → AllOnce (λ i. (b ≡ false → 1 ≤ i) × (i ≤ n)) (fronts b n)
fronts_once true n =
    once_same (λ i. (0 ≤ i) × (i < 0 + suc n)) (λ i. (true ≡ false → 1 ≤ i) × (i ≤ n)) (numbers_from 0 (suc n))
    (λ i p. ((λ w. absurd (both_ways _ w refl)), (let b = p.1 in omega (arith, b)))) (λ i p. (omega arith, (let b = p.1 in omega (arith, b)))) (numbers_once 0 (suc n))
fronts_once false n =
    once_same (λ i. (1 ≤ i) × (i < 1 + n)) (λ i. (false ≡ false → 1 ≤ i) × (i ≤ n)) (numbers_from 1 n)
    (λ i p. ((λ w. p.0), (let b = p.1 in omega (arith, b)))) (λ i p. (p.0 refl, (let b = p.1 in omega (arith, b)))) (numbers_once 1 n)

-- a front is not empty where there is no identity
front_backed : (e : Option Identity) (n : ℕ) (zs : RawTerms) → (is_some e ≡ false → 1 ≤ n) → n ≤ number_of_terms zs → is_backed e (front n zs) ≡ true
front_backed (Some i) n zs a b = refl
front_backed None zero zs a b = let o : 1 ≤ 0 = a refl in absurd (omega (arith, o))
front_backed None (suc n) nil a b = absurd (omega (arith, b))
front_backed None (suc n) (cons z zs) a b = refl

pub backed_some : (e : Option Identity) (ps : RawTerms) → Backed e ps → is_some e ≡ false → 1 ≤ number_of_terms ps
backed_some e (cons p ps) b w = omega arith
backed_some None nil b w = cc
backed_some (Some i) nil b w = cc

module _ (sig : Signature) (ok : IsAccepted sig) (single : List (List ℕ)) (f : ℕ) (h : is_assoc sig f ≡ true) where
  abbrev e : Option Identity
  e = identity_of sig f

  abbrev T : Theory
  T = theory sig (fits sig single) (is_single single)

  -- a rigid pattern takes one element
  pub rigid_taken : (q : RawTerm) (qs zs : RawTerms) (vs ws : Values) → is_rigid sig (is_single single) f q ≡ true → Fits sig T 0 vs → AreShared sig ok f h T (cons q qs) zs vs ws → IsElement e f (evaluated sig ws q)
  rigid_taken q qs zs vs ws r g b =
      rigid_element sig ok (fits sig single) (is_single single) (fits_single sig single) f q ws r (all_fit sig ok f h T (cons q qs) zs vs ws g b) (all_within sig ok f h T (cons q qs) zs vs ws b).0

  module _ (nc : is_comm sig f ≡ false) where
    fronts_parts : (zs : RawTerms) → AreElementsOf sig ok f h zs → AllOnce (IsPart sig ok f h zs) (map (λ n. (rebuilt e f (front n zs), skip n zs)) (fronts (is_some e) (number_of_terms zs)))
    fronts_parts zs z = once_mapped Suits (IsPart sig ok f h zs) at (fronts (is_some e) (number_of_terms zs)) (fronts_once (is_some e) (number_of_terms zs)) there back one
      where
        at : ℕ → Share
        at n = (rebuilt e f (front n zs), skip n zs)

        Suits : ℕ → Type 0
        Suits i = (is_some e ≡ false → 1 ≤ i) × (i ≤ number_of_terms zs)

        there : (n : ℕ) → Suits n → IsPart sig ok f h zs (rebuilt e f (front n zs), skip n zs)
        there n (a, b) = part_share sig ok f h zs (front n zs) (skip n zs) z (rw nc refl) (rw nc refl) (rw nc (join_parts n zs)) (front_backed e n zs a b)

        back : (s : Share) → IsPart sig ok f h zs s → (n : ℕ) × Suits n × (at n ≡ s)
        back s p =
            let els : RawTerms = elements e f s.0 in
            let n : ℕ = number_of_terms els in
            let w : join els s.1 ≡ zs = rw nc at p.whole in
            let size : n + number_of_terms s.1 ≡ number_of_terms zs = sym (number_join els s.1) ∙ ap number_of_terms w in
            let a : front n zs ≡ els = ap (front n) (sym w) ∙ front_join els s.1 in
            let b : skip n zs ≡ s.1 = ap (skip n) (sym w) ∙ skip_join els s.1 in (
              n,
              ((λ i. backed_some e els (elements-backed e f s.0) i), omega (arith, size)),
              ap (λ ps. (rebuilt e f ps, skip n zs)) a ∙ ap (λ v. (v, skip n zs)) (value_again sig ok f h s.0 p.canonical) ∙ ap (λ rs. (s.0, rs)) b,
            )

        one : (n m : ℕ) → Suits n → Suits m → at n ≡ at m → n ≡ m
        one n m (a, b) (a2, b2) w =
            let x : number_of_terms (skip n zs) ≡ number_of_terms (skip m zs) = ap (λ (s : Share). number_of_terms s.1) w in
            let y = number_skip n zs in
            let y2 = number_skip m zs in
            omega (arith, b, b2, x, y, y2)

    -- what the others find of what is left
    abbrev Rest : RawTerm → RawTerms → Values → Type 0
    Rest q qs vs = (t : RawTerm) (us : Values) (ys : RawTerms) → IsMatch sig T q t vs us → AreElementsOf sig ok f h ys → AllOnce (AreShared sig ok f h T qs ys us) (found_row sig single f qs ys us)

    -- one element
    first_taken : (q : RawTerm) (qs zs : RawTerms) (vs : Values) → IsKnown sig ok single q → IsNumbered (length vs) q → Fits sig T 0 vs → AreElementsOf sig ok f h zs → is_rigid sig (is_single single) f q ≡ true → Rest q qs vs
        → AllOnce (AreShared sig ok f h T (cons q qs) zs vs) (cond (are_none zs) [] (flat_map (λ us. found_row sig single f qs (skip 1 zs) us) (found sig single q (first_term zs) vs)))
    first_taken q qs nil vs k n g z r rest =
        once_none (AreShared sig ok f h T (cons q qs) nil vs) (λ ws b. none (evaluated sig ws q) _ (rigid_taken q qs nil vs ws r g b) (let p = is_part sig ok f h T q qs nil vs ws g b in rw nc at p.whole))
      where
        none : (v : RawTerm) (rs : RawTerms) → IsElement e f v → join (elements e f v) rs ≡ nil → ⊥
        none v rs i w = let u : cons v rs ≡ nil = ap (λ ys. join ys rs) (sym i) ∙ w in cc
    first_taken q qs (cons y ys) vs k n g z r rest =
        subst (AllOnce (AreShared sig ok f h T (cons q qs) (cons y ys) vs)) (append-nil (flat_map (λ us. found_row sig single f qs ys us) (found sig single q y vs)))
        (step_once sig ok f h T q qs (cons y ys) vs P ((y, ys) ∷ []) (λ t. found sig single q t vs) (λ zs us. found_row sig single f qs zs us) g
        (once_one P (y, ys) only (λ s p. single_share s p.1 (rw nc at p.0.whole)))
        (λ s p. p.0) (λ ws b p. (p, rigid_taken q qs (cons y ys) vs ws r g b))
        (λ s p. k s.0 vs n g p.0.canonical)
        (λ s us p m. rest s.0 us s.1 m (left_elements sig ok f h (cons y ys) s z p.0)))
      where
        P : Share → Type 0
        P s = IsPart sig ok f h (cons y ys) s × IsElement e f s.0

        only : P (y, ys)
        only = (record { canonical = z.each_canonical.0; order = rw nc refl; whole = rw nc (ap (λ xs. join xs ys) z.each_element.0) }, z.each_element.0)

        single_share : (s : Share) → IsElement e f s.0 → join (elements e f s.0) s.1 ≡ cons y ys → s ≡ (y, ys)
        single_share s i w =
            let u : cons s.0 s.1 ≡ cons y ys = ap (λ xs. join xs s.1) (sym i) ∙ w in
            let a : s.0 ≡ y = cc in
            let b : s.1 ≡ ys = cc in
            ap (λ v. (v, s.1)) a ∙ ap (λ zs. (y, zs)) b

    -- a front
    front_taken : (q : RawTerm) (qs zs : RawTerms) (vs : Values) → IsKnown sig ok single q → IsNumbered (length vs) q → Fits sig T 0 vs → AreElementsOf sig ok f h zs → Rest q qs vs
        → AllOnce (AreShared sig ok f h T (cons q qs) zs vs)
        (flat_map (λ n. flat_map (λ us. found_row sig single f qs (skip n zs) us) (found sig single q (rebuilt e f (front n zs)) vs)) (fronts (is_some e) (number_of_terms zs)))
    front_taken q qs zs vs k n g z rest =
        subst (AllOnce (AreShared sig ok f h T (cons q qs) zs vs))
        (flat_map-mapped (λ (s : Share). flat_map (λ us. found_row sig single f qs s.1 us) (found sig single q s.0 vs)) (λ n. (rebuilt e f (front n zs), skip n zs)) (fronts (is_some e) (number_of_terms zs)))
        (step_once sig ok f h T q qs zs vs (IsPart sig ok f h zs) (map (λ n. (rebuilt e f (front n zs), skip n zs)) (fronts (is_some e) (number_of_terms zs)))
        (λ t. found sig single q t vs) (λ zs us. found_row sig single f qs zs us) g (fronts_parts zs z) (λ s p. p) (λ ws b p. p)
        (λ s p. k s.0 vs n g p.canonical)
        (λ s us p m. rest s.0 us s.1 m (left_elements sig ok f h zs s z p)))

    -- the first pattern, and then the others
    row_step : (q : RawTerm) (qs zs : RawTerms) (vs : Values) → IsKnown sig ok single q → IsNumbered (length vs) q → Fits sig T 0 vs → AreElementsOf sig ok f h zs → Rest q qs vs
        → AllOnce (AreShared sig ok f h T (cons q qs) zs vs) (found_row sig single f (cons q qs) zs vs)
    row_step q nil zs vs k n g z rest = by_test (is_rigid sig (is_single single) f q) refl
      where
        by_test : (r : Bool) → is_rigid sig (is_single single) f q ≡ r → AllOnce (AreShared sig ok f h T (cons q nil) zs vs)
            (cond r (cond (are_none zs) [] (flat_map (λ us. found_row sig single f nil (skip 1 zs) us) (found sig single q (first_term zs) vs))) (cond (is_backed e zs) (found sig single q (rebuilt e f zs) vs) []))
        by_test true r = first_taken q nil zs vs k n g z r rest
        by_test false r = last_once sig ok f h T q zs vs (λ t. found sig single q t vs) g z (λ t kt. k t vs n g kt)
    row_step q (cons p ps) zs vs k n g z rest = by_test (is_rigid sig (is_single single) f q) refl
      where
        by_test : (r : Bool) → is_rigid sig (is_single single) f q ≡ r → AllOnce (AreShared sig ok f h T (cons q (cons p ps)) zs vs)
            (cond r (cond (are_none zs) [] (flat_map (λ us. found_row sig single f (cons p ps) (skip 1 zs) us) (found sig single q (first_term zs) vs)))
            (flat_map (λ n. flat_map (λ us. found_row sig single f (cons p ps) (skip n zs) us) (found sig single q (rebuilt e f (front n zs)) vs)) (fronts (is_some e) (number_of_terms zs))))
        by_test true r = first_taken q (cons p ps) zs vs k n g z r rest
        by_test false r = front_taken q (cons p ps) zs vs k n g z rest

    pub row_once : (qs zs : RawTerms) (vs : Values) → AreKnown sig ok single qs → AreNumbered (length vs) qs → Fits sig T 0 vs → AreElementsOf sig ok f h zs → AllOnce (AreShared sig ok f h T qs zs vs) (found_row sig single f qs zs vs)
    row_once nil nil vs k n g z = nothing_once sig ok f h T vs
    row_once nil (cons y ys) vs k n g z = nothing_left sig ok f h T y ys vs
    row_once (cons q qs) zs vs k n g z =
        row_step q qs zs vs k.0 n.0 g z
        (λ t us ys m y. row_once qs ys us k.1 (subst (λ i. AreNumbered i qs) (sym m.size) n.1) (fits_longer sig ok T vs us g m.begins m.fits) y)

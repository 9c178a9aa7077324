-- The splits of a canonical term are all lists of arguments on which the operator gives it, each once.
use Rattle.std.specs.Prelude.{◌≡◌, ◌⊎◌, ◌≤◌, ◌^◌, ℕ, zero, suc, [], ◌∷◌, Bool, true, false, ◌&&◌, cond, nat_eq, nat_lt, refl}
use Rattle.std.proofs.Common.{inl, inr, ap, sym, subst, ◌∙◌, arith}
use Rattle.std.proofs.lemmas.Bool.{both_ways, eqb-true, eq-eqb}
use Rattle.mw_logic.specs.Term.{RawTerm, numeral, quoted, variable, apply, RawTerms, nil, cons}
use Rattle.mw_logic.specs.Signature.{Signature}
use Rattle.mw_logic.specs.Accepted.{IsAccepted}
use Rattle.mw_logic.specs.Kinds.{is_successor}
use Rattle.mw_logic.specs.Parts.{is_assoc, number_of_terms}
use Rattle.mw_logic.specs.TermOrder.{stands_after, sorted_terms}
use Rattle.mw_logic.specs.NormalForm.{is_comm, identity_of, elements, arranged, counted, applied_in}
use Rattle.mw_logic.proofs.OrderLaws.{after-asym, after-antisym}
use Rattle.mw_logic.proofs.SortedLists.{same_term, climbs}
use Rattle.mw_logic.proofs.Canonical.{IsCanonical, AreCanonical}
use Rattle.mw_split.specs.Lists.{Member, AllOnce}
use Rattle.mw_split.specs.Cuts.{bag_cuts, list_cuts}
use Rattle.mw_split.proofs.Whole.{bag_cuts_once, list_cuts_once}
use Rattle.mw_arguments.specs.Arguments.{Gives, HasArity}
use Rattle.mw_arguments.specs.Pieces.{ArePieces}
use Rattle.mw_arguments.specs.Bags.{same, runs, heads, numbers}
use Rattle.mw_arguments.specs.Splits.{pieces, orders, exchanges, before_number, own, plain_splits, splits_by, splits_of}
use Rattle.mw_arguments.proofs.Once.{once_one, once_none}
use Rattle.mw_arguments.proofs.Arguments.{splits, in_order}
use Rattle.mw_arguments.proofs.BagPieces.{bag_cutting}
use Rattle.mw_arguments.proofs.ListPieces.{list_cutting}
use Rattle.mw_arguments.proofs.Runs.{same-equal, runs-spread, runs-length, runs-rise}

module _ (sig : Signature) (ok : IsAccepted sig) (f : ℕ) where
  -- associative
  pub of_pieces : (c : Bool) (k : ℕ) (zs : RawTerms) → arranged c zs ≡ zs → AllOnce (ArePieces c k zs) (pieces c k zs)
  of_pieces true k zs e =
      let l = bag_cutting (heads (runs zs)) (runs-rise zs (climbs zs e)) (numbers (runs zs)) (runs-length (runs zs)) k (bag_cuts (numbers (runs zs)) k) (bag_cuts_once (numbers (runs zs)) k) in
      subst (λ ys. AllOnce (ArePieces true k ys) (pieces true k zs)) (runs-spread zs) l
  of_pieces false k zs e = list_cutting zs k (list_cuts (number_of_terms zs) k) (list_cuts_once (number_of_terms zs) k)

  assoc_splits : is_assoc sig f ≡ true → (k : ℕ) → 1 ≤ k → (t : RawTerm) → IsCanonical sig t → AllOnce (Gives sig f k t) (splits_by true sig f k t)
  assoc_splits h k some t kt =
      let zs : RawTerms = elements (identity_of sig f) f t in
      splits sig ok f h k some t kt (pieces (is_comm sig f) k zs) (of_pieces (is_comm sig f) k zs (in_order sig ok f h t kt))

  -- what an operator without associativity makes of arguments
  module _ (h : is_assoc sig f ≡ false) where
    gives_counted : {k : ℕ} {t : RawTerm} {vs : RawTerms} → Gives sig f k t vs → counted (is_successor sig f) f (arranged (is_comm sig f) vs) ≡ t
    gives_counted g = rw h at g.gives

    counted_gives : {k : ℕ} {t : RawTerm} (vs : RawTerms) → AreCanonical sig vs → number_of_terms vs ≡ k → counted (is_successor sig f) f (arranged (is_comm sig f) vs) ≡ t → Gives sig f k t vs
    counted_gives vs a n e = record { canonical = a; size = n; gives = rw h e }

    arguments_canonical : (g : ℕ) (ts : RawTerms) → IsCanonical sig (apply g ts) → AreCanonical sig ts × (f ≡ g → counted (is_successor sig f) f (arranged (is_comm sig f) ts) ≡ apply f ts)
    arguments_canonical g ts k = (k.0, λ e. kept_as_is (subst (λ g. applied_in sig g ts ≡ apply g ts) (sym e) k.1))
      where
        kept_as_is : applied_in sig f ts ≡ apply f ts → counted (is_successor sig f) f (arranged (is_comm sig f) ts) ≡ apply f ts
        kept_as_is e = rw h at e

    -- commutative
    module _ (c : is_comm sig f ≡ true) where
      two_orders : {t : RawTerm} (vs : RawTerms) → Gives sig f 2 t vs → (a b : RawTerm) × (vs ≡ cons a (cons b nil)) × (apply f (sorted_terms (cons a (cons b nil))) ≡ t)
      two_orders nil g = let n = g.size in absurd (omega (arith, n))
      two_orders (cons a nil) g = let n = g.size in absurd (omega (arith, n))
      two_orders (cons a (cons b (cons x xs))) g = let n = g.size in absurd (omega (arith, n))
      two_orders {t} (cons a (cons b nil)) g =
          let q : counted (is_successor sig f) f (arranged (is_comm sig f) (cons a (cons b nil))) ≡ t = gives_counted g in
          (a, b, refl, by_test (stands_after a b) refl (rw c at q))
        where
          by_test : (x : Bool) → stands_after a b ≡ x → counted (is_successor sig f) f (sorted_terms (cons a (cons b nil))) ≡ t → apply f (sorted_terms (cons a (cons b nil))) ≡ t
          by_test true e w = rw e (rw e at w)
          by_test false e w = rw e (rw e at w)

      not_there : {t : RawTerm} → ((a b : RawTerm) → apply f (sorted_terms (cons a (cons b nil))) ≡ t → ⊥) → AllOnce (Gives sig f 2 t) []
      not_there n = once_none (Gives sig f 2 _) (λ vs g. (let (a, b, e, w) = two_orders vs g in n a b w))

      comm_splits : (t : RawTerm) → IsCanonical sig t → AllOnce (Gives sig f 2 t) (exchanges f t)
      comm_splits (numeral n) k = not_there (λ a b w. cc)
      comm_splits (quoted q) k = not_there (λ a b w. cc)
      comm_splits (variable x) k = not_there (λ a b w. cc)
      comm_splits (apply g ts) k = by_test (nat_eq f g) refl
        where
          length_two : (a b : RawTerm) → number_of_terms (sorted_terms (cons a (cons b nil))) ≡ 2
          length_two a b = by_test (stands_after a b)
            where
              by_test : (x : Bool) → number_of_terms (cond x (cons b (cons a nil)) (cons a (cons b nil))) ≡ 2
              by_test true = refl
              by_test false = refl

          sorted_two : (a b x y : RawTerm) → sorted_terms (cons a (cons b nil)) ≡ cons x (cons y nil) → ((a ≡ x) × (b ≡ y)) ⊎ ((a ≡ y) × (b ≡ x))
          sorted_two a b x y = by_test (stands_after a b)
            where
              by_test : (z : Bool) → cond z (cons b (cons a nil)) (cons a (cons b nil)) ≡ cons x (cons y nil) → ((a ≡ x) × (b ≡ y)) ⊎ ((a ≡ y) × (b ≡ x))
              by_test true e = inr (cc, cc)
              by_test false e = inl (cc, cc)

          swapped_two : (x y : RawTerm) → sorted_terms (cons y (cons x nil)) ≡ sorted_terms (cons x (cons y nil))
          swapped_two x y = by_tests (stands_after x y) (stands_after y x) refl refl
            where
              by_tests : (a b : Bool) → stands_after x y ≡ a → stands_after y x ≡ b → sorted_terms (cons y (cons x nil)) ≡ sorted_terms (cons x (cons y nil))
              by_tests true true p q = absurd (both_ways _ (after-asym x y p) q)
              by_tests true false p q = rw (p, q) refl
              by_tests false true p q = rw (p, q) refl
              by_tests false false p q = cc (after-antisym x y p q)

          gives_two : (x y a b : RawTerm) → IsCanonical sig a → IsCanonical sig b → sorted_terms (cons a (cons b nil)) ≡ cons x (cons y nil) → Gives sig f 2 (apply f (cons x (cons y nil))) (cons a (cons b nil))
          gives_two x y a b ka kb e = counted_gives (cons a (cons b nil)) (ka, (kb, tt)) refl (rw (c, e) refl)

          by_shape : (ts : RawTerms) → AreCanonical sig ts → sorted_terms ts ≡ ts → AllOnce (Gives sig f 2 (apply f ts)) (orders ts)
          by_shape nil a o = not_there (λ a b w. (let n = length_two a b in let e : sorted_terms (cons a (cons b nil)) ≡ nil = cc in let m : number_of_terms (sorted_terms (cons a (cons b nil))) ≡ 0 = ap number_of_terms e in omega (arith, n, m)))
          by_shape (cons x nil) a o = not_there (λ a b w. (let n = length_two a b in let e : sorted_terms (cons a (cons b nil)) ≡ cons x nil = cc in let m : number_of_terms (sorted_terms (cons a (cons b nil))) ≡ 1 = ap number_of_terms e in omega (arith, n, m)))
          by_shape (cons x (cons y (cons z zs))) a o = not_there (λ a b w. (let n = length_two a b in let e : sorted_terms (cons a (cons b nil)) ≡ cons x (cons y (cons z zs)) = cc in let m : number_of_terms (sorted_terms (cons a (cons b nil))) ≡ number_of_terms (cons x (cons y (cons z zs))) = ap number_of_terms e in omega (arith, n, m)))
          by_shape (cons x (cons y nil)) (kx, (ky, u)) o = by_test (same x y) refl
            where
              first : Gives sig f 2 (apply f (cons x (cons y nil))) (cons x (cons y nil))
              first = gives_two x y x y kx ky o

              second : Gives sig f 2 (apply f (cons x (cons y nil))) (cons y (cons x nil))
              second = gives_two x y y x ky kx (swapped_two x y ∙ o)

              either : (vs : RawTerms) → Gives sig f 2 (apply f (cons x (cons y nil))) vs → (vs ≡ cons x (cons y nil)) ⊎ (vs ≡ cons y (cons x nil))
              either vs g =
                  let (a, b, e, w) = two_orders vs g in
                  let s : sorted_terms (cons a (cons b nil)) ≡ cons x (cons y nil) = cc in
                  by_order a b e (sorted_two a b x y s)
                where
                  by_order : (a b : RawTerm) → vs ≡ cons a (cons b nil) → ((a ≡ x) × (b ≡ y)) ⊎ ((a ≡ y) × (b ≡ x)) → (vs ≡ cons x (cons y nil)) ⊎ (vs ≡ cons y (cons x nil))
                  by_order a b e (inl p) = inl (cc (e, p.0, p.1))
                  by_order a b e (inr p) = inr (cc (e, p.0, p.1))

              by_test : (z : Bool) → same x y ≡ z → AllOnce (Gives sig f 2 (apply f (cons x (cons y nil)))) (cond z (cons x (cons y nil) ∷ []) (cons x (cons y nil) ∷ cons y (cons x nil) ∷ []))
              by_test true q = once_one _ (cons x (cons y nil)) first (λ vs g. of (either vs g))
                where
                  of : {vs : RawTerms} → (vs ≡ cons x (cons y nil)) ⊎ (vs ≡ cons y (cons x nil)) → vs ≡ cons x (cons y nil)
                  of (inl e) = e
                  of (inr e) = let w : x ≡ y = same_term x y q in cc (e, w)
              by_test false q = record {
                once = ((λ m. apart m), ((λ m. m), tt));
                all = λ vs. ((λ m. of m), λ g. back (either vs g));
              }
                where
                  apart : Member (cons x (cons y nil)) (cons y (cons x nil) ∷ []) → ⊥
                  apart (inl e) = let w : x ≡ y = cc in both_ways _ q (same-equal x y w)
                  apart (inr m) = m

                  of : {vs : RawTerms} → Member vs (cons x (cons y nil) ∷ cons y (cons x nil) ∷ []) → Gives sig f 2 (apply f (cons x (cons y nil))) vs
                  of (inl e) = subst (Gives sig f 2 (apply f (cons x (cons y nil)))) (sym e) first
                  of (inr (inl e)) = subst (Gives sig f 2 (apply f (cons x (cons y nil)))) (sym e) second
                  of (inr (inr m)) = absurd m

                  back : {vs : RawTerms} → (vs ≡ cons x (cons y nil)) ⊎ (vs ≡ cons y (cons x nil)) → Member vs (cons x (cons y nil) ∷ cons y (cons x nil) ∷ [])
                  back (inl e) = inl e
                  back (inr e) = inr (inl e)

          by_test : (z : Bool) → nat_eq f g ≡ z → AllOnce (Gives sig f 2 (apply g ts)) (cond z (orders ts) [])
          by_test false q = not_there (λ a b w. (let e : f ≡ g = cc in both_ways _ q (eq-eqb f g e)))
          by_test true q =
              let e : f ≡ g = eqb-true f g q in
              let p = arguments_canonical g ts k in
              let o : sorted_terms ts ≡ ts = sorted_kept ts (rw c at p.1 e) in
              subst (λ g. AllOnce (Gives sig f 2 (apply g ts)) (orders ts)) e (by_shape ts p.0 o)
            where
              sorted_kept : (ts : RawTerms) → counted (is_successor sig f) f (sorted_terms ts) ≡ apply f ts → sorted_terms ts ≡ ts
              sorted_kept ts w = by_list (sorted_terms ts) refl
                where
                  by_list : (us : RawTerms) → sorted_terms ts ≡ us → sorted_terms ts ≡ ts
                  by_list us u = u ∙ counted_kept (is_successor sig f) us (ap (counted (is_successor sig f) f) (sym u) ∙ w)
                    where
                      counted_kept : (s : Bool) (us : RawTerms) → counted s f us ≡ apply f ts → us ≡ ts
                      counted_kept s nil w = cc
                      counted_kept s (cons (quoted x) nil) w = cc
                      counted_kept s (cons (variable x) nil) w = cc
                      counted_kept s (cons (apply g xs) nil) w = cc
                      counted_kept s (cons x (cons y ys)) w = cc
                      counted_kept s (cons (numeral n) nil) w = numbered (s && nat_lt (suc n) (2 ^ 128)) w
                        where
                          numbered : (b : Bool) → cond b (numeral (suc n)) (apply f (cons (numeral n) nil)) ≡ apply f ts → cons (numeral n) nil ≡ ts
                          numbered true w = cc
                          numbered false w = cc

    -- neither: the term's own arguments, or the number before it under `s_`
    module _ (c : is_comm sig f ≡ false) where
      abbrev s : Bool
      s = is_successor sig f

      plain_counted : {k : ℕ} {t : RawTerm} (vs : RawTerms) → Gives sig f k t vs → counted s f vs ≡ t
      plain_counted {k} {t} vs g = let q : counted s f (arranged (is_comm sig f) vs) ≡ t = gives_counted g in rw c at q

      plain_gives : {k : ℕ} {t : RawTerm} (vs : RawTerms) → AreCanonical sig vs → number_of_terms vs ≡ k → counted s f vs ≡ t → Gives sig f k t vs
      plain_gives vs a n e = counted_gives vs a n (rw c e)

      -- what is counted is the number behind, or the operator on the arguments
      abbrev Counts : RawTerms → RawTerm → Type 0
      Counts vs t = ((n : ℕ) × (vs ≡ cons (numeral n) nil) × (s ≡ true) × (nat_lt (suc n) (2 ^ 128) ≡ true) × (t ≡ numeral (suc n))) ⊎ (t ≡ apply f vs)

      counts : (vs : RawTerms) (t : RawTerm) → counted s f vs ≡ t → Counts vs t
      counts nil t e = inr (sym e)
      counts (cons (quoted q) nil) t e = inr (sym e)
      counts (cons (variable x) nil) t e = inr (sym e)
      counts (cons (apply g xs) nil) t e = inr (sym e)
      counts (cons x (cons y ys)) t e = inr (sym e)
      counts (cons (numeral n) nil) t e = of s (nat_lt (suc n) (2 ^ 128)) refl refl e
        where
          of : (a b : Bool) → s ≡ a → nat_lt (suc n) (2 ^ 128) ≡ b → cond (a && b) (numeral (suc n)) (apply f (cons (numeral n) nil)) ≡ t → Counts (cons (numeral n) nil) t
          of true true p q e = inl (n, refl, p, q, sym e)
          of true false p q e = inr (sym e)
          of false b p q e = inr (sym e)

      nothing_gives : {k : ℕ} {t : RawTerm} → ((n : ℕ) → s ≡ true → nat_lt (suc n) (2 ^ 128) ≡ true → t ≡ numeral (suc n) → k ≡ 1 → ⊥) → ((vs : RawTerms) → number_of_terms vs ≡ k → t ≡ apply f vs → ⊥) → AllOnce (Gives sig f k t) []
      nothing_gives {k} {t} a b = once_none (Gives sig f k t) (λ vs g. of vs g (counts vs t (plain_counted vs g)))
        where
          of : (vs : RawTerms) → Gives sig f k t vs → Counts vs t → ⊥
          of vs g (inl (n, e, p, q, w)) = a n p q w (sym g.size ∙ ap number_of_terms e)
          of vs g (inr w) = b vs g.size w

      own_splits : (k : ℕ) (t : RawTerm) → IsCanonical sig t → AllOnce (Gives sig f k t) (own s f k t)
      own_splits k (quoted q) kt = nothing_gives (λ n p q w m. cc) (λ vs n w. cc)
      own_splits k (variable x) kt = nothing_gives (λ n p q w m. cc) (λ vs n w. cc)
      own_splits k (numeral m) kt = of s refl
        where
          numbers_of : s ≡ true → (m : ℕ) → AllOnce (Gives sig f k (numeral m)) (before_number k m)
          numbers_of p zero = nothing_gives (λ n p q w j. cc) (λ vs n w. cc)
          numbers_of p (suc n) = by_test (nat_eq k 1) (nat_lt (suc n) (2 ^ 128)) refl refl
            where
              by_test : (a b : Bool) → nat_eq k 1 ≡ a → nat_lt (suc n) (2 ^ 128) ≡ b → AllOnce (Gives sig f k (numeral (suc n))) (cond (a && b) (cons (numeral n) nil ∷ []) [])
              by_test false b u v = nothing_gives (λ j x y w z. both_ways _ u (eq-eqb k 1 z)) (λ vs n w. cc)
              by_test true false u v = nothing_gives (λ j x y w z. (let e : j ≡ n = cc in both_ways _ v (ap (λ i. nat_lt (suc i) (2 ^ 128)) (sym e) ∙ y))) (λ vs n w. cc)
              by_test true true u v = once_one (Gives sig f k (numeral (suc n))) (cons (numeral n) nil)
                  (plain_gives (cons (numeral n) nil) (tt, tt) (sym (eqb-true k 1 u)) (rw (p, v) refl))
                  (λ vs g. only vs (counts vs (numeral (suc n)) (plain_counted vs g)))
                where
                  only : (vs : RawTerms) → Counts vs (numeral (suc n)) → vs ≡ cons (numeral n) nil
                  only vs (inl (j, e, x, y, w)) = let i : n ≡ j = cc in e ∙ ap (λ m. cons (numeral m) nil) (sym i)
                  only vs (inr w) = cc

          of : (b : Bool) → s ≡ b → AllOnce (Gives sig f k (numeral m)) (cond b (before_number k m) [])
          of true p = numbers_of p m
          of false p = nothing_gives (λ n q r w j. both_ways _ p q) (λ vs n w. cc)
      own_splits k (apply g ts) kt = by_test (nat_eq f g) (nat_eq (number_of_terms ts) k) refl refl
        where
          by_test : (a b : Bool) → nat_eq f g ≡ a → nat_eq (number_of_terms ts) k ≡ b → AllOnce (Gives sig f k (apply g ts)) (cond (a && b) (ts ∷ []) [])
          by_test false b u v = nothing_gives (λ j x y w z. cc) (λ vs n w. (let e : f ≡ g = cc in both_ways _ u (eq-eqb f g e)))
          by_test true false u v = nothing_gives (λ j x y w z. cc) (λ vs n w. (let e : vs ≡ ts = cc in both_ways _ v (eq-eqb (number_of_terms ts) k (ap number_of_terms (sym e) ∙ n))))
          by_test true true u v =
              let e : f ≡ g = eqb-true f g u in
              let p = arguments_canonical g ts kt in
              let w : counted s f ts ≡ apply f ts = rw c at p.1 e in
              once_one (Gives sig f k (apply g ts)) ts
              (plain_gives ts p.0 (eqb-true (number_of_terms ts) k v) (w ∙ ap (λ g. apply g ts) e))
              (λ vs q. only vs (counts vs (apply g ts) (plain_counted vs q)))
            where
              only : (vs : RawTerms) → Counts vs (apply g ts) → vs ≡ ts
              only vs (inl (j, e, x, y, w)) = cc
              only vs (inr w) = cc

  -- the law, for every operator
  pub exact : (k : ℕ) → HasArity sig f k → (t : RawTerm) → IsCanonical sig t → AllOnce (Gives sig f k t) (splits_of sig f k t)
  exact k a t kt = by_assoc (is_assoc sig f) refl
    where
      by_comm : is_assoc sig f ≡ false → (c : Bool) → is_comm sig f ≡ c → AllOnce (Gives sig f k t) (plain_splits c (is_successor sig f) f k t)
      by_comm h true c = subst (λ k. AllOnce (Gives sig f k t) (exchanges f t)) (sym (a.two h c)) (comm_splits h c t kt)
      by_comm h false c = own_splits h c k t kt

      by_assoc : (b : Bool) → is_assoc sig f ≡ b → AllOnce (Gives sig f k t) (splits_by b sig f k t)
      by_assoc true h = assoc_splits h k (a.some h) t kt
      by_assoc false h = by_comm h (is_comm sig f) refl

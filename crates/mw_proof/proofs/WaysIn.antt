-- From an operator on a term and others a move goes into a hole where the term stands, beside the others.
use Rattle.std.specs.Prelude.{◌≡◌, ◌⊎◌, ◌+◌, ◌-◌, ◌<◌, ◌≤◌, ◌^◌, ℕ, suc, List, [], ◌∷◌, length, Bool, true, false, ◌&&◌, cond, nat_eq, nat_lt, refl}
use Rattle.std.proofs.Common.{inl, inr, sym, subst, ap, ◌∙◌, arith}
use Rattle.std.proofs.lemmas.Bool.{both_ways, and_parts, ltb-true, eqb-true, eqb-false}
use Rattle.mw_logic.specs.Term.{RawTerm, numeral, quoted, variable, apply, RawTerms, nil, cons, join}
use Rattle.mw_logic.specs.Terms.{args_of, front, skip}
use Rattle.mw_logic.specs.Signature.{Signature, Operator, IsRawTerm, an_operator, AreRawTerms, next, IsAssociative}
use Rattle.mw_logic.specs.Accepted.{IsAccepted}
use Rattle.mw_logic.specs.Kinds.{is_successor}
use Rattle.mw_logic.specs.Parts.{is_assoc, nested, all_nested, nest, number_of_terms}
use Rattle.mw_logic.specs.TermOrder.{sorted_terms}
use Rattle.mw_logic.specs.NormalForm.{is_comm, identity_of, is_identity, own_arguments, elements, flattened, rebuilt, arranged, counted, applied_in, height}
use Rattle.mw_logic.specs.CanonicalPart.{AreSeveral}
use Rattle.mw_logic.specs.Module.{Module}
use Rattle.mw_logic.proofs.Canonical.{IsElement, IsCanonical, canonical as canonical_form, all_canonical, flattened-elements, assoc_operator, comm_operator, same_operator, arranged-one}
use Rattle.mw_logic.proofs.Holes.{Each-parts}
use Rattle.mw_logic.proofs.Replacing.{flattened-join, round_argument}
use Rattle.mw_logic.proofs.SortedLists.{Climbs, climbs}
use Rattle.mw_logic.proofs.SortLaws.{sorted_terms-idempotent}
use Rattle.mw_logic.proofs.Soundness.{IsLong, own_arguments-long, several-join, long-join, several-arranged, rebuilt-several, long-arranged}
use Rattle.mw_logic.proofs.Successor.{is_successor-sound}
use Rattle.mw_canon.specs.Canonical.{IsAdmittedTerm}
use Rattle.mw_arguments.specs.Places.{chosen, others, Rise, Follow, numbers_of}
use Rattle.mw_arguments.proofs.Places.{chosen_whole, numbers_rise, numbers_choose, IsPartOfList}
use Rattle.mw_arguments.proofs.Arguments.{args_in_order}
use Rattle.mw_redex.proofs.Middles.{first_there, chosen-middle, others-middle, in_front, count_from, count_chosen, count_others, count_follows, count_rises, number-join, less}
use Rattle.mw_deduction.specs.Standing.{filled, IsClear, IsSeenBy}
use Rattle.mw_deduction.specs.Replay.{Move, into, among, begun, opened, going_in, into_argument, into_several, play, MayGoAmong, IsMove}
use Rattle.mw_deduction.proofs.Taking.{front-join, skip-join, into_is, Taken, taken}
use Rattle.mw_proof.specs.Ways.{spread, numbers_in, way}
use Rattle.mw_proof.proofs.Alike.{AreAlike, sorted_one, long_alike}

-- The move m goes from w, which is f on t and what stands before and after it, into a hole where t stands.
pub record GoesTo (M : Module) (f : ℕ) (b a : RawTerms) (w t : RawTerm) (m : Move) : Type 0 where
  pub before : RawTerms
  pub after : RawTerms
  pub alike : AreAlike M.signature f b a before after
  pub may : (n : ℕ) → IsMove M m (begun n w ∷ [])
  pub goes : (n : ℕ) → play M m (begun n w ∷ []) ≡ going_in M.signature (opened f before after) t (begun n w) ∷ []

-- an operator that isn't `s_` on a numeral counts nothing
plain_counted : (s : Bool) (f : ℕ) (ts : RawTerms) → ((n : ℕ) → ts ≡ cons (numeral n) nil → (s && nat_lt (suc n) (2 ^ 128)) ≡ true → ⊥) → counted s f ts ≡ apply f ts
plain_counted s f nil h = refl
plain_counted s f (cons (quoted q) nil) h = refl
plain_counted s f (cons (variable x) nil) h = refl
plain_counted s f (cons (apply g ts) nil) h = refl
plain_counted s f (cons t (cons u us)) h = refl
plain_counted s f (cons (numeral n) nil) h = by_test (s && nat_lt (suc n) (2 ^ 128)) refl
  where
    by_test : (b : Bool) → (s && nat_lt (suc n) (2 ^ 128)) ≡ b → cond b (numeral (suc n)) (apply f (cons (numeral n) nil)) ≡ apply f (cons (numeral n) nil)
    by_test true e = absurd (h n refl e)
    by_test false e = refl

arranged_alone : (c : Bool) (ts : RawTerms) (t : RawTerm) → arranged c ts ≡ cons t nil → ts ≡ cons t nil
arranged_alone false ts t e = e
arranged_alone true ts t e = sorted_one ts t e

only_is : (b : RawTerms) (t : RawTerm) (a : RawTerms) (u : RawTerm) → join b (cons t a) ≡ cons u nil → t ≡ u
only_is nil t a u e = cc
only_is (cons x nil) t a u e = cc
only_is (cons x (cons y ys)) t a u e = cc

-- as many are chosen as there are numbers, and the others stay
chosen_numbers : (i : ℕ) (ks : List ℕ) (ts : RawTerms) → Rise i (i + number_of_terms ts) ks → (number_of_terms (chosen i ks ts) ≡ length ks) × (length ks + number_of_terms (others i ks ts) ≡ number_of_terms ts)
chosen_numbers i [] ts r = (refl, omega arith)
chosen_numbers i (k ∷ ks) nil r = let l = r.0 in let m = r.1 in absurd (omega (arith, l, m))
chosen_numbers i (k ∷ ks) (cons t ts) r = by_test (nat_eq i k) refl (λ q. chosen_numbers (suc i) ks ts q) (λ q. chosen_numbers (suc i) (k ∷ ks) ts q)
  where
    e : i + suc (number_of_terms ts) ≡ suc i + number_of_terms ts
    e = omega arith

    higher : nat_eq i k ≡ false → suc i ≤ k
    higher q = let l = r.0 in let d : i ≡ k → ⊥ = eqb-false i k q in omega (arith, l, d)

    by_test : (m : Bool) → nat_eq i k ≡ m
        → (Rise (suc i) (suc i + number_of_terms ts) ks → (number_of_terms (chosen (suc i) ks ts) ≡ length ks) × (length ks + number_of_terms (others (suc i) ks ts) ≡ number_of_terms ts))
        → (Rise (suc i) (suc i + number_of_terms ts) (k ∷ ks) → (number_of_terms (chosen (suc i) (k ∷ ks) ts) ≡ suc (length ks)) × (suc (length ks) + number_of_terms (others (suc i) (k ∷ ks) ts) ≡ number_of_terms ts))
        → (number_of_terms (cond m (cons t (chosen (suc i) ks ts)) (chosen (suc i) (k ∷ ks) ts)) ≡ suc (length ks))
        × (suc (length ks) + number_of_terms (cond m (others (suc i) ks ts) (cons t (others (suc i) (k ∷ ks) ts))) ≡ suc (number_of_terms ts))
    by_test true q x y =
        let w : i ≡ k = eqb-true i k q in
        let (u, v) = x (subst (λ n. Rise (suc i) n ks) e (subst (λ j. Rise (suc j) (i + suc (number_of_terms ts)) ks) (sym w) r.2)) in
        (ap suc u, omega (arith, v))
    by_test false q x y =
        let (u, v) = y (subst (λ n. Rise (suc i) n (k ∷ ks)) e (higher q, r.1, r.2)) in
        (u, omega (arith, v))

module _ (M : Module) (ok : IsAccepted M.signature) (f : ℕ) (b : RawTerms) (t : RawTerm) (a : RawTerms) where
  abbrev sig : Signature
  sig = M.signature

  abbrev c : Bool
  c = is_comm sig f

  abbrev es : RawTerms
  es = spread sig f t

  -- the whole, its arguments
  abbrev w : RawTerm
  w = filled sig (opened f b a) t

  abbrev ts : RawTerms
  ts = arranged c (join b (join es a))

  module _ (clear : IsClear sig (opened f b a)) (canonical : IsCanonical sig t) (seen : IsSeenBy sig (opened f b a) t) where
    spread_plain : is_assoc sig f ≡ false → es ≡ cons t nil
    spread_plain h = rw h refl

    spread_own : is_assoc sig f ≡ true → es ≡ own_arguments f t
    spread_own h = rw h (not_identity (is_identity (identity_of sig f) t) (seen.not_identity h))
      where
        not_identity : (m : Bool) → m ≡ false → cond m nil (own_arguments f t) ≡ own_arguments f t
        not_identity m e = rw e refl

    whole_plain : is_assoc sig f ≡ false → w ≡ apply f ts
    whole_plain h =
        let e : w ≡ counted (is_successor sig f) f (arranged c (join b (cons t a))) = rw h refl in
        e ∙ plain_counted (is_successor sig f) f (arranged c (join b (cons t a))) hidden ∙ ap (λ us. apply f (arranged c (join b (join us a)))) (sym (spread_plain h))
      where
        hidden : (n : ℕ) → arranged c (join b (cons t a)) ≡ cons (numeral n) nil → (is_successor sig f && nat_lt (suc n) (2 ^ 128)) ≡ true → ⊥
        hidden n q s =
            let (x, y) = and_parts (is_successor sig f) (nat_lt (suc n) (2 ^ 128)) s in
            seen.not_numeral n (is_successor-sound sig f x) (only_is b t a (numeral n) (arranged_alone c (join b (cons t a)) (numeral n) q)) (ltb-true (suc n) (2 ^ 128) y)

    several_there : (bs us cs : RawTerms) → IsLong us → IsLong (join bs cs) → AreSeveral (join bs (join us cs))
    several_there nil us cs l m = several-join us cs l m
    several_there (cons x bs) us cs l m = several-join (cons x bs) (join us cs) tt (long-join us cs l)

    whole_assoc : is_assoc sig f ≡ true → w ≡ apply f ts
    whole_assoc h =
        let e : elements (identity_of sig f) f t ≡ es = rw h refl in
        let own : es ≡ own_arguments f t = spread_own h in
        let flat : flattened (identity_of sig f) f (join b (cons t a)) ≡ join b (join es a) =
        flattened-join (identity_of sig f) f b (cons t a) ∙ ap (λ z. join z (join (elements (identity_of sig f) f t) (flattened (identity_of sig f) f a))) (flattened-elements (identity_of sig f) f b (clear.before_elements h))
        ∙ ap (λ z. join b (join (elements (identity_of sig f) f t) z)) (flattened-elements (identity_of sig f) f a (clear.after_elements h)) ∙ ap (λ z. join b (join z a)) e in
        let made : w ≡ rebuilt (identity_of sig f) f (arranged c (flattened (identity_of sig f) f (join b (cons t a)))) = rw h refl in
        made ∙ ap (λ z. rebuilt (identity_of sig f) f (arranged c z)) flat
        ∙ rebuilt-several (identity_of sig f) f ts (several-arranged c (join b (join es a)) (several_there b es a (subst IsLong (sym own) (own_arguments-long f t)) (clear.others h)))

    whole_is : w ≡ apply f ts
    whole_is = by_assoc (is_assoc sig f) refl
      where
        by_assoc : (m : Bool) → is_assoc sig f ≡ m → w ≡ apply f ts
        by_assoc true h = whole_assoc h
        by_assoc false h = whole_plain h

    -- the term stands there itself, or as several elements
    abbrev Spread : RawTerms → Type 0
    Spread us = (us ≡ cons t nil) ⊎ ((is_assoc sig f ≡ true) × (t ≡ apply f us) × AreSeveral us)

    higher_than_itself : (x : RawTerm) → x ≡ apply f (cons x nil) → ⊥
    higher_than_itself x e = let h : height x ≡ height (apply f (cons x nil)) = ap height e in absurd (omega (arith, h))

    spread_is : Spread es
    spread_is = by_assoc (is_assoc sig f) refl
      where
        of_own : (u : RawTerm) → u ≡ t → is_assoc sig f ≡ true → Spread (own_arguments f u)
        of_own (numeral n) e h = inl (ap (λ x. cons x nil) e)
        of_own (quoted q) e h = inl (ap (λ x. cons x nil) e)
        of_own (variable x) e h = inl (ap (λ x. cons x nil) e)
        of_own (apply g nil) e h = inl (ap (λ x. cons x nil) e)
        of_own (apply g (cons x xs)) e h = by_test (nat_eq f g) refl
          where
            long : (ys : RawTerms) → apply f (cons x ys) ≡ t → AreSeveral (cons x ys)
            long (cons y ys) q = tt
            long nil q =
                let k : IsCanonical sig (apply f (cons x nil)) = subst (IsCanonical sig) (sym q) canonical in
                let flat : flattened (identity_of sig f) f (cons x nil) ≡ cons x nil = flattened-elements (identity_of sig f) f (cons x nil) (k.2 h) in
                let made : applied_in sig f (cons x nil) ≡ x = rw (h, flat, arranged-one (is_comm sig f) x) refl in
                absurd (higher_than_itself x (sym made ∙ k.1))

            by_test : (m : Bool) → nat_eq f g ≡ m → Spread (cond m (cons x xs) (cons (apply g (cons x xs)) nil))
            by_test false q = inl (ap (λ x. cons x nil) e)
            by_test true q =
                let z : apply f (cons x xs) ≡ t = ap (λ n. apply n (cons x xs)) (eqb-true f g q) ∙ e in inr (h, sym z, long xs z)

        by_assoc : (m : Bool) → is_assoc sig f ≡ m → Spread es
        by_assoc false h = inl (spread_plain h)
        by_assoc true h = subst Spread (sym (spread_own h)) (of_own t refl h)

    long_spread : IsLong es
    long_spread = by_spread spread_is
      where
        of_several : (us : RawTerms) → AreSeveral us → IsLong us
        of_several (cons x xs) l = tt
        of_several nil l = absurd l

        by_spread : Spread es → IsLong es
        by_spread (inl e) = subst IsLong (sym e) tt
        by_spread (inr (h, e, l)) = of_several es l

    -- numbers of it among the arguments, with the others left
    record Choice (ks : List ℕ) : Type 0 where
      rise : Rise 1 (suc (number_of_terms ts)) ks
      chooses : chosen 1 ks ts ≡ es
      follow : c ≡ false → Follow ks
      leaves_listed : c ≡ false → others 1 ks ts ≡ join b a
      leaves_sorted : c ≡ true → sorted_terms (others 1 ks ts) ≡ sorted_terms (join b a)

    choice_listed : c ≡ false → Choice (count_from (suc (number_of_terms b)) es)
    choice_listed h = of_list es long_spread refl
      where
        i : ℕ
        i = suc (number_of_terms b)

        of_list : (us : RawTerms) → IsLong us → es ≡ us → Choice (count_from i es)
        of_list nil l e = absurd l
        of_list (cons u us) l e =
            let z : i ≡ 1 + number_of_terms b = omega arith in
            let k : ts ≡ join b (cons u (join us a)) = rw h (ap (λ z. join b (join z a)) e) in
            let q : count_from i es ≡ i ∷ count_from (suc i) us = ap (count_from i) e in
            subst Choice (sym q) (record {
              rise = subst (λ zs. Rise 1 (suc (number_of_terms zs)) (i ∷ count_from (suc i) us)) (sym k)
                  (omega arith, omega (arith, number-join b (cons u (join us a))), count_rises (suc i) (suc (number_of_terms (join b (cons u (join us a))))) us (omega (arith, number-join b (cons u (join us a)), number-join us a)));
              chooses = ap (chosen 1 (i ∷ count_from (suc i) us)) k ∙ chosen-middle 1 i (count_from (suc i) us) b u (join us a) z ∙ ap (cons u) (count_chosen (suc i) us a) ∙ sym e;
              follow = λ g. count_follows i us;
              leaves_listed = λ g. ap (others 1 (i ∷ count_from (suc i) us)) k ∙ others-middle 1 i (count_from (suc i) us) b u (join us a) z ∙ ap (join b) (count_others (suc i) us a);
              leaves_sorted = λ g. absurd (both_ways _ h g);
            })

    spread_climbs : c ≡ true → Climbs es
    spread_climbs h = by_spread spread_is
      where
        by_spread : Spread es → Climbs es
        by_spread (inl e) = subst Climbs (sym e) (tt, tt)
        by_spread (inr (m, e, l)) = climbs es (subst (λ g. arranged g es ≡ es) h (args_in_order sig ok f m es (subst (IsCanonical sig) e canonical)))

    choice_sorted : c ≡ true → Choice (numbers_of 1 es ts)
    choice_sorted h =
        let s : ts ≡ sorted_terms (join b (join es a)) = rw h refl in
        let part : IsPartOfList ts es = record { others = join b a; whole = sym (in_front b es a) ∙ sym s } in
        let order : sorted_terms ts ≡ ts = ap sorted_terms s ∙ sorted_terms-idempotent (join b (join es a)) ∙ sym s in
        let n : 1 + number_of_terms ts ≡ suc (number_of_terms ts) = omega arith in
        let chooses : chosen 1 (numbers_of 1 es ts) ts ≡ es = numbers_choose 1 es ts (spread_climbs h) (climbs ts order) part in
        let same : sorted_terms (join es (others 1 (numbers_of 1 es ts) ts)) ≡ sorted_terms (join es (join b a)) =
        ap (λ zs. sorted_terms (join zs (others 1 (numbers_of 1 es ts) ts))) (sym chooses) ∙ chosen_whole 1 (numbers_of 1 es ts) ts ∙ order ∙ s ∙ in_front b es a in
        record {
          rise = subst (λ m. Rise 1 m (numbers_of 1 es ts)) n (numbers_rise 1 es ts);
          chooses = chooses;
          follow = λ g. absurd (both_ways _ g h);
          leaves_listed = λ g. absurd (both_ways _ g h);
          leaves_sorted = λ g. less es (others 1 (numbers_of 1 es ts) ts) (join b a) same;
        }

    chosen_there : Choice (numbers_in c (number_of_terms b) es ts)
    chosen_there = by_comm c refl
      where
        by_comm : (m : Bool) → c ≡ m → Choice (numbers_in m (number_of_terms b) es ts)
        by_comm false h = choice_listed h
        by_comm true h = choice_sorted h

    module _ (whole : IsAdmittedTerm sig w) where
      abbrev Going : Move → Type 0
      Going = GoesTo M f b a w t

      whole_canonical : IsCanonical sig (apply f ts)
      whole_canonical = subst (IsCanonical sig) whole_is (subst (IsCanonical sig) whole.canonical (canonical_form sig ok (nested sig w)))

      -- a commutative operator that isn't associative has two arguments
      pair_raw : {K L : ℕ} (xs : RawTerms) → AreRawTerms sig (all_nested sig xs) (K ∷ L ∷ []) → number_of_terms xs ≡ 2
      pair_raw nil r = elim r [ ]
      pair_raw (cons x nil) (next r k more) = elim more [ ]
      pair_raw (cons x (cons y nil)) r = refl
      pair_raw (cons x (cons y (cons z zs))) (next r k (next s l more)) = elim more [ ]

      two_raw : c ≡ true → (xs : RawTerms) → IsRawTerm sig (apply f (all_nested sig xs)) → number_of_terms xs ≡ 2
      two_raw h xs (an_operator o is args) =
          let (p, there, m) = comm_operator sig f h in
          let (K, L, q, s) = ok.comm f p there m in
          pair_raw xs (subst (AreRawTerms sig (all_nested sig xs)) q (subst (λ (o : Operator). AreRawTerms sig (all_nested sig xs) o.args) (same_operator sig f o p is there) args))

      one_beside : (m : ℕ) (xs : RawTerms) → number_of_terms xs ≡ m → m ≡ 1 → (y : RawTerm) × (xs ≡ cons y nil)
      one_beside m nil e i = absurd (omega (arith, e, i))
      one_beside m (cons y nil) e i = (y, refl)
      one_beside m (cons y (cons z zs)) e i = absurd (omega (arith, e, i))

      pair_there : (d g : RawTerms) → ts ≡ join d (cons t g) → is_assoc sig f ≡ false → c ≡ true → (y : RawTerm) × (join d g ≡ cons y nil)
      pair_there d g e h k =
          let r : IsRawTerm sig (nest_of false) = subst (λ m. IsRawTerm sig (nest_of m)) h (subst (λ z. IsRawTerm sig (nested sig z)) whole_is whole.raw) in
          let n : number_of_terms (join d (cons t g)) ≡ 2 = ap number_of_terms (sym e) ∙ two_raw k ts r in
          let x = number-join d (cons t g) in let y = number-join d g in
          one_beside (number_of_terms (join d g)) (join d g) refl (omega (arith, n, x, y))
        where
          nest_of : Bool → RawTerm
          nest_of m = nest m f (all_nested sig ts)

      -- what is sorted as what stands beside
      alike_sorted : c ≡ true → (d g : RawTerms) → sorted_terms (join d g) ≡ sorted_terms (join b a) → (is_assoc sig f ≡ false → (y : RawTerm) × (join d g ≡ cons y nil)) → AreAlike sig f b a d g
      alike_sorted h d g s one = record { listed = λ k. absurd (both_ways _ k h); sorted = λ k. s; one = λ m k. one m; some = clear.others }

      alike_listed : c ≡ false → AreAlike sig f b a b a
      alike_listed h = record { listed = λ k. (refl, refl); sorted = λ k. refl; one = λ m k. absurd (both_ways _ h k); some = clear.others }

      -- into one argument
      into_goes : (i : ℕ) (d g : RawTerms) → i ≡ suc (number_of_terms d) → ts ≡ join d (cons t g) → AreAlike sig f b a d g → IsClear sig (opened f d g) → Going (into i)
      into_goes i d g n e alike k = record {
        before = d;
        after = g;
        alike = alike;
        may = λ r. record { operator = f; before = d; argument = t; after = g; is = whole_is ∙ ap (apply f) e; number = n; clear = k };
        goes = λ r. ap (λ x. into_argument sig i x (begun r w) ∷ []) (whole_is ∙ ap (apply f) e) ∙ ap (λ S. S ∷ []) (into_is sig i f d t g (begun r w) n);
      }

      clear_beside : c ≡ true → (d g : RawTerms) → ts ≡ join d (cons t g) → AreAlike sig f b a d g → IsClear sig (opened f d g)
      clear_beside h d g e alike =
          let k : IsCanonical sig (apply f (join d (cons t g))) = subst (λ z. IsCanonical sig (apply f z)) e whole_canonical in
          let (x, y, z) = round_argument sig ok d t g k in
          record {
            before = all_canonical sig d x;
            after = all_canonical sig g z;
            before_elements = λ m. (Each-parts (IsElement (identity_of sig f) f) d (cons t g) (k.2 m)).0;
            after_elements = λ m. (Each-parts (IsElement (identity_of sig f) f) d (cons t g) (k.2 m)).1.1;
            others = λ m. long_alike sig ok f b a d g alike m h;
          }

      alone_listed : c ≡ false → es ≡ cons t nil → Going (way (count_from (suc (number_of_terms b)) es))
      alone_listed h e =
          let z : ts ≡ join b (cons t a) = rw h (ap (λ us. join b (join us a)) e) in
          subst (λ us. Going (way (count_from (suc (number_of_terms b)) us))) (sym e) (into_goes (suc (number_of_terms b)) b a refl z (alike_listed h) clear)

      alone_sorted : c ≡ true → es ≡ cons t nil → (ks : List ℕ) → Choice ks → Going (way ks)
      alone_sorted h e [] ch = let q : nil ≡ cons t nil = ch.chooses ∙ e in cc
      alone_sorted h e (k ∷ []) ch =
          let (i, m, x, d) = first_there k [] ts ch.rise in
          let z : k ≡ 1 + number_of_terms d.before = let s = d.size in omega (arith, m, s) in
          let picked : cons x nil ≡ cons t nil = sym (ap (chosen 1 (k ∷ [])) d.whole ∙ chosen-middle 1 k [] d.before x d.after z) ∙ ch.chooses ∙ e in
          let same : x ≡ t = cc in
          let left : others 1 (k ∷ []) ts ≡ join d.before d.after = ap (others 1 (k ∷ [])) d.whole ∙ others-middle 1 k [] d.before x d.after z in
          let there : ts ≡ join d.before (cons t d.after) = d.whole ∙ ap (λ y. join d.before (cons y d.after)) same in
          let alike = alike_sorted h d.before d.after (ap sorted_terms (sym left) ∙ ch.leaves_sorted h) (λ p. pair_there d.before d.after there p h) in
          into_goes k d.before d.after (omega (arith, z)) there alike (clear_beside h d.before d.after there alike)
      alone_sorted h e (k ∷ l ∷ ks) ch =
          let n : 1 + number_of_terms ts ≡ suc (number_of_terms ts) = omega arith in
          let (u, v) = chosen_numbers 1 (k ∷ l ∷ ks) ts (subst (λ m. Rise 1 m (k ∷ l ∷ ks)) (sym n) ch.rise) in
          let q : number_of_terms (chosen 1 (k ∷ l ∷ ks) ts) ≡ number_of_terms (cons t nil) = ap number_of_terms (ch.chooses ∙ e) in
          absurd (omega (arith, u, q))

      -- into several
      module _ (assoc : is_assoc sig f ≡ true) (own : t ≡ apply f es) (several : AreSeveral es) where
        associative : IsAssociative sig f
        associative = let (o, is, m) = assoc_operator sig f assoc in record { operator = o; is_there = is; assoc = m }

        long_left : (ks : List ℕ) → Choice ks → IsLong (others 1 ks ts)
        long_left ks ch = by_comm c refl
          where
            of_sorted : (xs : RawTerms) → IsLong (sorted_terms xs) → IsLong xs
            of_sorted nil l = l
            of_sorted (cons x xs) l = tt

            by_comm : (m : Bool) → c ≡ m → IsLong (others 1 ks ts)
            by_comm false h = subst IsLong (sym (ch.leaves_listed h)) (clear.others assoc)
            by_comm true h = of_sorted (others 1 ks ts) (subst IsLong (sym (ch.leaves_sorted h)) (long-arranged true (join b a) (clear.others assoc)))

        long_number : (xs : RawTerms) → IsLong xs → 1 ≤ number_of_terms xs
        long_number nil l = elim l [ ]
        long_number (cons x xs) l = omega arith

        several_number : (xs : RawTerms) → AreSeveral xs → 2 ≤ number_of_terms xs
        several_number nil l = absurd l
        several_number (cons x nil) l = absurd l
        several_number (cons x (cons y xs)) l = omega arith

        counted_choice : (ks : List ℕ) → Choice ks → (number_of_terms es ≡ length ks) × (length ks < number_of_terms ts)
        counted_choice ks ch =
            let n : 1 + number_of_terms ts ≡ suc (number_of_terms ts) = omega arith in
            let (u, v) = chosen_numbers 1 ks ts (subst (λ m. Rise 1 m ks) (sym n) ch.rise) in
            let l = long_number (others 1 ks ts) (long_left ks ch) in
            (ap number_of_terms (sym ch.chooses) ∙ u, omega (arith, v, l))

        among_may : (ks : List ℕ) → Choice ks → MayGoAmong sig ks w
        among_may ks ch = record {
          part = t;
          takes = record { operator = f; args = ts; term = whole_is; assoc = associative; rise = ch.rise; several = subst AreSeveral (sym ch.chooses) several; follow = ch.follow; part = own ∙ ap (apply f) (sym ch.chooses) };
          proper = (counted_choice ks ch).1;
        }

        among_sorted : c ≡ true → (k l : ℕ) (ks : List ℕ) → Choice (k ∷ l ∷ ks) → Going (among (k ∷ l ∷ ks))
        among_sorted h k l ks ch =
            let x : Taken sig k (l ∷ ks) f ts = taken sig ok k (l ∷ ks) f ts whole_canonical associative ch.rise ch.follow in
            let s : ts ≡ sorted_terms (join b (join es a)) = rw h refl in
            let r : sorted_terms (join x.before (join es x.after)) ≡ sorted_terms (join b (join es a)) =
            ap (λ us. sorted_terms (join x.before (join us x.after))) (sym ch.chooses) ∙ subst (λ m. arranged m (join x.before (join (chosen 1 (k ∷ l ∷ ks) ts) x.after)) ≡ ts) h x.whole ∙ s in
            let q : sorted_terms (join x.before x.after) ≡ sorted_terms (join b a) = less es (join x.before x.after) (join b a) (sym (in_front x.before es x.after) ∙ r ∙ in_front b es a) in
            record {
              before = x.before;
              after = x.after;
              alike = alike_sorted h x.before x.after q (λ m. absurd (both_ways _ m assoc));
              may = λ n. among_may (k ∷ l ∷ ks) ch;
              goes = λ n. ap (λ z. into_several sig (k ∷ l ∷ ks) z (begun n w) ∷ []) whole_is ∙ ap (λ S. S ∷ []) (x.goes_in (begun n w))
                  ∙ ap (λ us. going_in sig (opened f x.before x.after) (apply f us) (begun n w) ∷ []) ch.chooses ∙ ap (λ z. going_in sig (opened f x.before x.after) z (begun n w) ∷ []) (sym own);
            }

        among_listed : c ≡ false → (k l : ℕ) (ks : List ℕ) → k ∷ l ∷ ks ≡ count_from (suc (number_of_terms b)) es → Choice (k ∷ l ∷ ks) → Going (among (k ∷ l ∷ ks))
        among_listed h k l ks q ch =
            let i : k ≡ suc (number_of_terms b) = first_is es several q in
            let z : ts ≡ join b (join es a) = rw h refl in
            let n : k - 1 ≡ number_of_terms b = omega (arith, i) in
            let p : front (k - 1) ts ≡ b = ap (λ j. front j ts) n ∙ ap (front (number_of_terms b)) z ∙ front-join b (join es a) in
            let s : skip (k - 1) ts ≡ join es a = ap (λ j. skip j ts) n ∙ ap (skip (number_of_terms b)) z ∙ skip-join b (join es a) in
            let r : others k (k ∷ l ∷ ks) (skip (k - 1) ts) ≡ a = ap (others k (k ∷ l ∷ ks)) s ∙ ap (λ m. others k m (join es a)) (q ∙ ap (λ m. count_from m es) (sym i)) ∙ count_others k es a in
            record {
              before = b;
              after = a;
              alike = alike_listed h;
              may = λ n. among_may (k ∷ l ∷ ks) ch;
              goes = λ n. ap (λ z. into_several sig (k ∷ l ∷ ks) z (begun n w) ∷ []) whole_is
                  ∙ ap (λ d. going_in sig (opened f d (others k (k ∷ l ∷ ks) (skip (k - 1) ts))) (apply f (chosen 1 (k ∷ l ∷ ks) ts)) (begun n w) ∷ []) p
                  ∙ ap (λ d. going_in sig (opened f b d) (apply f (chosen 1 (k ∷ l ∷ ks) ts)) (begun n w) ∷ []) r
                  ∙ ap (λ us. going_in sig (opened f b a) (apply f us) (begun n w) ∷ []) ch.chooses ∙ ap (λ z. going_in sig (opened f b a) z (begun n w) ∷ []) (sym own);
            }
          where
            first_is : (us : RawTerms) → AreSeveral us → k ∷ l ∷ ks ≡ count_from (suc (number_of_terms b)) us → k ≡ suc (number_of_terms b)
            first_is nil m e = absurd m
            first_is (cons x xs) m e = cc

        several_goes : (ks : List ℕ) → ks ≡ numbers_in c (number_of_terms b) es ts → Choice ks → Going (way ks)
        several_goes [] q ch = let n = several_number es several in let (u, v) = counted_choice [] ch in absurd (omega (arith, n, u))
        several_goes (k ∷ []) q ch = let n = several_number es several in let (u, v) = counted_choice (k ∷ []) ch in absurd (omega (arith, n, u))
        several_goes (k ∷ l ∷ ks) q ch = by_comm c refl q
          where
            by_comm : (m : Bool) → c ≡ m → k ∷ l ∷ ks ≡ numbers_in m (number_of_terms b) es ts → Going (among (k ∷ l ∷ ks))
            by_comm false h e = among_listed h k l ks e ch
            by_comm true h e = among_sorted h k l ks ch

      goes_on : Going (way (numbers_in c (number_of_terms b) es ts))
      goes_on = by_spread spread_is
        where
          by_comm : es ≡ cons t nil → (m : Bool) → c ≡ m → Choice (numbers_in m (number_of_terms b) es ts) → Going (way (numbers_in m (number_of_terms b) es ts))
          by_comm e false h ch = alone_listed h e
          by_comm e true h ch = alone_sorted h e (numbers_of 1 es ts) ch

          by_spread : Spread es → Going (way (numbers_in c (number_of_terms b) es ts))
          by_spread (inl e) = by_comm e c refl chosen_there
          by_spread (inr (m, e, l)) = several_goes m e l (numbers_in c (number_of_terms b) es ts) refl chosen_there

      pub goes_to : Going (way (numbers_in c (number_of_terms b) es (args_of w)))
      goes_to = subst (λ xs. Going (way (numbers_in c (number_of_terms b) es xs))) (sym (ap args_of whole_is)) goes_on

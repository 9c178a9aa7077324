-- The lists of values by splits are all matches, each once.
use Rattle.std.specs.Prelude.{◌≡◌, ◌⊎◌, ◌<◌, ◌≤◌, ℕ, zero, suc, List, [], ◌∷◌, ◌++◌, length, take, Bool, true, false, cond, Some, None, slice_get, unwrap_or, refl}
use Rattle.std.proofs.Common.{inl, inr, ap, sym, subst, ◌∙◌, arith, length-append}
use Rattle.std.proofs.lemmas.Bool.{both_ways, cases_lt}
use Rattle.std.proofs.lemmas.List.{length-take-le}
use Rattle.std.proofs.lemmas.Option.{slice_get_past, none-some, same_Some}
use Rattle.mw_logic.specs.Term.{Variable, RawTerm, numeral, quoted, variable, apply, RawTerms, nil, cons}
use Rattle.mw_logic.specs.Signature.{Signature}
use Rattle.mw_logic.specs.Accepted.{IsAccepted}
use Rattle.mw_logic.specs.Parts.{number_of_terms}
use Rattle.mw_logic.specs.NormalForm.{applied_in}
use Rattle.mw_logic.proofs.SortedLists.{same_term}
use Rattle.mw_logic.proofs.Canonical.{IsCanonical, AreCanonical, applied_canonical}
use Rattle.mw_split.specs.Lists.{AllOnce}
use Rattle.mw_position.specs.Positions.{counted, counted_all, Begins, IsNumbered, AreNumbered, IsWithin, AreWithin}
use Rattle.mw_position.proofs.Begins.{begins_same, begins_then, begins_at, begins_put, begins_last, begins_append, begins_whole, begins_unique, begins_take, take_begins}
use Rattle.mw_position.proofs.Counting.{counted_grows, all_counted_grows, within_counted, all_within_counted}
use Rattle.mw_arguments.specs.Arguments.{Gives}
use Rattle.mw_arguments.specs.Bags.{same}
use Rattle.mw_arguments.proofs.Once.{once_flat_mapped, once_same, once_one, once_none}
use Rattle.mw_arguments.proofs.Runs.{same-equal}
use Rattle.mw_matching.specs.Matches.{Theory, at_position, matches, row_matches, evaluated, evaluated_all, Fits, IsMatch, AreMatches, IsTheory, HasArities, AllHaveArities}

-- a place in a list has a value
pub get_there : (vs : List RawTerm) (i : ℕ) → i < length vs → (u : RawTerm) × (slice_get vs i ≡ Some u)
get_there [] i h = absurd (omega (arith, h))
get_there (v ∷ vs) zero h = (v, refl)
get_there (v ∷ vs) (suc i) h = get_there vs i (omega (arith, h))

-- one value more
length_push : (vs : List RawTerm) (t : RawTerm) → length (vs ++ t ∷ []) ≡ suc (length vs)
length_push vs t = length-append vs (t ∷ []) ∙ omega arith

get_push : (vs : List RawTerm) (t : RawTerm) → slice_get (vs ++ t ∷ []) (length vs) ≡ Some t
get_push vs t = begins_last vs (vs ++ t ∷ []) t (begins_same (vs ++ t ∷ []))

begins_one : (vs us : List RawTerm) (t : RawTerm) → Begins vs us → length us ≡ suc (length vs) → slice_get us (length vs) ≡ Some t → us ≡ vs ++ t ∷ []
begins_one vs us t h l e = sym (begins_whole (vs ++ t ∷ []) us (begins_put vs us t h e) (l ∙ sym (length_push vs t)))

module _ (sig : Signature) (ok : IsAccepted sig) (T : Theory) where
  -- behind the values there is none
  pub no_more : (vs : List RawTerm) → Fits sig T (length vs) vs
  no_more vs i u h e = let n : slice_get vs i ≡ None = slice_get_past vs i h in absurd (none-some u (sym n ∙ e))

  -- no new value
  pub closed_once : (p t u : RawTerm) (vs : List RawTerm) → counted (length vs) p ≡ length vs → ((us : List RawTerm) → Begins vs us → evaluated sig us p ≡ u) → AllOnce (IsMatch sig T p t vs) (cond (same u t) (vs ∷ []) [])
  closed_once p t u vs n e = by_test (same u t) refl
    where
      by_test : (b : Bool) → same u t ≡ b → AllOnce (IsMatch sig T p t vs) (cond b (vs ∷ []) [])
      by_test true h = once_one (IsMatch sig T p t vs) vs
          (record { begins = begins_same vs; size = sym n; gives = e vs (begins_same vs) ∙ same_term u t h; fits = no_more vs })
          (λ us m. sym (begins_whole vs us m.begins (m.size ∙ n)))
      by_test false h = once_none (IsMatch sig T p t vs) (λ us m. both_ways _ h (same-equal u t (sym (e us m.begins) ∙ m.gives)))

  -- a variable, with its value or without one
  pub at_variable_once : (x : Variable) (t : RawTerm) (vs : List RawTerm) → IsCanonical sig t → x.sort ≤ length vs → AllOnce (IsMatch sig T (variable x) t vs) (at_position T x.sort t vs (slice_get vs x.sort))
  at_variable_once x t vs k h = by_case (cases_lt x.sort (length vs))
    where
      by_case : (x.sort < length vs) ⊎ (length vs ≤ x.sort) → AllOnce (IsMatch sig T (variable x) t vs) (at_position T x.sort t vs (slice_get vs x.sort))
      by_case (inl l) =
          let (u, e) = get_there vs x.sort l in
          rw e (closed_once (variable x) t u vs (omega (arith, l)) (λ us b. ap (λ o. unwrap_or o (variable x)) (begins_at vs us x.sort u b e)))
      by_case (inr l) =
          let i : x.sort ≡ length vs = omega (arith, h, l) in
          rw (slice_get_past vs x.sort l) (by_test i (T.has x.sort t) refl)
        where
          by_test : x.sort ≡ length vs → (b : Bool) → T.has x.sort t ≡ b → AllOnce (IsMatch sig T (variable x) t vs) (cond b ((vs ++ t ∷ []) ∷ []) [])
          by_test i true q = once_one (IsMatch sig T (variable x) t vs) (vs ++ t ∷ [])
              (record {
                begins = begins_append vs (t ∷ []);
                size = length_push vs t ∙ (omega (arith, i));
                gives = ap (λ j. unwrap_or (slice_get (vs ++ t ∷ []) j) (variable x)) i ∙ ap (λ o. unwrap_or o (variable x)) (get_push vs t);
                fits = λ j u a b. at_new j u a b;
              })
              (λ us m. begins_one vs us t m.begins (m.size ∙ omega (arith, i)) (value_there us m))
            where
              at_new : (j : ℕ) (u : RawTerm) → length vs ≤ j → slice_get (vs ++ t ∷ []) j ≡ Some u → IsCanonical sig u × (T.has j u ≡ true)
              at_new j u a b = by_end (cases_lt (length vs) j)
                where
                  by_end : (length vs < j) ⊎ (j ≤ length vs) → IsCanonical sig u × (T.has j u ≡ true)
                  by_end (inl c) =
                      let n : slice_get (vs ++ t ∷ []) j ≡ None = slice_get_past (vs ++ t ∷ []) j (let l = length_push vs t in omega (arith, l, c)) in
                      absurd (none-some u (sym n ∙ b))
                  by_end (inr c) =
                      let e : j ≡ length vs = omega (arith, a, c) in
                      let w : t ≡ u = same_Some t u (sym (get_push vs t) ∙ ap (slice_get (vs ++ t ∷ [])) (sym e) ∙ b) in
                      (subst (IsCanonical sig) w k, ap (T.has j) (sym w) ∙ ap (λ n. T.has n t) (e ∙ sym i) ∙ q)

              value_there : (us : List RawTerm) → IsMatch sig T (variable x) t vs us → slice_get us (length vs) ≡ Some t
              value_there us m =
                  let s : length us ≡ suc (length vs) = m.size ∙ omega (arith, i) in
                  let (u, e) = get_there us (length vs) (omega (arith, s)) in
                  let w : u ≡ t = ap (λ o. unwrap_or o (variable x)) (sym e) ∙ ap (λ n. unwrap_or (slice_get us n) (variable x)) (sym i) ∙ m.gives in
                  e ∙ ap Some w
          by_test i false q = once_none (IsMatch sig T (variable x) t vs) (λ us m. refuted us m)
            where
              refuted : (us : List RawTerm) → IsMatch sig T (variable x) t vs us → ⊥
              refuted us m =
                  let s : length us ≡ suc (length vs) = m.size ∙ omega (arith, i) in
                  let (u, e) = get_there us (length vs) (omega (arith, s)) in
                  let w : u ≡ t = ap (λ o. unwrap_or o (variable x)) (sym e) ∙ ap (λ n. unwrap_or (slice_get us n) (variable x)) (sym i) ∙ m.gives in
                  let f : T.has (length vs) u ≡ true = (m.fits (length vs) u (omega arith) e).1 in
                  both_ways _ q (ap (T.has x.sort) (sym w) ∙ ap (λ n. T.has n u) i ∙ f)

  -- longer lists of values give the same
  mutual
    pub evaluated_longer : (rs us : List RawTerm) (p : RawTerm) → Begins rs us → IsWithin (length rs) p → evaluated sig us p ≡ evaluated sig rs p
    evaluated_longer rs us (numeral k) b w = refl
    evaluated_longer rs us (quoted q) b w = refl
    evaluated_longer rs us (variable x) b w = let (u, e) = get_there rs x.sort w in ap (λ o. unwrap_or o (variable x)) (begins_at rs us x.sort u b e ∙ sym e)
    evaluated_longer rs us (apply f ts) b w = ap (applied_in sig f) (all_evaluated_longer rs us ts b w)

    all_evaluated_longer : (rs us : List RawTerm) (ps : RawTerms) → Begins rs us → AreWithin (length rs) ps → evaluated_all sig us ps ≡ evaluated_all sig rs ps
    all_evaluated_longer rs us nil b w = refl
    all_evaluated_longer rs us (cons p ps) b w = rw (evaluated_longer rs us p b w.0, all_evaluated_longer rs us ps b w.1) refl

  -- the instance by canonical values is canonical
  mutual
    pub evaluated_canonical : (us : List RawTerm) (p : RawTerm) → Fits sig T 0 us → IsWithin (length us) p → IsCanonical sig (evaluated sig us p)
    evaluated_canonical us (numeral k) g w = tt
    evaluated_canonical us (quoted q) g w = tt
    evaluated_canonical us (variable x) g w = let (u, e) = get_there us x.sort w in subst (IsCanonical sig) (ap (λ o. unwrap_or o (variable x)) (sym e)) (g x.sort u (omega arith) e).0
    evaluated_canonical us (apply f ts) g w = applied_canonical sig ok f (evaluated_all sig us ts) (all_evaluated_canonical us ts g w)

    pub all_evaluated_canonical : (us : List RawTerm) (ps : RawTerms) → Fits sig T 0 us → AreWithin (length us) ps → AreCanonical sig (evaluated_all sig us ps)
    all_evaluated_canonical us nil g w = tt
    all_evaluated_canonical us (cons p ps) g w = (evaluated_canonical us p g w.0, all_evaluated_canonical us ps g w.1)

  pub number_evaluated : (us : List RawTerm) (ps : RawTerms) → number_of_terms (evaluated_all sig us ps) ≡ number_of_terms ps
  number_evaluated us nil = refl
  number_evaluated us (cons p ps) = ap suc (number_evaluated us ps)

  -- values that begin a longer list
  pub fits_longer : (vs us : List RawTerm) → Fits sig T 0 vs → Begins vs us → Fits sig T (length vs) us → Fits sig T 0 us
  fits_longer vs us g b f i u z e = by_place (cases_lt i (length vs))
    where
      by_place : (i < length vs) ⊎ (length vs ≤ i) → IsCanonical sig u × (T.has i u ≡ true)
      by_place (inl l) = let (v, d) = get_there vs i l in let w : v ≡ u = same_Some v u (sym (begins_at vs us i v b d) ∙ e) in g i u z (d ∙ ap Some w)
      by_place (inr l) = f i u l e

  -- the first argument's matches and then the others'
  pub row_match : (q : RawTerm) (qs : RawTerms) (t : RawTerm) (ts : RawTerms) (vs ws : List RawTerm) → (us : List RawTerm) × IsMatch sig T q t vs us × AreMatches sig T qs ts us ws → AreMatches sig T (cons q qs) (cons t ts) vs ws
  row_match q qs t ts vs ws (us, m, a) = record {
    begins = begins_then vs us ws m.begins a.begins;
    size = a.size ∙ ap (λ n. counted_all n qs) m.size;
    gives = rw (evaluated_longer us ws q a.begins (within_counted (length vs) (length us) q (let s = m.size in omega (arith, s))), m.gives, a.gives) refl;
    fits = λ i u l e. by_place i u l e (cases_lt i (length us));
  }
    where
      by_place : (i : ℕ) (u : RawTerm) → length vs ≤ i → slice_get ws i ≡ Some u → (i < length us) ⊎ (length us ≤ i) → IsCanonical sig u × (T.has i u ≡ true)
      by_place i u l e (inl k) = let (v, d) = get_there us i k in let w : v ≡ u = same_Some v u (sym (begins_at us ws i v a.begins d) ∙ e) in m.fits i u l (d ∙ ap Some w)
      by_place i u l e (inr k) = a.fits i u k e

  pub row_match_parts : (q : RawTerm) (qs : RawTerms) (t : RawTerm) (ts : RawTerms) (vs ws : List RawTerm) → AreMatches sig T (cons q qs) (cons t ts) vs ws → (us : List RawTerm) × IsMatch sig T q t vs us × AreMatches sig T qs ts us ws
  row_match_parts q qs t ts vs ws a =
      let n : ℕ = counted (length vs) q in
      let us : List RawTerm = take n ws in
      let up = counted_grows (length vs) q in
      let more = all_counted_grows n qs in
      let s = a.size in
      let size : length us ≡ n = length-take-le n ws (omega (arith, more, s)) in
      let b : Begins us ws = begins_take n ws in
      let g : evaluated sig ws q ≡ evaluated sig us q = evaluated_longer us ws q b (within_counted (length vs) (length us) q (omega (arith, size))) in
      let (e, d) = parts a.gives in (
        us,
        record {
          begins = take_begins n vs ws a.begins up;
          size = size;
          gives = sym g ∙ e;
          fits = λ i u l w. a.fits i u l (begins_at us ws i u b w);
        },
        record {
          begins = b;
          size = s ∙ ap (λ n. counted_all n qs) (sym size);
          gives = d;
          fits = λ i u l w. a.fits i u (omega (arith, l, size, up)) w;
        },
      )
    where
      parts : {x y : RawTerm} {xs ys : RawTerms} → cons x xs ≡ cons y ys → (x ≡ y) × (xs ≡ ys)
      parts e = (cc, cc)

  -- the law, for any splits that are all
  module _ (Shown : ℕ → RawTerms → RawTerms → Type 0) (exact : IsTheory sig T Shown) where
    mutual
      pub matches_once : (p t : RawTerm) (vs : List RawTerm) → HasArities sig p → IsNumbered (length vs) p → Fits sig T 0 vs → IsCanonical sig t → AllOnce (IsMatch sig T p t vs) (matches T p t vs)
      matches_once (numeral n) t vs r0 h g k = closed_once (numeral n) t (numeral n) vs refl (λ us b. refl)
      matches_once (quoted q) t vs r0 h g k = closed_once (quoted q) t (quoted q) vs refl (λ us b. refl)
      matches_once (variable x) t vs r0 h g k = at_variable_once x t vs k h
      matches_once (apply f qs) t vs r0 h g k =
          once_same (λ us. (ts : RawTerms) × (Gives sig f (number_of_terms qs) t ts × Shown f qs ts) × AreMatches sig T qs ts vs us) (IsMatch sig T (apply f qs) t vs) (matches T (apply f qs) t vs)
          (λ us m. let (ts, r, a) = m in record { begins = a.begins; size = a.size; gives = ap (applied_in sig f) a.gives ∙ r.0.gives; fits = a.fits })
          (λ us m. (
            evaluated_all sig us qs,
            (
              record {
                canonical = all_evaluated_canonical us qs (fits_longer vs us g m.begins m.fits) (all_within_counted (length vs) (length us) qs (let s = m.size in omega (arith, s)));
                size = number_evaluated us qs;
                gives = m.gives;
              },
              exact.shown f qs us (fits_longer vs us g m.begins m.fits) (all_within_counted (length vs) (length us) qs (let s = m.size in omega (arith, s))),
            ),
            record { begins = m.begins; size = m.size; gives = refl; fits = m.fits },
          ))
          (once_flat_mapped (λ ts. Gives sig f (number_of_terms qs) t ts × Shown f qs ts) (λ ts us. AreMatches sig T qs ts vs us) (λ ts. row_matches T qs ts vs) (T.splits f qs t) (exact.exact f qs t r0.0 k)
          (λ ts r. row_matches_once qs ts vs r0.1 h g r.0.canonical)
          (λ us xs ys r q a b. sym a.gives ∙ b.gives))

      row_matches_once : (ps ts : RawTerms) (vs : List RawTerm) → AllHaveArities sig ps → AreNumbered (length vs) ps → Fits sig T 0 vs → AreCanonical sig ts → AllOnce (AreMatches sig T ps ts vs) (row_matches T ps ts vs)
      row_matches_once nil nil vs r0 h g k = once_one (AreMatches sig T nil nil vs) vs (record { begins = begins_same vs; size = refl; gives = refl; fits = no_more vs }) (λ us m. sym (begins_whole vs us m.begins m.size))
      row_matches_once nil (cons t ts) vs r0 h g k = once_none (AreMatches sig T nil (cons t ts) vs) (λ us m. (let e = m.gives in cc))
      row_matches_once (cons q qs) nil vs r0 h g k = once_none (AreMatches sig T (cons q qs) nil vs) (λ us m. (let e = m.gives in cc))
      row_matches_once (cons q qs) (cons t ts) vs r0 h g k =
          once_same (λ ws. (us : List RawTerm) × IsMatch sig T q t vs us × AreMatches sig T qs ts us ws) (AreMatches sig T (cons q qs) (cons t ts) vs) (row_matches T (cons q qs) (cons t ts) vs)
          (row_match q qs t ts vs) (row_match_parts q qs t ts vs)
          (once_flat_mapped (IsMatch sig T q t vs) (λ us ws. AreMatches sig T qs ts us ws) (λ us. row_matches T qs ts us) (matches T q t vs) (matches_once q t vs r0.0 h.0 g k.0)
          (λ us m. row_matches_once qs ts us r0.1 (subst (λ n. AreNumbered n qs) (sym m.size) h.1) (fits_longer vs us g m.begins m.fits) k.1)
          (λ ws x y m n a b. begins_unique x y ws (m.size ∙ sym n.size) a.begins b.begins))

-- The runs of a list in order: spread they are the list, and their terms are what stands in it, each once.
use Rattle.std.specs.Prelude.{◌≡◌, ◌⊎◌, ℕ, suc, List, [], ◌∷◌, length, Bool, true, false, cond, refl}
use Rattle.std.proofs.Common.{inl, inr, ap, sym, subst, ◌∙◌}
use Rattle.std.proofs.lemmas.Bool.{both_ways}
use Rattle.mw_logic.specs.Term.{RawTerm, RawTerms, nil, cons}
use Rattle.mw_logic.specs.Parts.{Among}
use Rattle.mw_logic.specs.TermOrder.{stands_after}
use Rattle.mw_logic.proofs.OrderLaws.{after-antisym, not_after_itself}
use Rattle.mw_logic.proofs.SortedLists.{same_term, same_itself, Climbs}
use Rattle.mw_logic.proofs.Canonical.{Each}
use Rattle.mw_split.specs.Lists.{Member, Distinct, AllOnce}
use Rattle.mw_arguments.specs.Bags.{same, with_one, runs, heads, numbers, copies, spread, AreAfter, Rises}

-- equal terms tie
pub same-equal : (t u : RawTerm) → t ≡ u → same t u ≡ true
same-equal t u e = subst (λ x. same t x ≡ true) e (same_itself t)

-- runs spread are the list
pub runs-spread : (zs : RawTerms) → spread (heads (runs zs)) (numbers (runs zs)) ≡ zs
runs-spread nil = refl
runs-spread (cons t ts) = one_more (runs ts) ∙ ap (cons t) (runs-spread ts)
  where
    one_more : (rs : List (RawTerm × ℕ)) → spread (heads (with_one t rs)) (numbers (with_one t rs)) ≡ cons t (spread (heads rs) (numbers rs))
    one_more [] = refl
    one_more (r ∷ rs) = by_test (same t r.0) refl
      where
        by_test : (b : Bool) → same t r.0 ≡ b → spread (heads (cond b ((r.0, suc r.1) ∷ rs) ((t, 1) ∷ r ∷ rs))) (numbers (cond b ((r.0, suc r.1) ∷ rs) ((t, 1) ∷ r ∷ rs))) ≡ cons t (copies r.1 r.0 (spread (heads rs) (numbers rs)))
        by_test true h = ap (λ x. cons x (copies r.1 r.0 (spread (heads rs) (numbers rs)))) (sym (same_term t r.0 h))
        by_test false h = refl

pub runs-length : (rs : List (RawTerm × ℕ)) → length (numbers rs) ≡ length (heads rs)
runs-length [] = refl
runs-length (r ∷ rs) = ap suc (runs-length rs)

-- the runs' terms are among the list's
abbrev AllHeads : (RawTerm → Type 0) → List (RawTerm × ℕ) → Type 0
AllHeads P [] = Unit {0}
AllHeads P (r ∷ rs) = P r.0 × AllHeads P rs

heads_have : (P : RawTerm → Type 0) (zs : RawTerms) → Each P zs → AllHeads P (runs zs)
heads_have P nil h = tt
heads_have P (cons t ts) h = one_more (runs ts) (heads_have P ts h.1)
  where
    one_more : (rs : List (RawTerm × ℕ)) → AllHeads P rs → AllHeads P (with_one t rs)
    one_more [] k = (h.0, tt)
    one_more (r ∷ rs) k = by_test (same t r.0)
      where
        by_test : (b : Bool) → AllHeads P (cond b ((r.0, suc r.1) ∷ rs) ((t, 1) ∷ r ∷ rs))
        by_test true = k
        by_test false = (h.0, k)

-- strictly after
after_of : (t u : RawTerm) → stands_after t u ≡ false → same t u ≡ false → stands_after u t ≡ true
after_of t u h k = by_test (stands_after u t) refl
  where
    by_test : (b : Bool) → stands_after u t ≡ b → b ≡ true
    by_test true e = refl
    by_test false e = absurd (both_ways _ k (same-equal t u (after-antisym t u h e)))

pub runs-rise : (zs : RawTerms) → Climbs zs → Rises (heads (runs zs))
runs-rise nil h = tt
runs-rise (cons t ts) h = one_more (runs ts) (runs-rise ts h.1) (heads_have (λ u. stands_after t u ≡ false) ts h.0)
  where
    one_more : (rs : List (RawTerm × ℕ)) → Rises (heads rs) → AllHeads (λ u. stands_after t u ≡ false) rs → Rises (heads (with_one t rs))
    one_more [] r n = (tt, tt)
    one_more (x ∷ rs) r n = by_test (same t x.0) refl
      where
        by_test : (b : Bool) → same t x.0 ≡ b → Rises (heads (cond b ((x.0, suc x.1) ∷ rs) ((t, 1) ∷ x ∷ rs)))
        by_test true e = r
        by_test false e = let a : stands_after x.0 t ≡ true = after_of t x.0 n.0 e in ((a, later rs r.0 n.1), r)
          where
            later : (ys : List (RawTerm × ℕ)) → AreAfter x.0 (heads ys) → AllHeads (λ u. stands_after t u ≡ false) ys → AreAfter t (heads ys)
            later [] k m = tt
            later (y ∷ ys) k m = (after_of t y.0 m.0 (differs (same t y.0) refl), later ys k.1 m.1)
              where
                differs : (b : Bool) → same t y.0 ≡ b → same t y.0 ≡ false
                differs false d = d
                differs true d =
                    let w : t ≡ y.0 = same_term t y.0 d in
                    let z : stands_after t x.0 ≡ true = subst (λ u. stands_after u x.0 ≡ true) (sym w) k.0 in
                    absurd (both_ways _ n.0 z)

-- the heads of the runs are what stands in the list
head_among : (t : RawTerm) (zs : RawTerms) → Member t (heads (runs zs)) → Among zs t
head_among t nil m = m
head_among t (cons z zs) m = of (runs zs) m (head_among t zs)
  where
    of : (rs : List (RawTerm × ℕ)) → Member t (heads (with_one z rs)) → (Member t (heads rs) → Among zs t) → (z ≡ t) ⊎ Among zs t
    of [] (inl e) k = inl (sym e)
    of [] (inr m) k = absurd m
    of (r ∷ rs) m k = by_test (same z r.0) m
      where
        by_test : (b : Bool) → Member t (heads (cond b ((r.0, suc r.1) ∷ rs) ((z, 1) ∷ r ∷ rs))) → (z ≡ t) ⊎ Among zs t
        by_test true m = inr (k m)
        by_test false (inl e) = inl (sym e)
        by_test false (inr m) = inr (k m)

among_head : (t : RawTerm) (zs : RawTerms) → Among zs t → Member t (heads (runs zs))
among_head t nil m = m
among_head t (cons z zs) m = of (runs zs) (next m (among_head t zs))
  where
    next : (z ≡ t) ⊎ Among zs t → (Among zs t → Member t (heads (runs zs))) → (t ≡ z) ⊎ Member t (heads (runs zs))
    next (inl e) k = inl (sym e)
    next (inr m) k = inr (k m)

    of : (rs : List (RawTerm × ℕ)) → (t ≡ z) ⊎ Member t (heads rs) → Member t (heads (with_one z rs))
    of [] (inl e) = inl e
    of [] (inr m) = absurd m
    of (r ∷ rs) m = by_test (same z r.0) refl m
      where
        by_test : (b : Bool) → same z r.0 ≡ b → (t ≡ z) ⊎ Member t (heads (r ∷ rs)) → Member t (heads (cond b ((r.0, suc r.1) ∷ rs) ((z, 1) ∷ r ∷ rs)))
        by_test true q (inl e) = inl (e ∙ same_term z r.0 q)
        by_test true q (inr m) = m
        by_test false q (inl e) = inl e
        by_test false q (inr m) = inr m

rises_distinct : (ds : List RawTerm) → Rises ds → Distinct ds
rises_distinct [] h = tt
rises_distinct (d ∷ ds) h = ((λ m. apart ds h.0 m), rises_distinct ds h.1)
  where
    apart : (us : List RawTerm) → AreAfter d us → Member d us → ⊥
    apart [] k m = m
    apart (u ∷ us) k (inl e) = both_ways _ (not_after_itself d) (subst (λ x. stands_after x d ≡ true) (sym e) k.0)
    apart (u ∷ us) k (inr m) = apart us k.1 m

-- the runs of a list in order have each of its terms once
pub heads_once : (zs : RawTerms) → Climbs zs → AllOnce (λ d. Among zs d) (heads (runs zs))
heads_once zs c = record { once = rises_distinct (heads (runs zs)) (runs-rise zs c); all = λ d. (head_among d zs, among_head d zs) }

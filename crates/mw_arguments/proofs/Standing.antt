-- What stands in a list of terms in order: it can be taken out, and put in again.
use Rattle.std.specs.Prelude.{◌≡◌, ◌⊎◌, Bool, true, false, cond, refl}
use Rattle.std.proofs.Common.{inl, inr, ap, sym, subst}
use Rattle.std.proofs.lemmas.Bool.{both_ways}
use Rattle.mw_logic.specs.Term.{RawTerm, RawTerms, nil, cons}
use Rattle.mw_logic.specs.Parts.{Among}
use Rattle.mw_logic.specs.TermOrder.{stands_after, insert_term, sorted_terms}
use Rattle.mw_logic.proofs.OrderLaws.{after-antisym, not_after_itself}
use Rattle.mw_logic.proofs.Canonical.{Each, Each-arranged}
use Rattle.mw_logic.proofs.Elements.{taken}
use Rattle.mw_logic.proofs.SortedLists.{Climbs, insert_first}

-- what each has, that which stands there has
pub each_among : (P : RawTerm → Type 0) (t : RawTerm) (us : RawTerms) → Each P us → Among us t → P t
each_among P t nil h m = absurd m
each_among P t (cons u us) h (inl e) = subst P e h.0
each_among P t (cons u us) h (inr m) = each_among P t us h.1 m

all_among : (ts us : RawTerms) → ((t : RawTerm) → Among ts t → Among us t) → Each (Among us) ts
all_among nil us h = tt
all_among (cons t ts) us h = (h t (inl refl), all_among ts us (λ u m. h u (inr m)))

-- what stands in the list in order stands in the list
pub among_sorted : (t : RawTerm) (us : RawTerms) → Among (sorted_terms us) t → Among us t
among_sorted t us m = each_among (Among us) t (sorted_terms us) (Each-arranged (Among us) true us (all_among us us (λ u m. m))) m

-- what stands in a list in order can be taken out and put in again
pub put_back : (d : RawTerm) (zs : RawTerms) → Climbs zs → Among zs d → insert_term d (taken d zs) ≡ zs
put_back d nil h m = absurd m
put_back d (cons z zs) h m = by_test (stands_after d z) refl (put_back d zs h.1) m
  where
    by_test : (b : Bool) → stands_after d z ≡ b → (Among zs d → insert_term d (taken d zs) ≡ zs) → (z ≡ d) ⊎ Among zs d → insert_term d (cond b (cons z (taken d zs)) zs) ≡ cons z zs
    by_test true q r (inl e) = absurd (both_ways _ (not_after_itself d) (subst (λ x. stands_after d x ≡ true) e q))
    by_test true q r (inr n) = rw q (ap (cons z) (r n))
    by_test false q r n =
        let w : d ≡ z = is_head n in
        subst (λ x. insert_term x zs ≡ cons z zs) (sym w) (insert_first z zs h.0)
      where
        is_head : (z ≡ d) ⊎ Among zs d → d ≡ z
        is_head (inl e) = sym e
        is_head (inr n) = after-antisym d z q (each_among (λ u. stands_after z u ≡ false) d zs h.0 n)

-- what is left
pub each_taken : (P : RawTerm → Type 0) (d : RawTerm) (zs : RawTerms) → Each P zs → Each P (taken d zs)
each_taken P d nil h = tt
each_taken P d (cons z zs) h = by_test (stands_after d z) (each_taken P d zs h.1)
  where
    by_test : (b : Bool) → Each P (taken d zs) → Each P (cond b (cons z (taken d zs)) zs)
    by_test true r = (h.0, r)
    by_test false r = h.1

pub climbs_taken : (d : RawTerm) (zs : RawTerms) → Climbs zs → Climbs (taken d zs)
climbs_taken d nil h = tt
climbs_taken d (cons z zs) h = by_test (stands_after d z) (climbs_taken d zs h.1)
  where
    by_test : (b : Bool) → Climbs (taken d zs) → Climbs (cond b (cons z (taken d zs)) zs)
    by_test true r = (each_taken (λ u. stands_after z u ≡ false) d zs h.0, r)
    by_test false r = h.1

-- a list in order without its head
pub taken_head : (t : RawTerm) (ts : RawTerms) → taken t (cons t ts) ≡ ts
taken_head t ts = rw (not_after_itself t) refl

-- Terms that stand twice over, as they are found: one half is the other, or each stands beside another one that is the same.
use Rattle.std.specs.Prelude.{◌≡◌, ◌↔◌, ◌+◌, ◌/◌, ℕ, List, [], ◌∷◌, ◌++◌, length, take, drop, Bool, true, false, IsTrue, refl}
use Rattle.std.proofs.Common.{ap, sym, subst, ◌∙◌, arith}
use Rattle.std.proofs.lemmas.List.{take-append-drop, length-append}
use Rattle.mw_logic.specs.Term.{RawTerm, RawTerms, nil, cons, join}
use Rattle.mw_logic.specs.Terms.{terms_of, list_of}
use Rattle.mw_logic.specs.TermOrder.{stands_after, insert_term, sorted_terms}
use Rattle.mw_logic.specs.NormalForm.{arranged}
use Rattle.mw_logic.proofs.Canonical.{arranged-left, arranged-right, arranged-twice}
use Rattle.mw_logic.proofs.OrderLaws.{not_after_itself}
use Rattle.mw_logic.proofs.Replacing.{sorted_terms-middle}
use Rattle.mw_logic.proofs.SortedLists.{Climbs, climbs, insert_first}
use Rattle.mw_check.specs.RowSides.{IsTwice, ArePaired}

-- the same in order
pub twice_in_order : (c : Bool) (ts : RawTerms) → IsTwice c ts → (zs : RawTerms) × (arranged c zs ≡ zs) × (arranged c (join zs zs) ≡ ts)
twice_in_order c ts (zs, e) = (arranged c zs, arranged-twice c zs, arranged-left c zs (arranged c zs) ∙ arranged-right c zs zs ∙ e)

-- halves of a list
terms_join : (xs ys : List RawTerm) → terms_of (xs ++ ys) ≡ join (terms_of xs) (terms_of ys)
terms_join [] ys = refl
terms_join (x ∷ xs) ys = ap (cons x) (terms_join xs ys)

listed : (ts : RawTerms) → terms_of (list_of ts) ≡ ts
listed nil = refl
listed (cons t ts) = ap (cons t) (listed ts)

same_terms : (xs ys : List RawTerm) → terms_of xs ≡ terms_of ys → xs ≡ ys
same_terms [] [] e = refl
same_terms [] (y ∷ ys) e = cc
same_terms (x ∷ xs) [] e = cc
same_terms (x ∷ xs) (y ∷ ys) e =
    let p : x ≡ y = cc in
    let q : terms_of xs ≡ terms_of ys = cc in
    ap (λ z. z ∷ xs) p ∙ ap (λ zs. y ∷ zs) (same_terms xs ys q)

take_front : (xs ys : List RawTerm) → take (length xs) (xs ++ ys) ≡ xs
take_front [] ys = refl
take_front (x ∷ xs) ys = ap (λ zs. x ∷ zs) (take_front xs ys)

drop_front : (xs ys : List RawTerm) → drop (length xs) (xs ++ ys) ≡ ys
drop_front [] ys = refl
drop_front (x ∷ xs) ys = drop_front xs ys

half_of : (n : ℕ) → (n + n) / 2 ≡ n
half_of n = omega arith

pub halves_twice : (xs : List RawTerm) → (take (length xs / 2) xs ≡ drop (length xs / 2) xs) ↔ IsTwice false (terms_of xs)
halves_twice xs = (there, back)
  where
    h : ℕ
    h = length xs / 2

    there : take h xs ≡ drop h xs → IsTwice false (terms_of xs)
    there e = (terms_of (take h xs), ap (λ ys. join (terms_of (take h xs)) (terms_of ys)) e ∙ sym (terms_join (take h xs) (drop h xs)) ∙ ap terms_of (take-append-drop h xs))

    of_list : (zs : List RawTerm) → zs ++ zs ≡ xs → take h xs ≡ drop h xs
    of_list zs e =
        let l : length xs ≡ length zs + length zs = ap length (sym e) ∙ length-append zs zs in
        let k : h ≡ length zs = ap (λ n. n / 2) l ∙ half_of (length zs) in
        let f : take h xs ≡ zs = ap (λ n. take n xs) k ∙ ap (take (length zs)) (sym e) ∙ take_front zs zs in
        let d : drop h xs ≡ zs = ap (λ n. drop n xs) k ∙ ap (drop (length zs)) (sym e) ∙ drop_front zs zs in
        f ∙ sym d

    back : IsTwice false (terms_of xs) → take h xs ≡ drop h xs
    back (zs, e) = of_list (list_of zs) (same_terms (list_of zs ++ list_of zs) xs (terms_join (list_of zs) (list_of zs) ∙ ap (λ ys. join ys ys) (listed zs) ∙ e))

-- where a term is put in
put_behind : (t u : RawTerm) (us : RawTerms) → stands_after t u ≡ true → insert_term t (cons u us) ≡ cons u (insert_term t us)
put_behind t u us e = rw e refl

put_before : (t u : RawTerm) (us : RawTerms) → stands_after t u ≡ false → insert_term t (cons u us) ≡ cons t (cons u us)
put_before t u us e = rw e refl

both_behind : (t u : RawTerm) (us : RawTerms) → stands_after t u ≡ true → insert_term t (insert_term t (cons u (cons u us))) ≡ cons u (cons u (insert_term t (insert_term t us)))
both_behind t u us e =
    ap (insert_term t) (put_behind t u (cons u us) e ∙ ap (cons u) (put_behind t u us e)) ∙ put_behind t u (cons u (insert_term t us)) e ∙ ap (cons u) (put_behind t u (insert_term t us) e)

both_before : (t u : RawTerm) (us : RawTerms) → stands_after t u ≡ false → insert_term t (insert_term t (cons u us)) ≡ cons t (cons t (cons u us))
both_before t u us e = ap (insert_term t) (put_before t u us e) ∙ put_before t t (cons u us) (not_after_itself t)

listed_again : (us : List RawTerm) → list_of (terms_of us) ≡ us
listed_again [] = refl
listed_again (x ∷ xs) = ap (λ ys. x ∷ ys) (listed_again xs)

-- pairs stay pairs where a term is put in twice
put_twice : (t : RawTerm) (us : List RawTerm) → ArePaired us → ArePaired (list_of (insert_term t (insert_term t (terms_of us))))
put_twice t [] h = subst (λ us. ArePaired (list_of us)) (sym (put_before t t nil (not_after_itself t))) (refl, tt)
put_twice t (u ∷ []) h = absurd h
put_twice t (u ∷ v ∷ us) h = subst (λ z. ArePaired (list_of (insert_term t (insert_term t (cons u (cons z (terms_of us))))))) h.0 (by_test (stands_after t u) refl (put_twice t us h.1))
  where
    by_test : (b : Bool) → stands_after t u ≡ b → ArePaired (list_of (insert_term t (insert_term t (terms_of us)))) → ArePaired (list_of (insert_term t (insert_term t (cons u (cons u (terms_of us))))))
    by_test true e r = subst (λ us. ArePaired (list_of us)) (sym (both_behind t u (terms_of us) e)) (refl, r)
    by_test false e r = subst (λ us. ArePaired (list_of us)) (sym (both_before t u (cons u (terms_of us)) e)) (refl, (refl, subst ArePaired (sym (listed_again us)) h.1))

-- the terms twice over, in order
twice_cons : (t : RawTerm) (zs : RawTerms) → sorted_terms (join (cons t zs) (cons t zs)) ≡ insert_term t (insert_term t (sorted_terms (join zs zs)))
twice_cons t zs = ap (insert_term t) (sorted_terms-middle zs t zs)

pairs_of : (zs : RawTerms) → ArePaired (list_of (sorted_terms (join zs zs)))
pairs_of nil = tt
pairs_of (cons t zs) =
    let n : RawTerms = sorted_terms (join zs zs) in
    let h : ArePaired (list_of (insert_term t (insert_term t (terms_of (list_of n))))) = put_twice t (list_of n) (pairs_of zs) in
    subst (λ us. ArePaired (list_of us)) (sym (twice_cons t zs)) (subst (λ us. ArePaired (list_of (insert_term t (insert_term t us)))) (listed n) h)

-- one of each pair
halved : List RawTerm → RawTerms
halved [] = nil
halved (t ∷ []) = nil
halved (t ∷ u ∷ ts) = cons t (halved ts)

twice_halved : (ts : List RawTerm) → ArePaired ts → Climbs (terms_of ts) → sorted_terms (join (halved ts) (halved ts)) ≡ terms_of ts
unfolding halved
twice_halved [] h c = refl
twice_halved (t ∷ []) h c = absurd h
twice_halved (t ∷ u ∷ ts) h c =
    let n : RawTerms = halved ts in
    let r : sorted_terms (join n n) ≡ terms_of ts = twice_halved ts h.1 c.1.1 in
    let e : u ≡ t = sym h.0 in
    let once : insert_term t (terms_of ts) ≡ cons t (terms_of ts) = insert_first t (terms_of ts) (subst (λ z. Climbs (cons z (terms_of ts))) e c.1).0 in
    let again : insert_term t (cons t (terms_of ts)) ≡ cons t (cons t (terms_of ts)) = put_before t t (terms_of ts) (not_after_itself t) in
    twice_cons t n ∙ ap (λ us. insert_term t (insert_term t us)) r ∙ ap (insert_term t) once ∙ again ∙ ap (λ z. cons t (cons z (terms_of ts))) h.0

pub pairs_twice : (xs : List RawTerm) → sorted_terms (terms_of xs) ≡ terms_of xs → ArePaired xs ↔ IsTwice true (terms_of xs)
pairs_twice xs o = (λ h. (halved xs, twice_halved xs h (climbs (terms_of xs) o)), back)
  where
    back : IsTwice true (terms_of xs) → ArePaired xs
    back (zs, e) = subst ArePaired (ap list_of e ∙ listed_again xs) (pairs_of zs)

-- what the two tests say
pub paired_tells : (c : Bool) (xs : List RawTerm) (b : Bool) → c ≡ true → arranged c (terms_of xs) ≡ terms_of xs → IsTrue b ↔ ArePaired xs → IsTrue b ↔ IsTwice c (terms_of xs)
paired_tells true xs b e o h = let (there, back) = pairs_twice xs o in (λ i. there (h.0 i), λ t. h.1 (back t))
paired_tells false xs b e o h = absurd (apart e)
  where
    apart : false ≡ true → ⊥
    apart e = cc

pub halves_tell : (c : Bool) (xs ys zs : List RawTerm) (b : Bool) → c ≡ false → ys ≡ take (length xs / 2) xs → zs ≡ drop (length xs / 2) xs → IsTrue b ↔ (ys ≡ zs) → IsTrue b ↔ IsTwice c (terms_of xs)
halves_tell false xs ys zs b e p q h = let (there, back) = halves_twice xs in (λ i. there (sym p ∙ h.0 i ∙ q), λ t. h.1 (p ∙ back t ∙ sym q))
halves_tell true xs ys zs b e p q h = absurd (apart e)
  where
    apart : true ≡ false → ⊥
    apart e = cc

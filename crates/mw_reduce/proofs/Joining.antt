-- Arguments in two lists, each in order: the first of both, and what is put behind one of them.
use Rattle.std.specs.Prelude.{◌≡◌, ◌⊎◌, ◌<◌, ◌≤◌, ◌+◌, ℕ, zero, suc, List, [], ◌∷◌, ◌++◌, length, drop, get_or, Some, slice_get, true, false, Bool, cond, refl}
use Rattle.std.proofs.Common.{sym, subst, ap, ◌∙◌, arith, inl, inr}
use Rattle.std.proofs.lemmas.List.{drop-append-le}
use Rattle.mw_logic.specs.Term.{RawTerm, RawTerms, apply, nil, cons, join}
use Rattle.mw_logic.specs.Terms.{terms_of}
use Rattle.mw_logic.specs.Signature.{Signature}
use Rattle.mw_logic.specs.NormalForm.{arranged, applied_in}
use Rattle.mw_logic.specs.TermOrder.{stands_after, insert_term, sorted_terms}
use Rattle.mw_logic.proofs.Canonical.{IsCanonical, Each-join, Each-arranged}
use Rattle.mw_logic.proofs.Replacing.{sorted_terms-middle}
use Rattle.mw_logic.proofs.SortLaws.{join-nil, join_assoc, sorted_terms-comm, sorted_terms-idempotent}
use Rattle.mw_logic.proofs.SortedLists.{NoneBelow, Climbs, climbs, insert_first, NoneBelow-lower}
use Rattle.mw_logic.proofs.Pushed.{terms_of-append}
use Rattle.mw_arguments.proofs.Arguments.{args_in_order}
use Rattle.mw_pattern.proofs.Lists.{drop_at}
use Rattle.mw_frames.specs.State.{Run, Data, IsRun}
use Rattle.mw_frames.specs.Steps.{IsAsked}
use Rattle.mw_frames.specs.Pairs.{IsJoining}
use Rattle.mw_frames.proofs.Arguments.{same_applied}
use Rattle.mw_frames.proofs.Asking.{asked_value}
use Rattle.mw_reduce.specs.Pairs.{IsFirst, AreFirst}

-- t doesn't come behind the first of the terms
abbrev pub IsBefore : RawTerm → RawTerms → Type 0
IsBefore t us = (u : RawTerm) (vs : RawTerms) → us ≡ cons u vs → stands_after t u ≡ false

before_all : (t : RawTerm) (us : RawTerms) → Climbs us → IsBefore t us → NoneBelow t us
before_all t nil c h = tt
before_all t (cons u us) c h = (h u us refl, NoneBelow-lower t u us (h u us refl) c.0)

before_both : (t : RawTerm) (ts us : RawTerms) → NoneBelow t ts → NoneBelow t us → NoneBelow t (sorted_terms (join ts us))
before_both t ts us h k = Each-arranged (λ u. stands_after t u ≡ false) true (join ts us) (Each-join (λ u. stands_after t u ≡ false) ts us h k)

-- the first of one list, where it doesn't come behind the first of the other
own_first : (t : RawTerm) (own made : RawTerms) → Climbs (cons t own) → Climbs made → IsBefore t made → IsFirst (cons t own) made t own made
own_first t own made c d h = record {
  sorted = insert_first t (sorted_terms (join own made)) (before_both t own made c.0 (before_all t made d h));
  own_order = c.1;
  made_order = d;
}

made_first : (t : RawTerm) (own made : RawTerms) → Climbs own → Climbs (cons t made) → IsBefore t own → IsFirst own (cons t made) t own made
made_first t own made c d h = record {
  sorted = sorted_terms-middle own t made ∙ insert_first t (sorted_terms (join own made)) (before_both t own made (before_all t own c h) d.0);
  own_order = c;
  made_order = d.1;
}

dropped : (xs : List RawTerm) (i : ℕ) (t : RawTerm) → i < length xs → t ≡ get_or xs i t → terms_of (drop i xs) ≡ cons t (terms_of (drop (i + 1) xs))
dropped xs i t l e = ap terms_of (drop_at xs i t l e)

pub before_found : (xs : List RawTerm) (i : ℕ) (t u : RawTerm) → i < length xs → u ≡ get_or xs i u → stands_after t u ≡ false → IsBefore t (terms_of (drop i xs))
before_found xs i t u l e h v vs q = let z : cons u (terms_of (drop (i + 1) xs)) ≡ cons v vs = sym (dropped xs i u l e) ∙ q in let w : u ≡ v = cc in subst (λ x. stands_after t x ≡ false) w h

pub before_none : (xs : List RawTerm) (i : ℕ) (t : RawTerm) → length xs ≤ i → IsBefore t (terms_of (drop i xs))
before_none [] zero t l v vs q = cc
before_none [] (suc i) t l v vs q = cc
before_none (x ∷ xs) zero t l v vs q = absurd (omega (arith, l))
before_none (x ∷ xs) (suc i) t l v vs q = before_none xs i t (omega (arith, l)) v vs q

-- the same, by places in the lists
pub own_taken : (args made : List RawTerm) (i j : ℕ) (t : RawTerm) → i < length args → t ≡ get_or args i t → IsBefore t (terms_of (drop j made)) → Climbs (terms_of (drop i args)) → Climbs (terms_of (drop j made))
    → IsFirst (terms_of (drop i args)) (terms_of (drop j made)) t (terms_of (drop (i + 1) args)) (terms_of (drop j made))
own_taken args made i j t l e h a b =
    let d = dropped args i t l e in
    subst (λ us. IsFirst us (terms_of (drop j made)) t (terms_of (drop (i + 1) args)) (terms_of (drop j made))) (sym d) (own_first t (terms_of (drop (i + 1) args)) (terms_of (drop j made)) (subst Climbs d a) b h)

pub made_taken : (args made : List RawTerm) (i j : ℕ) (t : RawTerm) → j < length made → t ≡ get_or made j t → IsBefore t (terms_of (drop i args)) → Climbs (terms_of (drop i args)) → Climbs (terms_of (drop j made))
    → IsFirst (terms_of (drop i args)) (terms_of (drop j made)) t (terms_of (drop i args)) (terms_of (drop (j + 1) made))
made_taken args made i j t l e h a b =
    let d = dropped made j t l e in
    subst (λ us. IsFirst (terms_of (drop i args)) us t (terms_of (drop i args)) (terms_of (drop (j + 1) made))) (sym d) (made_first t (terms_of (drop i args)) (terms_of (drop (j + 1) made)) a (subst Climbs d b) h)

inserted_some : (t : RawTerm) (us : RawTerms) → (u : RawTerm) × (vs : RawTerms) × (insert_term t us ≡ cons u vs)
inserted_some t nil = (t, nil, refl)
inserted_some t (cons u us) = by_test (stands_after t u)
  where
    by_test : (b : Bool) → (v : RawTerm) × (vs : RawTerms) × (cond b (cons u (insert_term t us)) (cons t (cons u us)) ≡ cons v vs)
    by_test true = (u, insert_term t us, refl)
    by_test false = (t, cons u us, refl)

within : (xs : List RawTerm) (i : ℕ) → i < length xs → (x : RawTerm) × (ys : List RawTerm) × (drop i xs ≡ x ∷ ys)
within [] i h = absurd (omega (arith, h))
within (x ∷ xs) zero h = (x, xs, refl)
within (x ∷ xs) (suc i) h = within xs i (omega (arith, h))

-- where one of them has a term, there is a first
pub some_first : (own made : List RawTerm) (i j : ℕ) → (i < length own) ⊎ (j < length made)
    → (u : RawTerm) × (vs : RawTerms) × (sorted_terms (join (terms_of (drop i own)) (terms_of (drop j made))) ≡ cons u vs)
some_first own made i j (inl h) = by_list (drop i own) (within own i h)
  where
    by_list : (xs : List RawTerm) → ((x : RawTerm) × (ys : List RawTerm) × (xs ≡ x ∷ ys)) → (u : RawTerm) × (vs : RawTerms) × (sorted_terms (join (terms_of xs) (terms_of (drop j made))) ≡ cons u vs)
    by_list xs (x, ys, e) = let (u, vs, q) = inserted_some x (sorted_terms (join (terms_of ys) (terms_of (drop j made)))) in (u, vs, ap (λ zs. sorted_terms (join (terms_of zs) (terms_of (drop j made)))) e ∙ q)
some_first own made i j (inr h) = by_list (drop j made) (within made j h)
  where
    by_list : (xs : List RawTerm) → ((x : RawTerm) × (ys : List RawTerm) × (xs ≡ x ∷ ys)) → (u : RawTerm) × (vs : RawTerms) × (sorted_terms (join (terms_of (drop i own)) (terms_of xs)) ≡ cons u vs)
    by_list xs (x, ys, e) =
        let (u, vs, q) = inserted_some x (sorted_terms (join (terms_of (drop i own)) (terms_of ys))) in
        (u, vs, ap (λ zs. sorted_terms (join (terms_of (drop i own)) (terms_of zs))) e ∙ sorted_terms-middle (terms_of (drop i own)) x (terms_of ys) ∙ q)

-- the first of both, and the first of what is left then
pub two_first : (own made own1 made1 own2 made2 : RawTerms) (x y : RawTerm) → IsFirst own made x own1 made1 → IsFirst own1 made1 y own2 made2
    → ((u : RawTerm) × (vs : RawTerms) × (sorted_terms (join own2 made2) ≡ cons u vs)) → AreFirst own made x y own2 made2
two_first own made own1 made1 own2 made2 x y f g some = record {
  sorted = f.sorted ∙ ap (cons x) g.sorted;
  own_order = g.own_order;
  made_order = g.made_order;
  next = some.0;
  others = some.1;
  more = some.2;
}

-- t doesn't come before the last of the terms
abbrev IsBehindLast : List RawTerm → RawTerm → Type 0
IsBehindLast xs t = (n : ℕ) (u : RawTerm) → length xs ≡ suc n → slice_get xs n ≡ Some u → stands_after u t ≡ false

behind_rest : (x y : RawTerm) (xs : List RawTerm) (t : RawTerm) → IsBehindLast (x ∷ y ∷ xs) t → IsBehindLast (y ∷ xs) t
behind_rest x y xs t h n u e q = h (suc n) u (ap suc e) q

put_last : (xs : List RawTerm) (t : RawTerm) → IsBehindLast xs t → Climbs (terms_of xs) → Climbs (join (terms_of xs) (cons t nil))
put_last [] t h c = (tt, tt)
put_last (x ∷ []) t h c = ((h 0 x refl refl, tt), (tt, tt))
put_last (x ∷ y ∷ xs) t h c =
    let rest : Climbs (join (terms_of (y ∷ xs)) (cons t nil)) = put_last (y ∷ xs) t (behind_rest x y xs t h) c.1 in
    ((c.0.0, NoneBelow-lower x y (join (terms_of xs) (cons t nil)) c.0.0 rest.0), rest)

-- so is t put behind those from a place on
pub put_behind : (xs : List RawTerm) (i : ℕ) (t : RawTerm) → IsBehindLast xs t → Climbs (terms_of (drop i xs)) → Climbs (join (terms_of (drop i xs)) (cons t nil))
put_behind xs zero t h c = put_last xs t h c
put_behind [] (suc i) t h c = (tt, tt)
put_behind (x ∷ []) (suc i) t h c = put_behind [] i t (λ n u e q. cc) c
put_behind (x ∷ y ∷ xs) (suc i) t h c = put_behind (y ∷ xs) i t (behind_rest x y xs t h) c

-- what is put behind stands in order among all
pub put_in_order : (own made : RawTerms) (t : RawTerm) (us : RawTerms) → sorted_terms (join own made) ≡ us → sorted_terms (join own (join made (cons t nil))) ≡ sorted_terms (cons t us)
put_in_order own made t us e =
    ap sorted_terms (sym (join_assoc own made (cons t nil))) ∙ sorted_terms-comm (join own made) (cons t nil)
    ∙ ap (insert_term t) (sym (sorted_terms-idempotent (join own made)) ∙ ap sorted_terms e)

-- the arguments of a term that is asked for, before any two of them are joined
pub joining_begins : (K : Run) (sig : Signature) → IsRun K sig → (k : ℕ) (d : Data) (f : ℕ) (t : RawTerm) (ts : RawTerms) → IsJoining K.over.signature f → t ≡ apply f ts → IsAsked K k d t
    → Climbs ts × IsAsked K k d (apply f (sorted_terms (join ts nil)))
joining_begins K sig run k d f t ts joins is asked =
    let here : Signature = K.over.signature in
    let canonical : IsCanonical here (apply f ts) = subst (IsCanonical here) is (asked_value K sig run k d t asked).canonical in
    let order : sorted_terms ts ≡ ts = subst (λ c. arranged c ts ≡ ts) joins.comm (args_in_order here run.accepted f joins.assoc ts canonical) in
    (climbs ts order, subst (IsAsked K k d) (is ∙ ap (apply f) (sym order ∙ ap sorted_terms (sym (join-nil ts)))) asked)

-- the term that is made of those that are left
pub joining_ends : (K : Run) (sig : Signature) → IsRun K sig → (k : ℕ) (d : Data) (f : ℕ) (ts : RawTerms) → IsJoining K.over.signature f → IsAsked K k d (apply f (sorted_terms ts)) → applied_in K.over.signature f ts ≡ apply f (sorted_terms ts)
joining_ends K sig run k d f ts joins asked =
    let here : Signature = K.over.signature in
    same_applied here run.accepted f ts (sorted_terms ts) (rw joins.comm (sym (sorted_terms-idempotent ts)))
    ∙ (asked_value K sig run k d (apply f (sorted_terms ts)) asked).canonical.1

-- What two of them make is put behind what was made before.
pub put_made : (made : List RawTerm) (i : ℕ) (to : RawTerm) → i ≤ length made → terms_of (drop i (made ++ to ∷ [])) ≡ join (terms_of (drop i made)) (cons to nil)
put_made made i to h = ap terms_of (drop-append-le i made (to ∷ []) h) ∙ terms_of-append (drop i made) (to ∷ [])

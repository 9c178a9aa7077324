-- Names that aren't those of sorts, and numbers of those that are.
use Rattle.std.proofs.Common.{◌≡◌, ◌∙◌, ◌+◌, ◌<◌, ◌≤◌, ◌||◌, not, nat_lt, ℕ, suc, List, [], ◌∷◌, ◌++◌, length, Bool, true, false, cond, Option, Some, None, option_map, unwrap_or, slice_get, bytes_eq, refl, sym, ap, arith}
use Rattle.std.specs.List.{position_or_len}
use Rattle.std.specs.Option.{option_or}
use Rattle.std.proofs.lemmas.Bool.{lt-ltb, ltb-true}
use Rattle.std.proofs.lemmas.Slice.Eq.{bytes_eq-Decides}
use Rattle.mw_logic.specs.Signature.{at_number}
use Rattle.mw_poset.specs.Order.{IsSort}
use Rattle.mw_declare.specs.Meaning.{Name, is_among, number_of}
use Rattle.mw_declare.specs.Faults.{unknown_among}

step : (b : Bool) (n : Name) (o p q : Option Name) → o ≡ option_or p q → cond b o (Some n) ≡ option_or (cond b p (Some n)) q
step true n o p q h = h
step false n o p q h = refl

pub unknown_append : (sorts xs ys : List Name) → unknown_among sorts (xs ++ ys) ≡ option_or (unknown_among sorts xs) (unknown_among sorts ys)
unknown_append sorts [] ys = refl
unknown_append sorts (x ∷ xs) ys = step (is_among sorts x) x (unknown_among sorts (xs ++ ys)) (unknown_among sorts xs) (unknown_among sorts ys) (unknown_append sorts xs ys)

-- where none is unknown, neither is the first nor one of the others
pub known_front : (sorts : List Name) (n : Name) (ns : List Name) → unknown_among sorts (n ∷ ns) ≡ None → (is_among sorts n ≡ true) × (unknown_among sorts ns ≡ None)
known_front sorts n ns e = of (is_among sorts n) e
  where
    of : (b : Bool) → cond b (unknown_among sorts ns) (Some n) ≡ None → (b ≡ true) × (unknown_among sorts ns ≡ None)
    of true k = (refl, k)
    of false k = cc

neither : {X : Type 0} (o p : Option X) → option_or o p ≡ None → (o ≡ None) × (p ≡ None)
neither None p e = (refl, e)
neither (Some x) p e = cc

pub known_append : (sorts xs ys : List Name) → unknown_among sorts (xs ++ ys) ≡ None → (unknown_among sorts xs ≡ None) × (unknown_among sorts ys ≡ None)
known_append sorts xs ys e = neither (unknown_among sorts xs) (unknown_among sorts ys) (rw unknown_append at e)

among_before : (sorts : List Name) (n : Name) → is_among sorts n ≡ true → position_or_len (bytes_eq n) sorts < length sorts
among_before [] n e = cc
among_before (m ∷ sorts) n e = of (bytes_eq n m) e (among_before sorts n)
  where
    of : (b : Bool) → (b || is_among sorts n) ≡ true → (is_among sorts n ≡ true → position_or_len (bytes_eq n) sorts < length sorts)
        → cond (not b) (1 + position_or_len (bytes_eq n) sorts) 0 < suc (length sorts)
    of true k rest = omega arith
    of false k rest = omega (arith, rest k)

-- the number of a name that is there is that of a sort
pub number_there : (sorts : List Name) (n : Name) → is_among sorts n ≡ true → IsSort (length sorts) (number_of sorts n)
number_there sorts n e =
    let before = among_before sorts n e in
    let test : nat_lt (position_or_len (bytes_eq n) sorts) (length sorts) ≡ true = lt-ltb (position_or_len (bytes_eq n) sorts) (length sorts) before in
    let number : number_of sorts n ≡ suc (position_or_len (bytes_eq n) sorts) = rw test refl in
    (omega (arith, number), omega (arith, number, before))

-- the first place at which a test passes
pub place_there : {X : Type 0} (test : X → Bool) (xs : List X) → nat_lt (position_or_len test xs) (length xs) ≡ true → (x : X) × (slice_get xs (position_or_len test xs) ≡ Some x) × (test x ≡ true)
place_there test [] e = cc
place_there {X} test (x ∷ xs) e = of (test x) refl e (place_there test xs)
  where
    place : ℕ
    place = position_or_len test xs

    of : (b : Bool) → test x ≡ b → nat_lt (cond (not b) (1 + place) 0) (suc (length xs)) ≡ true → (nat_lt place (length xs) ≡ true → (y : X) × (slice_get xs place ≡ Some y) × (test y ≡ true))
        → (y : X) × (slice_get (x ∷ xs) (cond (not b) (1 + place) 0) ≡ Some y) × (test y ≡ true)
    of true t e more = (x, refl, t)
    of false t e more =
        let (y, at, passes) = more (lt-ltb place (length xs) (omega (arith, ltb-true (1 + place) (suc (length xs)) e))) in
        let next : 1 + place ≡ suc place = omega arith in
        (y, ap (slice_get (x ∷ xs)) next ∙ at, passes)

-- what stands at a name's number is the name
pub named_number : (ns : List Name) (n : Name) → 1 ≤ number_of ns n → at_number ns (number_of ns n) ≡ Some n
named_number ns n low = of (nat_lt place (length ns)) refl low
  where
    place : ℕ
    place = position_or_len (bytes_eq n) ns

    of : (b : Bool) → nat_lt place (length ns) ≡ b → let k = unwrap_or (option_map suc (cond b (Some place) None)) 0 in 1 ≤ k → at_number ns k ≡ Some n
    of true e low = let (m, at, same) = place_there (bytes_eq n) ns e in at ∙ ap Some (sym ((bytes_eq-Decides n m).0 same))
    of false e low = absurd (omega (arith, low))

-- Places that are read, and tokens that have none.
use Rattle.std.proofs.Common.{◌≡◌, ◌∙◌, ◌≤◌, ◌<◌, ◌⊎◌, inl, inr, ℕ, Bool, false, cond, List, [], ◌∷◌, ◌++◌, map, length, Option, Some, None, refl, ap, sym, subst, arith, append_assoc, length-append, ◌^◌}
use Rattle.std.specs.Prelude.{codes, nat_lt}
use Rattle.std.proofs.lemmas.Bool.{cases_lt, le-ltb}
use Rattle.std.proofs.lemmas.List.{map-append, length-map}
use Rattle.mw_items.specs.Items.{Spot}
use Rattle.mw_proofread.specs.Numbers.{number_text, entry_number, saturated, IsTake}
use Rattle.mw_proofread.specs.TokenTexts.{numbers_tokens, take_tokens}
use Rattle.mw_proofread.specs.Parts.{NotFirst, HasNumbers, HasTake, HasPlace, NoTake, NoPlace}
use Rattle.mw_proofread.proofs.Low.{numbers_one}
use Rattle.mw_proofread.proofs.Fronts.{rest_is, not_first, take_no_number, spot_apart}

-- one number more
pub numbers_more : (ns : List ℕ) (n : ℕ) (ts mid rest : List (List ℕ)) → ts ≡ numbers_tokens ns ++ mid → mid ≡ number_text n ∷ rest → ts ≡ numbers_tokens (ns ++ n ∷ []) ++ rest
numbers_more ns n ts mid rest e f =
    e ∙ ap (λ z. numbers_tokens ns ++ z) f ∙ sym (append_assoc (numbers_tokens ns) (number_text n ∷ []) rest) ∙ ap (λ z. z ++ rest) (sym (map-append number_text ns (n ∷ [])))

-- an entry tells a number as it is found
pub entry_saturated : (n v : ℕ) → v ≡ saturated n → entry_number v ≡ entry_number n
entry_saturated n v e = by_size (cases_lt n (2 ^ 32))
  where
    told : (m : ℕ) (b : Bool) → nat_lt m (2 ^ 32) ≡ b → entry_number m ≡ cond b m 0
    told m b h = ap (λ c. cond c m 0) h

    by_size : (n < 2 ^ 32) ⊎ (2 ^ 32 ≤ n) → entry_number v ≡ entry_number n
    by_size (inl h) =
        let same : v ≡ n = omega (arith, e, h) in
        ap entry_number same
    by_size (inr h) =
        let large : 2 ^ 32 ≤ v = omega (arith, e, h) in
        told v false (le-ltb v (2 ^ 32) large) ∙ sym (told n false (le-ltb n (2 ^ 32) h))

pub entry_more : (ns : List ℕ) (n v c : ℕ) (old new : List ℕ) → new ≡ old ++ c ∷ [] → old ≡ map entry_number ns → c ≡ entry_number v → v ≡ saturated n → new ≡ map entry_number (ns ++ n ∷ [])
entry_more ns n v c old new e f g h =
    let i : c ≡ entry_number n = g ∙ entry_saturated n v h in
    e ∙ ap (λ z. z ++ c ∷ []) f ∙ ap (λ z. map entry_number ns ++ z ∷ []) i ∙ sym (map-append entry_number ns (n ∷ []))

-- as many as are found
pub found_count : (ts : List (List ℕ)) (found : List ℕ) (rest : List (List ℕ)) (h : HasNumbers ts found rest) → length h.numbers ≡ length found
found_count ts found rest h = sym (ap length h.are ∙ length-map h.numbers entry_number)

pub found_within : (ts : List (List ℕ)) (found : List ℕ) (rest : List (List ℕ)) → HasNumbers ts found rest → length found ≤ length ts
found_within ts found rest h =
    let a = found_count ts found rest h in
    let b : length ts ≡ length (numbers_tokens h.numbers ++ rest) = ap length h.is in
    let d = length-append (numbers_tokens h.numbers) rest in
    let e = length-map h.numbers number_text in
    omega (arith, a, b, d, e)

-- what is taken
module _ (ts behind : List (List ℕ)) (found : List ℕ) (rest : List (List ℕ)) (is : ts ≡ codes "take" ∷ behind) (h : HasNumbers behind found rest) where
  pub take_is : IsTake (Some h.numbers) → HasTake ts (Some found) rest
  take_is g = record { take = Some h.numbers; is = is ∙ ap (λ z. codes "take" ∷ z) h.is; good = g; ends = λ e. h.ends; no_more = λ e. cc; are = ap Some h.are }

  pub take_not : ¬ IsTake (Some h.numbers) → NoTake ts
  take_not n None r g e k = not_first (codes "take") r behind e.1 (sym k ∙ is)
  take_not n (Some ns) r g e k =
      let (i, j) = numbers_one h.numbers ns rest r h.ends e.0 (sym h.is ∙ rest_is (sym is ∙ k)) in
      n (subst (λ z. IsTake (Some z)) (sym i) g)

pub nothing_taken : (ts : List (List ℕ)) → NotFirst (codes "take") ts → HasTake ts None ts
nothing_taken ts h = record { take = None; is = refl; good = tt; ends = λ e. e; no_more = λ e. h; are = refl }

-- the place
module _ (ts behind : List (List ℕ)) (path : List ℕ) (mid : List (List ℕ)) (is : ts ≡ codes "at" ∷ behind) (h : HasNumbers behind path mid) where
  pub place_not : NoTake mid → NoPlace ts
  place_not n spot r g e k =
      let same = rest_is (sym is ∙ k ∙ spot_apart spot r) in
      let (i, j) = numbers_one h.numbers spot.path mid (take_tokens spot.take ++ r) h.ends (take_no_number spot.take r e.0) (sym h.is ∙ same) in
      n spot.take r g e j

  pub place_is : (found : Option (List ℕ)) (rest : List (List ℕ)) → HasTake mid found rest → HasPlace ts (record { path = path; take = found }) rest
  place_is found rest t =
      let s : Spot = record { path = h.numbers; take = t.take } in
      record {
        spot = s;
        is = is ∙ ap (λ z. codes "at" ∷ z) (h.is ∙ ap (λ z. numbers_tokens h.numbers ++ z) t.is) ∙ sym (spot_apart s rest);
        good = t.good;
        ends = t.ends h.ends;
        no_more = t.no_more;
        place = λ i. record { path = h.are i; take = t.are i };
      }

pub no_place : (ts : List (List ℕ)) → NotFirst (codes "at") ts → NoPlace ts
no_place ts h spot r g e k = not_first (codes "at") ts _ h k

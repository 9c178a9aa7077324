-- The statements of modules that are reached, one module after the other.
use Rattle.std.proofs.Common.{◌≡◌, ◌∙◌, ◌<◌, ◌+◌, ◌++◌, ℕ, zero, suc, List, [], ◌∷◌, length, get_or, take, drop, slice_get, Some, refl, sym, ap, subst, arith, append_assoc}
use Rattle.std.proofs.lemmas.List.{append-nil}
use Rattle.std.proofs.lemmas.Grind.{flat_map-append}
use Rattle.std.proofs.lemmas.Option.{slice_get-get_or, get_or_from_slice_get}
use Rattle.std.proofs.Math.Seq.{split_at}
use Rattle.mw_logic.specs.Signature.{Signature}
use Rattle.mw_sorts.proofs.Getting.{get-member}
use Rattle.mw_carry.specs.Carried.{IsPart}
use Rattle.mw_build.specs.Imported.{Accepted, Origin, origins_in, origins_of, ArePartsOf}

-- the module of the number at a place
pub number_part : (ms : List Accepted) (ks : List ℕ) (sig : Signature) → ArePartsOf ms ks sig → (i : ℕ) → i < length ks
    → (m : Accepted) × (slice_get ms (get_or ks i 0) ≡ Some m) × IsPart m.module.signature sig
number_part ms ks sig parts i h = parts (get_or ks i 0) (get-member ks i (get_or ks i 0) (slice_get-get_or ks i 0 h))

-- what stands there
pub module_at : (ms : List Accepted) (k : ℕ) (m found : Accepted) → slice_get ms k ≡ Some m → found ≡ get_or ms k found → found ≡ m
module_at ms k m found at is = is ∙ get_or_from_slice_get ms k m found at

module _ (ms : List Accepted) where
  abbrev at : ℕ → List Origin
  at k = origins_in (slice_get ms k)

  one_more : (js : List ℕ) (k : ℕ) (m : Accepted) → slice_get ms k ≡ Some m → origins_of ms (js ++ k ∷ []) ≡ origins_of ms js ++ origins_in (Some m)
  one_more js k m is =
      flat_map-append at js (k ∷ []) ∙ ap (λ os. origins_of ms js ++ os) (append-nil (at k) ∙ ap origins_in is)

  module _ (ks : List ℕ) (i : ℕ) (h : i < length ks) (m : Accepted) (is : slice_get ms (get_or ks i 0) ≡ Some m) where
    -- with one module more
    pub origins_more : origins_of ms (take (i + 1) ks) ≡ origins_of ms (take i ks) ++ origins_in (Some m)
    origins_more = ap (origins_of ms) (taken ks i h) ∙ one_more (take i ks) (get_or ks i 0) m is
      where
        taken : (js : List ℕ) (j : ℕ) → j < length js → take (j + 1) js ≡ take j js ++ get_or js j 0 ∷ []
        taken js j l = subst (λ n. take n js ≡ take j js ++ get_or js j 0 ∷ []) (let e : suc j ≡ j + 1 = omega arith in e) (of js j l)
          where
            of : (ls : List ℕ) (n : ℕ) → n < length ls → take (suc n) ls ≡ take n ls ++ get_or ls n 0 ∷ []
            of [] n l = absurd (omega (arith, l))
            of (x ∷ ls) zero l = refl
            of (x ∷ ls) (suc n) l = ap (λ xs. x ∷ xs) (of ls n (omega (arith, l)))

    -- all of them, around one module
    pub origins_cut : origins_of ms ks ≡ (origins_of ms (take i ks) ++ origins_in (Some m)) ++ origins_of ms (drop (suc i) ks)
    origins_cut =
        ap (origins_of ms) (split_at ks i 0 h) ∙ flat_map-append at (take i ks) (get_or ks i 0 ∷ drop (suc i) ks)
        ∙ ap (λ os. origins_of ms (take i ks) ++ (os ++ origins_of ms (drop (suc i) ks))) (ap origins_in is)
        ∙ sym (append_assoc (origins_of ms (take i ks)) (origins_in (Some m)) (origins_of ms (drop (suc i) ks)))

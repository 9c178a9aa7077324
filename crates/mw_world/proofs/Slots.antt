-- Open claims, when one more is open.
use Rattle.std.proofs.Common.{arith, suc, zero, ◌≡◌, ◌≢◌, ℕ, ◌+◌, List, [], ◌∷◌, ◌++◌, Option, None, Some, refl, sym, ap, subst, IsPermutation}
use Rattle.std.proofs.lemmas.List.{append_assoc}
use Rattle.std.proofs.lemmas.List.Sorted.{IsPermutation-refl, IsPermutation-trans, IsPermutation-append_left, IsPermutation-append_right, IsPermutation-append_comm}
use Rattle.mw_logic.specs.Term.{RawTerm}
use Rattle.mw_logic.specs.Signature.{Signature}
use Rattle.mw_multiset.specs.Together.{parts}
use Rattle.mw_world.specs.World.{Claim, claim_at, claimed, total}

abbrev Slots : Type 0
Slots = List (Option Claim)

-- the first part moves behind the second
pub front_over : {X : Type 0} (a b c : List X) → IsPermutation (a ++ (b ++ c)) (b ++ (a ++ c))
front_over a b c =
    let e : a ++ (b ++ c) ≡ (a ++ b) ++ c = sym (append_assoc a b c) in
    let f : (b ++ a) ++ c ≡ b ++ (a ++ c) = append_assoc b a c in
    let p : IsPermutation ((a ++ b) ++ c) ((b ++ a) ++ c) = IsPermutation-append_left c (a ++ b) (b ++ a) (IsPermutation-append_comm a b) in
    subst (λ z. IsPermutation z (b ++ (a ++ c))) (sym e) (subst (λ z. IsPermutation ((a ++ b) ++ c) z) f p)

module _ (h : Claim → ℕ) where
  pub total_same : (xs ys : Slots) → ((k : ℕ) → claim_at ys k ≡ claim_at xs k) → total h ys ≡ total h xs
  total_same [] [] e = refl
  total_same [] (None ∷ ys) e = total_same [] ys (λ k. e (suc k))
  total_same [] (Some p ∷ ys) e = cc (e 0)
  total_same (None ∷ xs) [] e = total_same xs [] (λ k. e (suc k))
  total_same (Some p ∷ xs) [] e = cc (e 0)
  total_same (None ∷ xs) (None ∷ ys) e = total_same xs ys (λ k. e (suc k))
  total_same (None ∷ xs) (Some p ∷ ys) e = cc (e 0)
  total_same (Some q ∷ xs) (None ∷ ys) e = cc (e 0)
  total_same (Some q ∷ xs) (Some p ∷ ys) e = let d : p ≡ q = cc (e 0) in let r : total h ys ≡ total h xs = total_same xs ys (λ k. e (suc k)) in rw (d, r) refl

  pub total_opened : (xs ys : Slots) (key : ℕ) (c : Claim) → claim_at xs key ≡ None → claim_at ys key ≡ Some c → ((k : ℕ) → k ≢ key → claim_at ys k ≡ claim_at xs k) → total h ys ≡ h c + total h xs
  total_opened xs [] key c none some others = cc some
  total_opened [] (None ∷ ys) zero c none some others = cc some
  total_opened [] (Some p ∷ ys) zero c none some others =
      let e : p ≡ c = cc some in
      let f : total h ys ≡ 0 = total_same [] ys (λ k. others (suc k) (λ z. omega (arith, z))) in
      let g : h p ≡ h c = ap h e in omega (arith, f, g)
  total_opened [] (None ∷ ys) (suc n) c none some others = total_opened [] ys n c refl some (λ k d. others (suc k) (λ e. d (omega (arith, e))))
  total_opened [] (Some p ∷ ys) (suc n) c none some others = cc (others 0 (λ e. omega (arith, e)))
  total_opened (None ∷ xs) (None ∷ ys) zero c none some others = cc some
  total_opened (Some q ∷ xs) (y ∷ ys) zero c none some others = cc none
  total_opened (None ∷ xs) (Some p ∷ ys) zero c none some others =
      let e : p ≡ c = cc some in
      let f : total h ys ≡ total h xs = total_same xs ys (λ k. others (suc k) (λ z. omega (arith, z))) in
      let g : h p ≡ h c = ap h e in omega (arith, f, g)
  total_opened (None ∷ xs) (None ∷ ys) (suc n) c none some others = total_opened xs ys n c none some (λ k d. others (suc k) (λ e. d (omega (arith, e))))
  total_opened (None ∷ xs) (Some p ∷ ys) (suc n) c none some others = cc (others 0 (λ e. omega (arith, e)))
  total_opened (Some q ∷ xs) (None ∷ ys) (suc n) c none some others = cc (others 0 (λ e. omega (arith, e)))
  total_opened (Some q ∷ xs) (Some p ∷ ys) (suc n) c none some others =
      let e : p ≡ q = cc (others 0 (λ e. omega (arith, e))) in
      let f = total_opened xs ys n c none some (λ k d. others (suc k) (λ e. d (omega (arith, e)))) in
      let g : h p ≡ h q = ap h e in omega (arith, f, g)

module _ (sig : Signature) (f : ℕ) where
  abbrev All : Slots → List RawTerm
  All = claimed sig f

  abbrev Of : Claim → List RawTerm
  Of c = parts sig f c.part

  pub claimed_same : (xs ys : Slots) → ((k : ℕ) → claim_at ys k ≡ claim_at xs k) → All ys ≡ All xs
  claimed_same [] [] e = refl
  claimed_same [] (None ∷ ys) e = claimed_same [] ys (λ k. e (suc k))
  claimed_same [] (Some p ∷ ys) e = cc (e 0)
  claimed_same (None ∷ xs) [] e = claimed_same xs [] (λ k. e (suc k))
  claimed_same (Some p ∷ xs) [] e = cc (e 0)
  claimed_same (None ∷ xs) (None ∷ ys) e = claimed_same xs ys (λ k. e (suc k))
  claimed_same (None ∷ xs) (Some p ∷ ys) e = cc (e 0)
  claimed_same (Some q ∷ xs) (None ∷ ys) e = cc (e 0)
  claimed_same (Some q ∷ xs) (Some p ∷ ys) e = let d : p ≡ q = cc (e 0) in let r : All ys ≡ All xs = claimed_same xs ys (λ k. e (suc k)) in rw (d, r) refl

  pub claimed_opened : (xs ys : Slots) (key : ℕ) (c : Claim) → claim_at xs key ≡ None → claim_at ys key ≡ Some c → ((k : ℕ) → k ≢ key → claim_at ys k ≡ claim_at xs k) → IsPermutation (All ys) (Of c ++ All xs)
  claimed_opened xs [] key c none some others = cc some
  claimed_opened [] (None ∷ ys) zero c none some others = cc some
  claimed_opened [] (Some p ∷ ys) zero c none some others =
      let e : p ≡ c = cc some in
      let r : All ys ≡ [] = claimed_same [] ys (λ k. others (suc k) (λ z. omega (arith, z))) in
      rw (e, r) (IsPermutation-refl (Of c ++ []))
  claimed_opened [] (None ∷ ys) (suc n) c none some others = claimed_opened [] ys n c refl some (λ k d. others (suc k) (λ e. d (omega (arith, e))))
  claimed_opened [] (Some p ∷ ys) (suc n) c none some others = cc (others 0 (λ e. omega (arith, e)))
  claimed_opened (None ∷ xs) (None ∷ ys) zero c none some others = cc some
  claimed_opened (Some q ∷ xs) (y ∷ ys) zero c none some others = cc none
  claimed_opened (None ∷ xs) (Some p ∷ ys) zero c none some others =
      let e : p ≡ c = cc some in
      let r : All ys ≡ All xs = claimed_same xs ys (λ k. others (suc k) (λ z. omega (arith, z))) in
      rw (e, r) (IsPermutation-refl (Of c ++ All xs))
  claimed_opened (None ∷ xs) (None ∷ ys) (suc n) c none some others = claimed_opened xs ys n c none some (λ k d. others (suc k) (λ e. d (omega (arith, e))))
  claimed_opened (None ∷ xs) (Some p ∷ ys) (suc n) c none some others = cc (others 0 (λ e. omega (arith, e)))
  claimed_opened (Some q ∷ xs) (None ∷ ys) (suc n) c none some others = cc (others 0 (λ e. omega (arith, e)))
  claimed_opened (Some q ∷ xs) (Some p ∷ ys) (suc n) c none some others =
      let e : p ≡ q = cc (others 0 (λ e. omega (arith, e))) in
      let rest : IsPermutation (All ys) (Of c ++ All xs) = claimed_opened xs ys n c none some (λ k d. others (suc k) (λ e. d (omega (arith, e)))) in
      rw e (IsPermutation-trans (Of q ++ All ys) (Of q ++ (Of c ++ All xs)) (Of c ++ (Of q ++ All xs)) (IsPermutation-append_right (Of q) (All ys) (Of c ++ All xs) rest) (front_over (Of q) (Of c) (All xs)))

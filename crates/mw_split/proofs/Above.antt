-- Cuts whose first entry is above a number.
use Rattle.std.specs.Prelude.{◌⊎◌}
use Rattle.std.proofs.Common.{◌≡◌, ℕ, ◌+◌, ◌-◌, ◌<◌, ◌≤◌, suc, zero, List, [], ◌∷◌, ◌++◌, map, sym, subst, arith, inl, inr}
use Rattle.std.proofs.lemmas.Bool.{cases_lt}
use Rattle.mw_split.specs.Lists.{Member, Distinct}
use Rattle.mw_split.specs.Cuts.{above}
use Rattle.mw_split.proofs.Lists.{member-left, member-right, member-append, member-map, map-member, distinct-append, distinct-map}

pub above-member : (f : List ℕ → List (List ℕ)) (x d : ℕ) (bs v : List ℕ) → Member v (above f x d bs)
    → (y : ℕ) × (w : List ℕ) × (v ≡ y ∷ w) × (x < y) × (y ≤ x + d) × Member w (f (bs ++ (x + d - y) ∷ []))
above-member f x zero bs v m = absurd m
above-member f x (suc d) bs v m =
    elim (member-append v (map (λ v. suc x ∷ v) (f (bs ++ d ∷ []))) (above f (suc x) d bs) m) [
      | inl k ↦ let (w, e, j) = map-member (λ v. suc x ∷ v) v (f (bs ++ d ∷ [])) k in
          let e2 : x + suc d - suc x ≡ d = omega arith in
          (suc x, w, e, omega arith, omega arith, subst (λ z. Member w (f (bs ++ z ∷ []))) (sym e2) j)
      | inr k ↦ let (y, w, e, lt, le, j) = above-member f (suc x) d bs v k in
          let e2 : x + suc d - y ≡ suc x + d - y = omega arith in
          (y, w, e, omega arith, omega arith, subst (λ z. Member w (f (bs ++ z ∷ []))) (sym e2) j)
    ]

eq_or_above : (y x : ℕ) → x ≤ y → (y ≡ x) ⊎ (x < y)
eq_or_above y x h = elim (cases_lt x y) [ inl l ↦ inr l | inr l ↦ inl (omega arith) ]

pub member-above : (f : List ℕ → List (List ℕ)) (x d y : ℕ) (bs w : List ℕ) → x < y → y ≤ x + d → Member w (f (bs ++ (x + d - y) ∷ []))
    → Member (y ∷ w) (above f x d bs)
member-above f x zero y bs w lt le m = absurd (omega arith)
member-above f x (suc d) y bs w lt le m =
    by_case (eq_or_above y (suc x) lt) (λ l. member-above f (suc x) d y bs w l (omega arith)
    (let e2 : x + suc d - y ≡ suc x + d - y = omega arith in subst (λ z. Member w (f (bs ++ z ∷ []))) e2 m))
  where
    by_case : (y ≡ suc x) ⊎ (suc x < y) → (suc x < y → Member (y ∷ w) (above f (suc x) d bs)) → Member (y ∷ w) (above f x (suc d) bs)
    by_case (inl e) r =
        member-left (y ∷ w) (map (λ v. suc x ∷ v) (f (bs ++ d ∷ []))) (above f (suc x) d bs)
        (subst (λ z. Member (z ∷ w) (map (λ v. suc x ∷ v) (f (bs ++ d ∷ [])))) (sym e)
        (member-map (λ v. suc x ∷ v) w (f (bs ++ d ∷ [])) (let e2 : x + suc d - y ≡ d = omega arith in subst (λ z. Member w (f (bs ++ z ∷ []))) e2 m)))
    by_case (inr l) r =
        member-right (y ∷ w) (map (λ v. suc x ∷ v) (f (bs ++ d ∷ []))) (above f (suc x) d bs)
        (r l)

pub distinct-above : (f : List ℕ → List (List ℕ)) (x d : ℕ) (bs : List ℕ) → ((q : List ℕ) → Distinct (f q)) → Distinct (above f x d bs)
distinct-above f x zero bs h = tt
distinct-above f x (suc d) bs h =
    distinct-append (map (λ v. suc x ∷ v) (f (bs ++ d ∷ []))) (above f (suc x) d bs) (distinct-map (λ v. suc x ∷ v) _ (λ v w m n e. cc) (h _)) (distinct-above f (suc x) d bs h)
    (λ c m k.
    let (w, e, j) = map-member (λ v. suc x ∷ v) c (f (bs ++ d ∷ [])) m in
    let (y, w2, e2, lt, le, j2) = above-member f (suc x) d bs c k in
    let same : suc x ≡ y = cc in
    omega arith)

-- Values with the sorts of their variables, one by one.
use Rattle.std.specs.Prelude.{◌≡◌, ◌<◌, ◌≤◌, ◌+◌, ◌↔◌, ◌⊎◌, ℕ, zero, suc, List, [], ◌∷◌, length, get_or, Bool, true, false, Some, slice_get, IsTrue, refl}
use Rattle.std.proofs.Common.{sym, subst, ap, ◌∙◌, arith, inl, inr, ⊎_elim}
use Rattle.std.proofs.lemmas.Bool.{both_ways}
use Rattle.std.proofs.lemmas.Option.{slice_get_within}
use Rattle.mw_logic.specs.Term.{RawTerm, is_ground}
use Rattle.mw_logic.specs.Parts.{nested}
use Rattle.mw_logic.specs.NormalForm.{normal_form}
use Rattle.mw_logic.specs.Signature.{Signature, sort, IsRawTerm}
use Rattle.mw_logic.specs.Sorts.{HasSort}
use Rattle.mw_search.specs.Lacking.{IsKnown, HaveTheirSorts, OneLacksItsSort}
use Rattle.mw_pattern.proofs.Lists.{got}

split : (j i : ℕ) → j < i + 1 → (j < i) ⊎ (j ≡ i)
split zero zero h = inr refl
split zero (suc i) h = inl (omega arith)
split (suc j) zero h = absurd (omega (arith, h))
split (suc j) (suc i) h = ⊎_elim (λ a. inl (omega (arith, a))) (λ a. inr (ap suc a)) (split j i (omega (arith, h)))

number_got : (xs : List ℕ) (i : ℕ) → i < length xs → slice_get xs i ≡ Some (get_or xs i 0)
number_got [] i h = absurd (omega (arith, h))
number_got (y ∷ xs) zero h = refl
number_got (y ∷ xs) (suc i) h = number_got xs i (omega (arith, h))

-- what a test of a sort says of a term
abbrev pub Tells : Signature → RawTerm → ℕ → Bool → Type 0
Tells sig v S b = normal_form sig (nested sig v) ≡ v → IsRawTerm sig (nested sig v) → IsTrue (is_ground v) → (IsTrue b ↔ HasSort sig (nested sig v) (sort S))

-- the first ones have theirs, as far as sorts can be told
abbrev pub HaveFirstSorts : Signature → List RawTerm → List ℕ → ℕ → Type 0
HaveFirstSorts sig vs Ss n = (i : ℕ) (v : RawTerm) (S : ℕ) → i < n → slice_get vs i ≡ Some v → slice_get Ss i ≡ Some S → IsKnown sig v → HasSort sig (nested sig v) (sort S)

module _ (sig : Signature) (vs : List RawTerm) (Ss : List ℕ) where
  pub first_fits : (n : ℕ) → length vs ≤ n → HaveFirstSorts sig vs Ss n → HaveTheirSorts sig Ss 0 vs
  first_fits n l h i v z a S b k = let w = slice_get_within vs i v a in h i v S (omega (arith, w, l)) a b k

  pub next_fits : length vs ≡ length Ss → (i : ℕ) (v : RawTerm) (b : Bool) → i < length vs → v ≡ get_or vs i v → Tells sig v (get_or Ss i 0) b → b ≡ true → HaveFirstSorts sig vs Ss i → HaveFirstSorts sig vs Ss (i + 1)
  next_fits l i v b h e k t all j w R m c d known = ⊎_elim
      (λ n. all j w R n c d known)
      (λ (n : j ≡ i).
      let p : v ≡ w = let x : Some v ≡ Some w = sym (got vs i v h e) ∙ ap (slice_get vs) (sym n) ∙ c in cc in
      let q : get_or Ss i 0 ≡ R = let x : Some (get_or Ss i 0) ≡ Some R = sym (number_got Ss i (omega (arith, h, l))) ∙ ap (slice_get Ss) (sym n) ∙ d in cc in
      let told : Tells sig w R b = subst (λ u. Tells sig u R b) p (subst (λ T. Tells sig v T b) q k) in
      (told known.canonical known.raw known.ground).0 t)
      (split j i m)

  pub next_is_lacking : length vs ≡ length Ss → (i : ℕ) (v : RawTerm) (b : Bool) → i < length vs → v ≡ get_or vs i v → Tells sig v (get_or Ss i 0) b → b ≡ false → OneLacksItsSort sig Ss 0 vs
  next_is_lacking l i v b h e k t = record {
    position = i;
    value = v;
    new = omega arith;
    is = got vs i v h e;
    lacks = (get_or Ss i 0, number_got Ss i (omega (arith, h, l)), λ known has. both_ways b t ((k known.canonical known.raw known.ground).1 has));
  }

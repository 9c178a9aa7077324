-- Variables that tokens are, found one after another.
use Rattle.std.proofs.Common.{ℕ, zero, suc, ◌≡◌, ◌∙◌, ◌<◌, ◌≤◌, ◌⊎◌, ◌+◌, List, [], ◌∷◌, ◌++◌, length, take, drop, Some, codes, refl, sym, ap, subst, inl, inr, arith, append_assoc, length-append, length-drop, ◌-◌}
use Rattle.std.specs.Prelude.{◌↔◌}
use Rattle.std.specs.List.{slice_get}
use Rattle.mw_logic.specs.Term.{Variable}
use Rattle.mw_text.specs.Mixfix.{IsVariableName}
use Rattle.mw_logic.specs.Signature.{Member}
use Rattle.mw_grammar.specs.Leaves.{IsWithSort, IsDivided, IsOfOne}

pub length-take-got : {A : Type 0} (xs : List A) (n : ℕ) (x : A) → slice_get xs n ≡ Some x → length (take n xs) ≡ n
length-take-got [] n x e = let bad : ⊥ = (cc) in absurd bad
length-take-got (y ∷ xs) zero x e = refl
length-take-got (y ∷ xs) (suc n) x e = ap suc (length-take-got xs n x e)

parted : (token : List ℕ) (i b : ℕ) → slice_get token i ≡ Some b → token ≡ take i token ++ b ∷ drop (i + 1) token
parted [] i b e = let bad : ⊥ = (cc) in absurd bad
parted (y ∷ xs) zero b e = let same : y ≡ b = (cc) in ap (λ m. m ∷ xs) same
parted (y ∷ xs) (suc i) b e =
    let move : suc i + 1 ≡ suc (i + 1) = omega arith in
    ap (λ m. y ∷ m) (parted xs i b e) ∙ ap (λ (m : ℕ). y ∷ (take i xs ++ b ∷ drop m (y ∷ xs))) (sym move)

front_is : (a b : List ℕ) → take (length a) (a ++ b) ≡ a
front_is [] [] = refl
front_is [] (y ∷ b) = refl
front_is (x ∷ a) b = ap (λ m. x ∷ m) (front_is a b)

back_is : (a : List ℕ) (c : ℕ) (b : List ℕ) → drop (length a + 1) (a ++ c ∷ b) ≡ b
back_is [] c b = refl
back_is (x ∷ a) c b =
    let move : suc (length a) + 1 ≡ suc (length a + 1) = omega arith in
    ap (λ (m : ℕ). drop m (x ∷ (a ++ c ∷ b))) move ∙ back_is a c b

-- the variables with a sort, where the colon stands at a place, by the sorts of the name behind it
module _ (Named : List ℕ → ℕ → Type 0) (token : List ℕ) (c : ℕ) (at : slice_get token c ≡ Some 58) (is : IsVariableName (take c token)) (Ss : List ℕ)
    (own : (S : ℕ) → Member S Ss ↔ Named (drop (c + 1) token) S) where
  pub divided_to : (x : Variable) → IsOfOne Ss (take c token) x → IsDivided Named token c x
  divided_to x (a, b) =
      let whole : token ≡ x.name ++ codes ":" ++ drop (c + 1) token = parted token c 58 at ∙ ap (λ m. m ++ 58 ∷ drop (c + 1) token) (sym a) ∙ sym (append_assoc x.name (codes ":") (drop (c + 1) token)) in
      (drop (c + 1) token, (own x.sort).0 b, subst IsVariableName (sym a) is, whole, ap length a ∙ length-take-got token c 58 at)

  pub divided_from : (x : Variable) → IsDivided Named token c x → IsOfOne Ss (take c token) x
  divided_from x (S, named, is2, e, len) =
      let whole : token ≡ x.name ++ 58 ∷ S = e ∙ append_assoc x.name (codes ":") S in
      let front : take c token ≡ x.name = ap (λ (m : List ℕ). take c m) whole ∙ ap (λ (m : ℕ). take m (x.name ++ 58 ∷ S)) (sym len) ∙ front_is x.name (58 ∷ S) in
      let back : drop (c + 1) token ≡ S = ap (λ (m : List ℕ). drop (c + 1) m) whole ∙ ap (λ (m : ℕ). drop (m + 1) (x.name ++ 58 ∷ S)) (sym len) ∙ back_is x.name 58 S in
      (sym front, (own x.sort).1 (subst (λ (m : List ℕ). Named m x.sort) (sym back) named))

pub more_to : (Named : List ℕ → ℕ → Type 0) (token : List ℕ) (c : ℕ) (x : Variable) → (IsWithSort Named token x × (length x.name < c)) ⊎ IsDivided Named token c x
    → IsWithSort Named token x × (length x.name < c + 1)
more_to Named token c x (inl (a, b)) = (a, omega arith)
more_to Named token c x (inr (S, at, is, e, len)) = ((S, at, is, e), omega (arith, len))

pub more_from : (Named : List ℕ → ℕ → Type 0) (token : List ℕ) (c : ℕ) (x : Variable) → IsWithSort Named token x × (length x.name < c + 1)
    → (IsWithSort Named token x × (length x.name < c)) ⊎ IsDivided Named token c x
more_from Named token c x ((S, at, is, e), h) = elim (below_or (length x.name) c h) [ inl p ↦ inl ((S, at, is, e), p) | inr p ↦ inr (S, at, is, e, p) ]
  where
    below_or : (m n : ℕ) → m < n + 1 → (m < n) ⊎ (m ≡ n)
    below_or zero zero h = inr refl
    below_or zero (suc n) h = inl (omega arith)
    below_or (suc m) zero h = absurd (omega arith)
    below_or (suc m) (suc n) h = elim (below_or m n (omega arith)) [ inl p ↦ inl (omega arith) | inr p ↦ inr (ap suc p) ]

-- a variable's name is shorter than its token
pub name_below : (Named : List ℕ → ℕ → Type 0) (token : List ℕ) (x : Variable) → IsWithSort Named token x → length x.name < length token
name_below Named token x (S, at, is, e) =
    let l = ap length e in
    let m = length-append (x.name ++ codes ":") S in
    let n = length-append x.name (codes ":") in
    omega (arith, l, m, n)

-- the rest as code takes it
pub rest_is : (token : List ℕ) (n : ℕ) → take (length token - n) (drop n token) ≡ drop n token
rest_is token n = take_all (drop n token) (length token - n) (let l = length-drop n token in omega (arith, l))
  where
    take_all : (xs : List ℕ) (k : ℕ) → length xs ≤ k → take k xs ≡ xs
    take_all [] zero h = refl
    take_all [] (suc k) h = refl
    take_all (x ∷ xs) zero h = absurd (omega arith)
    take_all (x ∷ xs) (suc k) h = ap (λ m. x ∷ m) (take_all xs k (omega arith))

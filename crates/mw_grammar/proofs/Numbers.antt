-- The numbers of names.
use Rattle.std.proofs.Common.{ℕ, zero, suc, ◌≡◌, ◌<◌, ◌≤◌, ◌+◌, ◌⊎◌, ◌∙◌, ◌||◌, List, [], ◌∷◌, ◌++◌, length, Bool, true, false, bytes_eq, cond, not, nat_lt, if◌then◌else◌, None, Some, option_map, unwrap_or, refl, sym, ap, subst, inl, inr, arith}
use Rattle.std.specs.List.{slice_get, position_or_len}
use Rattle.std.proofs.lemmas.Bool.{cases_Bool, lt-ltb, le-ltb, ltb-true, ltb-false}
use Rattle.std.proofs.lemmas.Slice.Eq.{bytes_eq-Decides}
use Rattle.mw_text.specs.Interned.{number_of, is_among, with_name}
use Rattle.mw_grammar.specs.Compiled.{IsNumber, Extends}

abbrev Name : Type 0
Name = List ℕ

-- the number behind one name more
abbrev pub next : ℕ → ℕ
next zero = zero
next (suc k) = suc (suc k)

pub number_cons : (m : Name) (ns : List Name) (n : Name) → number_of (m ∷ ns) n ≡ (if bytes_eq n m then 1 else next (number_of ns n))
number_cons m ns n = by_test (bytes_eq n m) (position_or_len (bytes_eq n) ns) (length ns)
  where
    both_below : (q l : ℕ) → nat_lt (suc q) (suc l) ≡ nat_lt q l
    both_below q l = elim (cases_Bool (nat_lt q l)) [
      | inl e ↦ lt-ltb (suc q) (suc l) (let h = ltb-true q l e in omega (arith, h)) ∙ sym e
      | inr e ↦ le-ltb (suc q) (suc l) (let h = ltb-false q l e in omega (arith, h)) ∙ sym e
    ]

    rest : (b : Bool) (q : ℕ) → unwrap_or (option_map suc (cond b (Some (suc q)) None)) 0 ≡ next (unwrap_or (option_map suc (cond b (Some q) None)) 0)
    rest true q = refl
    rest false q = refl

    by_test : (b : Bool) (q l : ℕ) → unwrap_or (option_map suc (cond (nat_lt (cond (not b) (1 + q) 0) (suc l)) (Some (cond (not b) (1 + q) 0)) None)) 0
        ≡ (if b then 1 else next (unwrap_or (option_map suc (cond (nat_lt q l) (Some q) None)) 0))
    by_test true q l = subst (λ (b : Bool). unwrap_or (option_map suc (cond b (Some 0) None)) 0 ≡ 1) (sym (lt-ltb 0 (suc l) (omega arith))) refl
    by_test false q l =
        let one : suc q ≡ 1 + q = omega arith in
        subst (λ (m : ℕ). unwrap_or (option_map suc (cond (nat_lt m (suc l)) (Some m) None)) 0 ≡ next (unwrap_or (option_map suc (cond (nat_lt q l) (Some q) None)) 0)) one
        (subst (λ (b : Bool). unwrap_or (option_map suc (cond b (Some (suc q)) None)) 0 ≡ next (unwrap_or (option_map suc (cond (nat_lt q l) (Some q) None)) 0)) (sym (both_below q l)) (rest (nat_lt q l) q))

-- a number that is there is a name's
pub number_there : (ns : List Name) (t : Name) (i : ℕ) → number_of ns t ≡ suc i → slice_get ns i ≡ Some t
number_there [] t i h = let bad : ⊥ = (cc) in absurd bad
number_there (n ∷ ns) t i h = by_test (bytes_eq t n) refl i (sym (number_cons n ns t) ∙ h) (number_there ns t)
  where
    by_test : (b : Bool) → bytes_eq t n ≡ b → (i : ℕ) → (if b then 1 else next (number_of ns t)) ≡ suc i → ((j : ℕ) → number_of ns t ≡ suc j → slice_get ns j ≡ Some t)
        → slice_get (n ∷ ns) i ≡ Some t
    by_test true e zero k r = ap (λ m. Some m) (sym ((bytes_eq-Decides t n).0 e))
    by_test true e (suc i) k r = let bad : ⊥ = (cc) in absurd bad
    by_test false e i k r = behind (number_of ns t) refl i k
      where
        behind : (x : ℕ) → number_of ns t ≡ x → (i : ℕ) → next x ≡ suc i → slice_get (n ∷ ns) i ≡ Some t
        behind zero e i k = let bad : ⊥ = (cc) in absurd bad
        behind (suc x) e zero k = let bad : ⊥ = (cc) in absurd bad
        behind (suc x) e (suc i) k = r i (e ∙ (let q : suc x ≡ suc i = (cc) in q))

pub same_number : (ns : List Name) (x : ℕ) (s t : Name) → IsNumber ns x s → number_of ns t ≡ x → t ≡ s
same_number ns zero s t h e = absurd (omega (arith, h.1))
same_number ns (suc i) s t h e =
    let a = number_there ns s i h.0 in
    let b = number_there ns t i e in
    let c : Some t ≡ Some s = sym b ∙ a in
    (cc)

-- one name behind them
pub number_kept : (ns ms : List Name) (t : Name) → 0 < number_of ns t → number_of (ns ++ ms) t ≡ number_of ns t
number_kept [] ms t h = absurd (omega (arith, h))
number_kept (n ∷ ns) ms t h =
    number_cons n (ns ++ ms) t ∙ by_test (bytes_eq t n) (subst (λ (k : ℕ). 0 < k) (number_cons n ns t) h) (number_kept ns ms t) ∙ sym (number_cons n ns t)
  where
    behind : (x y : ℕ) → 0 < next x → (0 < x → y ≡ x) → next y ≡ next x
    behind zero y k r = absurd (omega (arith, k))
    behind (suc x) y k r = ap next (r (omega arith))

    by_test : (b : Bool) → 0 < (if b then 1 else next (number_of ns t)) → (0 < number_of ns t → number_of (ns ++ ms) t ≡ number_of ns t)
        → (if b then 1 else next (number_of (ns ++ ms) t)) ≡ (if b then 1 else next (number_of ns t))
    by_test true k r = refl
    by_test false k r = behind (number_of ns t) (number_of (ns ++ ms) t) k r

pub number_new : (ns ms : List Name) (t : Name) → number_of ns t ≡ 0 → (number_of (ns ++ ms) t ≡ 0) ⊎ (length ns < number_of (ns ++ ms) t)
number_new [] ms t h = either (number_of ms t)
  where
    either : (x : ℕ) → (x ≡ 0) ⊎ (0 < x)
    either zero = inl refl
    either (suc x) = inr (omega arith)
number_new (n ∷ ns) ms t h = by_test (bytes_eq t n) (number_of (ns ++ ms) t) (number_cons n (ns ++ ms) t) (sym (number_cons n ns t) ∙ h) (number_new ns ms t)
  where
    none : (x : ℕ) → next x ≡ 0 → x ≡ 0
    none zero e = refl
    none (suc x) e = let bad : ⊥ = (cc) in absurd bad

    behind : (x : ℕ) → number_of (n ∷ ns ++ ms) t ≡ next x → (x ≡ 0) ⊎ (length ns < x) → (number_of (n ∷ ns ++ ms) t ≡ 0) ⊎ (suc (length ns) < number_of (n ∷ ns ++ ms) t)
    behind zero e r = inl e
    behind (suc x) e (inl r) = let bad : ⊥ = (cc) in absurd bad
    behind (suc x) e (inr r) = inr (omega (arith, e, r))

    by_test : (b : Bool) (x : ℕ) → number_of (n ∷ ns ++ ms) t ≡ (if b then 1 else next x) → (if b then 1 else next (number_of ns t)) ≡ 0
        → (number_of ns t ≡ 0 → (x ≡ 0) ⊎ (length ns < x)) → (number_of (n ∷ ns ++ ms) t ≡ 0) ⊎ (suc (length ns) < number_of (n ∷ ns ++ ms) t)
    by_test true x e k r = let bad : ⊥ = (cc) in absurd bad
    by_test false x e k r = behind x e (r (none (number_of ns t) k))

pub number_within : (ns : List Name) (t : Name) → number_of ns t ≤ length ns
number_within [] t = omega arith
number_within (n ∷ ns) t = subst (λ (k : ℕ). k ≤ suc (length ns)) (sym (number_cons n ns t)) (by_test (bytes_eq t n) (number_of ns t) (number_within ns t))
  where
    by_test : (b : Bool) (x : ℕ) → x ≤ length ns → (if b then 1 else next x) ≤ suc (length ns)
    by_test true x h = omega arith
    by_test false zero h = omega arith
    by_test false (suc x) h = omega (arith, h)

number_among : (ns : List Name) (t : Name) → is_among ns t ≡ true → 0 < number_of ns t
number_among [] t h = let bad : ⊥ = (cc) in absurd bad
number_among (n ∷ ns) t h = subst (λ (k : ℕ). 0 < k) (sym (number_cons n ns t)) (by_test (bytes_eq t n) (number_of ns t) h (number_among ns t))
  where
    by_test : (b : Bool) (x : ℕ) → (b || is_among ns t) ≡ true → (is_among ns t ≡ true → 0 < x) → 0 < (if b then 1 else next x)
    by_test true x e r = omega arith
    by_test false zero e r = absurd (omega (arith, r e))
    by_test false (suc x) e r = omega arith

among_last : (ns : List Name) (t : Name) → is_among (ns ++ t ∷ []) t ≡ true
among_last [] t = rw ((bytes_eq-Decides t t).1 refl) refl
among_last (n ∷ ns) t = by_test (bytes_eq t n) (among_last ns t)
  where
    by_test : (b : Bool) → is_among (ns ++ t ∷ []) t ≡ true → (b || is_among (ns ++ t ∷ []) t) ≡ true
    by_test true e = refl
    by_test false e = e

-- a name that was added is there
pub number_added : (ns : List Name) (t : Name) → 0 < number_of (with_name ns t) t
number_added ns t = elim (cases_Bool (is_among ns t)) [
  | inl e ↦ rw e (number_among ns t e)
  | inr e ↦ rw e (number_among (ns ++ t ∷ []) t (among_last ns t))
]

pub adding_extends : (ns : List Name) (t : Name) → Extends ns (with_name ns t)
adding_extends ns t = elim (cases_Bool (is_among ns t)) [
  | inl e ↦ rw e ([], append_nil ns)
  | inr e ↦ rw e (t ∷ [], refl)
]
  where
    append_nil : (xs : List Name) → xs ≡ xs ++ []
    append_nil [] = refl
    append_nil (x ∷ xs) = ap (λ m. x ∷ m) (append_nil xs)

pub number_grows : (ns ms : List Name) (x : ℕ) (t : Name) → Extends ns ms → IsNumber ns x t → IsNumber ms x t
number_grows ns ms x t (zs, e) h =
    let high : 0 < number_of ns t = subst (λ (k : ℕ). 0 < k) (sym h.0) h.1 in
    subst (λ (m : List Name). IsNumber m x t) (sym e) (number_kept ns zs t high ∙ h.0, h.1)

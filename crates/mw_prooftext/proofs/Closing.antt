-- What stands behind a form is told by its last byte.
use Rattle.std.specs.Prelude.{◌≡◌, ◌≤◌, ◌-◌, ℕ, suc, List, [], ◌∷◌, ◌++◌, length, Bool, true, false, nat_eq, cond, codes, refl}
use Rattle.std.proofs.Common.{get_or, arith, sym, ap, ◌∙◌}
use Rattle.std.proofs.lemmas.Bool.{eqb-true}
use Rattle.mw_prooftext.specs.Texts.{closing}

closing_last : (b : ℕ) (x : List ℕ) → closing (b ∷ x) ≡ cond (nat_eq (get_or (b ∷ x) (length (b ∷ x) - 1) 0) 96) (codes " ]") (codes "]")
closing_last b [] = refl
closing_last b (c ∷ x) =
    let shorter : length (b ∷ c ∷ x) - 1 ≡ suc (length (c ∷ x) - 1) = omega arith in
    rw shorter (closing_last c x)

pub closing_apart : (x : List ℕ) → 1 ≤ length x → get_or x (length x - 1) 0 ≡ 96 → codes " ]" ≡ closing x
closing_apart [] l e = absurd (omega (arith, l))
closing_apart (b ∷ x) l e = sym (closing_last b x ∙ ap (λ n. cond (nat_eq n 96) (codes " ]") (codes "]")) e)

pub closing_near : (x : List ℕ) → 1 ≤ length x → (get_or x (length x - 1) 0 ≡ 96 → ⊥) → codes "]" ≡ closing x
closing_near [] l n = absurd (omega (arith, l))
closing_near (b ∷ x) l n = sym (closing_last b x ∙ by_test (nat_eq (get_or (b ∷ x) (length (b ∷ x) - 1) 0) 96) refl)
  where
    by_test : (t : Bool) → nat_eq (get_or (b ∷ x) (length (b ∷ x) - 1) 0) 96 ≡ t → cond t (codes " ]") (codes "]") ≡ codes "]"
    by_test false e = refl
    by_test true e = absurd (n (eqb-true _ _ e))

closing_behind : (x : List ℕ) (b : ℕ) (y : List ℕ) → closing (x ++ b ∷ y) ≡ closing (b ∷ y)
closing_behind [] b y = refl
closing_behind (a ∷ []) b y = refl
closing_behind (a ∷ c ∷ x) b y = closing_behind (c ∷ x) b y

after_bracket : (form : List ℕ) → closing (91 ∷ form) ≡ closing form
after_bracket [] = refl
after_bracket (b ∷ x) = refl

-- so it is the same behind a text that ends in a bracket and the form
pub closing_form : (x form : List ℕ) → closing (x ++ 32 ∷ 91 ∷ form) ≡ closing form
closing_form x form = closing_behind x 32 (91 ∷ form) ∙ after_bracket form

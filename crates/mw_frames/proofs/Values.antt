-- Values of right sides: whether they are known to be normal, and what they are under an operator.
use Rattle.std.specs.Prelude.{◌≡◌, ◌≢◌, ◌==◌, ◌≤◌, ℕ, suc, List, [], ◌∷◌, length, Bool, true, false, not, cond, nat_eq, refl}
use Rattle.std.proofs.Common.{sym, ap, ◌∙◌, arith}
use Rattle.std.proofs.lemmas.Bool.{eqb-true, eq-eqb, both_ways}
use denote.Ref.{Bor}
use Rattle.mw_logic.specs.Term.{RawTerm, RawTerms, numeral, quoted, variable, apply, nil, cons}
use Rattle.mw_logic.specs.Terms.{terms_of}
use Rattle.mw_logic.specs.Signature.{Signature}
use Rattle.mw_logic.specs.Parts.{is_assoc}
use Rattle.mw_logic.specs.NormalForm.{identity_of, is_identity, own_arguments, elements}
use Rattle.mw_logic.proofs.Canonical.{is_identity-arguments}
use Rattle.mw_term.specs.declared.term.View.{View}
use Rattle.mw_term.specs.declared.term.View.TheVariants as seen
use Rattle.mw_term.specs.Shapes.{viewed}
use Rattle.mw_pattern.specs.declared.pattern.Pattern.{Pattern}
use Rattle.mw_pattern.specs.declared.pattern.Pattern.TheVariants.{Nat, Qid, Var, Op}
use Rattle.mw_pattern.specs.Clean.{clean}
use Rattle.mw_stack.specs.Own.{spread}
use Rattle.mw_frames.specs.Jobs.{is_sure, size}

not_equal : (m n : ℕ) → m ≢ n → nat_eq m n ≡ false
not_equal m n h = by_test (nat_eq m n) refl
  where
    by_test : (b : Bool) → nat_eq m n ≡ b → b ≡ false
    by_test true e = absurd (h (eqb-true m n e))
    by_test false e = refl

-- what has arguments under another operator is sure
pub sure_op : (top f : ℕ) (ts : List RawTerm) → top ≢ 0 → f ≢ top → not (length ts == 0) ≡ is_sure top (apply f (terms_of ts))
sure_op top f [] h k = sym (not_equal top 0 h)
sure_op top f (t ∷ ts) h k = rw (not_equal top 0 h, not_equal f top k) (ap not (apart (length ts)))
  where
    apart : (n : ℕ) → (suc n == 0) ≡ false
    apart n = grind arith

module _ (sig : Signature) (g : ℕ) (t : RawTerm) (assoc : is_assoc sig g ≡ true) where
  -- an operator's own arguments, where there are some
  pub spread_own : (f : ℕ) (ts : List RawTerm) → t ≡ apply f (terms_of ts) → f ≡ g → (length ts == 0) ≡ false → spread sig g t ≡ terms_of ts
  spread_own f [] is e h = cc
  spread_own f (u ∷ us) is e h =
      ap (spread sig g) (is ∙ ap (λ i. apply i (terms_of (u ∷ us))) e) ∙ rw (assoc, is_identity-arguments (identity_of sig g) g u (terms_of us), eq-eqb g g refl) refl

  -- a term that isn't the identity, and doesn't have the operator on top
  pub spread_one : (ts : List RawTerm) → terms_of ts ≡ elements (identity_of sig g) g t → (length ts == 0) ≡ false → own_arguments g t ≡ cons t nil → spread sig g t ≡ cons t nil
  spread_one ts e h own = by_test (is_identity (identity_of sig g) t) refl
    where
      some : (b : Bool) (xs : List RawTerm) → b ≡ true → terms_of xs ≡ cond b nil (own_arguments g t) → (length xs == 0) ≡ false → ⊥
      some true [] q e h = both_ways _ h refl
      some true (x ∷ xs) q e h = cc
      some false xs q e h = cc

      by_test : (b : Bool) → is_identity (identity_of sig g) t ≡ b → spread sig g t ≡ cons t nil
      by_test true i = absurd (some (is_identity (identity_of sig g) t) ts i e h)
      by_test false i = rw (assoc, i) own

-- a term without arguments, or under another operator, stands alone
pub alone_empty : (g f : ℕ) (t : RawTerm) (ts : List RawTerm) → t ≡ apply f (terms_of ts) → (length ts == 0) ≡ true → own_arguments g t ≡ cons t nil
alone_empty g f t [] is h = rw is refl
alone_empty g f t (u ∷ us) is h = absurd (apart (length us) h)
  where
    apart : (n : ℕ) → (suc n == 0) ≡ true → ⊥
    apart n h = grind arith

pub alone_other : (g f : ℕ) (t : RawTerm) (ts : List RawTerm) → t ≡ apply f (terms_of ts) → f ≢ g → own_arguments g t ≡ cons t nil
alone_other g f t [] is h = rw is refl
alone_other g f t (u ∷ us) is h = rw (is, not_equal g f (λ e. h (sym e))) refl

pub alone_leaf : (g : ℕ) (t : RawTerm) (v : View) → t ≡ viewed v → ((f : ℕ) (ts : Bor (List RawTerm)) → v ≡ seen.Op f ts → ⊥) → own_arguments g t ≡ cons t nil
alone_leaf g t (seen.Nat n) is h = rw is refl
alone_leaf g t (seen.Qid q) is h = rw is refl
alone_leaf g t (seen.Var x) is h = rw is refl
alone_leaf g t (seen.Op f ts) is h = absurd (h f ts refl)

-- a term costs something
pub size_least : (t : RawTerm) → 5 ≤ size t
size_least (numeral n) = omega arith
size_least (quoted q) = omega arith
size_least (variable x) = omega arith
size_least (apply f ts) = omega arith

-- a pattern that is no operator means none
pub no_operator : (p : Pattern) → ((f : ℕ) (ts : RawTerms) → p ≡ Op f ts → ⊥) → (f : ℕ) (ts : RawTerms) → clean p ≡ apply f ts → ⊥
no_operator (Nat n) h f ts e = cc
no_operator (Qid q) h f ts e = cc
no_operator (Var i) h f ts e = cc
no_operator (Op g us) h f ts e = h g us refl

-- How many levels stand round a hole, operator by operator: the innermost adds one, or none where it is associative and stands on top of what is in the hole;
-- the others by their operators alone.
use Rattle.std.specs.Prelude.{◌≡◌, ℕ, ◌+◌, List, [], ◌∷◌, ◌++◌, Bool, true, false, refl}
use Rattle.std.proofs.Common.{ap, ◌∙◌, arith}
use Rattle.std.proofs.lemmas.List.{append_assoc}
use Rattle.mw_logic.specs.Term.{RawTerm, RawTerms, apply, nil, cons, join, Frame, Context}
use Rattle.mw_logic.specs.Signature.{Signature}
use Rattle.mw_logic.specs.Parts.{is_assoc, all_nested, chain}
use Rattle.mw_logic.proofs.Canonical.{nat_eq-refl}
use Rattle.mw_logic.proofs.Soundness.{IsLong}
use Rattle.mw_deduction.specs.Places.{frame, context_of}
use Rattle.mw_deduction.specs.Standing.{Open, round, IsClear}
use Rattle.mw_deduction.proofs.Depths.{added, level_in}

nothing : (n : ℕ) → 0 + n ≡ n
nothing n = omega arith

module _ (sig : Signature) where
  -- the operator on top decides
  same_level : (C : Context) (f : ℕ) (ts us : RawTerms) → level_in sig C (apply f ts) ≡ level_in sig C (apply f us)
  same_level [] f ts us = refl
  same_level (c ∷ C) f ts us = ap (λ n. added sig c.operator (apply f ts) + n) (same_level C c.operator _ _)

  -- the operator under itself adds nothing
  itself : (f : ℕ) (ts : RawTerms) → is_assoc sig f ≡ true → added sig f (apply f ts) ≡ 0
  itself f ts h = rw (nat_eq-refl f, h) refl

  one : (c : Frame) (D : Context) (t : RawTerm) → level_in sig (c ∷ D) t ≡ added sig c.operator t + level_in sig D (apply c.operator nil)
  one c D t = ap (λ n. added sig c.operator t + n) (same_level D c.operator (join c.before (cons t c.after)) nil)

  chained : (f : ℕ) → is_assoc sig f ≡ true → (b a : RawTerms) (D : Context) (t : RawTerm) → IsLong (join b a) → level_in sig (context_of true f b a ++ D) t ≡ added sig f t + level_in sig D (apply f nil)
  chained f h nil nil D t l = elim l [ ]
  chained f h nil (cons x a) D t l = one (frame f nil (cons (chain f x a) nil)) D t
  chained f h (cons x nil) nil D t l = one (frame f (cons x nil) nil) D t
  chained f h (cons x nil) (cons y a) D t l = outer (chained f h nil (cons y a) (frame f (cons x nil) nil ∷ D) t tt)
    where
      outer : level_in sig (context_of true f nil (cons y a) ++ (frame f (cons x nil) nil ∷ D)) t ≡ added sig f t + level_in sig (frame f (cons x nil) nil ∷ D) (apply f nil)
          → level_in sig ((context_of true f nil (cons y a) ++ (frame f (cons x nil) nil ∷ [])) ++ D) t ≡ added sig f t + level_in sig D (apply f nil)
      outer e = ap (λ C. level_in sig C t) (append_assoc (context_of true f nil (cons y a)) (frame f (cons x nil) nil ∷ []) D) ∙ e ∙ ap (λ n. added sig f t + n) (one (frame f (cons x nil) nil) D (apply f nil) ∙ ap (λ n. n + level_in sig D (apply f nil)) (itself f nil h) ∙ nothing (level_in sig D (apply f nil)))
  chained f h (cons x (cons y b)) a D t l = outer (chained f h (cons y b) a (frame f (cons x nil) nil ∷ D) t tt)
    where
      outer : level_in sig (context_of true f (cons y b) a ++ (frame f (cons x nil) nil ∷ D)) t ≡ added sig f t + level_in sig (frame f (cons x nil) nil ∷ D) (apply f nil)
          → level_in sig ((context_of true f (cons y b) a ++ (frame f (cons x nil) nil ∷ [])) ++ D) t ≡ added sig f t + level_in sig D (apply f nil)
      outer e = ap (λ C. level_in sig C t) (append_assoc (context_of true f (cons y b) a) (frame f (cons x nil) nil ∷ []) D) ∙ e ∙ ap (λ n. added sig f t + n) (one (frame f (cons x nil) nil) D (apply f nil) ∙ ap (λ n. n + level_in sig D (apply f nil)) (itself f nil h) ∙ nothing (level_in sig D (apply f nil)))

pub level_at : (sig : Signature) (o : Open) (os : List Open) (t : RawTerm) → IsClear sig o → level_in sig (round sig (o ∷ os)) t ≡ added sig o.operator t + level_in sig (round sig os) (apply o.operator nil)
level_at sig o os t c = by_assoc (is_assoc sig o.operator) refl
  where
    long : (b a : RawTerms) → IsLong (join b a) → IsLong (join (all_nested sig b) (all_nested sig a))
    long nil nil l = l
    long nil (cons x a) l = tt
    long (cons x b) a l = tt

    by_assoc : (m : Bool) → is_assoc sig o.operator ≡ m → level_in sig (context_of m o.operator (all_nested sig o.before) (all_nested sig o.after) ++ round sig os) t ≡ added sig o.operator t + level_in sig (round sig os) (apply o.operator nil)
    by_assoc false h = one sig (frame o.operator (all_nested sig o.before) (all_nested sig o.after)) (round sig os) t
    by_assoc true h = chained sig o.operator h (all_nested sig o.before) (all_nested sig o.after) (round sig os) t (long o.before o.after (c.others h))

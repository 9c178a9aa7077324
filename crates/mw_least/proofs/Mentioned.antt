-- The variables of a statement: each stands once, and they are those of its sides and fragments.
use Rattle.std.specs.Prelude.{◌≡◌, List, [], ◌∷◌, ◌++◌, true, ◌||◌, cond, IsTrue, refl}
use Rattle.std.proofs.Common.{sym, ap, ◌∙◌}
use Rattle.std.proofs.Math.Bool.{or-false, or_assoc}
use Rattle.std.proofs.lemmas.Bool.{or_left, or_right}
use Rattle.mw_logic.specs.Term.{Variable, RawTerm, RawTerms, numeral, quoted, variable, apply, nil, cons}
use Rattle.mw_logic.specs.Substitution.{occurs, occurs_in}
use Rattle.mw_logic.proofs.SameConditions.{same_variable-refl}
use Rattle.mw_logic.specs.Module.{Fragment, equal, matches, has_sort, is_true, Statement}
use Rattle.mw_position.specs.Variables.{is_in, met, all_met, AreDistinct}
use Rattle.mw_position.proofs.Meeting.{is_in-met, AreDistinct-met}
use Rattle.mw_least.specs.Conditions.{met_fragments, mentioned, occurs_among}

two : (x : Variable) (xs : List Variable) (t u : RawTerm) → is_in x (met (met xs t) u) ≡ (is_in x xs || (occurs x t || occurs x u))
two x xs t u = is_in-met x (met xs t) u ∙ ap (λ b. b || occurs x u) (is_in-met x xs t) ∙ or_assoc (is_in x xs) (occurs x t) (occurs x u)

is_in-fragments : (x : Variable) (xs : List Variable) (C : List Fragment) → is_in x (met_fragments xs C) ≡ (is_in x xs || occurs_among x C)
is_in-fragments x xs [] = sym (or-false (is_in x xs))
is_in-fragments x xs (equal u v ∷ C) =
    is_in-fragments x (met (met xs u) v) C ∙ ap (λ b. b || occurs_among x C) (two x xs u v) ∙ or_assoc (is_in x xs) (occurs x u || occurs x v) (occurs_among x C)
is_in-fragments x xs (matches p t ∷ C) =
    is_in-fragments x (met (met xs p) t) C ∙ ap (λ b. b || occurs_among x C) (two x xs p t) ∙ or_assoc (is_in x xs) (occurs x p || occurs x t) (occurs_among x C)
is_in-fragments x xs (has_sort t S ∷ C) = is_in-fragments x (met xs t) C ∙ ap (λ b. b || occurs_among x C) (is_in-met x xs t) ∙ or_assoc (is_in x xs) (occurs x t) (occurs_among x C)
is_in-fragments x xs (is_true t ∷ C) = is_in-fragments x (met xs t) C ∙ ap (λ b. b || occurs_among x C) (is_in-met x xs t) ∙ or_assoc (is_in x xs) (occurs x t) (occurs_among x C)

AreDistinct-fragments : (xs : List Variable) (C : List Fragment) → AreDistinct xs → AreDistinct (met_fragments xs C)
AreDistinct-fragments xs [] d = d
AreDistinct-fragments xs (equal u v ∷ C) d = AreDistinct-fragments (met (met xs u) v) C (AreDistinct-met (met xs u) v (AreDistinct-met xs u d))
AreDistinct-fragments xs (matches p t ∷ C) d = AreDistinct-fragments (met (met xs p) t) C (AreDistinct-met (met xs p) t (AreDistinct-met xs p d))
AreDistinct-fragments xs (has_sort t S ∷ C) d = AreDistinct-fragments (met xs t) C (AreDistinct-met xs t d)
AreDistinct-fragments xs (is_true t ∷ C) d = AreDistinct-fragments (met xs t) C (AreDistinct-met xs t d)

module _ (e : Statement) where
  pub mentioned_distinct : AreDistinct (mentioned e)
  mentioned_distinct = AreDistinct-fragments (met (met [] e.left) e.right) e.fragments (AreDistinct-met (met [] e.left) e.right (AreDistinct-met [] e.left tt))

  pub is_mentioned : (x : Variable) → is_in x (mentioned e) ≡ ((occurs x e.left || occurs x e.right) || occurs_among x e.fragments)
  is_mentioned x = is_in-fragments x (met (met [] e.left) e.right) e.fragments ∙ ap (λ b. b || occurs_among x e.fragments) (two x [] e.left e.right)

  pub left_mentioned : (x : Variable) → IsTrue (occurs x e.left) → IsTrue (is_in x (mentioned e))
  left_mentioned x o = is_mentioned x ∙ or_left (occurs x e.left || occurs x e.right) (occurs_among x e.fragments) (or_left (occurs x e.left) (occurs x e.right) o)

  pub right_mentioned : (x : Variable) → IsTrue (occurs x e.right) → IsTrue (is_in x (mentioned e))
  right_mentioned x o = is_mentioned x ∙ or_left (occurs x e.left || occurs x e.right) (occurs_among x e.fragments) (or_right (occurs x e.left) (occurs x e.right) o)

  pub among_mentioned : (x : Variable) → IsTrue (occurs_among x e.fragments) → IsTrue (is_in x (mentioned e))
  among_mentioned x o = is_mentioned x ∙ or_right (occurs x e.left || occurs x e.right) (occurs_among x e.fragments) o

mutual
  -- a term in which no variable is new
  pub met_again : (xs : List Variable) (t : RawTerm) → ((x : Variable) → IsTrue (occurs x t) → is_in x xs ≡ true) → met xs t ≡ xs
  met_again xs (numeral n) h = refl
  met_again xs (quoted q) h = refl
  met_again xs (variable x) h = ap (λ b. cond b xs (xs ++ x ∷ [])) (h x (same_variable-refl x))
  met_again xs (apply f ts) h = all_met_again xs ts h

  all_met_again : (xs : List Variable) (ts : RawTerms) → ((x : Variable) → IsTrue (occurs_in x ts) → is_in x xs ≡ true) → all_met xs ts ≡ xs
  all_met_again xs nil h = refl
  all_met_again xs (cons t ts) h =
      ap (λ ys. all_met ys ts) (met_again xs t (λ x o. h x (or_left (occurs x t) (occurs_in x ts) o))) ∙ all_met_again xs ts (λ x o. h x (or_right (occurs x t) (occurs_in x ts) o))

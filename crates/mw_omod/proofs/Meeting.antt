-- Variables that are met, as a set of them has them.
use Rattle.std.proofs.Common.{◌≡◌, ◌∙◌, List, [], ◌∷◌, ◌++◌, Bool, true, false, cond, ◌||◌, refl, sym, ap}
use Rattle.mw_logic.specs.Term.{Variable, variable}
use Rattle.mw_logic.specs.Substitution.{same_variable}
use Rattle.mw_logic.proofs.SameConditions.{same_variable-is}
use Rattle.mw_position.specs.Variables.{is_in, met}
use Rattle.mw_position.proofs.Meeting.{same_turned}
use Rattle.mw_text.specs.Mentions.{is_met, with_variable}

either_way : (x y : Variable) → same_variable x y ≡ same_variable y x
either_way x y = of (same_variable x y) refl
  where
    of : (b : Bool) → same_variable x y ≡ b → same_variable x y ≡ same_variable y x
    of true e = let k : x ≡ y = same_variable-is x y e in rw k refl
    of false e = e ∙ sym (same_turned x y e)

pub is_met-is : (xs : List Variable) (x : Variable) → is_met xs x ≡ is_in x xs
is_met-is [] x = refl
is_met-is (y ∷ ys) x = ap (λ b. b || is_met ys x) (either_way x y) ∙ ap (λ b. same_variable y x || b) (is_met-is ys x)

pub with_met : (xs : List Variable) (x : Variable) → with_variable xs x ≡ met xs (variable x)
with_met xs x = ap (λ b. cond b xs (xs ++ x ∷ [])) (is_met-is xs x)

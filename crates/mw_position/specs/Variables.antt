-- The variables of a term in the order in which they are first met, and terms whose variables stand by position.
use Rattle.std.specs.Prelude.{ℕ, suc, List, [], ◌∷◌, ◌++◌, map, Bool, false, ◌||◌, cond, IsTrue, IsFalse, ⊤}
use Rattle.mw_logic.specs.Term.{Variable, RawTerm, numeral, quoted, variable, apply, RawTerms, nil, cons}
use Rattle.mw_logic.specs.Substitution.{Substitution, same_variable}
use Rattle.mw_position.specs.Positions.{position}

abbrev pub is_in : Variable → List Variable → Bool
is_in x [] = false
is_in x (y ∷ ys) = same_variable y x || is_in x ys

-- those that were met before, and then those of the term
abbrev mutual
  pub met : List Variable → RawTerm → List Variable
  met xs (numeral n) = xs
  met xs (quoted q) = xs
  met xs (variable x) = cond (is_in x xs) xs (xs ++ x ∷ [])
  met xs (apply f ts) = all_met xs ts

  pub all_met : List Variable → RawTerms → List Variable
  all_met xs nil = xs
  all_met xs (cons t ts) = all_met (met xs t) ts

-- no variable stands twice
abbrev pub AreDistinct : List Variable → Type 0
AreDistinct [] = ⊤
AreDistinct (x ∷ xs) = IsFalse (is_in x xs) × AreDistinct xs

-- how many variables stand before this one
abbrev pub place : Variable → List Variable → ℕ
place x [] = 0
place x (y ∷ ys) = cond (same_variable y x) 0 (suc (place x ys))

-- the sorts of variables
abbrev pub sorts_of : List Variable → List ℕ
sorts_of xs = map (λ (x : Variable). x.sort) xs

-- the term with each variable's position in place of its name
abbrev mutual
  pub placed : List Variable → RawTerm → RawTerm
  placed xs (numeral n) = numeral n
  placed xs (quoted q) = quoted q
  placed xs (variable x) = variable (position (place x xs))
  placed xs (apply f ts) = apply f (all_placed xs ts)

  pub all_placed : List Variable → RawTerms → RawTerms
  all_placed xs nil = nil
  all_placed xs (cons t ts) = cons (placed xs t) (all_placed xs ts)

-- the variables of a substitution in order, and their values
abbrev pub bound_variables : Substitution → List Variable
bound_variables s = map (λ b. b.0) s

abbrev pub bound_values : Substitution → List RawTerm
bound_values s = map (λ b. b.1) s

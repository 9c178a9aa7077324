-- Lists in which each thing that has a property stands, and stands once.
use Rattle.std.specs.Prelude.{◌≡◌, ◌⊎◌, ◌↔◌, List, [], ◌∷◌, ⊤}

abbrev pub Member : {A : Type 0} → A → List A → Type 0
Member x [] = ⊥
Member x (y ∷ ys) = (x ≡ y) ⊎ Member x ys

-- none stands in the list again
abbrev pub Distinct : {A : Type 0} → List A → Type 0
Distinct [] = ⊤
Distinct (x ∷ xs) = (Member x xs → ⊥) × Distinct xs

-- a list of all that have the property, each once
pub record AllOnce {A : Type 0} (P : A → Type 0) (xs : List A) : Type 0 where
  pub once : Distinct xs
  pub all : (x : A) → Member x xs ↔ P x

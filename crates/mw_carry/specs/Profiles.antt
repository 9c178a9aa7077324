-- What tells an operator from the others: its name and its kinds. A kind is named by its least sort, so that each has one name.
use Rattle.std.specs.Prelude.{ℕ, ◌≡◌, List, [], ◌∷◌, ⊤}
use Rattle.mw_logic.specs.Signature.{Signature, Operator, IsOperator}
use Rattle.mw_poset.specs.Order.{IsKindOf}
use Rattle.mw_carry.specs.Carried.{IsSameSort}

-- the lists are of one length, and what stands in one place is related
abbrev pub Pairwise : (ℕ → ℕ → Type 0) → List ℕ → List ℕ → Type 0
Pairwise R [] [] = ⊤
Pairwise R [] (y ∷ ys) = ⊥
Pairwise R (x ∷ xs) [] = ⊥
Pairwise R (x ∷ xs) (y ∷ ys) = R x y × Pairwise R xs ys

pub record Profile : Type 0 where
  pub spelling : List ℕ
  pub args : List ℕ
  pub result : ℕ

-- the operator has this profile, where these are the subsort pairs
pub record HasProfile (pairs : List (ℕ × ℕ)) (o : Operator) (p : Profile) : Type 0 where
  pub spelling : o.spelling ≡ p.spelling
  pub args : Pairwise (IsKindOf pairs) o.args p.args
  pub result : IsKindOf pairs o.result p.result

-- operator number f has this profile
pub record IsProfiled (sig : Signature) (p : Profile) (f : ℕ) : Type 0 where
  pub operator : Operator
  pub is_there : IsOperator sig f operator
  pub profile : HasProfile sig.pairs operator p

module _ (sig to : Signature) where
  -- L is the least sort of the kind that stands for the kind K
  pub record IsLeastFor (K L : ℕ) : Type 0 where
    pub sort : ℕ
    pub same : IsSameSort sig to K sort
    pub kind : IsKindOf to.pairs sort L

  -- an operator that stands for this one has this profile
  pub record IsProfileFor (o : Operator) (p : Profile) : Type 0 where
    pub spelling : o.spelling ≡ p.spelling
    pub args : Pairwise IsLeastFor o.args p.args
    pub result : IsLeastFor o.result p.result

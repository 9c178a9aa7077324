-- Lists that correspond one by one, and the first of a list to which nothing corresponds.
use Rattle.std.specs.Prelude.{◌≡◌, ◌<◌, ℕ, List, length, slice_get, Some}

-- each of the first list with the one at its place in the second
pub record AreRelated {A B : Type 0} (R : A → B → Type 0) (ps : List A) (bs : List B) : Type 0 where
  pub count : length bs ≡ length ps
  pub each : (i : ℕ) (a : A) (b : B) → slice_get ps i ≡ Some a → slice_get bs i ≡ Some b → R a b

-- the first of a list that is wrong in this way; to each before it something corresponds
pub record IsFirstWrong {A B : Type 0} (R : A → B → Type 0) (Wrong : A → Type 0) (ps : List A) : Type 0 where
  pub place : ℕ
  pub item : A
  pub is_there : slice_get ps place ≡ Some item
  pub fault : Wrong item
  pub before : (i : ℕ) (a : A) → i < place → slice_get ps i ≡ Some a → (b : B) × R a b

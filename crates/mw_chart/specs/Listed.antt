-- Lists by number: of those beyond the last one each is empty.
use Rattle.std.specs.Prelude.{ℕ, zero, suc, ◌≡◌, ◌⊎◌, List, [], ◌∷◌, Some}
use Rattle.std.specs.List.{slice_get}
use Rattle.std.specs.Global.{Global}
use Rattle.std.specs.declared.vec.Vec.{Vec}

-- the list at an index of a list of lists
abbrev pub inner : {A : Type 0} → List (Vec A Global) → ℕ → List A
inner [] i = []
inner (x ∷ xs) zero = x.items
inner (x ∷ xs) (suc i) = inner xs i

-- the list at an index has the element
abbrev pub IsListed : {A : Type 0} → List (Vec A Global) → ℕ → A → Type 0
IsListed lists i x = (p : ℕ) × (slice_get (inner lists i) p ≡ Some x)

-- Each element that has a key stands in the list of the key, and each list has such elements alone.
pub record AreListed {A : Type 0} (Key : A → ℕ → Type 0) (elements : List A) (lists : List (Vec A Global)) : Type 0 where
  pub listed : (n i : ℕ) (x : A) → slice_get elements n ≡ Some x → Key x i → IsListed lists i x
  pub only : (i : ℕ) (x : A) → IsListed lists i x → Key x i × ((n : ℕ) × (slice_get elements n ≡ Some x))

-- In the lists after stands what stood in those before, and the element, in each list at such a number.
pub record Joins {A : Type 0} (Here : ℕ → Type 0) (x : A) (old new : List (Vec A Global)) : Type 0 where
  pub kept : (i : ℕ) (y : A) → IsListed old i y → IsListed new i y
  pub put : (i : ℕ) → Here i → IsListed new i x
  pub only : (i : ℕ) (y : A) → IsListed new i y → IsListed old i y ⊎ (Here i × (y ≡ x))

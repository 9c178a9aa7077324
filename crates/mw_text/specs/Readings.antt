-- The one reading of a text, or why there is none; and the same for two texts whose terms have one kind.
use Rattle.std.specs.Prelude.{◌≡◌, ◌≢◌, ◌≤◌, ℕ, List, length, None}
use Rattle.mw_logic.specs.Term.{Variable, RawTerm}
use Rattle.mw_logic.specs.Signature.{Signature, HasKind}
use Rattle.mw_text.specs.Mixfix.{IsSpelled}

-- no X has the property; these two have it, and they differ; two different ones have it; this one has it alone
abbrev pub NoneHas : {X : Type 0} → (X → Type 0) → Type 0
NoneHas {X} P = (x : X) → P x → ⊥

abbrev pub BothHave : {X : Type 0} → (X → Type 0) → X → X → Type 0
BothHave P x y = P x × P y × (x ≢ y)

abbrev pub TwoHave : {X : Type 0} → (X → Type 0) → Type 0
TwoHave {X} P = (x : X) × (y : X) × BothHave P x y

abbrev pub OnlyHas : {X : Type 0} → (X → Type 0) → X → Type 0
OnlyHas {X} P x = P x × ((y : X) → P y → y ≡ x)

-- a text of 1,024 tokens at most
abbrev pub IsShort : List (List ℕ) → Type 0
IsShort text = length text ≤ 1024

-- the texts spell these terms, which have one kind
pub record ArePair (sig : Signature) (variables : List Variable) (left right : List (List ℕ)) (p : RawTerm × RawTerm) : Type 0 where
  pub first : IsSpelled sig variables None left p.0
  pub second : IsSpelled sig variables None right p.1
  pub kind : ℕ
  pub of_first : HasKind sig p.0 kind
  pub of_second : HasKind sig p.1 kind

-- the only such pair
pub record ReadsPair (sig : Signature) (variables : List Variable) (left right : List (List ℕ)) (p : RawTerm × RawTerm) : Type 0 where
  pub short_left : IsShort left
  pub short_right : IsShort right
  pub only : OnlyHas (ArePair sig variables left right) p

-- The words of tokens.
use Rattle.std.specs.Prelude.{ℕ, ◌≡◌, ◌⊎◌, List, length, Some}
use Rattle.std.specs.List.{slice_get}
use Rattle.mw_logic.specs.Term.{Variable, RawTerm}
use Rattle.mw_logic.specs.Signature.{Signature, Member}
use Rattle.mw_chart.specs.declared.terminal.Leaf.{Leaf}
use Rattle.mw_chart.specs.declared.terminal.Terminal.{Terminal}
use Rattle.mw_grammar.specs.Leaves.{IsAlone, IsKindOf}
use Rattle.mw_text.specs.Interned.{number_of}
use Rattle.mw_grammar.specs.Compiled.{Extends}

-- the leaf is the term, by its place in a list, at the state of its kind
abbrev pub IsLeafOf : Signature → (ℕ → ℕ) → List RawTerm → Leaf → RawTerm → Type 0
IsLeafOf sig kind leaves l t = (slice_get leaves l.value ≡ Some t) × IsKindOf sig kind t l.state

-- The word has the token's number among names, and the terms that the token is by itself as leaves.
pub record IsWord (sig : Signature) (variables : List Variable) (kind : ℕ → ℕ) (names : List (List ℕ)) (leaves : List RawTerm) (token : List ℕ) (word : Terminal) : Type 0 where
  pub number : word.token ≡ number_of names token
  pub sound : (l : Leaf) → Member l word.leaves.items → (t : RawTerm) × IsLeafOf sig kind leaves l t × IsAlone sig variables token t
  pub complete : (t : RawTerm) → IsAlone sig variables token t → (l : Leaf) × Member l word.leaves.items × IsLeafOf sig kind leaves l t

-- no term has two places
abbrev pub AllDiffer : List RawTerm → Type 0
AllDiffer leaves = (v w : ℕ) (t : RawTerm) → slice_get leaves v ≡ Some t → slice_get leaves w ≡ Some t → v ≡ w

-- a word for each token
pub record AreWords (sig : Signature) (variables : List Variable) (kind : ℕ → ℕ) (names : List (List ℕ)) (leaves : List RawTerm) (tokens : List (List ℕ)) (words : List Terminal) : Type 0 where
  pub count : length words ≡ length tokens
  pub each : (k : ℕ) (token : List ℕ) (word : Terminal) → slice_get tokens k ≡ Some token → slice_get words k ≡ Some word → IsWord sig variables kind names leaves token word
  pub differ : AllDiffer leaves

-- From old to new, the fresh terms have leaves besides, each at the state of its kind's number, and no other leaf is new.
pub record Adds (old new : List RawTerm) (before after : List Leaf) (Fresh : RawTerm → ℕ → Type 0) : Type 0 where
  pub leaves : Extends old new
  pub differ : AllDiffer old → AllDiffer new
  pub kept : (l : Leaf) → Member l before → Member l after
  pub sound : (l : Leaf) → Member l after → Member l before ⊎ ((t : RawTerm) × (slice_get new l.value ≡ Some t) × Fresh t l.state)
  pub complete : (t : RawTerm) (K : ℕ) → Fresh t K → (l : Leaf) × Member l after × (slice_get new l.value ≡ Some t) × (l.state ≡ K)

-- Lists of parts, as loops make them.
use Rattle.std.proofs.Common.{ℕ, ◌≡◌, List, [], ◌∷◌, codes, Bool, true, false, refl, ap}
use Rattle.mw_grammar.specs.declared.parts.Symbol.{Symbol}
use Rattle.mw_grammar.specs.declared.parts.Symbol.TheVariants.{Piece, Hole}
use Rattle.mw_grammar.specs.Notations.{arguments}

-- more arguments, where the first of them comes behind a comma or not
abbrev pub arguments_from : (ℕ → ℕ) → Bool → List ℕ → List Symbol
arguments_from kind b [] = []
arguments_from kind true (K ∷ Ks) = Hole (kind K) 128 ∷ arguments_from kind false Ks
arguments_from kind false (K ∷ Ks) = Piece (codes ",") ∷ Hole (kind K) 128 ∷ arguments_from kind false Ks

pub arguments_are : (kind : ℕ → ℕ) (Ks : List ℕ) → arguments_from kind true Ks ≡ arguments kind Ks
arguments_are kind [] = refl
arguments_are kind (K ∷ []) = refl
arguments_are kind (K ∷ L ∷ Ks) = ap (λ (m : List Symbol). Hole (kind K) 128 ∷ Piece (codes ",") ∷ m) (arguments_are kind (L ∷ Ks))

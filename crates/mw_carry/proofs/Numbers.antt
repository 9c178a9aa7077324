-- What stands at a number.
use Rattle.std.proofs.Common.{◌≡◌, ◌≤◌, ℕ, zero, suc, List, [], ◌∷◌, length, Some, refl, arith}
use Rattle.std.proofs.lemmas.Option.{slice_get_within}
use Rattle.mw_logic.specs.Signature.{at_number}

-- a number that is there has something
pub there_at : {X : Type 0} (xs : List X) (i : ℕ) → 1 ≤ i → i ≤ length xs → (x : X) × (at_number xs i ≡ Some x)
there_at xs zero low high = absurd (omega arith)
there_at [] (suc i) low high = absurd (omega arith)
there_at (x ∷ xs) (suc zero) low high = (x, refl)
there_at (x ∷ xs) (suc (suc i)) low high = there_at xs (suc i) (omega arith) (omega arith)

-- and what is found has a number that is there
pub within_at : {X : Type 0} (xs : List X) (i : ℕ) (x : X) → at_number xs i ≡ Some x → (1 ≤ i) × (i ≤ length xs)
within_at xs zero x e = cc
within_at xs (suc i) x e = let w = slice_get_within xs i x e in (omega arith, omega (arith, w))

-- The same proofs under way, in higher ranks.
use Rattle.std.specs.Prelude.{◌≡◌, ◌≤◌, ℕ, List, [], ◌∷◌, ⊤}
use Rattle.mw_deduction.specs.Replay.{Stand}

abbrev pub ranked : ℕ → Stand → Stand
ranked n S = record S { rank = n }

-- Q is S in a rank that is as high or higher
abbrev pub IsRaised : Stand → Stand → Type 0
IsRaised S Q = (S.rank ≤ Q.rank) × (Q ≡ ranked Q.rank S)

abbrev pub Above : List Stand → List Stand → Type 0
Above [] [] = ⊤
Above [] (Q ∷ C) = ⊥
Above (S ∷ B) [] = ⊥
Above (S ∷ B) (Q ∷ C) = IsRaised S Q × Above B C

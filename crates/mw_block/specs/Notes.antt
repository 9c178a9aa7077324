-- What is written beside proof texts.
use Rattle.std.specs.Prelude.{ℕ, List, [], ◌∷◌, ◌++◌, Bool, true, false, nat_eq, codes}

-- `*** ` stands before each line; `start` says that one begins here
abbrev pub starred : Bool → List ℕ → List ℕ
starred start [] = []
starred true (b ∷ bs) = codes "*** " ++ (b ∷ starred (nat_eq b 10) bs)
starred false (b ∷ bs) = b ∷ starred (nat_eq b 10) bs

-- a text that is no proof text, where proofs are written or not
abbrev pub noted : Bool → List ℕ → List ℕ
noted false text = text
noted true text = starred true text

-- Where no comment begins.
use Rattle.std.proofs.Common.{◌≡◌, ◌==◌, ◌&&◌, ℕ, zero, suc, false, List, [], ◌∷◌, ◌++◌, take, refl}
use Rattle.std.specs.Prelude.{⊤}
use Rattle.std.proofs.lemmas.Bool.{or_from, and_left, and_right}
use Rattle.mw_lex.specs.Pieces.{opens_comment}

-- before a byte that is neither a star nor a dash
pub no_comment : (b : ℕ) → (b == 42) ≡ false → (b == 45) ≡ false → (rest : List ℕ) → opens_comment (b ∷ rest) ≡ false
no_comment b h k [] = refl
no_comment b h k (c ∷ []) = refl
no_comment b h k (c ∷ d ∷ rest) = rw (h, k) refl

no_second : (a b : ℕ) → (b == 42) ≡ false → (b == 45) ≡ false → (rest : List ℕ) → opens_comment (a ∷ b ∷ rest) ≡ false
no_second a b h k [] = refl
no_second a b h k (c ∷ rest) = or_from _ _ (and_left _ (c == 42) (and_right (a == 42) (b == 42) h)) (and_left _ (c == 45) (and_right (a == 45) (b == 45) k))

no_third : (a b c : ℕ) → (c == 42) ≡ false → (c == 45) ≡ false → opens_comment (a ∷ b ∷ c ∷ []) ≡ false
no_third a b c h k = or_from _ _ (and_right (a == 42 && b == 42) (c == 42) h) (and_right (a == 45 && b == 45) (c == 45) k)

-- the first byte, if there is one, is neither a star nor a dash
abbrev pub IsApart : List ℕ → Type 0
IsApart [] = ⊤
IsApart (c ∷ rest) = ((c == 42) ≡ false) × ((c == 45) ≡ false)

-- before bytes in which none begins, and others that are apart
pub no_comment_before : (x rest : List ℕ) → opens_comment x ≡ false → IsApart rest → opens_comment (x ++ rest) ≡ false
no_comment_before [] [] h s = refl
no_comment_before [] (c ∷ rest) h s = no_comment c s.0 s.1 rest
no_comment_before (a ∷ []) [] h s = refl
no_comment_before (a ∷ []) (c ∷ rest) h s = no_second a c s.0 s.1 rest
no_comment_before (a ∷ b ∷ []) [] h s = refl
no_comment_before (a ∷ b ∷ []) (c ∷ rest) h s = no_third a b c s.0 s.1
no_comment_before (a ∷ b ∷ c ∷ x) rest h s = h

-- before the first bytes of a text in which none begins
pub no_comment_front : (n : ℕ) (s : List ℕ) → opens_comment s ≡ false → opens_comment (take n s) ≡ false
no_comment_front zero s h = refl
no_comment_front (suc n) [] h = refl
no_comment_front (suc zero) (a ∷ s) h = refl
no_comment_front (suc (suc n)) (a ∷ []) h = refl
no_comment_front (suc (suc zero)) (a ∷ b ∷ s) h = refl
no_comment_front (suc (suc (suc n))) (a ∷ b ∷ []) h = refl
no_comment_front (suc (suc (suc n))) (a ∷ b ∷ c ∷ s) h = h

-- Sums of hashes over lists.
use Rattle.std.proofs.Common.{◌≡◌, ◌∙◌, ℕ, ◌<◌, ◌+◌, ◌%◌, ◌^◌, List, [], ◌∷◌, ◌++◌, ap, arith}
use Rattle.mw_logic.specs.Term.{RawTerm, RawTerms, nil, cons}
use Rattle.mw_logic.specs.Terms.{terms_of}
use Rattle.mw_term.specs.Hashes.{hash_of, hash_sum, scattered}

-- a sum is a word
pub sum_small : (ts : RawTerms) → hash_sum ts < 2 ^ 32
sum_small nil = omega arith
sum_small (cons t ts) = let n = scattered (hash_of t) + hash_sum ts in omega arith

added : (a b c : ℕ) → b < 2 ^ 32 → c < 2 ^ 32 → (a + (b + c) % 2 ^ 32) % 2 ^ 32 ≡ ((a + b) % 2 ^ 32 + c) % 2 ^ 32
added a b c h k = omega (arith, h, k)

alone : (b : ℕ) → b < 2 ^ 32 → b ≡ (0 + b) % 2 ^ 32
alone b h = omega (arith, h)

-- of lists one behind another
pub sum_append : (xs ys : List RawTerm) → hash_sum (terms_of (xs ++ ys)) ≡ (hash_sum (terms_of xs) + hash_sum (terms_of ys)) % 2 ^ 32
sum_append [] ys = alone (hash_sum (terms_of ys)) (sum_small (terms_of ys))
sum_append (x ∷ xs) ys =
    ap (λ n. (scattered (hash_of x) + n) % 2 ^ 32) (sum_append xs ys)
    ∙ added (scattered (hash_of x)) (hash_sum (terms_of xs)) (hash_sum (terms_of ys)) (sum_small (terms_of xs)) (sum_small (terms_of ys))

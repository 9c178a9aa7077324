-- Tokens in parts of slices.
use Rattle.std.proofs.Common.{◌≡◌, ◌∙◌, ◌≤◌, ◌-◌, min, ℕ, zero, suc, List, [], ◌∷◌, length, take, drop, get_or, refl, sym, ap, arith}
use Rattle.std.proofs.lemmas.List.{take_all, drop-drop}
use Rattle.std.proofs.lemmas.List.Folds.{list_all-map}
use Rattle.std.specs.Borrow.{Bor}
use Rattle.std.specs.Char.{is_ascii_digit}
use Rattle.std.specs.List.{list_all}
use Rattle.mw_text.specs.Numerals.{are_digits}
use Rattle.mw_lex.specs.declared.token.Token.{Token}
use Rattle.mw_module.specs.Words.{seen_lists}
use Rattle.mw_module.specs.OperatorNames.{items_in, fits, all_fit}
use Rattle.mw_module.specs.Statements.{group_at_end}

-- what stands behind the first
pub behind_first : (t : Token) (ts : List Token) → take (length (t ∷ ts) - 1) ts ≡ ts
behind_first t ts = let size : length (t ∷ ts) - 1 ≡ length ts = omega arith in rw size (take_all (length ts) ts (omega arith))

-- a list by its first and the others
pub parted : (ts : List Token) (first : Token) → 1 ≤ length ts → first ≡ get_or ts 0 first → ts ≡ first ∷ take (length ts - 1) (drop 1 ts)
parted [] first some head = absurd (omega arith)
parted (t ∷ ts) first some head = rw (behind_first t ts) (ap (λ (x : Token). x ∷ ts) (sym head))

-- a group at the end without its brackets
pub group_read : (n : ℕ) (ts group : List Token) → group ≡ drop (length ts - n) ts → take (n - 1 - 1) (drop 1 group) ≡ group_at_end n ts
group_read n ts group at =
    let two : n - 1 - 1 ≡ n - 2 = omega arith in
    rw (at, drop-drop, two) refl

pub drop_within : {A : Type 0} (n : ℕ) (xs : List A) → drop (min n (length xs)) xs ≡ drop n xs
drop_within zero xs = let e : min 0 (length xs) ≡ 0 = omega arith in rw e refl
drop_within (suc n) [] = let e : min (suc n) 0 ≡ 0 = omega arith in rw e refl
drop_within (suc n) (x ∷ xs) = let e : min (suc n) (length (x ∷ xs)) ≡ suc (min n (length xs)) = omega arith in rw e (drop_within n xs)

take_within : {A : Type 0} (n : ℕ) (xs : List A) → take (min n (length xs)) xs ≡ take n xs
take_within zero xs = let e : min 0 (length xs) ≡ 0 = omega arith in rw e refl
take_within (suc n) [] = let e : min (suc n) 0 ≡ 0 = omega arith in rw e refl
take_within (suc n) (x ∷ xs) = let e : min (suc n) (length (x ∷ xs)) ≡ suc (min n (length xs)) = omega arith in rw e (ap (λ ys. x ∷ ys) (take_within n xs))

-- the tokens of a part
pub part_read : (from to : ℕ) (ts : List Token) → take (min (to - from) (length (drop (min from (length ts)) ts))) (drop (min from (length ts)) ts) ≡ take (to - from) (drop from ts)
part_read from to ts = take_within (to - from) (drop (min from (length ts)) ts) ∙ ap (take (to - from)) (drop_within from ts)

-- digits, byte by byte
pub some_digits : (text : List ℕ) → 1 ≤ length text → are_digits text ≡ list_all is_ascii_digit text
some_digits [] some = absurd (omega arith)
some_digits (b ∷ bs) some = refl

-- names in slices
pub all_fitting : (arity : ℕ) (names : List (Bor (List Token))) → all_fit arity (seen_lists names) ≡ list_all (λ name. fits arity (items_in name.now)) names
all_fitting arity names = list_all-map _ _ names

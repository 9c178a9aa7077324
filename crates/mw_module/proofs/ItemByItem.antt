-- The items of a name, token by token.
use Rattle.std.proofs.Common.{◌≡◌, ◌∙◌, ◌+◌, ◌&&◌, ◌||◌, ◌<◌, ◌≤◌, ◌-◌, ◌^◌, nat_le, min, length, take, drop, get_or, ℕ, Bool, List, [], ◌∷◌, ◌++◌, refl, ap, arith}
use Rattle.std.specs.List.{list_all, list_any}
use Rattle.std.proofs.lemmas.List.Folds.{list_all-append, list_any-append}
use Rattle.mw_lex.specs.declared.token.Token.{Token}
use Rattle.mw_text.specs.Names.{NameItem, piece, hole, items_of, count_holes}
use Rattle.mw_module.specs.OperatorNames.{items_in, is_piece, is_fine, is_name}
use Rattle.mw_module.proofs.Slices.{parted}

all_items : (p : NameItem → Bool) (ts : List Token) → list_all p (items_in ts) ≡ list_all (λ (t : Token). list_all p (items_of t.text)) ts
all_items p [] = refl
all_items p (t ∷ ts) = list_all-append p (items_of t.text) (items_in ts) ∙ ap (λ b. list_all p (items_of t.text) && b) (all_items p ts)

any_items : (p : NameItem → Bool) (ts : List Token) → list_any p (items_in ts) ≡ list_any (λ (t : Token). list_any p (items_of t.text)) ts
any_items p [] = refl
any_items p (t ∷ ts) = list_any-append p (items_of t.text) (items_in ts) ∙ ap (λ b. list_any p (items_of t.text) || b) (any_items p ts)

count_holes-append : (xs ys : List NameItem) → count_holes (xs ++ ys) ≡ count_holes xs + count_holes ys
count_holes-append [] ys = omega arith
count_holes-append (piece x ∷ xs) ys = count_holes-append xs ys
count_holes-append (hole ∷ xs) ys = omega (arith, count_holes-append xs ys)

-- a name by what is found at its tokens
pub is_name_by_token : (ts : List Token) → is_name (items_in ts)
    ≡ (list_all (λ (t : Token). list_all is_fine (items_of t.text)) ts && (list_any (λ (t : Token). list_any is_piece (items_of t.text)) ts || nat_le 2 (count_holes (items_in ts))))
is_name_by_token ts = rw (all_items is_fine ts, any_items is_piece ts) refl

-- a hole more than the greatest number is none more
pub holes_more : (n h : ℕ) (ts : List Token) (t : Token) → 1 ≤ length ts → t ≡ get_or ts 0 t → h ≡ min (n + count_holes (items_of t.text)) (2 ^ 64 - 1)
    → min (h + count_holes (items_in ((take (length ts - 1) (drop 1 ts))))) (2 ^ 64 - 1) ≡ min (n + count_holes (items_in ts)) (2 ^ 64 - 1)
holes_more n h ts t some head told =
    let rest = take (length ts - 1) (drop 1 ts) in
    let more : count_holes (items_in ((t ∷ rest))) ≡ count_holes (items_of t.text) + count_holes (items_in rest) = count_holes-append (items_of t.text) (items_in rest) in
    let whole : count_holes (items_in ts) ≡ count_holes (items_in ((t ∷ rest))) = ap (λ us. count_holes (items_in us)) (parted ts t some head) in
    omega arith

-- no tokens are left, and so no holes
pub holes_end : (n : ℕ) (ts : List Token) → length ts < 1 → n < 2 ^ 64 → min (n + count_holes (items_in ts)) (2 ^ 64 - 1) ≡ n
holes_end n [] none few = omega arith
holes_end n (t ∷ ts) none few = absurd (omega arith)

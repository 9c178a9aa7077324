-- One turn of an enumeration of paths: the first is taken, and those on from it come to wait.
use Rattle.std.specs.Prelude.{◌≡◌, ◌+◌, ◌<◌, ◌≤◌, ℕ, suc, List, [], ◌∷◌, ◌++◌, map, length, drop, get_or, refl}
use Rattle.std.proofs.Common.{ap, sym, ◌∙◌, arith, drop-cons, drop_of_length-le, add-one}
use Rattle.std.proofs.lemmas.List.{append-nil, append_assoc, map-append}
use Rattle.mw_logic.specs.Term.{RawTerm}
use Rattle.mw_redex.specs.declared.walking.Spot.{Spot}
use Rattle.mw_redex.specs.Waiting.{Way, way_of, ways_to, ways_on, to_come}
use Rattle.mw_redex.proofs.Waited.{to_come-first}

-- the arguments from index i on, of which the first is t
pub args_at : (ts : List RawTerm) (i : ℕ) (t : RawTerm) → i < length ts → t ≡ get_or ts i t → drop i ts ≡ t ∷ drop (i + 1) ts
args_at ts i t h e = drop-cons ts i t h ∙ rw (← e, add-one) refl

pub way_pushed : (made : List Way) (path : List ℕ) (i : ℕ) (ts : List RawTerm) (t : RawTerm) (w : Way) (all : List Way) → i < length ts → t ≡ get_or ts i t → w ≡ (path ++ (i + 1) ∷ [], t)
    → made ++ ways_to path (i + 1) (drop i ts) ≡ all → (made ++ w ∷ []) ++ ways_to path (i + 1 + 1) (drop (i + 1) ts) ≡ all
way_pushed made path i ts t w all h e f inv =
    let z : i + 1 + 1 ≡ suc (i + 1) = omega arith in
    let rest : List RawTerm = drop (i + 1) ts in
    append_assoc made (w ∷ []) (ways_to path (i + 1 + 1) rest)
    ∙ ap (λ r. made ++ r) (ap (λ v. v ∷ ways_to path (i + 1 + 1) rest) f ∙ ap (λ j. (path ++ (i + 1) ∷ [], t) ∷ ways_to path j rest) z ∙ sym (ap (ways_to path (i + 1)) (args_at ts i t h e))) ∙ inv

pub ways_pushed : (made : List Way) (path : List ℕ) (i : ℕ) (ts : List RawTerm) (all : List Way) → length ts ≤ i → made ++ ways_to path (i + 1) (drop i ts) ≡ all → made ≡ all
ways_pushed made path i ts all h inv = sym (append-nil made) ∙ ap (λ r. made ++ ways_to path (i + 1) r) (sym (drop_of_length-le ts h)) ∙ inv

-- the first of those that wait, taken
pub turned : (items more new : List Spot) (x y : Spot) → 0 < length items → x ≡ get_or items 0 x → map way_of more ≡ ways_on (way_of x) → items ++ more ≡ y ∷ new
    → to_come (map way_of items) ≡ y.path ∷ to_come (map way_of new)
turned [] more new x y h e f g = absurd (omega (arith, h))
turned (z ∷ zs) more new x y h e f g =
    let a : z ≡ y = cc in
    let b : zs ++ more ≡ new = cc in
    to_come-first (way_of z) (map way_of zs)
    ∙ ap (λ r. z.path ∷ to_come r) (ap (λ s. map way_of zs ++ ways_on (way_of s)) (sym e) ∙ ap (λ r. map way_of zs ++ r) (sym f) ∙ sym (map-append way_of zs more) ∙ ap (map way_of) b)
    ∙ ap (λ (s : Spot). s.path ∷ to_come (map way_of new)) a

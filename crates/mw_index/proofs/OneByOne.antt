-- Variables one by one, and their places.
use Rattle.std.specs.Prelude.{◌≡◌, ◌<◌, ◌+◌, ℕ, zero, suc, List, [], ◌∷◌, ◌++◌, length, map, take, get_or, true, Some, slice_get}
use Rattle.std.proofs.Common.{sym, ap, ◌∙◌, arith}
use Rattle.std.proofs.lemmas.List.{take_more, map-append, length-map}
use Rattle.std.proofs.lemmas.Option.{none-some, same_Some, slice_get-get_or, slice_get_within}
use Rattle.std.proofs.Math.Seq.{take-append_seam}
use Rattle.mw_logic.specs.Term.{Variable, variable}
use Rattle.mw_logic.specs.Signature.{Member}
use Rattle.mw_compile.proofs.ByPosition.{variables_more}
use Rattle.mw_pattern.proofs.Lists.{got}
use Rattle.mw_pattern.proofs.Tables.{met_next}
use Rattle.mw_position.specs.Variables.{is_in, met, place, AreDistinct}
use Rattle.mw_term.specs.declared.subst.Binding.{Binding}
use Rattle.mw_index.specs.Sections.{AreIn}
use Rattle.mw_index.proofs.Fragments.{HasFront}
use Rattle.mw_index.proofs.SameMembers.{at_its_place, same_order, of_slice}

pub member_got : (xs : List Variable) (i : ℕ) (x : Variable) → i < length xs → x ≡ get_or xs i x → Member x xs
member_got xs i x l e = of_slice x xs i (got xs i x l e)

-- what stands at a variable's place is the variable
pub its_place : (x : Variable) (xs : List Variable) (n : ℕ) (y : Variable) → is_in x xs ≡ true → n ≡ place x xs → slice_get xs n ≡ Some y → y ≡ x
its_place x xs n y h e g = same_Some y x (sym g ∙ ap (slice_get xs) e ∙ at_its_place x xs h)

-- one binding more
pub named_more : (xs : List Variable) (i : ℕ) (x : Variable) (b : Binding) (old new : List Binding) → slice_get xs i ≡ Some x → b.variable ≡ x → new ≡ old ++ b ∷ []
    → map (λ (b : Binding). b.variable) old ≡ take i xs → map (λ (b : Binding). b.variable) new ≡ take (i + 1) xs
named_more xs i x b old new g e n o =
    variables_more xs i x b.variable (map (λ (b : Binding). b.variable) old) (map (λ (b : Binding). b.variable) new) (slice_get_within xs i x g) g e
    (ap (map (λ (b : Binding). b.variable)) n ∙ map-append (λ (b : Binding). b.variable) old (b ∷ [])) o

-- one place more
pub places_more : (ys xs : List Variable) (i : ℕ) (x : Variable) (n : ℕ) (old new : List ℕ) → slice_get xs i ≡ Some x → n ≡ place x ys → new ≡ old ++ n ∷ []
    → old ≡ map (λ x. place x ys) (take i xs) → new ≡ map (λ x. place x ys) (take (i + 1) xs)
places_more ys xs i x n old new g e m o =
    let same : get_or xs i x ≡ x = same_Some _ _ (sym (slice_get-get_or xs i x (slice_get_within xs i x g)) ∙ g) in
    let more : take (i + 1) xs ≡ take i xs ++ x ∷ [] = take_more xs i x (slice_get_within xs i x g) ∙ ap (λ y. take i xs ++ y ∷ []) same in
    m ∙ ap (λ ns. ns ++ n ∷ []) o ∙ ap (λ n. map (λ x. place x ys) (take i xs) ++ n ∷ []) e ∙ sym (map-append (λ x. place x ys) (take i xs) (x ∷ [])) ∙ ap (map (λ x. place x ys)) (sym more)

-- the front is what stands first
pub front_taken : (xs ys : List Variable) (n : ℕ) → HasFront xs ys → n ≡ length xs → xs ≡ take n ys
front_taken xs ys n (zs, e) l = sym (ap (λ n. take n ys) l ∙ ap (take (length xs)) e ∙ take-append_seam xs zs)

-- one variable more is met
pub met_more : (v x : Variable) (met_before ys : List Variable) (i : ℕ) → v ≡ x → met_before ≡ take i ys → i < length ys → x ≡ get_or ys i x → AreDistinct ys → met met_before (variable v) ≡ take (i + 1) ys
met_more v x before ys i e o l g d = ap (λ b. met b (variable v)) o ∙ ap (λ v. met (take i ys) (variable v)) e ∙ met_next ys i x l g d

placed_at : (ys xs : List Variable) (i : ℕ) (x : Variable) → slice_get xs i ≡ Some x → slice_get (map (λ x. place x ys) xs) i ≡ Some (place x ys)
placed_at ys [] i x g = absurd (none-some x g)
placed_at ys (z ∷ xs) zero x g = ap (λ z. Some (place z ys)) (same_Some z x g)
placed_at ys (z ∷ xs) (suc i) x g = placed_at ys xs i x g

-- variables whose places count up are in the same order
pub counted_order : (ys xs : List Variable) (ns : List ℕ) → length ys ≡ length xs → AreIn xs ys → ns ≡ map (λ x. place x ys) xs → ((i : ℕ) → i < length ns → slice_get ns i ≡ Some i) → ys ≡ xs
counted_order ys xs ns l h e k = same_order ys xs l h (λ i x g.
    let within = slice_get_within xs i x g in
    let n : length ns ≡ length xs = ap (λ (ns : List ℕ). length ns) e ∙ length-map xs (λ x. place x ys) in
    same_Some (place x ys) i (sym (placed_at ys xs i x g) ∙ ap (λ ns. slice_get ns i) (sym e) ∙ k i (omega (arith, within, n))))

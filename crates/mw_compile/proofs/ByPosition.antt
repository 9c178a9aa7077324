-- Variables that are met, and their positions, argument by argument.
use Rattle.std.specs.Prelude.{◌≡◌, ◌<◌, ◌≤◌, ◌+◌, ℕ, zero, suc, List, [], ◌∷◌, ◌++◌, length, map, take, get_or, drop, Some, slice_get, refl}
use Rattle.std.proofs.Common.{sym, ap, subst, ◌∙◌, arith, drop_of_length-le}
use Rattle.std.proofs.lemmas.Bool.{or_left, or_right}
use Rattle.std.proofs.lemmas.List.{take_more, length-map}
use Rattle.std.proofs.lemmas.Option.{same_Some, slice_get-get_or}
use Rattle.mw_logic.specs.Term.{Variable, variable, RawTerm, RawTerms, nil, cons, join}
use Rattle.mw_logic.specs.Terms.{terms_of}
use Rattle.mw_logic.specs.Substitution.{occurs, occurs_in}
use Rattle.mw_logic.proofs.SortLaws.{join-nil, join_assoc}
use Rattle.mw_logic.proofs.Pushed.{terms_of-append}
use Rattle.mw_position.specs.Variables.{AreDistinct, bound_variables, met, placed, all_placed}
use Rattle.mw_pattern.proofs.Lists.{drop_at}
use Rattle.mw_pattern.proofs.Tables.{met_next}
use Rattle.mw_term.specs.declared.subst.Binding.{Binding}
use Rattle.mw_compile.specs.Compiled.{AreAmong, AreAllAmong}

-- the variables of pairs
abbrev pub variables_in : List Binding → List Variable
variables_in bs = map (λ (b : Binding). b.variable) bs

pub bound_in : (bs : List Binding) → bound_variables (map (λ (b : Binding). (b.variable, b.value)) bs) ≡ variables_in bs
bound_in [] = refl
bound_in (b ∷ bs) = ap (λ xs. b.variable ∷ xs) (bound_in bs)

variable_at : (bs : List Binding) (i : ℕ) (b : Binding) → b ≡ get_or bs i b → b.variable ≡ get_or (variables_in bs) i b.variable
variable_at [] i b e = refl
variable_at (a ∷ bs) zero b e = ap (λ (b : Binding). b.variable) e
variable_at (a ∷ bs) (suc i) b e = variable_at bs i b e

pub met_pair : (bs : List Binding) (i : ℕ) (b : Binding) → i < length bs → b ≡ get_or bs i b → AreDistinct (variables_in bs) → met (take i (variables_in bs)) (variable b.variable) ≡ take (i + 1) (variables_in bs)
met_pair bs i b h e d = let n = length-map bs (λ (b : Binding). b.variable) in met_next (variables_in bs) i b.variable (omega (arith, n)) (variable_at bs i b e) d

-- a variable more
pub variables_more : (xs : List Variable) (i : ℕ) (x y : Variable) (old new : List Variable) → i < length xs → slice_get xs i ≡ Some x → y ≡ x → new ≡ old ++ y ∷ [] → old ≡ take i xs → new ≡ take (i + 1) xs
variables_more xs i x y old new h e k n o =
    let same : get_or xs i x ≡ x = same_Some _ _ (sym (slice_get-get_or xs i x h) ∙ e) in
    n ∙ ap (λ l. l ++ y ∷ []) o ∙ ap (λ z. take i xs ++ z ∷ []) (k ∙ sym same) ∙ sym (take_more xs i x h)

-- the variables of the next argument, and of those behind it
pub among_next : (xs : List Variable) (ts : List RawTerm) (i : ℕ) (t : RawTerm) → i < length ts → t ≡ get_or ts i t → AreAllAmong xs (terms_of (drop i ts)) → AreAmong xs t × AreAllAmong xs (terms_of (drop (i + 1) ts))
among_next xs ts i t h e all =
    let d = drop_at ts i t h e in
    let here : AreAllAmong xs (cons t (terms_of (drop (i + 1) ts))) = subst (λ us. AreAllAmong xs (terms_of us)) d all in (
      λ x o. here x (or_left (occurs x t) (occurs_in x (terms_of (drop (i + 1) ts))) o),
      λ x o. here x (or_right (occurs x t) (occurs_in x (terms_of (drop (i + 1) ts))) o),
    )

pub placed_more : (xs : List Variable) (ts : List RawTerm) (i : ℕ) (t q : RawTerm) (made made' : List RawTerm) → i < length ts → t ≡ get_or ts i t → q ≡ placed xs t → made' ≡ made ++ q ∷ []
    → join (terms_of made) (all_placed xs (terms_of (drop i ts))) ≡ all_placed xs (terms_of ts) → join (terms_of made') (all_placed xs (terms_of (drop (i + 1) ts))) ≡ all_placed xs (terms_of ts)
placed_more xs ts i t q made made' h e p m old =
    let d = drop_at ts i t h e in
    let rest : RawTerms = all_placed xs (terms_of (drop (i + 1) ts)) in
    let now : join (terms_of made) (cons (placed xs t) rest) ≡ all_placed xs (terms_of ts) = ap (λ us. join (terms_of made) (all_placed xs (terms_of us))) (sym d) ∙ old in
    ap (λ us. join (terms_of us) rest) m ∙ ap (λ us. join us rest) (terms_of-append made (q ∷ [])) ∙ join_assoc (terms_of made) (cons q nil) rest ∙ ap (λ z. join (terms_of made) (cons z rest)) p ∙ now

pub placed_end : (xs : List Variable) (ts : List RawTerm) (i : ℕ) (made : List RawTerm) → length ts ≤ i → join (terms_of made) (all_placed xs (terms_of (drop i ts))) ≡ all_placed xs (terms_of ts) → terms_of made ≡ all_placed xs (terms_of ts)
placed_end xs ts i made h old = sym (join-nil (terms_of made)) ∙ ap (λ us. join (terms_of made) (all_placed xs (terms_of us))) (sym (drop_of_length-le ts h)) ∙ old

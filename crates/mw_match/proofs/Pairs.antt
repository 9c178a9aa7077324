-- Substitutions, binding by binding.
use Rattle.std.specs.Prelude.{◌≡◌, ◌<◌, ◌≤◌, ◌+◌, ℕ, min, List, [], ◌∷◌, ◌++◌, length, map, take, get_or, Some, slice_get, refl}
use Rattle.std.specs.List.{zip}
use Rattle.std.proofs.Common.{sym, subst, ap, ◌∙◌, arith}
use Rattle.std.proofs.lemmas.List.{length-map, map-append, get_or-map, take_more, take_all}
use Rattle.std.proofs.lemmas.Option.{slice_get-get_or}
use Rattle.std.proofs.lemmas.Slice.Zip.{get_or-zip, length-zip}
use Rattle.mw_logic.specs.Term.{Variable, RawTerm}
use Rattle.mw_logic.specs.Substitution.{Substitution}
use Rattle.mw_position.specs.Variables.{bound_values}
use Rattle.mw_term.specs.declared.subst.Binding.{Binding}

abbrev pub pairs_of : List Binding → Substitution
pairs_of bs = map (λ (b : Binding). (b.variable, b.value)) bs

values_in : (bs : List Binding) → bound_values (pairs_of bs) ≡ map (λ (b : Binding). b.value) bs
values_in [] = refl
values_in (b ∷ bs) = ap (λ vs. b.value ∷ vs) (values_in bs)

module _ (s : Substitution) (bs : List Binding) (is : pairs_of bs ≡ s) where
  values_here : map (λ (b : Binding). b.value) bs ≡ bound_values s
  values_here = sym (values_in bs) ∙ ap bound_values is

  pub value_taken : (i : ℕ) (b : Binding) → i < length bs → b ≡ get_or bs i b → take i (bound_values s) ++ b.value ∷ [] ≡ take (i + 1) (bound_values s)
  value_taken i b h e =
      let vs : List RawTerm = map (λ (b : Binding). b.value) bs in
      let l = length-map bs (λ (b : Binding). b.value) in
      let g : b.value ≡ get_or vs i b.value = ap (λ (b : Binding). b.value) e ∙ sym (get_or-map (λ (b : Binding). b.value) bs i b b.value h) in
      let t : take i vs ++ b.value ∷ [] ≡ take (i + 1) vs = ap (λ v. take i vs ++ v ∷ []) g ∙ sym (take_more vs i b.value (omega (arith, h, l))) in
      subst (λ us. take i us ++ b.value ∷ [] ≡ take (i + 1) us) values_here t

  pub values_taken : (i : ℕ) → length bs ≤ i → take i (bound_values s) ≡ bound_values s
  values_taken i h =
      let l = length-map bs (λ (b : Binding). b.value) in
      subst (λ us. take i us ≡ us) values_here (take_all i (map (λ (b : Binding). b.value) bs) (omega (arith, h, l)))

-- one more pair
pub pair_taken : (xs : List Variable) (vs : List RawTerm) (i : ℕ) (pairs pairs' : List Binding) (b : Binding) (x : Variable) (v : RawTerm)
    → i < length xs → i < length vs → slice_get xs i ≡ Some x → v ≡ get_or vs i v → b.variable ≡ x → b.value ≡ v → pairs' ≡ pairs ++ b ∷ []
    → pairs_of pairs ≡ take i (zip xs vs) → pairs_of pairs' ≡ take (i + 1) (zip xs vs)
pair_taken xs vs i pairs pairs' b x v h l g e m n more inv =
    let a : x ≡ get_or xs i x = some_parts _ _ (sym g ∙ slice_get-get_or xs i x h) in
    let z : get_or (zip xs vs) i (x, v) ≡ (x, v) = get_or-zip xs vs i (x, v) h l ∙ pair_same (sym a) (sym e) in
    let w = length-zip xs vs in
    ap pairs_of more ∙ map-append (λ (b : Binding). (b.variable, b.value)) pairs (b ∷ []) ∙ rw (inv, m, n, take_more (zip xs vs) i (x, v) (omega (arith, w, h, l)), z) refl
  where
    some_parts : (y z : Variable) → Some y ≡ Some z → y ≡ z
    some_parts y z h = cc

    pair_same : {y z : Variable} {t u : RawTerm} → y ≡ z → t ≡ u → ◌≡◌ {A = Variable × RawTerm} (y, t) (z, u)
    pair_same p q = λ i. (p i, q i)

pub pairs_taken : (xs : List Variable) (vs : List RawTerm) (i : ℕ) → min (length xs) (length vs) ≤ i → take i (zip xs vs) ≡ zip xs vs
pairs_taken xs vs i h = let w = length-zip xs vs in take_all i (zip xs vs) (omega (arith, w, h))

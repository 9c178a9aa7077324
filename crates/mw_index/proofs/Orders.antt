-- Values in another order.
use Rattle.std.specs.Prelude.{◌≡◌, ◌<◌, ◌≤◌, ◌+◌, ℕ, zero, suc, List, [], ◌∷◌, ◌++◌, length, map, drop, get_or, Some, None, slice_get, IsTrue, refl}
use Rattle.std.specs.List.{zip}
use Rattle.std.proofs.Common.{sym, ap, ◌∙◌, arith, inl, inr, append_assoc, append-nil, drop_of_length-le}
use Rattle.mw_logic.specs.Term.{Variable, RawTerm}
use Rattle.mw_logic.specs.Signature.{Member}
use Rattle.mw_position.specs.Variables.{bound_values, is_in, AreDistinct, place}
use Rattle.mw_position.proofs.Placing.{value_of, values_of, at_place, values_zip}
use Rattle.mw_pattern.proofs.Lists.{drop_at, got}
use Rattle.mw_term.specs.declared.subst.Binding.{Binding}
use Rattle.mw_index.specs.Choices.{in_order}

abbrev values_in : List Binding → List RawTerm
values_in bs = map (λ (b : Binding). b.value) bs

value_got : (bs : List Binding) (n : ℕ) (b : Binding) → slice_get bs n ≡ Some b → slice_get (values_in bs) n ≡ Some b.value
value_got [] n b e = cc
value_got (a ∷ bs) zero b e = let f : a ≡ b = cc in ap (λ (b : Binding). Some b.value) f
value_got (a ∷ bs) (suc n) b e = value_got bs n b e

none_got : (bs : List Binding) (n : ℕ) → length bs ≤ n → slice_get (values_in bs) n ≡ None
none_got [] n h = refl
none_got (b ∷ bs) zero h = absurd (omega (arith, h))
none_got (b ∷ bs) (suc n) h = none_got bs n (omega (arith, h))

number_at : (ns : List ℕ) (i : ℕ) → i < length ns → drop i ns ≡ get_or ns i 0 ∷ drop (i + 1) ns
number_at ns i h = drop_at ns i (get_or ns i 0) h (same ns i 0 (get_or ns i 0) h)
  where
    same : (ns : List ℕ) (i d e : ℕ) → i < length ns → get_or ns i d ≡ get_or ns i e
    same [] i d e h = absurd (omega (arith, h))
    same (n ∷ ns) zero d e h = refl
    same (n ∷ ns) (suc i) d e h = same ns i d e (omega (arith, h))

module _ (bs : List Binding) (ns : List ℕ) (i : ℕ) where
  abbrev n : ℕ
  n = get_or ns i 0

  -- one more value, where there is one
  pub order_more : (b : Binding) (u : RawTerm) (made made' whole : List RawTerm) → i < length ns → n < length bs → b ≡ get_or bs n b → u ≡ b.value → made' ≡ made ++ u ∷ []
      → made ++ in_order (values_in bs) (drop i ns) ≡ whole → made' ++ in_order (values_in bs) (drop (i + 1) ns) ≡ whole
  order_more b u made made' whole h l is e m old =
      let g : slice_get (values_in bs) n ≡ Some b.value = value_got bs n b (got bs n b l is) in
      let rest : List RawTerm = in_order (values_in bs) (drop (i + 1) ns) in
      let now : in_order (values_in bs) (drop i ns) ≡ b.value ∷ rest = ap (in_order (values_in bs)) (number_at ns i h) ∙ rw g refl in
      ap (λ us. us ++ rest) (m ∙ ap (λ u. made ++ u ∷ []) e) ∙ append_assoc made (b.value ∷ []) rest ∙ ap (λ us. made ++ us) (sym now) ∙ old

  pub order_past : (made made' whole : List RawTerm) → i < length ns → length bs ≤ n → made' ≡ made
      → made ++ in_order (values_in bs) (drop i ns) ≡ whole → made' ++ in_order (values_in bs) (drop (i + 1) ns) ≡ whole
  order_past made made' whole h l m old =
      let g : slice_get (values_in bs) n ≡ None = none_got bs n l in
      let rest : List RawTerm = in_order (values_in bs) (drop (i + 1) ns) in
      let now : in_order (values_in bs) (drop i ns) ≡ rest = ap (in_order (values_in bs)) (number_at ns i h) ∙ rw g refl in
      ap (λ us. us ++ rest) m ∙ ap (λ us. made ++ us) (sym now) ∙ old

pub order_all : (bs : List Binding) (ns : List ℕ) (i : ℕ) (made whole : List RawTerm) → length ns ≤ i → made ++ in_order (values_in bs) (drop i ns) ≡ whole → made ≡ whole
order_all bs ns i made whole h old = sym (append-nil made) ∙ ap (λ ns. made ++ in_order (values_in bs) ns) (sym (drop_of_length-le ns h)) ∙ old

pub values_bound : (bs : List Binding) → values_in bs ≡ bound_values (map (λ (b : Binding). (b.variable, b.value)) bs)
values_bound [] = refl
values_bound (b ∷ bs) = ap (λ us. b.value ∷ us) (values_bound bs)

-- The values of variables by their places are those that a substitution has.
pub order_values : (ys : List Variable) (us : List RawTerm) → AreDistinct ys → length us ≡ length ys → (xs : List Variable) → ((x : Variable) → Member x xs → IsTrue (is_in x ys))
    → in_order us (map (λ x. place x ys) xs) ≡ values_of (zip ys us) xs
order_values ys us d l [] h = refl
order_values ys us d l (x ∷ xs) h =
    let g : slice_get us (place x ys) ≡ Some (value_of (zip ys us) x) = ap (λ us. slice_get us (place x ys)) (sym (values_zip ys us d l)) ∙ at_place (zip ys us) ys x (h x (inl refl)) in
    rw g (ap (λ ws. value_of (zip ys us) x ∷ ws) (order_values ys us d l xs (λ y m. h y (inr m))))

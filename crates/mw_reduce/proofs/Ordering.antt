-- Values are put in order one by one.
use Rattle.std.specs.Prelude.{◌≡◌, ◌<◌, ◌≤◌, ◌+◌, ◌++◌, ℕ, zero, suc, List, [], ◌∷◌, length, take, slice_get, slice_index_or, Option, Some, None, refl}
use Rattle.std.specs.List.{cons_option}
use Rattle.std.proofs.Common.{sym, append-nil, ap, ◌∙◌, arith}
use Rattle.std.proofs.lemmas.Option.{slice_get_read, slice_get_past}
use Rattle.mw_logic.specs.Term.{RawTerm}
use Rattle.mw_index.specs.Choices.{in_order}

in_order_more : (us : List RawTerm) (ns : List ℕ) (i d : ℕ) → i < length ns → in_order us (take (suc i) ns) ≡ in_order us (take i ns) ++ cons_option (slice_get us (slice_index_or ns i d)) []
in_order_more us [] i d l = absurd (omega (arith, l))
in_order_more us (n ∷ ns) zero d l = refl
in_order_more us (n ∷ ns) (suc i) d l =
    ap (cons_option (slice_get us n)) (in_order_more us ns i d (omega (arith, l))) ∙ onto_both (slice_get us n) (in_order us (take i ns)) (cons_option (slice_get us (slice_index_or ns i d)) [])
  where
    onto_both : (o : Option RawTerm) (vs ws : List RawTerm) → cons_option o (vs ++ ws) ≡ cons_option o vs ++ ws
    onto_both None vs ws = refl
    onto_both (Some v) vs ws = refl

-- with the value at a place, or without one
pub with_one : (us : List RawTerm) (ns : List ℕ) (i : ℕ) (vs : List RawTerm) (u : RawTerm) → i < length ns → vs ≡ in_order us (take i ns) → slice_index_or ns i 0 < length us → u ≡ slice_index_or us (slice_index_or ns i 0) u
    → vs ++ u ∷ [] ≡ in_order us (take (i + 1) ns)
with_one us ns i vs u l e k is =
    let next : suc i ≡ i + 1 = omega arith in
    ap (λ xs. xs ++ u ∷ []) e ∙ ap (λ o. in_order us (take i ns) ++ cons_option o []) (sym (slice_get_read us (length us) (slice_index_or ns i 0) u refl k is)) ∙ sym (in_order_more us ns i 0 l) ∙ ap (λ j. in_order us (take j ns)) next

pub without_one : (us : List RawTerm) (ns : List ℕ) (i : ℕ) (vs : List RawTerm) → i < length ns → vs ≡ in_order us (take i ns) → length us ≤ slice_index_or ns i 0 → vs ≡ in_order us (take (i + 1) ns)
without_one us ns i vs l e k =
    let next : suc i ≡ i + 1 = omega arith in
    e ∙ sym (append-nil (in_order us (take i ns))) ∙ ap (λ o. in_order us (take i ns) ++ cons_option o []) (sym (slice_get_past us (slice_index_or ns i 0) k)) ∙ sym (in_order_more us ns i 0 l) ∙ ap (λ j. in_order us (take j ns)) next

-- Places as bits of words, and the row of those members of a kind that have a mark.
use Rattle.std.specs.Prelude.{◌↔◌, bit_or, slice_index}
use Rattle.std.specs.Int.{bit_at}
use Rattle.std.proofs.Common.{◌≡◌, ◌≢◌, ◌⊎◌, ℕ, zero, suc, ◌+◌, ◌-◌, ◌*◌, ◌^◌, ◌/◌, ◌%◌, ◌<◌, ◌≤◌, List, length, refl, ap, sym, ◌∙◌, inl, inr, arith, get_or, set, take, drop, ◌++◌, subst, replicate, get_or-set_same, get_or-set_other, w64}
use Rattle.std.proofs.lemmas.Bool.{cases_eq}
use Rattle.std.proofs.lemmas.List.{length-replicate}
use Rattle.std.proofs.lemmas.Nat.Bits.{bit_at-zero, bit_at_set_same, bit_at_set_other}
use Rattle.mw_poset.proofs.Members.{written}
use Rattle.mw_poset.specs.Row.{HasPlace, MarkedPlaces}

-- a word with one more bit
abbrev pub with_bit : List ℕ → ℕ → ℕ
with_bit words i = bit_or (get_or words (i / 64) 0) (1 * 2 ^ (i % 64) % 2 ^ 64)

-- a place is added
pub place_added : (words : List ℕ) (i : ℕ) → i < 64 * length words → (j : ℕ) → HasPlace (set words (i / 64) (with_bit words i)) j ↔ (HasPlace words j ⊎ (j ≡ i))
place_added words i room j = elim (cases_eq (j / 64) (i / 64)) [
  | inl here ↦
      let word : get_or (set words (i / 64) (with_bit words i)) (j / 64) 0 ≡ with_bit words i =
      ap (λ (k : ℕ). get_or (set words (i / 64) (with_bit words i)) k 0) here ∙ get_or-set_same words (i / 64) (with_bit words i) 0 (omega arith) in
      let bit : bit_at (get_or (set words (i / 64) (with_bit words i)) (j / 64) 0) (j % 64) ≡ bit_at (with_bit words i) (j % 64) = ap (λ (w : ℕ). bit_at w (j % 64)) word in
      let was : bit_at (get_or words (j / 64) 0) (j % 64) ≡ bit_at (get_or words (i / 64) 0) (j % 64) = ap (λ (k : ℕ). bit_at (get_or words k 0) (j % 64)) here in
      elim (cases_eq (j % 64) (i % 64)) [
        | inl e ↦
            let one : bit_at (with_bit words i) (j % 64) ≡ 1 = ap (λ (k : ℕ). bit_at (with_bit words i) k) e ∙ bit_at_set_same w64 (get_or words (i / 64) 0) (i % 64) (omega arith) in
            ((λ h. inr (omega arith)), (λ h. bit ∙ one))
        | inr n ↦
            let kept : bit_at (with_bit words i) (j % 64) ≡ bit_at (get_or words (i / 64) 0) (j % 64) = bit_at_set_other w64 (get_or words (i / 64) 0) (i % 64) (omega arith) (j % 64) n in
            ((λ h. inl (was ∙ sym kept ∙ sym bit ∙ h)), (λ h. elim h [ inl o ↦ bit ∙ kept ∙ sym was ∙ o | inr q ↦ absurd (n (ap (λ (k : ℕ). k % 64) q)) ]))
      ]
  | inr n ↦
      let bit : bit_at (get_or (set words (i / 64) (with_bit words i)) (j / 64) 0) (j % 64) ≡ bit_at (get_or words (j / 64) 0) (j % 64) =
      ap (λ (w : ℕ). bit_at w (j % 64)) (get_or-set_other words (i / 64) (j / 64) (with_bit words i) 0 n) in
      ((λ h. inl (sym bit ∙ h)), (λ h. elim h [ inl o ↦ bit ∙ o | inr q ↦ absurd (n (ap (λ (k : ℕ). k / 64) q)) ]))
]

-- the places of the first members are there where they have the mark, and no others
pub record RowSoFar (mark i : ℕ) (marks members words : List ℕ) : Type 0 where
  pub room : length members < 64 * length words
  pub exact : (j : ℕ) → HasPlace words j ↔ ((j < i) × (slice_index marks (slice_index members j - 1) ≡ mark))

pub zeros : (n i : ℕ) → slice_index (replicate n 0) i ≡ 0
zeros zero i = refl
zeros (suc n) zero = refl
zeros (suc n) (suc i) = zeros n i

no_place : (n j : ℕ) → HasPlace (replicate n 0) j → ⊥
no_place n j h = let z : bit_at (slice_index (replicate n 0) (j / 64)) (j % 64) ≡ 0 = ap (λ (w : ℕ). bit_at w (j % 64)) (zeros n (j / 64)) ∙ bit_at-zero (j % 64) in omega (arith, z, h)

-- the next member has the mark
pub row_added : (mark i : ℕ) (marks members old new : List ℕ) → RowSoFar mark i marks members old → slice_index marks (slice_index members i - 1) ≡ mark → length new ≡ length old
    → ((j : ℕ) → HasPlace new j ↔ (HasPlace old j ⊎ (j ≡ i))) → RowSoFar mark (i + 1) marks members new
row_added mark i marks members old new h m n a = record {
  room = let r = h.room in omega arith;
  exact = λ j. (
    (λ p. elim ((a j).0 p) [
      | inl o ↦ let q = (h.exact j).0 o in let l = q.0 in (omega arith, q.1)
      | inr e ↦ (omega arith, subst (λ (k : ℕ). slice_index marks (slice_index members k - 1) ≡ mark) (sym e) m)
    ]),
    (λ p. (a j).1 (elim (cases_eq j i) [ inl e ↦ inr e | inr d ↦ inl ((h.exact j).1 (let l = p.0 in omega arith, p.1)) ])),
  );
}

-- as the loop has it: the words were lent and written
pub row_written : (mark i n : ℕ) (marks members old lent new : List ℕ) → RowSoFar mark i marks members old → slice_index marks (slice_index members i - 1) ≡ mark → lent ≡ old → n ≡ length old → length new ≡ length lent
    → ((j : ℕ) → HasPlace new j ↔ (HasPlace lent j ⊎ (j ≡ i))) → RowSoFar mark (i + 1) marks members (take n (new ++ drop (length new) old))
row_written mark i n marks members old lent new h m e en l a =
    rw (written n old lent new e en l)
    (row_added mark i marks members old new h m (l ∙ ap (λ (xs : List ℕ). length xs) e) (subst (λ (xs : List ℕ). (j : ℕ) → HasPlace new j ↔ (HasPlace xs j ⊎ (j ≡ i))) e a))

-- the next member does not have it
pub row_passed : (mark i : ℕ) (marks members words : List ℕ) → RowSoFar mark i marks members words → slice_index marks (slice_index members i - 1) ≢ mark → RowSoFar mark (i + 1) marks members words
row_passed mark i marks members words h m = record {
  room = h.room;
  exact = λ j. (
    (λ p. let q = (h.exact j).0 p in let l = q.0 in (omega arith, q.1)),
    (λ p. elim (cases_eq j i) [
      | inl e ↦ absurd (m (subst (λ (k : ℕ). slice_index marks (slice_index members k - 1) ≡ mark) e p.1))
      | inr d ↦ (h.exact j).1 (let l = p.0 in omega arith, p.1)
    ]),
  );
}

-- Bytes that begin tokens, and bytes that end them.
use Rattle.std.proofs.Common.{◌≡◌, ◌≤◌, ◌==◌, ◌&&◌, inl, inr, ℕ, true, false, List, ◌∷◌, subst, sym, refl, arith}
use Rattle.std.specs.Prelude.{not, nat_le}
use Rattle.std.proofs.lemmas.Bool.{or_cases, and_parts, not-true, eqb-true, ne_eqb, leb-true, lt-leb, or_from, and_right}
use Rattle.mw_lex.specs.Bytes.{is_punctuation, is_run_byte, is_visible, is_blank}
use Rattle.mw_lex.specs.Pieces.{opens_comment}
use Rattle.mw_lex.proofs.Comments.{no_comment}

-- what holds of each of the seven holds of a byte that is one of them
pub seven : (P : ℕ → Type 0) → P 40 → P 41 → P 91 → P 93 → P 123 → P 125 → P 44 → (b : ℕ) → is_punctuation b ≡ true → P b
seven P p q r s t u v b h =
    let at : (n : ℕ) → P n → (b == n) ≡ true → P b = λ n x e. subst P (sym (eqb-true b n e)) x in
    elim (or_cases _ (b == 44) h) [
      | inr e ↦ at 44 v e
      | inl h ↦ elim (or_cases _ (b == 125) h) [
        | inr e ↦ at 125 u e
        | inl h ↦ elim (or_cases _ (b == 123) h) [
          | inr e ↦ at 123 t e
          | inl h ↦ elim (or_cases _ (b == 93) h) [
            | inr e ↦ at 93 s e
            | inl h ↦ elim (or_cases _ (b == 91) h) [
              | inr e ↦ at 91 r e
              | inl h ↦ elim (or_cases (b == 40) (b == 41) h) [ inl e ↦ at 40 p e | inr e ↦ at 41 q e ]
            ]
          ]
        ]
      ]
    ]

-- one of the seven, in front of any bytes
pub record IsSeven (b : ℕ) : Type 0 where
  pub visible : is_visible b ≡ true
  pub apart : is_blank b ≡ false
  pub ends : is_run_byte b ≡ false
  pub starts : (rest : List ℕ) → opens_comment (b ∷ rest) ≡ false

seven_here : (b : ℕ) → is_visible b ≡ true → is_blank b ≡ false → is_run_byte b ≡ false → (b == 42) ≡ false → (b == 45) ≡ false → IsSeven b
seven_here b v a e h k = record { visible = v; apart = a; ends = e; starts = no_comment b h k }

pub is_seven : (b : ℕ) → is_punctuation b ≡ true → IsSeven b
is_seven = seven IsSeven
    (seven_here 40 refl refl refl refl refl) (seven_here 41 refl refl refl refl refl) (seven_here 91 refl refl refl refl refl) (seven_here 93 refl refl refl refl refl)
    (seven_here 123 refl refl refl refl refl) (seven_here 125 refl refl refl refl refl) (seven_here 44 refl refl refl refl refl)

-- a byte of a run
pub record IsRunByte (b : ℕ) : Type 0 where
  pub visible : is_visible b ≡ true
  pub plain : is_punctuation b ≡ false
  pub apart : is_blank b ≡ false

pub run_byte : (b : ℕ) → is_run_byte b ≡ true → IsRunByte b
run_byte b h =
    let both = and_parts (is_visible b) (not (is_punctuation b)) h in
    let low : 33 ≤ b = leb-true 33 b (and_parts (nat_le 33 b) (nat_le b 126) both.0).0 in
    let above : nat_le b 13 ≡ false = lt-leb b 13 (omega arith) in
    let apart : (b == 32) ≡ false = ne_eqb b 32 (λ e. absurd (omega arith)) in
    record {
      visible = both.0;
      plain = not-true (is_punctuation b) both.1;
      apart = or_from (nat_le 9 b && nat_le b 13) (b == 32) (and_right (nat_le 9 b) (nat_le b 13) above) apart;
    }

-- How far a run reaches before other bytes.
use Rattle.std.proofs.Common.{◌≡◌, ◌+◌, ◌==◌, ◌&&◌, inl, inr, ℕ, suc, true, false, List, [], ◌∷◌, ◌++◌, length, sym, refl, arith}
use Rattle.std.specs.Prelude.{⊤}
use Rattle.std.proofs.lemmas.Bool.{cases_Bool, and_left, and_right, true≢false, ne_eqb}
use Rattle.mw_lex.specs.Bytes.{is_punctuation, is_run_byte}
use Rattle.mw_lex.specs.Pieces.{run_len, opens_comment}
use Rattle.mw_lex.proofs.Runs.{no_quote, takes_none, run_none}
use Rattle.mw_lex.proofs.Comments.{IsApart, no_comment_before}
use Rattle.mw_print.specs.Tokens.{ends_in_backquote}

-- the bytes begin with one that ends a run which this is, if there is one
abbrev pub Stops : List ℕ → List ℕ → Type 0
Stops x [] = ⊤
Stops x (c ∷ rest) = (is_run_byte c ≡ false) × (ends_in_backquote x ≡ true → is_punctuation c ≡ false)

-- no run begins with such a byte
none_here : (x rest : List ℕ) → Stops x rest → run_len rest ≡ 0
none_here x [] s = refl
none_here x (c ∷ rest) s = run_none c rest s.0 (takes_none c rest (no_quote c s.0))

stops_behind : (b c : ℕ) (x rest : List ℕ) → Stops (b ∷ c ∷ x) rest → Stops (c ∷ x) rest
stops_behind b c x [] s = tt
stops_behind b c x (d ∷ rest) s = s

stops_past : (b c : ℕ) (x rest : List ℕ) → Stops (b ∷ c ∷ x) rest → Stops x rest
stops_past b c x [] s = tt
stops_past b c [] (d ∷ rest) s = (s.0, λ h. absurd (true≢false (sym h)))
stops_past b c (e ∷ x) (d ∷ rest) s = s

-- a byte that ends a run, behind a last one that is no backquote with it
last_stops : (b c : ℕ) (rest : List ℕ) → Stops (b ∷ []) (c ∷ rest) → (b == 96 && is_punctuation c) ≡ false
last_stops b c rest s = elim (cases_Bool (b == 96)) [ inl e ↦ and_right (b == 96) (is_punctuation c) (s.1 e) | inr e ↦ and_left (b == 96) (is_punctuation c) e ]

-- a run is as long before bytes that end it
pub run_stops : (x rest : List ℕ) → run_len x ≡ length x → Stops x rest → run_len (x ++ rest) ≡ length x
run_stops [] rest h s = none_here [] rest s
run_stops (b ∷ []) [] h s = h
run_stops (b ∷ []) (c ∷ rest) h s =
    elim (cases_Bool (is_run_byte b)) [
      | inl e ↦ rw (last_stops b c rest s, e) (omega (arith, none_here (b ∷ []) (c ∷ rest) s))
      | inr e ↦ let none : ◌≡◌ {A = ℕ} 0 1 = rw e at h in absurd (omega arith)
    ]
run_stops (b ∷ c ∷ x) rest h s =
    elim (cases_Bool (b == 96 && is_punctuation c)) [
      | inl e ↦
          let two : 2 + run_len x ≡ suc (suc (length x)) = rw e at h in
          let rest_is = run_stops x rest (omega arith) (stops_past b c x rest s) in rw e (omega (arith, rest_is))
      | inr e ↦ elim (cases_Bool (is_run_byte b)) [
        | inl f ↦
            let one : 1 + run_len (c ∷ x) ≡ suc (suc (length x)) = rw (e, f) at h in
            let rest_is = run_stops (c ∷ x) rest (omega arith) (stops_behind b c x rest s) in rw (e, f) (omega (arith, rest_is))
        | inr f ↦ let none : 0 ≡ suc (suc (length x)) = rw (e, f) at h in absurd (omega arith)
      ]
    ]

no_star : (c : ℕ) → is_run_byte c ≡ false → (c == 42) ≡ false
no_star c h = ne_eqb c 42 (λ e. true≢false (rw e at h))

no_dash : (c : ℕ) → is_run_byte c ≡ false → (c == 45) ≡ false
no_dash c h = ne_eqb c 45 (λ e. true≢false (rw e at h))

stops_apart : (x rest : List ℕ) → Stops x rest → IsApart rest
stops_apart x [] s = tt
stops_apart x (c ∷ rest) s = (no_star c s.0, no_dash c s.0)

-- no comment begins where none begins in the run
pub run_no_comment : (x rest : List ℕ) → opens_comment x ≡ false → Stops x rest → opens_comment (x ++ rest) ≡ false
run_no_comment x rest h s = no_comment_before x rest h (stops_apart x rest s)

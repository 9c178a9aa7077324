-- The tokens of a text are those that were written.
use Rattle.std.proofs.Common.{◌≡◌, ◌∙◌, ◌+◌, ◌-◌, ◌==◌, ◌||◌, inl, inr, ℕ, suc, true, false, List, [], ◌∷◌, ◌++◌, map, length, take, Ok, refl, sym, ap, append_assoc, arith, add-zero}
use Rattle.std.specs.Prelude.{All}
use Rattle.std.proofs.lemmas.Bool.{cases_Bool, true≢false, ne_eqb, eqb-true, or_cases}
use Rattle.std.proofs.lemmas.List.{append-nil, take_at}
use Rattle.std.proofs.lemmas.List.Elements.{All-head, All-tail}
use Rattle.mw_lex.specs.Bytes.{is_punctuation, is_run_byte}
use Rattle.mw_lex.specs.Pieces.{run_len, opens_comment, piece_of}
use Rattle.mw_lex.specs.declared.token.Token.{Token as LexedToken}
use Rattle.mw_lex.specs.Lexing.{Lexed, with_front, token_at, meaning, lexed, line_after, line_behind}
use Rattle.mw_lex.specs.declared.pieces.Piece.TheVariants as piece
use Rattle.mw_print.specs.Tokens.{Token, token, opening, comma, text_of, texts, opens, closes, ends_in_backquote, is_near, is_apart, gap, spaced}
use Rattle.mw_lex.specs.Texts.{IsRun, IsProper}
use Rattle.mw_print.specs.Laws.{PrintedLexes}
use Rattle.mw_print.specs.Printing.{printed}
use Rattle.mw_lex.proofs.Comments.{no_comment}
use Rattle.mw_print.proofs.Bytes.{is_seven, run_byte}
use Rattle.mw_lex.proofs.Runs.{run_first}
use Rattle.mw_print.proofs.Runs.{Stops, run_stops, run_no_comment}

-- the bytes of a piece are passed over
skipped : (x rest : List ℕ) (at line : ℕ) → lexed (length x) at line (x ++ rest) ≡ lexed 0 (at + length x) (line_behind x line) rest
skipped [] rest at line = rw add-zero refl
skipped (b ∷ x) rest at line =
    let same : at + 1 + length x ≡ at + suc (length x) = omega arith in
    skipped x rest (at + 1) (line_after b line) ∙ ap (λ n. lexed 0 n (line_behind x (line_after b line)) rest) same

-- a token, and what is lexed behind it
module _ (b : ℕ) (x rest : List ℕ) (at line : ℕ) where
  met : piece_of b (x ++ rest) ≡ piece.Token (suc (length x))
      → lexed 0 at line (b ∷ x ++ rest)
      ≡ with_front (token_at (suc (length x)) at line (b ∷ x ++ rest) ∷ []) (lexed 0 (at + 1 + length x) (line_behind x (line_after b line)) rest)
  met e =
      let n : suc (length x) - 1 ≡ length x = omega arith in
      ap (λ p. meaning p at line (b ∷ x ++ rest) (λ k. lexed k (at + 1) (line_after b line) (x ++ rest))) e
      ∙ ap (λ r. with_front (token_at (suc (length x)) at line (b ∷ x ++ rest) ∷ []) r)
      (ap (λ k. lexed k (at + 1) (line_after b line) (x ++ rest)) n ∙ skipped x rest (at + 1) (line_after b line))

-- the lexer finds these tokens
abbrev pub Finds : Lexed → List (List ℕ) → Type 0
Finds lexed tokens = (found : List LexedToken) × (lexed ≡ Ok found) × (map (λ (t : LexedToken). t.text) found ≡ tokens)

-- a token before what the lexer finds behind it
found_front : (b : ℕ) (x rest : List ℕ) (at line : ℕ) (tokens : List (List ℕ)) → piece_of b (x ++ rest) ≡ piece.Token (suc (length x))
    → Finds (lexed 0 (at + 1 + length x) (line_behind x (line_after b line)) rest) tokens → Finds (lexed 0 at line (b ∷ x ++ rest)) ((b ∷ x) ∷ tokens)
found_front b x rest at line tokens e (found, is, same) =
    let seen = token_at (suc (length x)) at line (b ∷ x ++ rest) in
    let text : take (suc (length x)) (b ∷ x ++ rest) ≡ b ∷ x = ap (λ y. b ∷ y) (take_at x rest (length x) refl) in
    (seen ∷ found, met b x rest at line e ∙ ap (with_front (seen ∷ [])) is, rw (text, same) refl)

-- what stands at the front of a token's text and the bytes behind it
mark_piece : (b : ℕ) (rest : List ℕ) → is_punctuation b ≡ true → piece_of b rest ≡ piece.Token 1
mark_piece b rest h = let it = is_seven b h in rw (it.starts rest, it.apart, it.visible, h) refl

run_piece : (b : ℕ) (x rest : List ℕ) → IsRun (b ∷ x) → Stops (b ∷ x) rest → piece_of b (x ++ rest) ≡ piece.Token (suc (length x))
run_piece b x rest (whole, no_string, no_comment) s =
    let byte = run_byte b (run_first b x whole) in
    let bare : opens_comment (b ∷ x ++ rest) ≡ false = run_no_comment (b ∷ x) rest no_comment s in
    let reach : run_len (b ∷ x ++ rest) ≡ suc (length x) = run_stops (b ∷ x) rest whole s in
    rw (bare, byte.apart, byte.visible, byte.plain, ne_eqb b 34 no_string, reach) refl

-- a proper token, and what the lexer finds behind it
pub token_found : (x rest : List ℕ) (tokens : List (List ℕ)) → IsProper x → (IsRun x → Stops x rest) → ((at line : ℕ) → Finds (lexed 0 at line rest) tokens)
    → (at line : ℕ) → Finds (lexed 0 at line (x ++ rest)) (x ∷ tokens)
token_found [] rest tokens (inl mark) s found at line = absurd mark
token_found [] rest tokens (inr run) s found at line = absurd run
token_found (b ∷ []) rest tokens (inl mark) s found at line = found_front b [] rest at line tokens (mark_piece b rest mark) (found _ _)
token_found (b ∷ c ∷ x) rest tokens (inl mark) s found at line = absurd mark
token_found (b ∷ x) rest tokens (inr run) s found at line = found_front b x rest at line tokens (run_piece b x rest run (s run)) (found _ _)

-- a space is passed over
passed : (s : List ℕ) (at line : ℕ) → lexed 0 at line (32 ∷ s) ≡ lexed 0 (at + 1) line s
passed s at line = rw (no_comment 32 refl refl s) refl

pub past_gap : (x y : Token) (s : List ℕ) (tokens : List (List ℕ)) → ((at line : ℕ) → Finds (lexed 0 at line s) tokens) → (at line : ℕ) → Finds (lexed 0 at line (gap x y ++ s)) tokens
past_gap x y s tokens found at line =
    let wide : Finds (lexed 0 at line (32 ∷ s)) tokens = rw passed (found (at + 1) line) in
    elim (cases_Bool (is_apart x)) [
      | inl e ↦ rw e wide
      | inr e ↦ elim (cases_Bool (opens (text_of x) || is_near y)) [ inl f ↦ rw (e, f) (found at line) | inr f ↦ rw (e, f) wide ]
    ]

-- a token that closes ends a run
closes_run : (c : ℕ) → closes (c ∷ []) ≡ true → is_run_byte c ≡ false
closes_run c h =
    let at : (n : ℕ) → is_run_byte n ≡ false → (c == n) ≡ true → is_run_byte c ≡ false = λ n k e. rw (eqb-true c n e) k in
    elim (or_cases _ (c == 125) h) [
      | inr e ↦ at 125 refl e
      | inl h ↦ elim (or_cases _ (c == 93) h) [
        | inr e ↦ at 93 refl e
        | inl h ↦ elim (or_cases (c == 44) (c == 41) h) [ inl e ↦ at 44 refl e | inr e ↦ at 41 refl e ]
      ]
    ]

near_stops : (x : List ℕ) (y : Token) (ts : List Token) → ends_in_backquote x ≡ false → is_near y ≡ true → Stops x (spaced (y ∷ ts))
near_stops x comma [] e h = (refl, λ q. absurd (true≢false (sym q ∙ e)))
near_stops x comma (z ∷ ts) e h = (refl, λ q. absurd (true≢false (sym q ∙ e)))
near_stops x opening [] e h = (refl, λ q. absurd (true≢false (sym q ∙ e)))
near_stops x opening (z ∷ ts) e h = (refl, λ q. absurd (true≢false (sym q ∙ e)))
near_stops x (token []) ts e h = absurd (true≢false (sym h))
near_stops x (token (c ∷ [])) [] e h = (closes_run c h, λ q. absurd (true≢false (sym q ∙ e)))
near_stops x (token (c ∷ [])) (z ∷ ts) e h = (closes_run c h, λ q. absurd (true≢false (sym q ∙ e)))
near_stops x (token (c ∷ d ∷ z)) ts e h = absurd (true≢false (sym h))

-- a run doesn't open
run_opens : (x : List ℕ) → IsRun x → opens x ≡ true → ⊥
run_opens [] run h = absurd run
run_opens (b ∷ []) run h =
    let byte : is_run_byte b ≡ true = run_first b [] run.0 in
    let at : (n : ℕ) → is_run_byte n ≡ false → (b == n) ≡ true → ⊥ = λ n k e. true≢false (sym (rw (eqb-true b n e) at byte) ∙ k) in
    elim (or_cases _ (b == 123) h) [ inr e ↦ at 123 refl e | inl h ↦ elim (or_cases (b == 40) (b == 91) h) [ inl e ↦ at 40 refl e | inr e ↦ at 91 refl e ] ]
run_opens (b ∷ c ∷ x) run h = true≢false (sym h)

no_backquote : (x : Token) → is_apart x ≡ false → ends_in_backquote (text_of x) ≡ false
no_backquote (token x) e = e
no_backquote opening e = refl
no_backquote comma e = refl

-- what stands behind a run ends it
pub gap_stops : (x y : Token) (ts : List Token) → IsRun (text_of x) → Stops (text_of x) (gap x y ++ spaced (y ∷ ts))
gap_stops x y ts run =
    let wide : Stops (text_of x) (32 ∷ spaced (y ∷ ts)) = (refl, λ q. refl) in
    elim (cases_Bool (is_apart x)) [
      | inl e ↦ rw e wide
      | inr e ↦ elim (cases_Bool (opens (text_of x) || is_near y)) [
        | inl f ↦ rw (e, f) (elim (or_cases (opens (text_of x)) (is_near y) f) [ inl o ↦ absurd (run_opens (text_of x) run o) | inr n ↦ near_stops (text_of x) y ts (no_backquote x e) n ])
        | inr f ↦ rw (e, f) wide
      ]
    ]

pub lexes : (ts : List Token) → All IsProper (texts ts) → (at line : ℕ) → Finds (lexed 0 at line (spaced ts)) (texts ts)
lexes [] h at line = ([], refl, refl)
lexes (x ∷ []) h at line =
    let none : (at line : ℕ) → Finds (lexed 0 at line []) [] = λ at line. ([], refl, refl) in
    rw append-nil at (token_found (text_of x) [] [] (All-head IsProper (text_of x) [] h) (λ run. tt) none at line)
lexes (x ∷ y ∷ ts) h at line =
    let z = text_of x in
    let behind = lexes (y ∷ ts) (All-tail IsProper z (texts (y ∷ ts)) h) in
    rw (append_assoc z (gap x y) (spaced (y ∷ ts)))
    (token_found z (gap x y ++ spaced (y ∷ ts)) (texts (y ∷ ts)) (All-head IsProper z (texts (y ∷ ts)) h) (gap_stops x y ts) (past_gap x y (spaced (y ∷ ts)) (texts (y ∷ ts)) behind) at line)

-- the tokens of a term's text are those that were printed
pub printed_lexed : PrintedLexes
printed_lexed sig t h = lexes (printed sig t).tokens h 0 1

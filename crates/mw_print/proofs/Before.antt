-- The tokens of a text are found before other bytes, where these end its last token.
use Rattle.std.proofs.Common.{◌≡◌, ◌∙◌, ℕ, List, [], ◌∷◌, ◌++◌, inl, inr, refl, sym, ap, subst, append_assoc}
use Rattle.std.specs.Prelude.{All}
use Rattle.std.proofs.lemmas.List.Elements.{All-head, All-tail}
use Rattle.mw_lex.specs.Lexing.{lexed}
use Rattle.mw_lex.specs.Texts.{IsProper}
use Rattle.mw_print.specs.Tokens.{Token, text_of, texts, ends_in_backquote, gap, spaced}
use Rattle.mw_print.specs.Prefix.{prefixed, prefix_text}
use Rattle.mw_print.specs.PrefixLaws.{EndsLast, PrefixLexesBefore}
use Rattle.mw_print.proofs.Runs.{Stops}
use Rattle.mw_print.proofs.Lexed.{Finds, token_found, past_gap, gap_stops}
use Rattle.mw_print.proofs.Proper.{all_proper}
use Rattle.mw_print.proofs.PrefixLexed.{form_proper}

-- a text with a byte at least
abbrev IsSome : List ℕ → Type 0
IsSome x = (c : ℕ) × (rest : List ℕ) × (x ≡ c ∷ rest)

proper_some : (x : List ℕ) → IsProper x → IsSome x
proper_some [] (inl mark) = absurd mark
proper_some [] (inr run) = absurd run
proper_some (c ∷ x) h = (c, x, refl)

some_before : (x y : List ℕ) → IsSome x → IsSome (x ++ y)
some_before x y (c, rest, e) = (c, rest ++ y, ap (λ z. z ++ y) e)

some_behind : (x y : List ℕ) → IsSome y → IsSome (x ++ y)
some_behind [] y h = h
some_behind (c ∷ x) y h = (c, x ++ y, refl)

spaced_some : (x : Token) (ts : List Token) → IsProper (text_of x) → IsSome (spaced (x ∷ ts))
spaced_some x [] h = proper_some (text_of x) h
spaced_some x (y ∷ ts) h = some_before (text_of x ++ gap x y) (spaced (y ∷ ts)) (some_before (text_of x) (gap x y) (proper_some (text_of x) h))

-- the first byte tells whether bytes end a run
stops_more : (x y rest : List ℕ) → IsSome y → Stops x y → Stops x (y ++ rest)
stops_more x y rest (c, z, e) s = rw e (rw e at s)

-- the last byte tells whether a run takes what comes
last_of : (x : List ℕ) (c : ℕ) (y : List ℕ) → ends_in_backquote (x ++ c ∷ y) ≡ ends_in_backquote (c ∷ y)
last_of [] c y = refl
last_of (b ∷ []) c y = refl
last_of (b ∷ d ∷ x) c y = last_of (d ∷ x) c y

stops_last : (x y rest : List ℕ) → IsSome y → Stops (x ++ y) rest → Stops y rest
stops_last x y [] h s = tt
stops_last x y (d ∷ rest) (c, z, e) s =
    let same : ends_in_backquote (x ++ y) ≡ ends_in_backquote y = rw e (last_of x c z) in
    (s.0, λ q. s.1 (same ∙ q))

pub lexes_before : (ts : List Token) (rest : List ℕ) (tokens : List (List ℕ)) → All IsProper (texts ts) → Stops (spaced ts) rest → ((at line : ℕ) → Finds (lexed 0 at line rest) tokens)
    → (at line : ℕ) → Finds (lexed 0 at line (spaced ts ++ rest)) (texts ts ++ tokens)
lexes_before [] rest tokens h s found at line = found at line
lexes_before (x ∷ []) rest tokens h s found at line = token_found (text_of x) rest tokens (All-head IsProper (text_of x) [] h) (λ run. s) found at line
lexes_before (x ∷ y ∷ ts) rest tokens h s found at line =
    let z = text_of x in
    let space = gap x y in
    let more : List ℕ = spaced (y ∷ ts) in
    let others = All-tail IsProper z (texts (y ∷ ts)) h in
    let some = spaced_some y ts (All-head IsProper (text_of y) (texts ts) others) in
    let behind = lexes_before (y ∷ ts) rest tokens others (stops_last (z ++ space) more rest some s) found in
    let grouped : z ++ (space ++ (more ++ rest)) ≡ ((z ++ space) ++ more) ++ rest = sym (append_assoc z space (more ++ rest)) ∙ sym (append_assoc (z ++ space) more rest) in
    subst (λ bytes. Finds (lexed 0 at line bytes) (texts (x ∷ y ∷ ts) ++ tokens)) grouped
    (token_found z (space ++ (more ++ rest)) (texts (y ∷ ts) ++ tokens) (All-head IsProper z (texts (y ∷ ts)) h)
    (λ run. subst (Stops z) (append_assoc space more rest) (stops_more z (space ++ more) rest (some_behind space more some) (gap_stops x y ts run)))
    (past_gap x y (more ++ rest) (texts (y ∷ ts) ++ tokens) behind) at line)

ends_last : (text rest : List ℕ) → EndsLast text rest → Stops text rest
ends_last text [] s = tt
ends_last text (c ∷ rest) s = s

-- so are the tokens of a prefix form
pub prefix_lexed_before : PrefixLexesBefore
prefix_lexed_before sig t rest tokens whole told s =
    lexes_before (prefixed sig t) rest tokens (all_proper (prefixed sig t) (form_proper sig whole t told)) (ends_last (prefix_text sig t) rest s)

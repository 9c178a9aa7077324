-- What a numbered prefix form tells.
use Rattle.std.specs.Prelude.{◌≡◌, ◌<◌, ◌^◌, ◌-◌, ◌==◌, ◌++◌, ℕ, suc, max, true, false, List, [], ◌∷◌, map, length, Ok, IsTrue, if◌then◌else◌, ⊤}
use Rattle.mw_lex.specs.declared.token.Token.{Token}
use Rattle.mw_lex.specs.Bytes.{is_punctuation, is_run_byte}
use Rattle.mw_lex.specs.Lexing.{lexed}
use Rattle.mw_lex.specs.Pieces.{run_len}
use Rattle.mw_lex.specs.Texts.{IsProper}
use Rattle.mw_logic.specs.Term.{RawTerm, numeral, quoted, variable, apply, RawTerms, nil, cons, is_ground}
use Rattle.mw_logic.specs.Signature.{Signature, Operator, IsOperator, IsRawTerm}
use Rattle.mw_logic.specs.NormalForm.{height}
use Rattle.mw_logic.specs.Parts.{nested}
use Rattle.mw_text.specs.Mixfix.{IsIdentifier}
use Rattle.mw_text.specs.Names.{name_of_tokens}
use Rattle.mw_text.specs.Proper.{IsProperName, HasIdentifiers}
use Rattle.mw_print.specs.Tokens.{texts, ends_in_backquote}
use Rattle.mw_print.specs.Laws.{HasTokens}
use Rattle.mw_print.specs.Prefix.{prefixed, prefix_text}

-- The term has a form that tells it: it is ground, its numerals and its operators' numbers are below 2^128, and each quoted identifier is one token, with the
-- apostrophe.
abbrev mutual
  pub IsTold : RawTerm → Type 0
  IsTold (numeral n) = n < 2 ^ 128
  IsTold (quoted q) = IsIdentifier q × IsProper q
  IsTold (variable x) = ⊥
  IsTold (apply f ts) = (f < 2 ^ 128) × AreTold ts

  pub AreTold : RawTerms → Type 0
  AreTold nil = ⊤
  AreTold (cons t ts) = IsTold t × AreTold ts

-- The spelling of each operator is a run that is read to its end, so that it is one token with what stands before it.
abbrev pub HasWholeSpellings : Signature → Type 0
HasWholeSpellings sig = (f : ℕ) (o : Operator) → IsOperator sig f o → run_len o.spelling ≡ length o.spelling

-- So is the name of tokens whose pieces are proper.
abbrev pub NamesAreWhole : Type 0
NamesAreWhole = (ts : List (List ℕ)) → IsProperName (name_of_tokens ts) → run_len (name_of_tokens ts) ≡ length (name_of_tokens ts)

-- The text of a form is cut into the tokens of the form.
abbrev pub PrefixLexes : Type 0
PrefixLexes = (sig : Signature) (t : RawTerm) → HasWholeSpellings sig → IsTold t → HasTokens (prefix_text sig t) (texts (prefixed sig t))

-- The bytes begin with one that ends the last token of a text before them, if there are any.
abbrev pub EndsLast : List ℕ → List ℕ → Type 0
EndsLast text [] = ⊤
EndsLast text (c ∷ rest) = (is_run_byte c ≡ false) × (ends_in_backquote text ≡ true → is_punctuation c ≡ false)

-- The bytes are cut into these tokens, wherever they stand.
abbrev pub HasTokensAnywhere : List ℕ → List (List ℕ) → Type 0
HasTokensAnywhere text tokens = (at line : ℕ) → (found : List Token) × (lexed 0 at line text ≡ Ok found) × (map (λ (t : Token). t.text) found ≡ tokens)

-- So is it before others.
abbrev pub PrefixLexesBefore : Type 0
PrefixLexesBefore = (sig : Signature) (t : RawTerm) (rest : List ℕ) (tokens : List (List ℕ)) → HasWholeSpellings sig → IsTold t → EndsLast (prefix_text sig t) rest → HasTokensAnywhere rest tokens
    → HasTokensAnywhere (prefix_text sig t ++ rest) (texts (prefixed sig t) ++ tokens)

-- The tokens of a form are those of one term alone.
abbrev pub PrefixTells : Type 0
PrefixTells = (sig : Signature) (t u : RawTerm) → IsTold t → IsTold u → texts (prefixed sig t) ≡ texts (prefixed sig u) → t ≡ u

-- And so is its text.
abbrev pub PrefixTextTells : Type 0
PrefixTextTells = (sig : Signature) (t u : RawTerm) → HasWholeSpellings sig → IsTold t → IsTold u → prefix_text sig t ≡ prefix_text sig u → t ≡ u

-- how many parentheses are open behind a token, where so many are before it
abbrev pub open_behind : List ℕ → ℕ → ℕ
open_behind [] n = n
open_behind (b ∷ []) n = if b == 40 then suc n else if b == 41 then n - 1 else n
open_behind (b ∷ c ∷ x) n = n

-- how many are open at once in tokens before which so many are
abbrev pub most_open : ℕ → List (List ℕ) → ℕ
most_open n [] = n
most_open n (x ∷ xs) = max n (most_open (open_behind x n) xs)

-- One parenthesis fewer is open at once than the term is deep.
abbrev pub PrefixIsShallow : Type 0
PrefixIsShallow = (sig : Signature) (t : RawTerm) → IsTold t → suc (most_open 0 (texts (prefixed sig t))) ≡ height t

-- A canonical term has a form that tells it, where the raw term that it means is a ground term of a signature, whose quoted identifiers are tokens.
abbrev pub CanonicalIsTold : Type 0
CanonicalIsTold = (sig : Signature) (t : RawTerm) → length sig.operators < 2 ^ 128 → IsRawTerm sig (nested sig t) → IsTrue (is_ground (nested sig t)) → HasIdentifiers (nested sig t)
    → IsTold t

-- What is printed can be read.
use Rattle.std.specs.Prelude.{◌≡◌, ◌<◌, ◌^◌, ℕ, List, ◌++◌, map, length, codes, All, IsTrue, Ok, ⊤}
use Rattle.mw_lex.specs.declared.token.Token.{Token}
use Rattle.mw_lex.specs.Lexing.{tokens_of}
use Rattle.mw_lex.specs.Texts.{IsProper}
use Rattle.mw_logic.specs.Term.{Variable, RawTerm, numeral, quoted, variable, apply, RawTerms, nil, cons}
use Rattle.mw_logic.specs.Signature.{Signature, Operator, IsOperator, IsSortNamed, IsRawTerm}
use Rattle.mw_logic.specs.Substitution.{occurs}
use Rattle.mw_text.specs.Mixfix.{Spells, IsVariableName, IsIdentifier}
use Rattle.mw_text.specs.Proper.{AreProperNames, HasIdentifiers}
use Rattle.mw_print.specs.Tokens.{texts}
use Rattle.mw_print.specs.Printing.{printed, sort_name, mixfix_text}

-- an associative operator has two arguments
abbrev pub AreBinary : Signature → Type 0
AreBinary sig = (f : ℕ) (o : Operator) → IsOperator sig f o → IsTrue o.assoc → length o.args ≡ 2

-- Each variable has a name that stands before a sort's, and a sort with a name; each quoted identifier begins with an apostrophe.
abbrev mutual
  pub IsNamed : Signature → RawTerm → Type 0
  IsNamed sig (numeral n) = ⊤
  IsNamed sig (quoted q) = IsIdentifier q
  IsNamed sig (variable x) = IsVariableName x.name × (S : List ℕ) × IsSortNamed sig x.sort S
  IsNamed sig (apply f ts) = AreNamed sig ts

  pub AreNamed : Signature → RawTerms → Type 0
  AreNamed sig nil = ⊤
  AreNamed sig (cons t ts) = IsNamed sig t × AreNamed sig ts

-- The tokens of a printed term spell it, at its precedence.
abbrev pub PrintedSpells : Type 0
PrintedSpells = (sig : Signature) (variables : List Variable) (t : RawTerm) → AreBinary sig → IsRawTerm sig t → IsNamed sig t
    → Spells sig variables t (printed sig t).precedence (texts (printed sig t).tokens)

-- the text has these tokens
abbrev pub HasTokens : List ℕ → List (List ℕ) → Type 0
HasTokens text tokens = (found : List Token) × (tokens_of text ≡ Ok found) × (map (λ (t : Token). t.text) found ≡ tokens)

-- The tokens of a term's text are those that were printed, where each of these is proper.
abbrev pub PrintedLexes : Type 0
PrintedLexes = (sig : Signature) (t : RawTerm) → All IsProper (texts (printed sig t).tokens) → HasTokens (mixfix_text sig t) (texts (printed sig t).tokens)

-- Numerals are below 2^128; quoted identifiers are proper, and so are variables with their sorts.
abbrev mutual
  pub HasProperLeaves : Signature → RawTerm → Type 0
  HasProperLeaves sig (numeral n) = n < 2 ^ 128
  HasProperLeaves sig (quoted q) = IsProper q
  HasProperLeaves sig (variable x) = IsProper (x.name ++ codes ":" ++ sort_name sig x.sort)
  HasProperLeaves sig (apply f ts) = HaveProperLeaves sig ts

  pub HaveProperLeaves : Signature → RawTerms → Type 0
  HaveProperLeaves sig nil = ⊤
  HaveProperLeaves sig (cons t ts) = HasProperLeaves sig t × HaveProperLeaves sig ts

-- The printed tokens are proper.
abbrev pub PrintedProper : Type 0
PrintedProper = (sig : Signature) (t : RawTerm) → AreProperNames sig → HasProperLeaves sig t → All IsProper (texts (printed sig t).tokens)

-- The text, cut into tokens, spells the term.
pub record ReadsBack (sig : Signature) (variables : List Variable) (t : RawTerm) (text : List ℕ) : Type 0 where
  pub words : List (List ℕ)
  pub cut : HasTokens text words
  pub precedence : ℕ
  pub spells : Spells sig variables t precedence words

-- The variable's name may stand before a sort's, its sort has a name, and the two with a colon between are one token.
pub record IsPrintable (sig : Signature) (x : Variable) : Type 0 where
  pub named : IsVariableName x.name
  pub sort : List ℕ
  pub sorted : IsSortNamed sig x.sort sort
  pub proper : IsProper (x.name ++ codes ":" ++ sort)

abbrev pub ArePrintable : Signature → RawTerm → Type 0
ArePrintable sig t = (x : Variable) → IsTrue (occurs x t) → IsPrintable sig x

-- The text of a raw term reads back, where names of operators are proper, associative operators have two arguments, the term's variables can be printed, and its
-- quoted identifiers are tokens.
abbrev pub PrintedReadsBack : Type 0
PrintedReadsBack = (sig : Signature) (variables : List Variable) (t : RawTerm) → AreBinary sig → AreProperNames sig → IsRawTerm sig t → ArePrintable sig t → HasIdentifiers t
    → ReadsBack sig variables t (mixfix_text sig t)

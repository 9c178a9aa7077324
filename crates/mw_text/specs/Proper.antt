-- Names that can be printed as tokens.
use Rattle.std.specs.Prelude.{ℕ, List, All, IsTrue, IsFalse, ⊤}
use Rattle.mw_lex.specs.Pieces.{opens_comment}
use Rattle.mw_lex.specs.Texts.{IsProper, IsQuoted, IsTokenText}
use Rattle.mw_logic.specs.Signature.{Signature, Operator, IsOperator}
use Rattle.mw_logic.specs.Term.{RawTerm, numeral, quoted, variable, apply, RawTerms, nil, cons}
use Rattle.mw_text.specs.Mixfix.{IsIdentifier}
use Rattle.mw_text.specs.Names.{items_of, items_of_tokens, name_of_tokens, has_hole, pieces}

-- Each piece of the name is proper, and so is the whole name of one with holes.
abbrev pub IsProperName : List ℕ → Type 0
IsProperName name = All IsProper (pieces (items_of name)) × (IsTrue (has_hole (items_of name)) → IsProper name)

abbrev pub AreProperNames : Signature → Type 0
AreProperNames sig = (f : ℕ) (o : Operator) → IsOperator sig f o → IsProperName o.spelling

-- no string and no comment begins in it
abbrev pub BeginsNothing : List ℕ → Type 0
BeginsNothing x = ¬ IsQuoted x × IsFalse (opens_comment x)

-- A name of tokens is proper, where no string and no comment begins in its pieces.
abbrev pub NamesAreProper : Type 0
NamesAreProper = (ts : List (List ℕ)) → All IsTokenText ts → All BeginsNothing (pieces (items_of_tokens ts)) → IsProperName (name_of_tokens ts)

-- Each quoted identifier in a term is one token, with the apostrophe.
abbrev mutual
  pub HasIdentifiers : RawTerm → Type 0
  HasIdentifiers (numeral n) = ⊤
  HasIdentifiers (quoted q) = IsIdentifier q × IsProper q
  HasIdentifiers (variable x) = ⊤
  HasIdentifiers (apply f ts) = HaveIdentifiers ts

  pub HaveIdentifiers : RawTerms → Type 0
  HaveIdentifiers nil = ⊤
  HaveIdentifiers (cons t ts) = HasIdentifiers t × HaveIdentifiers ts

-- How declarations of operators are written.
use Rattle.std.specs.Prelude.{◌≡◌, ◌⊎◌, ℕ, List, ◌∷◌, ◌++◌, map, Ok, codes}
use Rattle.mw_lex.specs.declared.token.Token.{Token}
use Rattle.mw_module.specs.declared.operators.Asked.{Asked}
use Rattle.mw_module.specs.Attributes.{Attributes}
use Rattle.mw_module.specs.Words.{texts}
use Rattle.mw_module.specs.Forms.{Operators, names_form, operators_form}
use Rattle.mw_module.specs.Sortings.{WrittenSort}

-- behind the first word: names, a colon, sorts, an arrow, and the rest
pub record IsDeclaration (asked : Asked) (ts : List Token) (words : List (List (List ℕ))) : Type 0 where
  pub names : List (List Token)
  pub are : words ≡ map texts names
  pub front : List Token
  pub colon : Token
  pub middle : List Token
  pub arrow : Token
  pub behind : List Token
  pub tokens : ts ≡ front ++ colon ∷ (middle ++ arrow ∷ behind)
  pub is_colon : colon.text ≡ codes ":"
  pub is_arrow : (arrow.text ≡ codes "->") ⊎ (arrow.text ≡ codes "~>")
  pub named : names_form asked.single front ≡ Ok names

-- What is read as operators is written so.
abbrev pub OperatorsAreWritten : Type 0
OperatorsAreWritten = (asked : Asked) (ts : List Token) (words : List (List (List ℕ))) (args : List WrittenSort) (value : WrittenSort)
    (said : Attributes) → operators_form asked ts ≡ Ok (Operators words args value said) → IsDeclaration asked ts words

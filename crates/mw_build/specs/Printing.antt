-- What is printed of an accepted module's terms reads back.
use Rattle.std.specs.Prelude.{◌≡◌, ◌⊎◌, ℕ, false, List, [], ◌∷◌, ◌++◌, Ok, Some, IsTrue}
use Rattle.mw_lex.specs.declared.token.Token.{Token}
use Rattle.mw_lex.specs.Lexing.{tokens_of}
use Rattle.mw_logic.specs.Term.{Variable, RawTerm}
use Rattle.mw_logic.specs.Substitution.{occurs}
use Rattle.mw_logic.specs.Signature.{Signature, at_number, IsRawTerm, Member}
use Rattle.mw_logic.specs.Module.{Statement}
use Rattle.mw_module.specs.Units.{SeenUnit, Reads}
use Rattle.mw_omod.specs.Declaring.{declared_unit}
use Rattle.mw_import.specs.Flat.{FlatUnit}
use Rattle.mw_print.specs.Printing.{mixfix_text}
use Rattle.mw_print.specs.Laws.{IsPrintable, ArePrintable, ReadsBack}
use Rattle.mw_print.specs.PrefixLaws.{HasWholeSpellings}
use Rattle.mw_text.specs.Proper.{HasIdentifiers}
use Rattle.mw_omod.specs.Objects.{IsAdded}
use Rattle.mw_build.specs.Statements.{terms_of}
use Rattle.mw_build.specs.Modules.{Accepted, IsAccepted}

-- These modules are of units of these tokens, by what these declare, each accepted where those before it were.
pub data AreOfTokens (tokens : List Token) : List FlatUnit → List Accepted → Type 0 where
  none_yet : AreOfTokens tokens [] []
  one_more : (us : List FlatUnit) (ms : List Accepted) (at next : ℕ) (u : SeenUnit) (name reached : List ℕ) (a : Accepted) → AreOfTokens tokens us ms
      → Reads false tokens at (Ok u) next → IsAccepted us ms (declared_unit u) name reached a
      → AreOfTokens tokens (us ++ record { name = name; statements = (declared_unit u).statements; reached = reached } ∷ []) (ms ++ a ∷ [])

-- the tokens of texts, one text after another
pub data AreCut : List (List ℕ) → List Token → Type 0 where
  no_text : AreCut [] []
  one_text : (text : List ℕ) (texts : List (List ℕ)) (first more : List Token) → tokens_of text ≡ Ok first → AreCut texts more → AreCut (text ∷ texts) (first ++ more)

-- The module is that of a unit of these texts, of which one may be a prelude and the next one a source; and so are those that were accepted before it.
pub record IsOfTexts (texts : List (List ℕ)) (a : Accepted) : Type 0 where
  pub tokens : List Token
  pub cut : AreCut texts tokens
  pub units : List FlatUnit
  pub modules : List Accepted
  pub before : AreOfTokens tokens units modules
  pub at : ℕ
  pub next : ℕ
  pub unit : SeenUnit
  pub read : Reads false tokens at (Ok unit) next
  pub reached : List ℕ
  pub accepted : IsAccepted units modules (declared_unit unit) a.name reached a

-- The text of each raw term of an accepted module, cut into tokens, spells this term in the module; where the term's variables can be printed, and its quoted
-- identifiers are tokens. So it is for each ground term that a text spells.
abbrev pub TextsReadBack : Type 0
TextsReadBack = (texts : List (List ℕ)) (a : Accepted) (t : RawTerm) → IsOfTexts texts a → IsRawTerm a.module.signature t → ArePrintable a.module.signature t → HasIdentifiers t
    → ReadsBack a.module.signature a.variables t (mixfix_text a.module.signature t)

-- Each operator of an accepted module is spelled as one token.
abbrev pub SpellingsAreWhole : Type 0
SpellingsAreWhole = (texts : List (List ℕ)) (a : Accepted) → IsOfTexts texts a → HasWholeSpellings a.module.signature

-- the variables of a term can be printed, but for those that completion added, and so can its quoted identifiers
pub record IsPrintableTerm (sig : Signature) (t : RawTerm) : Type 0 where
  pub variables : (x : Variable) → IsTrue (occurs x t) → IsAdded x ⊎ IsPrintable sig x
  pub identifiers : HasIdentifiers t

-- so can those of its sides, and those of the terms of its condition
abbrev pub IsPrintableStatement : Signature → Statement → Type 0
IsPrintableStatement sig st = IsPrintableTerm sig st.left × IsPrintableTerm sig st.right × ((t : RawTerm) → Member t (terms_of st.fragments) → IsPrintableTerm sig t)

-- The variables and quoted identifiers of an accepted module's statements can be printed, but for the variables that completion added to rules of object modules.
abbrev pub StatementsArePrintable : Type 0
StatementsArePrintable = (texts : List (List ℕ)) (a : Accepted) (k : ℕ) (st : Statement) → IsOfTexts texts a → at_number a.module.statements k ≡ Some st
    → IsPrintableStatement a.module.signature st

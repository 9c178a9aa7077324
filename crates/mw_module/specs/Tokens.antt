-- Of what tokens units and statements are made.
use Rattle.std.specs.Prelude.{ℕ, Bool, List, All, Ok, ⊤}
use Rattle.mw_lex.specs.declared.token.Token.{Token}
use Rattle.mw_lex.specs.Texts.{IsRun, IsTokenText, AreTokens}
use Rattle.mw_text.specs.Names.{name_of_tokens}
use Rattle.mw_text.specs.Proper.{IsProperName}
use Rattle.mw_module.specs.declared.classes.ClassAttribute.{ClassAttribute}
use Rattle.mw_module.specs.Conditions.{WrittenFragment, Match, Equal, Other}
use Rattle.mw_module.specs.Forms.{Shape, Sorts, Subsorts, Operators, Variables, Statement, Import, Class}
use Rattle.mw_module.specs.Units.{SeenLined, SeenUnit, Reads}

-- the texts of a fragment are made of tokens
abbrev pub HasProperTexts : WrittenFragment → Type 0
HasProperTexts (Match pattern term) = AreTokens pattern × AreTokens term
HasProperTexts (Equal left right) = AreTokens left × AreTokens right
HasProperTexts (Other text) = AreTokens text

-- the name of a class's attribute is the text of a token
abbrev pub HasTokenName : ClassAttribute → Type 0
HasTokenName a = IsTokenText a.name

-- Names of sorts, classes and variables are runs, those of classes' attributes are texts of tokens, names of operators are proper, and sides and fragments are made of tokens.
abbrev pub HasProperParts : Shape → Type 0
HasProperParts (Sorts names) = All IsRun names
HasProperParts (Subsorts groups) = ⊤
HasProperParts (Operators names args result said) = All (λ (name : List (List ℕ)). IsProperName (name_of_tokens name)) names
HasProperParts (Variables names sort) = All IsRun names
HasProperParts (Statement rule left right fragments executable) = AreTokens left × AreTokens right × All HasProperTexts fragments
HasProperParts (Import m) = ⊤
HasProperParts (Class name as_) = IsRun name × All HasTokenName as_

abbrev pub AreProperStatements : List SeenLined → Type 0
AreProperStatements = All (λ (s : SeenLined). HasProperParts s.shape)

-- a unit whose statements have proper parts, and that is made of tokens
pub record IsOfTokens (u : SeenUnit) : Type 0 where
  pub statements : AreProperStatements u.statements
  pub tokens : AreTokens u.tokens

-- A unit of a source that is made of tokens is made of tokens.
abbrev pub UnitsAreOfTokens : Type 0
UnitsAreOfTokens = (proofs : Bool) (tokens : List Token) (at next : ℕ) (u : SeenUnit) → AreTokens tokens → Reads proofs tokens at (Ok u) next → IsOfTokens u

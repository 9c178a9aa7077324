-- What a module declares can be printed as tokens.
use Rattle.std.specs.Prelude.{◌≡◌, ℕ, List, All, Ok}
use Rattle.mw_lex.specs.Texts.{IsRun}
use Rattle.mw_logic.specs.Term.{Variable}
use Rattle.mw_logic.specs.Signature.{Signature, Operator, IsOperator}
use Rattle.mw_logic.specs.Preregular.{IsSortOf}
use Rattle.mw_text.specs.Names.{name_of_tokens}
use Rattle.mw_text.specs.Proper.{AreProperNames}
use Rattle.mw_module.specs.Units.{SeenLined, IsWithin}
use Rattle.mw_module.specs.Tokens.{AreProperStatements}
use Rattle.mw_declare.specs.declared.declarations.Declarations.{Declarations}
use Rattle.mw_declare.specs.declared.built.Reached.{Reached}
use Rattle.mw_declare.specs.Faults.{Typing, typing_of}
use Rattle.mw_declare.specs.Declarations.{Declares}

-- the variable's name is a run, and its sort is there
abbrev pub IsProperVariable : Signature → Variable → Type 0
IsProperVariable sig x = IsRun x.name × IsSortOf sig x.sort

-- Each operator is spelled as its name's tokens are.
abbrev pub AreSpelledByTokens : Signature → Type 0
AreSpelledByTokens sig = (f : ℕ) (o : Operator) → IsOperator sig f o → (ts : List (List ℕ)) × (o.spelling ≡ name_of_tokens ts)

-- Names of operators are proper and spelled so, those of sorts are runs, and variables have names and sorts that are there.
pub record AreProper (d : Declarations) : Type 0 where
  pub operators : AreProperNames d.signature
  pub spelled : AreSpelledByTokens d.signature
  pub sorts : All IsRun d.signature.sorts
  pub variables : All (IsProperVariable d.signature) d.variables

-- What statements of proper parts declare is proper, together with the variables of a module's own statements, which are among them.
abbrev pub DeclarationsAreProper : Type 0
DeclarationsAreProper = (r : Reached) (own ss : List SeenLined) (typing : Typing) (d : Declarations) → IsWithin own ss → AreProperStatements own → typing_of own ≡ Ok typing
    → AreProperStatements ss → Declares r typing ss d → AreProper d

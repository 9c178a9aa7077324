-- What is known of a statement that was read.
use Rattle.std.specs.Prelude.{◌≡◌, ◌≢◌, ◌<◌, ◌⊎◌, ℕ, Bool, List, [], ◌∷◌, length, IfSome, All, Ok, codes, true}
use Rattle.mw_lex.specs.declared.token.Token.{Token}
use Rattle.mw_text.specs.Names.{hole, items_of_tokens, count_holes}
use Rattle.mw_module.specs.declared.classes.ClassAttribute.{ClassAttribute}
use Rattle.mw_module.specs.Attributes.{Attributes}
use Rattle.mw_module.specs.Forms.{Shape, Sorts, Subsorts, Operators, Variables, Statement, Import, Class}
use Rattle.mw_module.specs.OperatorNames.{is_plain_name}
use Rattle.mw_module.specs.Sortings.{WrittenSort}
use Rattle.mw_module.specs.Units.{SeenLined, SeenUnit, Reads}

-- a name is neither nothing nor a hole alone, and has no holes or one for each argument
pub record IsNameFor (arity : ℕ) (name : List (List ℕ)) : Type 0 where
  pub some : items_of_tokens name ≢ []
  pub no_hole : items_of_tokens name ≢ hole ∷ []
  pub fits : (count_holes (items_of_tokens name) ≡ 0) ⊎ (count_holes (items_of_tokens name) ≡ arity)

abbrev pub IsMark : List ℕ → Type 0
IsMark text = (text ≡ codes "e") ⊎ ((text ≡ codes "E") ⊎ (text ≡ codes "&"))

abbrev pub IsPrecedence : ℕ → Type 0
IsPrecedence n = n < 128

-- one mark for each argument
abbrev pub IsGather : ℕ → List (List ℕ) → Type 0
IsGather arity marks = (length marks ≡ arity) × All IsMark marks

-- a text is a name without holes
pub record IsPlainName (text : List ℕ) : Type 0 where
  pub named : is_plain_name text ≡ true

-- an attribute of a class has one
abbrev pub IsPlainAttribute : ClassAttribute → Type 0
IsPlainAttribute a = IsPlainName a.name

-- what is said of an operator of so many arguments
pub record AreAttributes (arity : ℕ) (a : Attributes) : Type 0 where
  pub precedence : IfSome a.precedence IsPrecedence
  pub gather : IfSome a.gather (IsGather arity)

-- a declaration of operators
pub record AreOperators (ns : List (List (List ℕ))) (args : List WrittenSort) (a : Attributes) : Type 0 where
  pub some : ns ≢ []
  pub names : All (IsNameFor (length args)) ns
  pub attributes : AreAttributes (length args) a

abbrev pub IsKnown : Shape → Type 0
IsKnown (Sorts names) = Unit {0}
IsKnown (Subsorts groups) = Unit {0}
IsKnown (Operators names args value a) = AreOperators names args a
IsKnown (Variables names sort) = Unit {0}
IsKnown (Statement rule left right fragments executable) = Unit {0}
IsKnown (Import m) = Unit {0}
IsKnown (Class name as_) = IsPlainName name × All IsPlainAttribute as_

abbrev pub AreKnown : List SeenLined → Type 0
AreKnown = All (λ (s : SeenLined). IsKnown s.shape)

-- The statements of a unit that was read are known.
abbrev pub UnitsAreKnown : Type 0
UnitsAreKnown = (proofs : Bool) (tokens : List Token) (at next : ℕ) (u : SeenUnit) → Reads proofs tokens at (Ok u) next → AreKnown u.statements

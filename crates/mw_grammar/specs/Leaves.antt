-- Tokens that are terms by themselves.
use Rattle.std.specs.Prelude.{ℕ, ◌≡◌, ◌⊎◌, List, ◌++◌, Option, Some, length, codes, IsTrue}
use Rattle.mw_logic.specs.Term.{Variable, RawTerm, numeral, quoted, variable, apply}
use Rattle.mw_logic.specs.Signature.{Signature, at_number, Member, HasKind}
use Rattle.mw_text.specs.Mixfix.{IsVariableName, IsIdentifier}
use Rattle.mw_text.specs.Numerals.{number_in}

-- the token is a declared variable's name
abbrev pub IsDeclared : List Variable → List ℕ → Variable → Type 0
IsDeclared variables token x = Member x variables × (token ≡ x.name)

-- the token is a variable with its sort, where sorts have these names
abbrev pub IsWithSort : (List ℕ → ℕ → Type 0) → List ℕ → Variable → Type 0
IsWithSort Named token x = (S : List ℕ) × Named S x.sort × IsVariableName x.name × (token ≡ x.name ++ codes ":" ++ S)

-- the same, where the colon stands at a place
abbrev pub IsDivided : (List ℕ → ℕ → Type 0) → List ℕ → ℕ → Variable → Type 0
IsDivided Named token colon x = (S : List ℕ) × Named S x.sort × IsVariableName x.name × (token ≡ x.name ++ codes ":" ++ S) × (length x.name ≡ colon)

-- the sort with a number has the name
abbrev pub IsNamed : List (List ℕ) → List ℕ → ℕ → Type 0
IsNamed sorts name S = at_number sorts S ≡ Some name

-- the token spells the variable
abbrev pub IsVariableToken : List (List ℕ) → List Variable → List ℕ → Variable → Type 0
IsVariableToken sorts variables token x = IsDeclared variables token x ⊎ IsWithSort (IsNamed sorts) token x

-- the variable has this name, and one of these sorts
abbrev pub IsOfOne : List ℕ → List ℕ → Variable → Type 0
IsOfOne sorts name x = (x.name ≡ name) × Member x.sort sorts

-- the token is the term by itself
abbrev pub IsAlone : Signature → List Variable → List ℕ → RawTerm → Type 0
IsAlone sig variables token (numeral n) = IsTrue sig.nat × (number_in token ≡ Some n)
IsAlone sig variables token (quoted q) = IsTrue sig.qid × IsIdentifier q × (token ≡ q)
IsAlone sig variables token (variable x) = IsVariableToken sig.sorts variables token x
IsAlone sig variables token (apply f ts) = ⊥

-- K is the number of the term's kind
pub record IsKindOf (sig : Signature) (kind : ℕ → ℕ) (t : RawTerm) (K : ℕ) : Type 0 where
  pub one : ℕ
  pub has : HasKind sig t one
  pub all : (S : ℕ) → HasKind sig t S → K ≡ kind S

-- A term that a token is, with the number of its kind: the numeral, where numerals have this kind; itself as a quoted identifier, where these have this
-- one; a variable that has the property.
abbrev pub IsNumeralLeaf : Option ℕ → List ℕ → RawTerm → ℕ → Type 0
IsNumeralLeaf numbers token t K = (n : ℕ) × (t ≡ numeral n) × (numbers ≡ Some K) × (number_in token ≡ Some n)

abbrev pub IsIdentifierLeaf : Option ℕ → List ℕ → RawTerm → ℕ → Type 0
IsIdentifierLeaf identifiers token t K = (t ≡ quoted token) × (identifiers ≡ Some K) × IsIdentifier token

abbrev pub IsVariableLeaf : (ℕ → ℕ) → (Variable → Type 0) → RawTerm → ℕ → Type 0
IsVariableLeaf kind Has t K = (x : Variable) × (t ≡ variable x) × (K ≡ kind x.sort) × Has x

-- it is this term, of this kind
abbrev pub IsLeaf : RawTerm → ℕ → RawTerm → ℕ → Type 0
IsLeaf u L t K = (t ≡ u) × (K ≡ L)

-- Where statements are listed.
use Rattle.std.specs.Prelude.{ℕ, ◌≡◌, ◌⊎◌, ◌∷◌, ◌++◌, [], false, Option, None, take, IsTrue, List, ⊤}
use Rattle.mw_logic.specs.Term.{Variable, RawTerm, numeral, quoted, variable, apply, RawTerms, nil, cons}
use Rattle.mw_logic.specs.Signature.{Signature, Member}
use Rattle.mw_logic.specs.Kinds.{is_successor}
use Rattle.mw_logic.specs.Module.{Module}
use Rattle.mw_logic.specs.NormalForm.{identity_of}
use Rattle.mw_position.specs.Variables.{is_in}
use Rattle.mw_index.specs.Index.{Asks, asked, IsIndexOf}
use Rattle.mw_index.specs.declared.oriented.Oriented.{Oriented}
use Rattle.mw_index.specs.declared.index.Rule.{Rule}
use Rattle.mw_index.specs.declared.index.Index.{Index}
use Rattle.mw_index.specs.declared.index.Section.{Section}
use Rattle.mw_index.specs.declared.index.Section.TheVariants.{Operator, Any, Leaves}

-- a numeral or a quoted identifier
abbrev pub IsLeaf : RawTerm → Type 0
IsLeaf (numeral n) = ⊤
IsLeaf (quoted q) = ⊤
IsLeaf (variable x) = ⊥
IsLeaf (apply f ts) = ⊥

-- the operator stays on top, whatever its arguments become
abbrev pub OperatorStays : Signature → ℕ → Type 0
OperatorStays sig f = (identity_of sig f ≡ None) × (is_successor sig f ≡ false)

-- what is on top stays, whatever the variables become
abbrev pub TopStays : Signature → RawTerm → Type 0
TopStays sig (numeral n) = ⊤
TopStays sig (quoted q) = ⊤
TopStays sig (variable x) = ⊥
TopStays sig (apply f ts) = OperatorStays sig f

-- it does so on one of the terms
abbrev pub OneStays : Signature → RawTerms → Type 0
OneStays sig nil = ⊥
OneStays sig (cons t ts) = TopStays sig t ⊎ OneStays sig ts

-- and on two of them
abbrev pub TwoStay : Signature → RawTerms → Type 0
TwoStay sig nil = ⊥
TwoStay sig (cons t ts) = (TopStays sig t × OneStays sig ts) ⊎ TwoStay sig ts

-- statements with the canonical left side p belong in the section
abbrev pub IsSectionOf : Signature → RawTerm → Section → Type 0
IsSectionOf sig p (Operator f) = (args : RawTerms) × (p ≡ apply f args) × (OperatorStays sig f ⊎ TwoStay sig args)
IsSectionOf sig p Any = ⊤
IsSectionOf sig p Leaves = IsLeaf p

-- the new index has one more equation, in a section
pub record Puts (q : Section) (st : Oriented) (old new : Index) : Type 0 where
  pub kept : (top : Option ℕ) (s : Oriented) → Member s (asked old top) → Member s (asked new top)
  pub put : (top : Option ℕ) → Asks q top → Member st (asked new top)
  pub only : (top : Option ℕ) (s : Oriented) → Member s (asked new top) → Member s (asked old top) ⊎ (Asks q top × (st ≡ s))
  pub rules : new.rules.items ≡ old.rules.items

-- it has one more rule
pub record PutsRule (r : Rule) (old new : Index) : Type 0 where
  pub equations : (top : Option ℕ) → asked new top ≡ asked old top
  pub rules : new.rules.items ≡ old.rules.items ++ r ∷ []

-- an index of the first statements
abbrev pub IsIndexUpTo : Module → ℕ → Index → Type 0
IsIndexUpTo M n m = IsIndexOf (record M { statements = take n M.statements }) m

-- each of the variables is one of the others
abbrev pub AreIn : List Variable → List Variable → Type 0
AreIn xs ys = (x : Variable) → Member x xs → IsTrue (is_in x ys)

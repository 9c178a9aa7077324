-- The index of a module's statements: which equations are asked for a term, and its rules.
use Rattle.std.specs.Prelude.{ℕ, ◌≡◌, List, [], ◌++◌, Bool, true, false, not, nat_lt, Option, Some, None, slice_get, IsTrue, IsFalse, ⊤}
use Rattle.mw_logic.specs.Term.{RawTerm, numeral, quoted, variable, apply}
use Rattle.mw_logic.specs.Signature.{Member}
use Rattle.mw_logic.specs.Substitution.{Substitution, IsSolution}
use Rattle.mw_logic.specs.Module.{Module, Statement, IsStatement}
use Rattle.mw_logic.specs.Parts.{nested}
use Rattle.mw_deduction.specs.Tops.{IsTop}
use Rattle.mw_solving.specs.Values.{IsValue}
use Rattle.mw_index.specs.Oriented.{IsOriented}
use Rattle.mw_index.specs.declared.oriented.Oriented.{Oriented}
use Rattle.mw_index.specs.declared.index.Group.{Group}
use Rattle.mw_index.specs.declared.index.Rule.{Rule}
use Rattle.mw_index.specs.declared.index.Section.{Section}
use Rattle.mw_index.specs.declared.index.Section.TheVariants.{Operator, Any, Leaves}
use Rattle.mw_index.specs.declared.index.Index.{Index}

-- the operator on top, where there is one
abbrev pub operator_of : RawTerm → Option ℕ
operator_of (numeral n) = None
operator_of (quoted q) = None
operator_of (variable x) = None
operator_of (apply f ts) = Some f

abbrev pub items_in : Option Group → List Oriented
items_in None = []
items_in (Some g) = g.list.items

-- the equations that are listed under an operator
abbrev pub listed : Index → ℕ → List Oriented
listed m f = items_in (slice_get m.by_top.items f)

-- the equations that are asked for terms with an operator on top, or with none
abbrev pub asked : Index → Option ℕ → List Oriented
asked m (Some f) = listed m f ++ m.any.items
asked m None = m.any.items ++ m.leaves.items

-- of two lists in the order of the module: those of the operator, or for every term where there is none; and the others
abbrev pub own_asked : Index → Option ℕ → List Oriented
own_asked m (Some f) = listed m f
own_asked m None = m.any.items

abbrev pub others_asked : Index → Option ℕ → List Oriented
others_asked m (Some f) = m.any.items
others_asked m None = m.leaves.items

-- whether the next one of two lists is the first list's: the one with the lesser number
abbrev pub is_own : Option Oriented → Option Oriented → Bool
is_own None b = false
is_own (Some a) None = true
is_own (Some a) (Some b) = not (nat_lt b.number a.number)

-- st is the next one of two lists, and stands in the first list or in the second
abbrev pub IsNextOf : Option Oriented → Option Oriented → Oriented → Bool → Type 0
IsNextOf a b st true = (a ≡ Some st) × (is_own a b ≡ true)
IsNextOf a b st false = (b ≡ Some st) × (is_own a b ≡ false)

-- the section's statements are asked for terms with this operator on top, or with none
abbrev pub Asks : Section → Option ℕ → Type 0
Asks (Operator f) top = top ≡ Some f
Asks Any top = ⊤
Asks Leaves top = top ≡ None

-- st is an executable statement of the module, by its number
pub record IsOf (M : Module) (top : Option ℕ) (st : Oriented) : Type 0 where
  pub statement : Statement
  pub is_there : IsStatement M st.number statement
  pub is : IsOriented M.signature top statement st

-- which is an equation
abbrev pub IsEquationOf : Module → Option ℕ → Oriented → Type 0
IsEquationOf M top st = IsOf M top st × (st.rule ≡ false)

-- an executable rule, and the section in which it is asked
pub record IsRuleOf (M : Module) (r : Rule) : Type 0 where
  pub of : (top : Option ℕ) → Asks r.section top → IsOf M top r.by
  pub rule : r.by.rule ≡ true

-- They are executable rules, and each that has a solution for a top part of a term is asked for it.
pub record AreRulesOf (M : Module) (rs : List Rule) : Type 0 where
  pub sound : (r : Rule) → Member r rs → IsRuleOf M r
  pub complete : (k : ℕ) (e : Statement) → IsStatement M k e → IsTrue e.rule
      → (r : Rule) × Member r rs × (r.by.number ≡ k) × ((t w : RawTerm) → IsValue M.signature t → IsTop M.signature t w
      → (s : Substitution) → IsSolution M.signature e.left (nested M.signature w) [] s → Asks r.section (operator_of t))

-- What is asked for a term are executable equations, and among them each that has a solution for a top part of it.
pub record IsIndexOf (M : Module) (m : Index) : Type 0 where
  pub sound : (top : Option ℕ) (st : Oriented) → Member st (asked m top) → IsEquationOf M top st
  pub complete : (k : ℕ) (e : Statement) → IsStatement M k e → IsFalse e.rule → (t w : RawTerm) → IsValue M.signature t → IsTop M.signature t w
      → (s : Substitution) → IsSolution M.signature e.left (nested M.signature w) [] s
      → (st : Oriented) × Member st (asked m (operator_of t)) × (st.number ≡ k)
  pub rules : AreRulesOf M m.rules.items

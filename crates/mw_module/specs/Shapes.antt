-- Statements by their forms.
use Rattle.std.specs.Prelude.{ℕ, Bool, List, Result, Ok, Err}
use Rattle.mw_lex.specs.declared.token.Token.{Token}
use Rattle.mw_module.specs.declared.classes.ClassAttribute.{ClassAttribute}
use Rattle.mw_module.specs.declared.faults.FaultKind.{FaultKind}
use Rattle.mw_module.specs.declared.forms.Form.{Form}
use Rattle.mw_module.specs.declared.forms.Form.TheVariants as form
use Rattle.mw_module.specs.declared.table.Wrong.{Wrong}
use Rattle.mw_module.specs.Attributes.{Attributes, seen_attributes}
use Rattle.mw_module.specs.Conditions.{WrittenFragment, seen_fragments}
use Rattle.mw_module.specs.Sortings.{WrittenSort, seen_sorting, seen_sortings}

-- a statement by its form, with its parts: names and sorts as words, sides as tokens
pub data Shape : Type 0 where
  Sorts : List (List ℕ) → Shape
  -- groups of sorts, each sort of a group below each of the next
  Subsorts : List (List (List ℕ)) → Shape
  -- names, each as its words, sorts of arguments, the value's sort, and attributes
  Operators : List (List (List ℕ)) → List WrittenSort → WrittenSort → Attributes → Shape
  Variables : List (List ℕ) → List ℕ → Shape
  -- whether it is a rule, the sides, the fragments of the condition, if there is one, and whether it is executable
  Statement : Bool → List Token → List Token → List WrittenFragment → Bool → Shape
  -- a module's name
  Import : List ℕ → Shape
  -- a class's name and its attributes
  Class : List ℕ → List ClassAttribute → Shape

-- a form as its readers see it
abbrev pub shape_of : Form → Shape
shape_of (form.Sorts names) = Sorts names
shape_of (form.Subsorts groups) = Subsorts groups
shape_of (form.Operators names args result attributes) = Operators names (seen_sortings args.items) (seen_sorting result) (seen_attributes attributes)
shape_of (form.Variables names sort) = Variables names sort
shape_of (form.Statement rule left right fragments executable) = Statement rule left.now right.now (seen_fragments fragments.items) executable
shape_of (form.Import m) = Import m
shape_of (form.Class name attributes) = Class name attributes

-- the form, or what is wrong
abbrev pub Formed : Type 0
Formed = Result Shape FaultKind

-- the form, or what is wrong, as its readers see it
abbrev pub seen_formed : Result Form FaultKind → Formed
seen_formed (Ok form) = Ok (shape_of form)
seen_formed (Err kind) = Err kind

-- the form, or how it is wrong
abbrev pub Shaped : Type 0
Shaped = Result Shape Wrong

-- the same as its readers see it
abbrev pub seen_shaped : Result Form Wrong → Shaped
seen_shaped (Ok form) = Ok (shape_of form)
seen_shaped (Err wrong) = Err wrong

-- The first words of statements.
use Rattle.std.specs.Prelude.{ℕ, Bool, true, false, List, ◌&&◌, ◌||◌, if◌then◌else◌, codes}
use Rattle.std.specs.Str.{bytes_eq}
use Rattle.mw_module.specs.declared.kinds.Kind.{Kind}
use Rattle.mw_module.specs.declared.kinds.Kind.TheVariants as kind
use Rattle.mw_module.specs.declared.openings.Opening.{Opening}
use Rattle.mw_module.specs.declared.openings.Opening.TheVariants as opening

-- a word of imports, which all mean the same
abbrev pub is_import : List ℕ → Bool
is_import word = bytes_eq word (codes "protecting") || bytes_eq word (codes "pr") || bytes_eq word (codes "extending") || bytes_eq word (codes "ex")
    || bytes_eq word (codes "including") || bytes_eq word (codes "inc")

-- a word of rules, which stand in system and object modules alone
abbrev pub is_rule : List ℕ → Bool
is_rule word = bytes_eq word (codes "rl") || bytes_eq word (codes "crl")

-- a word of statements that stand in object modules alone
abbrev pub is_of_objects : List ℕ → Bool
is_of_objects word = bytes_eq word (codes "class") || bytes_eq word (codes "subclass") || bytes_eq word (codes "subclasses")
    || bytes_eq word (codes "msg") || bytes_eq word (codes "msgs")

-- rules may stand in modules of this kind
abbrev pub has_rules : Kind → Bool
has_rules kind.Functional = false
has_rules kind.System = true
has_rules kind.Object = true
has_rules kind.FunctionalTheory = false
has_rules kind.SystemTheory = false
has_rules kind.ObjectTheory = false
has_rules kind.View = false
has_rules kind.Strategy = false
has_rules kind.Proof = false
has_rules kind.Command = false

-- classes and messages may
abbrev pub has_objects : Kind → Bool
has_objects kind.Functional = false
has_objects kind.System = false
has_objects kind.Object = true
has_objects kind.FunctionalTheory = false
has_objects kind.SystemTheory = false
has_objects kind.ObjectTheory = false
has_objects kind.View = false
has_objects kind.Strategy = false
has_objects kind.Proof = false
has_objects kind.Command = false

-- what a word of statements that stand in object modules alone asks for there: `subclass` and `subclasses` ask for sorts below others
abbrev pub opening_of_objects : List ℕ → Opening
opening_of_objects word = if bytes_eq word (codes "class") then opening.Class
    else if bytes_eq word (codes "msg") then opening.Message
    else if bytes_eq word (codes "msgs") then opening.Messages else opening.Subsorts

-- what a statement's first word asks for in a module of this kind
abbrev pub opening_of : Kind → List ℕ → Opening
opening_of k word = if bytes_eq word (codes "sort") || bytes_eq word (codes "sorts") then opening.Sorts
    else if bytes_eq word (codes "subsort") || bytes_eq word (codes "subsorts") then opening.Subsorts
    else if bytes_eq word (codes "op") then opening.Operator
    else if bytes_eq word (codes "ops") then opening.Operators
    else if bytes_eq word (codes "var") || bytes_eq word (codes "vars") then opening.Variables
    else if bytes_eq word (codes "eq") then opening.Equation
    else if bytes_eq word (codes "ceq") || bytes_eq word (codes "cq") then opening.ConditionalEquation
    else if is_import word then opening.Import
    else if has_rules k && bytes_eq word (codes "rl") then opening.Rule
    else if has_rules k && bytes_eq word (codes "crl") then opening.ConditionalRule
    else if has_objects k && is_of_objects word then opening_of_objects word
    else if is_rule word || is_of_objects word then opening.Elsewhere else opening.Unread

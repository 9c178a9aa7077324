-- The forms of statements.
pub use Rattle.mw_module.specs.Shapes.{Shape, Sorts, Subsorts, Operators, Variables, Statement, Import, Class, shape_of, Formed, seen_formed, Shaped, seen_shaped}
use Rattle.std.specs.Prelude.{ℕ, Bool, true, false, List, [], ◌∷◌, ◌+◌, ◌-◌, ◌==◌, ◌||◌, not, nat_lt, min, length, take, drop, map, Option, None, Some, Result, Ok, Err, if◌then◌else◌, codes}
use Rattle.std.specs.Borrow.{Bor}
use Rattle.std.specs.List.{list_any}
use Rattle.std.specs.Global.{Vec}
use Rattle.mw_lex.specs.declared.token.Token.{Token}
use Rattle.mw_module.specs.declared.faults.FaultKind.{FaultKind}
use Rattle.mw_module.specs.declared.faults.FaultKind.TheVariants.{NotInProfile}
use Rattle.mw_module.specs.declared.attribute.Attributes.{Attributes as HeldAttributes}
use Rattle.mw_module.specs.declared.kinds.Kind.{Kind}
use Rattle.mw_module.specs.declared.operators.Asked.{Asked}
use Rattle.mw_module.specs.declared.operators.Value.{Value as HeldValue}
use Rattle.mw_module.specs.declared.operators.Profile.{Profile as HeldProfile}
use Rattle.mw_module.specs.declared.machine.Part.{Part}
use Rattle.mw_module.specs.declared.openings.Opening.{Opening}
use Rattle.mw_module.specs.declared.openings.Opening.TheVariants as opening
use Rattle.mw_module.specs.declared.table.Place.{Place}
use Rattle.mw_module.specs.declared.table.Place.TheVariants as place
use Rattle.mw_module.specs.declared.table.Role.TheVariants as role
use Rattle.mw_module.specs.declared.table.Want.TheVariants as want
use Rattle.mw_module.specs.declared.table.Wrong.{Wrong}
use Rattle.mw_module.specs.declared.table.Wrong.TheVariants.{Bad, Unread}
use Rattle.mw_module.specs.Openings.{opening_of}
use Rattle.mw_module.specs.OperatorNames.{all_fit}
use Rattle.mw_module.specs.Attributes.{Attributes, seen_attributes, no_attributes, joined, said_as}
use Rattle.mw_module.specs.Statements.{unlabelled, attributes_len, group_at_end}
use Rattle.mw_module.specs.Conditions.{cut_at_if, Condition, condition_form}
use Rattle.mw_module.specs.Reading.{is_owise_role, told, then_of, tokens_of, read_at, lists_of, first_token, divided_at}
use Rattle.mw_module.specs.Sortings.{WrittenSort, seen_sorting, seen_sortings, sorting_of, sortings_of}
use Rattle.mw_module.specs.Classes.{class_form}
use Rattle.mw_module.specs.Words.{seen_lists, is, texts, count_before}

-- `sort` and `sorts`: names
abbrev pub sorts_form : List Token → Shaped
sorts_form [] = Err Bad
sorts_form (t ∷ ts) = then_of (read_at place.Sorts role.Silent want.Nothing (t ∷ ts)) (λ parts. Ok (Sorts (texts (t ∷ ts))))

-- two groups at least
abbrev pub grouped : List Token → List Part → Shaped
grouped ts [] = Err Bad
grouped ts (p ∷ []) = Err Bad
grouped ts (p ∷ q ∷ ps) = Ok (Subsorts (map texts (lists_of ts (p ∷ q ∷ ps))))

-- `subsort` and `subsorts`: groups of sorts, divided by one `<` at least
abbrev pub subsorts_form : List Token → Shaped
subsorts_form ts = then_of (read_at place.Group role.Words want.Nothing ts) (grouped ts)

abbrev pub typed : List Token → Option Token → Shaped
typed names None = Err Bad
typed names (Some sort) = Ok (Variables (texts names) sort.text)

-- names of variables, and what stands behind the colon: a sort and nothing more
abbrev pub typed_names : List Token → List Token → Shaped
typed_names [] ts = Err Bad
typed_names (t ∷ names) ts = then_of (read_at place.Variables role.Silent want.Nothing (t ∷ names)) (λ none.
    then_of (read_at place.Sort role.Silent want.Nothing ts) (λ parts. typed (t ∷ names) (first_token ts parts)))

-- `var` and `vars`: names, the first colon, and a sort
abbrev pub variables_form : List Token → Shaped
variables_form ts = let colon = count_before (codes ":") ts in
    if colon == length ts then Err Bad else typed_names (take colon ts) (drop (colon + 1) ts)

-- what the attribute says that a part is
abbrev pub said_by : List Token → Part → Attributes
said_by ts p = said_as p.role (tokens_of ts p) (drop p.to ts)

-- what attributes say, one after the other, joined with what was said before
abbrev pub said_from : List Token → Attributes → List Part → Attributes
said_from ts said [] = said
said_from ts said (p ∷ ps) = said_from ts (joined said (said_by ts p)) ps

-- a value's sort and what is said of the operators
pub record Value : Type 0 where
  pub sort : WrittenSort
  pub attributes : Attributes

abbrev pub seen_value : HeldValue → Value
seen_value v = record { sort = seen_sorting v.sort; attributes = seen_attributes v.attributes }

abbrev pub seen_valued : Result HeldValue Wrong → Result Value Wrong
seen_valued (Ok v) = Ok (seen_value v)
seen_valued (Err wrong) = Err wrong

-- what attributes say, or how they are wrong
abbrev pub seen_said : Result HeldAttributes Wrong → Result Attributes Wrong
seen_said (Ok a) = Ok (seen_attributes a)
seen_said (Err wrong) = Err wrong

-- a list with one attribute at least, if there is one
abbrev pub said_behind : List Token → List Part → Result Attributes Wrong
said_behind ts [] = Ok no_attributes
said_behind ts (list ∷ []) = Err Bad
said_behind ts (list ∷ p ∷ ps) = Ok (said_from ts no_attributes (p ∷ ps))

-- the value, with attributes
abbrev pub valued_with : List WrittenSort → Attributes → Result Value Wrong
valued_with [] said = Err Bad
valued_with (s ∷ ss) said = Ok (record { sort = s; attributes = said })

-- a value's part, and a list with one attribute at least, if there is one
abbrev pub valued : Bool → List Token → List Part → Result Value Wrong
valued kinds ts [] = Err Bad
valued kinds ts (v ∷ ps) = then_of (said_behind ts ps) (valued_with (sorting_of kinds ts v))

-- what comes behind the arrow: a sort, and attributes, of operators with so many arguments
abbrev pub value_form : Bool → ℕ → List Token → Result Value Wrong
value_form kinds arity ts = then_of (read_at place.Value role.Silent (want.Marks arity) ts) (valued kinds ts)

-- what comes behind the names
pub record Profile : Type 0 where
  pub args : List WrittenSort
  pub value : Value

abbrev pub seen_profile : HeldProfile → Profile
seen_profile p = record { args = seen_sortings p.args.items; value = seen_value p.value }

abbrev pub seen_profiled : Result HeldProfile Wrong → Result Profile Wrong
seen_profiled (Ok p) = Ok (seen_profile p)
seen_profiled (Err wrong) = Err wrong

-- the sort of messages stands in front, where it is asked for
abbrev pub fits_message : Bool → List Token → Bool
fits_message message [] = not message
fits_message message (t ∷ ts) = not message || is (codes "Msg") t

-- what comes behind sorts of arguments, one for each hole of a name with holes, where there is an arrow: the sort of messages where it is asked for
abbrev pub profiled : Bool → Bool → List (List Token) → List WrittenSort → Bool → List Token → Result Profile Wrong
profiled message kinds names args arrow ts = if not arrow || not (all_fit (length args) names) then Err Bad
    else if not (fits_message message ts) then Err Bad
    else then_of (value_form kinds (length args) ts) (λ (v : Value). Ok (record { args = args; value = v }))

-- what comes behind operators' names: sorts, the first arrow, and the rest; with the arrow `~>` all sorts are kinds
abbrev pub profile_form : Bool → List (List Token) → List Token → Result Profile Wrong
profile_form message names ts =
    let total = count_before (codes "->") ts in
    let partial = count_before (codes "~>") ts in
    let arrow = min total partial in
    let kinds = nat_lt partial total in
    then_of (read_at place.Args role.Silent want.Nothing (take arrow ts)) (λ parts.
    profiled message kinds names (sortings_of kinds (take arrow ts) parts) (not (arrow == length ts)) (drop (arrow + 1) ts))

-- operators with these names, of which there is one at least
abbrev pub declared : Bool → List (List Token) → List Token → Shaped
declared message [] ts = Err Bad
declared message (n ∷ ns) ts = then_of (profile_form message (n ∷ ns) ts) (λ (p : Profile). Ok (Operators (map texts (n ∷ ns)) p.args p.value.sort p.value.attributes))

abbrev pub seen_names : Result (Vec (Bor (List Token))) Wrong → Result (List (List Token)) Wrong
seen_names (Ok names) = Ok (seen_lists names.items)
seen_names (Err wrong) = Err wrong

-- the names of operators: a single one, or several, each a token or a group in parentheses
abbrev pub names_form : Bool → List Token → Result (List (List Token)) Wrong
names_form single ts = then_of (read_at (if single then place.Name else place.Names) role.Words want.Names ts) (λ parts. Ok (lists_of ts parts))

-- one operator, or several, which may be messages
abbrev pub asked : Bool → Bool → Asked
asked single message = record { single = single; message = message }

-- `op`, `ops`, `msg` and `msgs`: names, the first colon, and what comes behind
abbrev pub operators_form : Asked → List Token → Shaped
operators_form a ts =
    let colon = count_before (codes ":") ts in
    if colon == length ts then Err Bad else then_of (names_form a.single (take colon ts)) (λ names. declared a.message names (drop (colon + 1) ts))

-- the fragments of a condition, where there is one
abbrev pub fragments_form : Option (List Token) → Condition
fragments_form None = Ok []
fragments_form (Some ts) = condition_form ts

-- the part is the word `owise`
abbrev pub is_owise : Part → Bool
is_owise p = is_owise_role p.role

-- Whether a statement is executable, with these parts of its attributes, `nonexec` and `owise` alone. Equations with `owise` aren't read yet, and rules have
-- none.
abbrev pub executable_with : Bool → List Part → Result Bool Wrong
executable_with rule ps = if list_any is_owise ps then Err (if rule then Bad else Unread) else Ok (length ps == 0)

-- the same by its attributes
abbrev pub executable_by : Bool → List Token → Result Bool Wrong
executable_by rule said = then_of (read_at place.Statement role.Silent want.Nothing said) (executable_with rule)

-- two sides, and what comes behind them: a condition, if there is one, and attributes
abbrev pub sided : Bool → Option (List Token × List Token) → Option (List Token) → List Token → Shaped
sided rule None condition said = Err Bad
sided rule (Some sides) condition said = then_of (fragments_form condition) (λ fragments.
    then_of (executable_by rule said) (λ executable. Ok (Statement rule sides.0 sides.1 fragments executable)))

-- the place where a left side begins: that of an equation ends at a `=`, that of a rule at a `=>`
abbrev pub left_place : Bool → Place
left_place false = place.Left
left_place true = place.RuleLeft

-- the same by the tokens of the sides; what is wrong with them is told first, and then what is wrong with the condition
abbrev pub sides_form : Bool → List Token → Option (List Token) → List Token → Shaped
sides_form rule sides condition said = sided rule (divided_at (left_place rule) sides) condition said

-- sides and a condition, where there is one `if` between them
abbrev pub conditional : Bool → Option (List Token × List Token) → List Token → Shaped
conditional rule None said = Err Bad
conditional rule (Some cut) said = sides_form rule cut.0 (Some cut.1) said

-- what an equation or a rule, with a condition or without, states in front of these attributes
abbrev pub stated : Bool → Bool → List Token → List Token → Shaped
stated rule true ts said = conditional rule (cut_at_if ts) said
stated rule false ts said = sides_form rule ts None said

-- `eq`, `ceq`, `cq`, `rl` and `crl`: a label, two sides, a condition behind `if` where the word asks for one, and attributes
abbrev pub statement_form : Bool → Bool → List Token → Shaped
statement_form rule with_condition ts = let us = unlabelled ts in let n = attributes_len us in
    stated rule with_condition (take (length us - n) us) (group_at_end n us)

-- an import: a module's name and nothing more; module expressions aren't read
abbrev pub import_form : List Token → Shaped
import_form [] = Err Bad
import_form (t ∷ []) = if is (codes "{") t then Err Unread else Ok (Import t.text)
import_form (t ∷ u ∷ ts) = Err Unread

-- what stands behind the first word of a statement
abbrev pub form_behind : Opening → List Token → Shaped
form_behind opening.Sorts ts = sorts_form ts
form_behind opening.Subsorts ts = subsorts_form ts
form_behind opening.Operator ts = operators_form (asked true false) ts
form_behind opening.Operators ts = operators_form (asked false false) ts
form_behind opening.Variables ts = variables_form ts
form_behind opening.Equation ts = statement_form false false ts
form_behind opening.ConditionalEquation ts = statement_form false true ts
form_behind opening.Rule ts = statement_form true false ts
form_behind opening.ConditionalRule ts = statement_form true true ts
form_behind opening.Import ts = import_form ts
form_behind opening.Class ts = class_form ts
form_behind opening.Message ts = operators_form (asked true true) ts
form_behind opening.Messages ts = operators_form (asked false true) ts
form_behind opening.Elsewhere ts = Err Bad
form_behind opening.Unread ts = Err Unread

abbrev pub formed : Shaped → Formed
formed (Ok shape) = Ok shape
formed (Err wrong) = Err (told wrong)

-- the form of a statement of a module of this kind, or what is wrong with it; its full stop isn't among the tokens
abbrev pub form_of : Kind → List Token → Formed
form_of k [] = Err NotInProfile
form_of k (t ∷ rest) = formed (form_behind (opening_of k t.text) rest)

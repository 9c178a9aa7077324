-- What may be wrong with a module's declarations: a variable that is declared again with another sort, a sort that isn't declared, and an operator with
-- axioms that aren't kept, or of which different attributes are said.
use Rattle.std.specs.Prelude.{ℕ, List, [], ◌∷◌, ◌++◌, ◌&&◌, length, map, Option, Some, None, option_map, Result, Ok, Err, bytes_eq, if◌then◌else◌}
use Rattle.std.specs.Option.{option_or}
use Rattle.mw_logic.specs.Term.{Variable}
use Rattle.mw_logic.specs.Signature.{Signature}
use Rattle.mw_logic.specs.Accepted.{is_accepted_operator}
use Rattle.mw_module.specs.Forms.{Shape, Sorts, Subsorts, Operators, Variables, Statement, Import, Class}
use Rattle.mw_module.specs.Sortings.{WrittenSort}
use Rattle.mw_module.specs.declared.faults.Fault.{Fault}
use Rattle.mw_module.specs.declared.faults.FaultKind.{FaultKind}
use Rattle.mw_module.specs.declared.faults.FaultKind.TheVariants.{AlreadyDefined, UnknownSort, BadAxioms, AttributesDisagree}
use Rattle.mw_module.specs.Units.{SeenLined}
use Rattle.mw_declare.specs.declared.built.Built.{Built}
use Rattle.mw_declare.specs.Meaning.{Name, is_among, number_of}
use Rattle.mw_declare.specs.Freezing.{are_in_range}
use Rattle.mw_declare.specs.Hierarchy.{Hierarchy}
use Rattle.mw_declare.specs.Operators.{Declared, operator_of, signature_with}

-- variables' names, each with the name of its sort
abbrev pub Typing : Type 0
Typing = List (Name × Name)

abbrev pub sort_in : Typing → Name → Option Name
sort_in [] n = None
sort_in (e ∷ es) n = if bytes_eq n e.0 then Some e.1 else sort_in es n

-- with one variable more, unless it is there; a fault at a line, where it is there with another sort
abbrev pub joined : ℕ → Option Name → Typing → Name → Name → Result Typing Fault
joined line None es n S = Ok (es ++ (n, S) ∷ [])
joined line (Some T) es n S = if bytes_eq T S then Ok es else Err (record { line = line; kind = AlreadyDefined n })

-- with variables of one sort
abbrev pub typed : ℕ → Result Typing Fault → List Name → Name → Result Typing Fault
typed line (Err f) ns S = Err f
typed line (Ok es) [] S = Ok es
typed line (Ok es) (n ∷ ns) S = typed line (joined line (sort_in es n) es n S) ns S

abbrev pub typed_by : Typing → ℕ → Shape → Result Typing Fault
typed_by es line (Sorts names) = Ok es
typed_by es line (Subsorts groups) = Ok es
typed_by es line (Operators names args result said) = Ok es
typed_by es line (Variables names sort) = typed line (Ok es) names sort
typed_by es line (Statement rule left right fragments executable) = Ok es
typed_by es line (Import m) = Ok es
typed_by es line (Class c as_) = Ok es

abbrev pub typing_from : Result Typing Fault → List SeenLined → Result Typing Fault
typing_from (Err f) ss = Err f
typing_from (Ok es) [] = Ok es
typing_from (Ok es) (s ∷ ss) = typing_from (typed_by es s.line s.shape) ss

-- the variables of a module, or the first that is declared again with another sort
abbrev pub typing_of : List SeenLined → Result Typing Fault
typing_of ss = typing_from (Ok []) ss

abbrev pub variables_with : List Name → Typing → List Variable
variables_with sorts es = map (λ (e : Name × Name). record { name = e.0; sort = number_of sorts e.1 }) es

-- the first of these names that isn't a sort's
abbrev pub unknown_among : List Name → List Name → Option Name
unknown_among sorts [] = None
unknown_among sorts (n ∷ ns) = if is_among sorts n then unknown_among sorts ns else Some n

abbrev pub mentioned_in : List (List Name) → List Name
mentioned_in [] = []
mentioned_in (g ∷ gs) = g ++ mentioned_in gs

abbrev pub name_in : WrittenSort → Name
name_in s = s.name

abbrev pub mentioned_by : List WrittenSort → WrittenSort → List Name
mentioned_by args result = map name_in args ++ name_in result ∷ []

-- the sorts that a statement mentions, from the left
abbrev pub mentioned : Shape → List Name
mentioned (Sorts names) = []
mentioned (Subsorts groups) = mentioned_in groups
mentioned (Operators names args result said) = mentioned_by args result
mentioned (Variables names sort) = sort ∷ []
mentioned (Statement rule left right fragments executable) = []
mentioned (Import m) = []
mentioned (Class c as_) = []

abbrev pub unknown_in : Option Name → ℕ → Option Fault → Option Fault
unknown_in None line other = other
unknown_in (Some n) line other = Some (record { line = line; kind = UnknownSort n })

-- the first of these statements' sorts that isn't declared
abbrev pub unknown_from : List Name → List SeenLined → Option Fault
unknown_from sorts [] = None
unknown_from sorts (s ∷ ss) = unknown_in (unknown_among sorts (mentioned s.shape)) s.line (unknown_from sorts ss)

-- what is wrong with an operator: axioms that aren't kept, or don't fit its kinds, or an identity that isn't there, or frozen arguments that are none; or else different identities, precedences
-- or gathers that are said of it
abbrev pub wrong_with : Signature → Built → List Declared → Declared → Option FaultKind
wrong_with sig b os o = if is_accepted_operator sig (operator_of b os o) && are_in_range (length o.profile.args) o.attributes then (if o.attributes.clash then Some (AttributesDisagree o.profile.spelling) else None)
    else Some (BadAxioms o.profile.spelling)

-- the same of the first of these, among all operators, with which something is wrong
abbrev pub wrong_among : Signature → Built → List Declared → List Declared → Option FaultKind
wrong_among sig b all [] = None
wrong_among sig b all (o ∷ os) = option_or (wrong_with sig b all o) (wrong_among sig b all os)

-- what is wrong with the first operator with which something is
abbrev pub operator_fault : Built → Hierarchy → List Declared → Option FaultKind
operator_fault b h os = wrong_among (signature_with b h os) b os os

-- a fault of this kind, at a line
abbrev pub told_at : ℕ → Option FaultKind → Option Fault
told_at line kind = option_map (λ (k : FaultKind). let f : Fault = record { line = line; kind = k } in f) kind

-- The units of a source.
use Rattle.std.specs.Prelude.{◌≡◌, ◌<◌, ◌≤◌, ℕ, Bool, true, false, List, [], ◌∷◌, ◌++◌, ◌+◌, ◌-◌, ◌==◌, nat_lt, length, take, drop, map, Option, None, Some, option_map, Result, Ok, Err, if◌then◌else◌, codes}
use Rattle.std.specs.Borrow.{Bor}
use Rattle.std.specs.Global.{Vec}
use Rattle.mw_lex.specs.declared.token.Token.{Token}
use Rattle.mw_logic.specs.Signature.{Member}
use Rattle.mw_module.specs.declared.faults.Fault.{Fault}
use Rattle.mw_module.specs.declared.faults.FaultKind.{FaultKind}
use Rattle.mw_module.specs.declared.faults.FaultKind.TheVariants.{NotInProfile, BadStatement}
use Rattle.mw_module.specs.declared.kinds.Kind.{Kind}
use Rattle.mw_module.specs.declared.kinds.Kind.TheVariants as kind
use Rattle.mw_module.specs.declared.units.Unit.{Unit as SourceUnit}
use Rattle.mw_module.specs.declared.units.Lined.{Lined}
use Rattle.mw_module.specs.declared.units.Stated.{Stated}
use Rattle.mw_module.specs.Forms.{Shape, shape_of, Formed, form_of}
use Rattle.mw_module.specs.Kinds.{kind_of, end_word, unended}
use Rattle.mw_module.specs.Words.{is, begins, count_before}

-- a statement's form, with the line of its first token
pub record SeenLined : Type 0 where
  pub line : ℕ
  pub shape : Shape

-- a statement as its readers see it
abbrev pub seen_lined : Lined → SeenLined
seen_lined s = record { line = s.line; shape = shape_of s.form }

-- statements as their readers see them
abbrev pub seen_statements : List Lined → List SeenLined
seen_statements = map seen_lined

-- a statement among those of several modules
abbrev pub seen_stated : Stated → SeenLined
seen_stated s = record { line = s.line; shape = shape_of s.form.now }

-- such statements as their readers see them
abbrev pub seen_all : List Stated → List SeenLined
seen_all = map seen_stated

-- each form of the first statements is one of the second
abbrev pub IsWithin : List SeenLined → List SeenLined → Type 0
IsWithin ss ts = (s : SeenLined) → Member s ss → (t : SeenLined) × Member t ts × (t.shape ≡ s.shape)

-- a unit as its readers see it
pub record SeenUnit : Type 0 where
  pub line : ℕ
  pub word : List ℕ
  pub name : Option Token
  pub statements : List SeenLined
  -- all tokens before the one that ends it
  pub tokens : List Token

-- a unit as its readers see it
abbrev pub seen_unit : SourceUnit → SeenUnit
seen_unit u = record {
  line = u.line;
  word = u.word.now;
  name = option_map (λ (t : Bor Token). t.now) u.name;
  statements = seen_statements u.statements.items;
  tokens = u.tokens.now;
}

-- a statement by the line of its first token, and its tokens before the full stop
pub record Statement : Type 0 where
  pub line : ℕ
  pub tokens : List Token

-- a body's statements, each up to the first full stop, and what stands behind the last full stop
pub record Cut : Type 0 where
  pub statements : List Statement
  pub left : List Token

-- a token before the first statement, or before what is left where there is none
abbrev pub with_token : Token → List Statement → List Token → Cut
with_token t [] left = record { statements = []; left = t ∷ left }
with_token t (s ∷ ss) left = record { statements = record { line = t.line; tokens = t ∷ s.tokens } ∷ ss; left = left }

abbrev pub cut : List Token → Cut
cut [] = record { statements = []; left = [] }
cut (t ∷ rest) = let behind = cut rest in
    if is (codes ".") t then record { statements = record { line = t.line; tokens = [] } ∷ behind.statements; left = behind.left }
    else with_token t behind.statements behind.left

-- a body's statements, or its first fault
abbrev pub Body : Type 0
Body = Result (List SeenLined) Fault

-- the statements, or the fault, as their readers see them
abbrev pub seen_body : Result (Vec Lined) Fault → Body
seen_body (Ok statements) = Ok (seen_statements statements.items)
seen_body (Err fault) = Err fault

-- these statements before the others; a fault stays
abbrev pub with_statements : List SeenLined → Body → Body
with_statements statements (Ok others) = Ok (statements ++ others)
with_statements statements (Err fault) = Err fault

-- a statement before the others
abbrev pub with_statement : ℕ → Formed → Body → Body
with_statement line (Ok shape) others = with_statements (record { line = line; shape = shape } ∷ []) others
with_statement line (Err kind) others = Err (record { line = line; kind = kind })

-- in a module of this kind
abbrev pub statements_before : Kind → List Statement → Body → Body
statements_before k [] others = others
statements_before k (s ∷ ss) others = with_statement s.line (form_of k s.tokens) (statements_before k ss others)

-- what is wrong with a statement of this form that no full stop ends: what else is wrong comes first
abbrev pub kind_unended : Formed → FaultKind
kind_unended (Ok shape) = BadStatement
kind_unended (Err kind) = kind

abbrev pub left_of : Kind → List Token → Body
left_of k [] = Ok []
left_of k (t ∷ rest) = Err (record { line = t.line; kind = kind_unended (form_of k (t ∷ rest)) })

-- a body: its statements one after the other
abbrev pub body_of : Kind → List Token → Body
body_of k ts = statements_before k (cut ts).statements (left_of k (cut ts).left)

-- a brace stands before the first `is`
abbrev pub has_brace : List Token → Bool
has_brace ts = nat_lt (count_before (codes "{") ts) (count_before (codes "is") ts)

-- what is wrong with a module's name and what stands behind it
abbrev pub head_fault : Token → List Token → Option FaultKind
head_fault name behind = if is (codes "{") name then Some NotInProfile
    else if begins (codes "is") behind then None
    else if has_brace behind then Some NotInProfile else Some BadStatement

-- a unit, or what is wrong
abbrev pub Outcome : Type 0
Outcome = Result SeenUnit Fault

-- the unit, or the fault, as its readers see it
abbrev pub seen_outcome : Result SourceUnit Fault → Outcome
seen_outcome (Ok unit) = Ok (seen_unit unit)
seen_outcome (Err fault) = Err fault

-- a module with this name and this body, by its tokens
abbrev pub module_with : List Token → Token → Token → Body → Outcome
module_with ts first name (Ok statements) = Ok (record { line = first.line; word = first.text; name = Some name; statements = statements; tokens = ts })
module_with ts first name (Err fault) = Err fault

-- a module with a name, where nothing is wrong with it and `is`
abbrev pub module_named : Kind → List Token → Token → Token → List Token → Option FaultKind → Outcome
module_named k ts first name behind None = module_with ts first name (body_of k (drop 1 behind))
module_named k ts first name behind (Some wrong) = Err (record { line = first.line; kind = wrong })

-- a module behind its first word: its name, `is`, and statements
abbrev pub module_behind : Kind → List Token → Token → List Token → Outcome
module_behind k ts first [] = Err (record { line = first.line; kind = BadStatement })
module_behind k ts first (name ∷ behind) = module_named k ts first name behind (head_fault name behind)

-- a unit of this kind, by its first token and all its tokens before the last
abbrev pub unit_with : Kind → Token → List Token → Outcome
unit_with kind.Functional first ts = module_behind kind.Functional ts first (drop 1 ts)
unit_with kind.System first ts = module_behind kind.System ts first (drop 1 ts)
unit_with kind.Object first ts = module_behind kind.Object ts first (drop 1 ts)
unit_with kind.FunctionalTheory first ts = Err (record { line = first.line; kind = NotInProfile })
unit_with kind.SystemTheory first ts = Err (record { line = first.line; kind = NotInProfile })
unit_with kind.ObjectTheory first ts = Err (record { line = first.line; kind = NotInProfile })
unit_with kind.View first ts = Err (record { line = first.line; kind = NotInProfile })
unit_with kind.Strategy first ts = Err (record { line = first.line; kind = NotInProfile })
unit_with kind.Proof first ts = Ok (record { line = first.line; word = first.text; name = None; statements = []; tokens = ts })
unit_with kind.Command first ts = Ok (record { line = first.line; word = first.text; name = None; statements = []; tokens = ts })

-- a unit or what is wrong with it, and how many tokens it has
pub record Reading : Type 0 where
  pub outcome : Outcome
  pub len : ℕ

-- a unit of this kind goes to the first token that ends it; else the input ends in it
abbrev pub reading_of : Kind → Token → List Token → Reading
reading_of kind first ts = let n = count_before (end_word kind) ts in
    if n == length ts then record { outcome = Err (record { line = first.line; kind = unended kind }); len = n }
    else record { outcome = unit_with kind first (take n ts); len = n + 1 }

-- the unit at the front of these tokens, if there are any
abbrev pub front_unit : Bool → List Token → Option Reading
front_unit proofs [] = None
front_unit proofs (t ∷ rest) = Some (reading_of (kind_of proofs t.text) t (t ∷ rest))

-- the unit at this place is this one, or at fault so, and the next one begins there
pub record Reads (proofs : Bool) (tokens : List Token) (at : ℕ) (outcome : Outcome) (next : ℕ) : Type 0 where
  pub reading : front_unit proofs (drop at tokens) ≡ Some (record { outcome = outcome; len = next - at })
  pub further : at < next
  pub within : next ≤ length tokens

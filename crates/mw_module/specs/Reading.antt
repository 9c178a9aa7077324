-- Statements, and pieces of statements, by the table.
use Rattle.std.specs.Prelude.{ℕ, Bool, true, false, List, [], ◌∷◌, ◌++◌, ◌+◌, ◌-◌, ◌&&◌, ◌||◌, not, nat_eq, take, drop, length, map, Option, None, Some, Result, Ok, Err, if◌then◌else◌}
use Rattle.std.specs.Bool.{⊤}
use Rattle.std.specs.Global.{Vec}
use Rattle.std.specs.List.{list_all}
use Rattle.std.specs.Str.{bytes_eq}
use Rattle.mw_lex.specs.declared.token.Token.{Token}
use Rattle.mw_module.specs.declared.faults.FaultKind.{FaultKind}
use Rattle.mw_module.specs.declared.faults.FaultKind.TheVariants.{NotInProfile, BadStatement}
use Rattle.mw_module.specs.declared.machine.Part.{Part}
use Rattle.mw_module.specs.declared.machine.State.{State as HeldState}
use Rattle.mw_module.specs.declared.table.Place.{Place}
use Rattle.mw_module.specs.declared.table.Act.{Act}
use Rattle.mw_module.specs.declared.table.Act.TheVariants.{Skip, Deeper, Shallower, Close, After, Next, One}
use Rattle.mw_module.specs.declared.table.Test.{Test}
use Rattle.mw_module.specs.declared.table.Test.TheVariants as test
use Rattle.mw_module.specs.declared.table.Role.{Role}
use Rattle.mw_module.specs.declared.table.Role.TheVariants as role
use Rattle.mw_module.specs.declared.table.Want.{Want}
use Rattle.mw_module.specs.declared.table.Want.TheVariants as want
use Rattle.mw_module.specs.declared.table.Wrong.{Wrong}
use Rattle.mw_module.specs.declared.table.Wrong.TheVariants.{Bad, Unread}
use Rattle.mw_module.specs.declared.table.End.{End}
use Rattle.mw_module.specs.declared.table.End.TheVariants.{Never, Free, Closes}
use Rattle.mw_text.specs.Numerals.{are_digits}
use Rattle.mw_module.specs.Attributes.{is_mark, is_precedence}
use Rattle.mw_module.specs.OperatorNames.{items_in, is_name}
use Rattle.mw_module.specs.Rows.{Row, entry}
use Rattle.mw_module.specs.Words.{is_punctuation_word, is_quoted, is_whole_string}

-- the fault that is told
abbrev pub told : Wrong → FaultKind
told Bad = BadStatement
told Unread = NotInProfile

-- what is read next, where nothing is wrong
abbrev pub then_of : {A B : Type 0} → Result A Wrong → (A → Result B Wrong) → Result B Wrong
then_of (Ok a) next = next a
then_of (Err wrong) next = Err wrong

-- the tokens of a part
abbrev pub tokens_of : List Token → Part → List Token
tokens_of ts p = take (p.to - p.from) (drop p.from ts)

-- where the reading stands: the place, how many levels are open, what the open part is and where it begins, and the
-- parts that are closed
pub record State : Type 0 where
  pub place : Place
  pub depth : ℕ
  pub role : Role
  pub from : ℕ
  pub parts : List Part

abbrev pub seen_state : HeldState → State
seen_state s = record { place = s.place; depth = s.depth; role = s.role; from = s.from; parts = s.parts.items }

-- the state where nothing is wrong, as its readers see it
abbrev pub seen_outcome : Result ⊤ Wrong → HeldState → Result State Wrong
seen_outcome (Ok u) s = Ok (seen_state s)
seen_outcome (Err wrong) s = Err wrong

abbrev pub passes : Test → ℕ → List ℕ → Bool
passes test.Any depth text = true
passes test.Outside depth text = nat_eq depth 0
passes test.Plain depth text = not (is_punctuation_word text)
passes test.Run depth text = not (is_punctuation_word text) && not (is_quoted text)
passes test.Precedence depth text = is_precedence text
passes test.Text depth text = is_whole_string text
passes test.Digits depth text = are_digits text

-- a token with this text meets the row
abbrev pub meets : ℕ → List ℕ → Row → Bool
meets depth text r = (nat_eq (length r.word) 0 || bytes_eq text r.word) && passes r.test depth text

-- the first row that it meets
abbrev pub row_for : ℕ → List ℕ → List Row → Option Row
row_for depth text [] = None
row_for depth text (r ∷ rs) = if meets depth text r then Some r else row_for depth text rs

abbrev pub is_gather : Role → Bool
is_gather role.Gather = true
is_gather role.Words = false
is_gather (role.Sort kind) = false
is_gather role.Silent = false
is_gather role.Config = false
is_gather role.Precedence = false
is_gather role.Assoc = false
is_gather role.Comm = false
is_gather role.Identity = false
is_gather role.Frozen = false
is_gather role.Nonexec = false
is_gather role.Owise = false

abbrev pub is_owise_role : Role → Bool
is_owise_role role.Owise = true
is_owise_role role.Words = false
is_owise_role (role.Sort kind) = false
is_owise_role role.Silent = false
is_owise_role role.Config = false
is_owise_role role.Precedence = false
is_owise_role role.Assoc = false
is_owise_role role.Comm = false
is_owise_role role.Identity = false
is_owise_role role.Gather = false
is_owise_role role.Frozen = false
is_owise_role role.Nonexec = false

-- a mark for each argument, and one at least
abbrev pub has_marks : ℕ → List Token → Bool
has_marks arity ts = not (nat_eq arity 0) && nat_eq (length ts) arity && list_all is_mark ts

-- tokens that may be a part
abbrev pub is_fine : Want → Role → List Token → Bool
is_fine want.Nothing role ts = true
is_fine want.Names role ts = is_name (items_in ts)
is_fine (want.Marks arity) role ts = not (is_gather role) || has_marks arity ts

-- one part more is closed, and the next one can't begin before its end
abbrev pub closed : List Token → Want → Part → State → Result State Wrong
closed ts want p s = if is_fine want p.role (tokens_of ts p) then Ok (record s { from = p.to; parts = s.parts ++ p ∷ [] }) else Err Bad

-- the open part ends in front of the token at number i
abbrev pub closed_open : List Token → Want → ℕ → State → Result State Wrong
closed_open ts want i s = closed ts want (record { role = s.role; from = s.from; to = i }) s

-- a part is opened behind the token at number i
abbrev pub opened : Role → ℕ → State → State
opened r i s = record s { role = r; from = i + 1 }

-- what becomes of the token at number i
abbrev pub taken : List Token → Want → Act → ℕ → State → Result State Wrong
taken ts want Skip i s = Ok s
taken ts want Deeper i s = Ok (record s { depth = s.depth + 1 })
taken ts want Shallower i s = Ok (record s { depth = s.depth - 1 })
taken ts want Close i s = closed_open ts want i s
taken ts want (After r) i s = Ok (opened r i s)
taken ts want (Next r) i s = then_of (closed_open ts want i s) (λ (t : State). Ok (opened r i t))
taken ts want (One r) i s = closed ts want (record { role = r; from = i; to = i + 1 }) s

-- the place of the next token
abbrev pub placed : Result Place Wrong → State → Result State Wrong
placed (Ok place) s = Ok (record s { place = place })
placed (Err wrong) s = Err wrong

-- by the row of the token at number i
abbrev pub followed : List Token → Want → ℕ → State → Option Row → Result State Wrong
followed ts want i s None = Err Bad
followed ts want i s (Some r) = then_of (taken ts want r.act i s) (placed r.next)

abbrev pub stepped : List Token → Want → ℕ → Token → State → Result State Wrong
stepped ts want i t s = followed ts want i s (row_for s.depth t.text (entry s.place).rows)

-- the parts, or what is wrong
abbrev pub Parts : Type 0
Parts = Result (List Part) Wrong

-- the parts of a state where nothing is wrong, as its readers see them
abbrev pub seen_ended : Result ⊤ Wrong → HeldState → Parts
seen_ended (Ok u) s = Ok s.parts.items
seen_ended (Err wrong) s = Err wrong

abbrev pub seen_parts : Result (Vec Part) Wrong → Parts
seen_parts (Ok parts) = Ok parts.items
seen_parts (Err wrong) = Err wrong

abbrev pub ended : List Token → Want → End → State → Parts
ended ts want Never s = Err Bad
ended ts want Free s = Ok s.parts
ended ts want Closes s = then_of (closed_open ts want (length ts) s) (λ (t : State). Ok t.parts)

-- the parts of a piece whose last tokens, from number i on, are these
abbrev pub reading : List Token → Want → ℕ → State → List Token → Parts
reading ts want i s [] = ended ts want (entry s.place).end s
reading ts want i s (t ∷ rest) = then_of (stepped ts want i t s) (λ (u : State). reading ts want (i + 1) u rest)

-- the parts of a piece that begins at this place, where a part of this role is open
abbrev pub read_at : Place → Role → Want → List Token → Parts
read_at place role want ts = reading ts want 0 (record { place = place; depth = 0; role = role; from = 0; parts = [] }) ts

-- the tokens of each part
abbrev pub lists_of : List Token → List Part → List (List Token)
lists_of ts parts = map (tokens_of ts) parts

abbrev pub front : List Token → Option Token
front [] = None
front (t ∷ rest) = Some t

-- the first token of the first part
abbrev pub first_token : List Token → List Part → Option Token
first_token ts [] = None
first_token ts (p ∷ ps) = front (tokens_of ts p)

-- the tokens of the first two parts
abbrev pub halves : List Token → List Part → Option (List Token × List Token)
halves ts [] = None
halves ts (p ∷ []) = None
halves ts (p ∷ q ∷ ps) = Some (tokens_of ts p, tokens_of ts q)

abbrev pub divided : List Token → Parts → Option (List Token × List Token)
divided ts (Ok parts) = halves ts parts
divided ts (Err wrong) = None

-- the two parts of a piece that begins at this place, or none where it isn't of the form
abbrev pub divided_at : Place → List Token → Option (List Token × List Token)
divided_at place ts = divided ts (read_at place role.Words want.Nothing ts)

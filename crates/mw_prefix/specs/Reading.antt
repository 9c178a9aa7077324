-- Reading a form, a token at a time.
use Rattle.std.specs.Prelude.{ℕ, List, [], ◌∷◌, length, nat_lt, if◌then◌else◌, Option, Some, None, option_and_then}
use Rattle.mw_logic.specs.Term.{RawTerm, apply, RawTerms, nil, cons, join}
use Rattle.mw_logic.specs.Signature.{Signature}
use Rattle.mw_prefix.specs.Taking.{takes}
use Rattle.mw_prefix.specs.Words.{Word, opening, closing, comma, leaf, numbered, other, word_of}

-- an operator whose arguments are being read, with those that are read
pub record Frame : Type 0 where
  pub operator : ℕ
  pub done : RawTerms

abbrev pub frame : ℕ → RawTerms → Frame
frame f ts = record { operator = f; done = ts }

-- what was read last: nothing, an open parenthesis or a comma; an operator, which arguments may follow; or a term
pub data Last : Type 0 where
  nothing : Last
  named : ℕ → Last
  term : RawTerm → Last

-- the frames, the innermost first, and what was read last
pub record State : Type 0 where
  pub frames : List Frame
  pub last : Last

abbrev pub state : List Frame → Last → State
state fs l = record { frames = fs; last = l }

-- one more argument
abbrev pub with_last : RawTerms → RawTerm → RawTerms
with_last ts t = join ts (cons t nil)

abbrev pub at_comma : List Frame → RawTerm → Option State
at_comma [] t = None
at_comma (c ∷ fs) t = Some (state (frame c.operator (with_last c.done t) ∷ fs) nothing)

-- an operator on arguments, where it takes these
abbrev pub taken : Signature → ℕ → RawTerms → Option RawTerm
taken sig f ts = if takes sig f ts then Some (apply f ts) else None

abbrev pub constant : Signature → ℕ → Option RawTerm
constant sig f = taken sig f nil

-- a term, where there is one
abbrev pub with_term : List Frame → Option RawTerm → Option State
with_term fs None = None
with_term fs (Some t) = Some (state fs (term t))

abbrev pub at_closing : Signature → List Frame → RawTerm → Option State
at_closing sig [] t = None
at_closing sig (c ∷ fs) t = with_term fs (taken sig c.operator (with_last c.done t))

abbrev pub after_term : Signature → List Frame → RawTerm → Word → Option State
after_term sig fs t opening = None
after_term sig fs t closing = at_closing sig fs t
after_term sig fs t comma = at_comma fs t
after_term sig fs t (leaf u) = None
after_term sig fs t (numbered f) = None
after_term sig fs t other = None

abbrev pub after_constant : Signature → List Frame → ℕ → Word → Option State
after_constant sig fs f w = option_and_then (λ t. after_term sig fs t w) (constant sig f)

abbrev pub at_opening : List Frame → ℕ → Option State
at_opening fs f = if nat_lt (length fs) 999 then Some (state (frame f nil ∷ fs) nothing) else None

abbrev pub after_name : Signature → List Frame → ℕ → Word → Option State
after_name sig fs f opening = at_opening fs f
after_name sig fs f closing = after_constant sig fs f closing
after_name sig fs f comma = after_constant sig fs f comma
after_name sig fs f (leaf u) = after_constant sig fs f (leaf u)
after_name sig fs f (numbered g) = after_constant sig fs f (numbered g)
after_name sig fs f other = after_constant sig fs f other

abbrev pub after_nothing : List Frame → Word → Option State
after_nothing fs opening = None
after_nothing fs closing = None
after_nothing fs comma = None
after_nothing fs (leaf t) = Some (state fs (term t))
after_nothing fs (numbered f) = Some (state fs (named f))
after_nothing fs other = None

abbrev pub turn_by : Signature → List Frame → Last → Word → Option State
turn_by sig fs nothing w = after_nothing fs w
turn_by sig fs (named f) w = after_name sig fs f w
turn_by sig fs (term t) w = after_term sig fs t w

-- one more token
abbrev pub turn : Signature → State → List ℕ → Option State
turn sig s x = turn_by sig s.frames s.last (word_of sig x)

abbrev pub alone : Signature → Last → Option RawTerm
alone sig nothing = None
alone sig (named f) = constant sig f
alone sig (term t) = Some t

abbrev pub whole_by : Signature → List Frame → Last → Option RawTerm
whole_by sig [] l = alone sig l
whole_by sig (c ∷ fs) l = None

-- the term, where no parenthesis is open
abbrev pub whole : Signature → State → Option RawTerm
whole sig s = whole_by sig s.frames s.last

-- what is read of the tokens from a state on
abbrev pub run : Signature → State → List (List ℕ) → Option RawTerm
run sig s [] = whole sig s
run sig s (x ∷ xs) = option_and_then (λ r. run sig r xs) (turn sig s x)

abbrev pub read : Signature → List (List ℕ) → Option RawTerm
read sig tokens = run sig (state [] nothing) tokens

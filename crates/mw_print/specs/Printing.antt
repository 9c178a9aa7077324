-- Terms as they are printed, in mixfix form.
use Rattle.std.specs.Prelude.{ℕ, List, [], ◌∷◌, ◌++◌, map, length, codes, Bool, false, true, ◌==◌, ◌&&◌, not, nat_lt, nat_le, Option, None, Some, unwrap_or, if◌then◌else◌}
use Rattle.std.specs.Fmt.{decimal}
use Rattle.mw_logic.specs.Term.{RawTerm, numeral, quoted, variable, apply, RawTerms, nil, cons}
use Rattle.mw_logic.specs.Signature.{Signature, Operator, Gather, less, most, any, at_number}
use Rattle.mw_logic.specs.Parts.{is_assoc, nested, all_nested}
use Rattle.mw_logic.specs.Terms.{terms_of}
use Rattle.mw_text.specs.Names.{NameItem, piece, hole, items_of, has_hole, count_holes, pieces}
use Rattle.mw_print.specs.Tokens.{Token, token, opening, comma, spaced}

-- A term as it is printed: its precedence and its tokens, and the operator on top (0 for none) with the arguments of its prefix form. Where it is the last
-- argument of the same operator, and that is associative, these arguments are printed in its place: f(a, f(b, c)) is f(a, b, c).
pub record Printed : Type 0 where
  pub precedence : ℕ
  pub tokens : List Token
  pub operator : ℕ
  pub arguments : List (List Token)

-- one token, which has no operator on top
abbrev pub alone : List ℕ → Printed
alone x = record { precedence = 0; tokens = token x ∷ []; operator = 0; arguments = [] }

-- Mixfix forms. Some hole has the mark `less`.
abbrev pub has_less : List Gather → Bool
has_less [] = false
has_less (less ∷ gs) = true
has_less (most ∷ gs) = has_less gs
has_less (any ∷ gs) = has_less gs

-- The operator on so many arguments is printed in mixfix form: its name has holes, as many as there are arguments and marks. In a form of precedence 0 no
-- text fills a hole with the mark `less`, so such a form isn't used.
abbrev pub is_mixfix : Operator → ℕ → Bool
is_mixfix o n = has_hole (items_of o.spelling) && (count_holes (items_of o.spelling) == n && (length o.gather == n && not (o.prec == 0 && has_less o.gather)))

-- a hole with this mark, in a form of precedence p, takes texts of precedence q (as IsTaken says)
abbrev pub takes : Gather → ℕ → ℕ → Bool
takes less p q = nat_lt q p
takes most p q = nat_le q p
takes any p q = true

abbrev pub in_parentheses : List Token → List Token
in_parentheses text = token (codes "(") ∷ text ++ token (codes ")") ∷ []

-- an argument in a hole: in parentheses where the hole doesn't take its precedence
abbrev pub in_hole : Gather → ℕ → Printed → List Token
in_hole g p a = if takes g p a.precedence then a.tokens else in_parentheses a.tokens

-- the items of a form of precedence p: pieces as tokens, and an argument in each hole
abbrev pub in_holes : ℕ → List NameItem → List Gather → List Printed → List Token
in_holes p [] gs args = []
in_holes p (piece x ∷ items) gs args = token x ∷ in_holes p items gs args
in_holes p (hole ∷ items) [] args = in_holes p items [] args
in_holes p (hole ∷ items) (g ∷ gs) [] = in_holes p items (g ∷ gs) []
in_holes p (hole ∷ items) (g ∷ gs) (a ∷ args) = in_hole g p a ++ in_holes p items gs args

-- Prefix forms. What stands before the parenthesis: the pieces of a name without holes, or else the name's prefix spelling as one token.
abbrev pub head : Operator → List Token
head o = map token (if has_hole (items_of o.spelling) then o.spelling ∷ [] else pieces (items_of o.spelling))

-- arguments divided by commas
abbrev pub divided : List (List Token) → List Token
divided [] = []
divided (a ∷ []) = a
divided (a ∷ b ∷ args) = a ++ comma ∷ divided (b ∷ args)

-- a head, and arguments in parentheses where there are any
abbrev pub called : List Token → List (List Token) → List Token
called head [] = head
called head (a ∷ args) = head ++ opening ∷ divided (a ∷ args) ++ token (codes ")") ∷ []

-- it is an operator on arguments
abbrev pub has_arguments : Printed → Bool
has_arguments a = not (length a.arguments == 0)

-- the last argument of f, or its own arguments where f is on top of it
abbrev pub spread : ℕ → Printed → List (List Token)
spread f a = if a.operator == f && has_arguments a then a.arguments else a.tokens ∷ []

-- the arguments of f in prefix form; the last one is spread where f is associative
abbrev pub arguments_of : Bool → ℕ → List Printed → List (List Token)
arguments_of assoc f [] = []
arguments_of assoc f (a ∷ []) = if assoc then spread f a else a.tokens ∷ []
arguments_of assoc f (a ∷ b ∷ args) = a.tokens ∷ arguments_of assoc f (b ∷ args)

-- An operator on so many arguments has its own precedence in mixfix form, and 0 in prefix form. A number that is no operator's has no head.
abbrev pub precedence_of : Option Operator → ℕ → ℕ
precedence_of None n = 0
precedence_of (Some o) n = if is_mixfix o n then o.prec else 0

abbrev pub tokens_of : Option Operator → List Printed → List (List Token) → List Token
tokens_of None args listed = called [] listed
tokens_of (Some o) args listed = if is_mixfix o (length args) then in_holes o.prec (items_of o.spelling) o.gather args else called (head o) listed

-- the operator of this number on arguments
abbrev pub applied : Signature → ℕ → List Printed → Printed
applied sig f args = let o = at_number sig.operators f in let listed = arguments_of (is_assoc sig f) f args in
    record { precedence = precedence_of o (length args); tokens = tokens_of o args listed; operator = f; arguments = listed }

-- the name of a sort
abbrev pub sort_name : Signature → ℕ → List ℕ
sort_name sig S = unwrap_or (at_number sig.sorts S) []

-- A numeral is printed in decimal, a quoted identifier as its own token, and a variable with its sort, as one token.
abbrev mutual
  pub printed : Signature → RawTerm → Printed
  printed sig (numeral n) = alone (decimal n)
  printed sig (quoted q) = alone q
  printed sig (variable x) = alone (x.name ++ codes ":" ++ sort_name sig x.sort)
  printed sig (apply f ts) = applied sig f (printed_all sig ts)

  pub printed_all : Signature → RawTerms → List Printed
  printed_all sig nil = []
  printed_all sig (cons t ts) = printed sig t ∷ printed_all sig ts

-- A canonical term is printed as the term that it means: its associative operators on more than two arguments are nested to the right.
abbrev pub shown : Signature → RawTerm → Printed
shown sig t = printed sig (nested sig t)

abbrev pub all_shown : Signature → List RawTerm → List Printed
all_shown sig ts = printed_all sig (all_nested sig (terms_of ts))

-- the text of a term
abbrev pub mixfix_text : Signature → RawTerm → List ℕ
mixfix_text sig t = spaced (printed sig t).tokens

-- the text of a canonical term
abbrev pub term_text : Signature → RawTerm → List ℕ
term_text sig t = mixfix_text sig (nested sig t)

-- The mixfix form of an operator between two arguments, of which the second is such a form again.
use Rattle.std.specs.Prelude.{◌≡◌, ℕ, true, List, [], ◌∷◌, ◌++◌, codes, if◌then◌else◌}
use Rattle.mw_logic.specs.Term.{RawTerm, apply, cons, nil}
use Rattle.mw_logic.specs.Signature.{Signature, Operator, Gather}
use Rattle.mw_logic.specs.Parts.{is_assoc}
use Rattle.mw_text.specs.Names.{NameItem, piece, hole, items_of}
use Rattle.mw_print.specs.Tokens.{Token, token}
use Rattle.mw_print.specs.Printing.{Printed, takes, in_hole}

-- an associative operator on one argument, which a canonical term has not
abbrev pub IsSingle : Signature → RawTerm → Type 0
IsSingle sig t = (f : ℕ) × (u : RawTerm) × (t ≡ apply f (cons u nil)) × (is_assoc sig f ≡ true)

-- the pieces up to the first hole
abbrev pub before_hole : List NameItem → List Token
before_hole [] = []
before_hole (piece x ∷ items) = token x ∷ before_hole items
before_hole (hole ∷ items) = []

-- the items behind the first hole
abbrev pub after_hole : List NameItem → List NameItem
after_hole [] = []
after_hole (piece x ∷ items) = after_hole items
after_hole (hole ∷ items) = items

-- a parenthesis, where a form of the operator in a hole with this mark stands in parentheses
abbrev pub parenthesis : Operator → Gather → List Token → List Token
parenthesis o g mark = if takes g o.prec o.prec then [] else mark

-- what stands before the second argument, and behind it; the marks are those of the two holes
abbrev pub front : Operator → List Gather → Printed → List Token
front o (g ∷ h ∷ []) a = let items = items_of o.spelling in
    before_hole items ++ (in_hole g o.prec a ++ (before_hole (after_hole items) ++ parenthesis o h (token (codes "(") ∷ [])))
front o [] a = []
front o (g ∷ []) a = []
front o (g ∷ h ∷ i ∷ gs) a = []

abbrev pub back : Operator → List Gather → List Token
back o (g ∷ h ∷ []) = parenthesis o h (token (codes ")") ∷ []) ++ before_hole (after_hole (after_hole (items_of o.spelling)))
back o [] = []
back o (g ∷ []) = []
back o (g ∷ h ∷ i ∷ gs) = []

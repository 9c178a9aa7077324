-- The ways in which the terms of a signature's operators are written. A kind of terms is a number up to that of sorts; beyond these each operator has a kind
-- of its own, of the texts that are the last two or more arguments of an associative one.
use Rattle.std.specs.Prelude.{ℕ, suc, ◌≡◌, ◌⊎◌, ◌+◌, List, [], ◌∷◌, ◌++◌, drop, length, codes, Bool, IsTrue, Option, None, Some, option_map, if◌then◌else◌}
use Rattle.mw_logic.specs.Signature.{Signature, Operator, Gather, less, most, any, IsOperator}
use Rattle.mw_text.specs.Names.{NameItem, piece, hole, items_of, has_hole, pieces}
use Rattle.mw_text.specs.Mixfix.{IsHead}
use Rattle.mw_grammar.specs.declared.parts.Symbol.{Symbol}
use Rattle.mw_grammar.specs.declared.parts.Symbol.TheVariants.{Piece, Hole}

-- a way to write an operator's terms, as texts of a kind and a precedence
pub record Notation : Type 0 where
  pub kind : ℕ
  pub precedence : ℕ
  pub operator : ℕ
  pub parts : List Symbol

-- above all precedences, which are up to 127
abbrev pub above_all : ℕ
above_all = 128

abbrev pub pieces_as : List (List ℕ) → List Symbol
pieces_as [] = []
pieces_as (x ∷ xs) = Piece x ∷ pieces_as xs

-- what stands before the parentheses of a prefix form: a name's pieces, or the name as one token
abbrev pub head_of : List ℕ → Bool → List (List ℕ)
head_of name in_pieces = if in_pieces then pieces (items_of name) else name ∷ []

-- K's number stands for its kind
module _ (kind : ℕ → ℕ) where
  -- arguments divided by commas
  abbrev pub arguments : List ℕ → List Symbol
  arguments [] = []
  arguments (K ∷ []) = Hole (kind K) above_all ∷ []
  arguments (K ∷ L ∷ Ks) = Hole (kind K) above_all ∷ Piece (codes ",") ∷ arguments (L ∷ Ks)

  abbrev pub in_parentheses : List Symbol → List Symbol
  in_parentheses inner = Piece (codes "(") ∷ inner ++ Piece (codes ")") ∷ []

  abbrev pub prefix_parts : List (List ℕ) → List ℕ → List Symbol
  prefix_parts head [] = pieces_as head
  prefix_parts head (K ∷ Ks) = pieces_as head ++ in_parentheses (arguments (K ∷ Ks))

  -- a constant, or the prefix form
  abbrev pub prefix_notation : ℕ → Operator → List (List ℕ) → Notation
  prefix_notation f o head = record { kind = kind o.result; precedence = 0; operator = f; parts = prefix_parts head o.args }

  -- a hole with this mark, in a form of precedence p, takes texts of a precedence below this
  abbrev pub bound : Gather → ℕ → ℕ
  bound less p = p
  bound most p = suc p
  bound any p = above_all

  -- the parts of a mixfix form of precedence p, where the name has as many holes as there are marks and arguments
  abbrev pub mixfix_parts : ℕ → List NameItem → List Gather → List ℕ → Option (List Symbol)
  mixfix_parts p [] [] [] = Some []
  mixfix_parts p [] [] (K ∷ Ks) = None
  mixfix_parts p [] (g ∷ gs) Ks = None
  mixfix_parts p (piece x ∷ items) gs Ks = option_map (λ ps. Piece x ∷ ps) (mixfix_parts p items gs Ks)
  mixfix_parts p (hole ∷ items) [] Ks = None
  mixfix_parts p (hole ∷ items) (g ∷ gs) [] = None
  mixfix_parts p (hole ∷ items) (g ∷ gs) (K ∷ Ks) = option_map (λ ps. Hole (kind K) (bound g p) ∷ ps) (mixfix_parts p items gs Ks)

  -- the parts of a mixfix form whose front was read, with these and so many holes: what comes behind are these items
  abbrev pub mixing : ℕ → List Gather → List ℕ → List Symbol → List NameItem → ℕ → Option (List Symbol)
  mixing p gather Ks parts items n = option_map (λ ps. parts ++ ps) (mixfix_parts p items (drop n gather) (drop n Ks))

  -- an argument of an associative operator, a comma, and more arguments, which are of this kind
  abbrev pub two_parts : Operator → ℕ → List Symbol
  two_parts o rest = Hole (kind o.result) above_all ∷ Piece (codes ",") ∷ Hole rest above_all ∷ []

  abbrev pub flattened_notation : ℕ → ℕ → Operator → List (List ℕ) → Notation
  flattened_notation tail f o head = record { kind = kind o.result; precedence = 0; operator = f; parts = pieces_as head ++ in_parentheses (two_parts o tail) }

  -- the last two arguments, and three or more of the last
  abbrev pub tail_notation : ℕ → ℕ → Operator → ℕ → Notation
  tail_notation tail f o rest = record { kind = tail; precedence = 0; operator = f; parts = two_parts o rest }

  -- The ways in which operator number f is written: `tail` is the kind of its last two or more arguments, where it is associative.
  pub data IsNotationOf (tail f : ℕ) (o : Operator) : Notation → Type 0 where
    is_prefix : (head : List (List ℕ)) → IsHead o head → IsNotationOf tail f o (prefix_notation f o head)
    is_mixfix : (parts : List Symbol) → IsTrue (has_hole (items_of o.spelling)) → mixfix_parts o.prec (items_of o.spelling) o.gather o.args ≡ Some parts
        → IsNotationOf tail f o (record { kind = kind o.result; precedence = o.prec; operator = f; parts = parts })
    is_flattened : (head : List (List ℕ)) → IsTrue o.assoc → IsHead o head → IsNotationOf tail f o (flattened_notation tail f o head)
    is_tail : (rest : ℕ) → IsTrue o.assoc → (rest ≡ kind o.result) ⊎ (rest ≡ tail) → IsNotationOf tail f o (tail_notation tail f o rest)

  -- the prefix forms with this head
  abbrev pub IsHeaded : ℕ → ℕ → Operator → List (List ℕ) → Notation → Type 0
  IsHeaded tail f o head F = (F ≡ prefix_notation f o head) ⊎ (IsTrue o.assoc × (F ≡ flattened_notation tail f o head))

  abbrev pub IsMixfix : ℕ → Operator → Notation → Type 0
  IsMixfix f o F = (parts : List Symbol) × (mixfix_parts o.prec (items_of o.spelling) o.gather o.args ≡ Some parts)
      × (F ≡ record { kind = kind o.result; precedence = o.prec; operator = f; parts = parts })

  -- those with each head, and the mixfix form
  abbrev pub IsWhole : ℕ → ℕ → Operator → Notation → Type 0
  IsWhole tail f o F = ((head : List (List ℕ)) × IsHead o head × IsHeaded tail f o head F) ⊎ (IsTrue (has_hole (items_of o.spelling)) × IsMixfix f o F)

  -- those of a signature's operators
  abbrev pub IsNotation : Signature → Notation → Type 0
  IsNotation sig F = (f : ℕ) × (o : Operator) × IsOperator sig f o × IsNotationOf (length sig.sorts + f) f o F

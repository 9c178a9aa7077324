-- Pieces of a list or a multiset of elements, and the arguments of an associative operator that they give.
use Rattle.std.specs.Prelude.{◌≡◌, ℕ, List, [], ◌∷◌, length, Bool, true, false, ◌&&◌, Option, Some, None, ⊤}
use Rattle.mw_logic.specs.Term.{RawTerms, nil, cons, join}
use Rattle.mw_logic.specs.Terms.{front, skip}
use Rattle.mw_logic.specs.Signature.{Identity}
use Rattle.mw_logic.specs.NormalForm.{arranged, rebuilt}

-- one behind another
abbrev pub joined : List RawTerms → RawTerms
joined [] = nil
joined (p ∷ ps) = join p (joined ps)

-- each piece of a multiset is in order
abbrev pub AreInOrder : Bool → List RawTerms → Type 0
AreInOrder c [] = ⊤
AreInOrder c (p ∷ ps) = (arranged c p ≡ p) × AreInOrder c ps

-- ps are k pieces of zs: of a multiset, in order, or of a list, one behind another
pub record ArePieces (c : Bool) (k : ℕ) (zs : RawTerms) (ps : List RawTerms) : Type 0 where
  pub size : length ps ≡ k
  pub order : AreInOrder c ps
  pub whole : arranged c (joined ps) ≡ zs

-- the pieces of a list, by their lengths
abbrev pub list_pieces : RawTerms → List ℕ → List RawTerms
list_pieces zs [] = []
list_pieces zs (n ∷ ns) = front n zs ∷ list_pieces (skip n zs) ns

-- a piece may be empty only where there is an identity
abbrev pub is_backed : Option Identity → RawTerms → Bool
is_backed None nil = false
is_backed None (cons t ts) = true
is_backed (Some i) ts = true

abbrev pub are_backed : Option Identity → List RawTerms → Bool
are_backed e [] = true
are_backed e (p ∷ ps) = is_backed e p && are_backed e ps

-- the arguments that pieces give
abbrev pub arguments : Option Identity → ℕ → List RawTerms → RawTerms
arguments e f [] = nil
arguments e f (p ∷ ps) = cons (rebuilt e f p) (arguments e f ps)

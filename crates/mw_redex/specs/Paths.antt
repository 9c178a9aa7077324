-- Paths in a term: the numbers of arguments, from 1, on the way to a part of it; and the list of all paths, breadth first.
use Rattle.std.specs.Prelude.{ℕ, zero, suc, ◌≤◌, List, [], ◌∷◌, ◌++◌, map, length, Option, Some, option_and_then, ⊤}
use Rattle.mw_logic.specs.Term.{RawTerm}
use Rattle.mw_logic.specs.Terms.{list_of, args_of}
use Rattle.mw_logic.specs.Signature.{at_number}
use Rattle.mw_logic.specs.NormalForm.{height}

-- argument i of the operator on top, counted from 1
abbrev pub argument : RawTerm → ℕ → Option RawTerm
argument t i = at_number (list_of (args_of t)) i

-- what stands at a path
abbrev pub at_path : RawTerm → List ℕ → Option RawTerm
at_path t [] = Some t
at_path t (i ∷ path) = option_and_then (λ u. at_path u path) (argument t i)

-- what is listed of each term, behind the term's number; the first has number i
abbrev pub by_number : (RawTerm → List (List ℕ)) → ℕ → List RawTerm → List (List ℕ)
by_number listed i [] = []
by_number listed i (t ∷ ts) = map (λ path. i ∷ path) (listed t) ++ by_number listed (suc i) ts

-- all paths of length n, in the order of arguments
abbrev pub level : ℕ → RawTerm → List (List ℕ)
level zero t = [] ∷ []
level (suc n) t = by_number (level n) 1 (list_of (args_of t))

-- k levels, from the n-th on
abbrev pub levels : ℕ → ℕ → RawTerm → List (List ℕ)
levels zero n t = []
levels (suc k) n t = level n t ++ levels k (suc n) t

-- all paths, breadth first
abbrev pub paths : RawTerm → List (List ℕ)
paths t = levels (height t) 0 t

-- no path is shorter than n, and none than one before it
abbrev pub Lengthen : ℕ → List (List ℕ) → Type 0
Lengthen n [] = ⊤
Lengthen n (path ∷ rest) = (n ≤ length path) × Lengthen (length path) rest

-- The lists of k arguments on which an operator gives a canonical term, by the operator's axioms.
use Rattle.std.specs.Prelude.{◌^◌, ℕ, zero, suc, List, [], ◌∷◌, map, filter, Bool, true, false, ◌&&◌, cond, nat_eq, nat_lt}
use Rattle.mw_logic.specs.Term.{RawTerm, numeral, quoted, variable, apply, RawTerms, nil, cons}
use Rattle.mw_logic.specs.Signature.{Signature}
use Rattle.mw_logic.specs.Kinds.{is_successor}
use Rattle.mw_logic.specs.Parts.{is_assoc, number_of_terms}
use Rattle.mw_logic.specs.NormalForm.{is_comm, identity_of, elements}
use Rattle.mw_split.specs.Cuts.{bag_cuts, list_cuts}
use Rattle.mw_arguments.specs.Pieces.{list_pieces, are_backed, arguments}
use Rattle.mw_arguments.specs.Bags.{same, runs, heads, numbers, bag_pieces}

-- the pieces of the elements, under an associative operator that is commutative or not
abbrev pub pieces : Bool → ℕ → RawTerms → List (List RawTerms)
pieces true k zs = map (bag_pieces (heads (runs zs)) k) (bag_cuts (numbers (runs zs)) k)
pieces false k zs = map (list_pieces zs) (list_cuts (number_of_terms zs) k)

-- the orders of two arguments, under a commutative operator
abbrev pub orders : RawTerms → List RawTerms
orders nil = []
orders (cons x nil) = []
orders (cons x (cons y nil)) = cond (same x y) (cons x (cons y nil) ∷ []) (cons x (cons y nil) ∷ cons y (cons x nil) ∷ [])
orders (cons x (cons y (cons z zs))) = []

abbrev pub exchanges : ℕ → RawTerm → List RawTerms
exchanges f (numeral n) = []
exchanges f (quoted q) = []
exchanges f (variable x) = []
exchanges f (apply g ts) = cond (nat_eq f g) (orders ts) []

abbrev pub before_number : ℕ → ℕ → List RawTerms
before_number k zero = []
before_number k (suc n) = cond (nat_eq k 1 && nat_lt (suc n) (2 ^ 128)) (cons (numeral n) nil ∷ []) []

-- the term's own arguments or the number before it, under an operator that is neither, `s_` or not
abbrev pub own : Bool → ℕ → ℕ → RawTerm → List RawTerms
own s f k (numeral n) = cond s (before_number k n) []
own s f k (quoted q) = []
own s f k (variable x) = []
own s f k (apply g ts) = cond (nat_eq f g && nat_eq (number_of_terms ts) k) (ts ∷ []) []

abbrev pub plain_splits : Bool → Bool → ℕ → ℕ → RawTerm → List RawTerms
plain_splits true s f k t = exchanges f t
plain_splits false s f k t = own s f k t

abbrev pub splits_by : Bool → Signature → ℕ → ℕ → RawTerm → List RawTerms
splits_by true sig f k t = map (arguments (identity_of sig f) f) (filter (are_backed (identity_of sig f)) (pieces (is_comm sig f) k (elements (identity_of sig f) f t)))
splits_by false sig f k t = plain_splits (is_comm sig f) (is_successor sig f) f k t

abbrev pub splits_of : Signature → ℕ → ℕ → RawTerm → List RawTerms
splits_of sig f k t = splits_by (is_assoc sig f) sig f k t

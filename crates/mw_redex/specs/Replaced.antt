-- Places in flattened terms: a path and, maybe, several arguments of the associative operator at its end. What comes of a replacement at a place, and
-- which places rules may change.
use Rattle.std.specs.Prelude.{◌≡◌, ℕ, suc, List, [], ◌∷◌, ◌++◌, Bool, cond, ◌||◌, false, nat_eq, Option, Some, None, option_map, unwrap_or, ⊤}
use Rattle.mw_logic.specs.Term.{RawTerm, numeral, quoted, variable, apply, RawTerms, nil, cons}
use Rattle.mw_logic.specs.Signature.{Signature, Operator}
use Rattle.mw_logic.specs.NormalForm.{applied_in}
use Rattle.mw_logic.specs.CanonicalPart.{IsOpen}
use Rattle.mw_arguments.specs.Places.{others, Takes}
use Rattle.mw_redex.specs.Paths.{argument, at_path}

-- The terms with x in place of those that have the numbers k and ks, which rise: it stands where the first of them stood. i is the first term's number.
abbrev pub exchanged : ℕ → ℕ → List ℕ → RawTerm → RawTerms → RawTerms
exchanged i k ks x nil = cons x nil
exchanged i k ks x (cons t ts) = cond (nat_eq i k) (cons x (others (suc i) ks ts)) (cons t (exchanged (suc i) k ks x ts))

-- the same of arguments, and the operator applied again
abbrev pub put_in : Signature → ℕ → List ℕ → RawTerm → RawTerm → RawTerm
put_in sig k ks x (numeral n) = x
put_in sig k ks x (quoted q) = x
put_in sig k ks x (variable y) = x
put_in sig k ks x (apply f ts) = applied_in sig f (exchanged 1 k ks x ts)

-- t with x in place of the whole, or of the arguments that are taken
abbrev pub replaced_here : Signature → Option (List ℕ) → RawTerm → RawTerm → RawTerm
replaced_here sig None x t = x
replaced_here sig (Some []) x t = x
replaced_here sig (Some (k ∷ ks)) x t = put_in sig k ks x t

-- t with x at a place, all flattened; t where the path leads nowhere
abbrev pub replaced_at : Signature → List ℕ → Option (List ℕ) → RawTerm → RawTerm → RawTerm
replaced_at sig [] take x t = replaced_here sig take x t
replaced_at sig (i ∷ path) take x t = unwrap_or (option_map (λ u. put_in sig i [] (replaced_at sig path take x u) t) (argument t i)) t

abbrev pub IsTaken : Signature → Option (List ℕ) → RawTerm → RawTerm → Type 0
IsTaken sig None u w = u ≡ w
IsTaken sig (Some ks) u w = Takes sig ks u w

-- w is the part of v at a place
pub record IsPartAt (sig : Signature) (path : List ℕ) (take : Option (List ℕ)) (v w : RawTerm) : Type 0 where
  pub end : RawTerm
  pub there : at_path v path ≡ Some end
  pub taken : IsTaken sig take end w

-- which argument speaks for argument i: those of an associative or commutative operator are frozen together
abbrev pub asked : Operator → ℕ → ℕ
asked o i = cond (o.assoc || o.comm) 1 i

-- A part may stand in argument i of t: for rules (`by_rule`) in one that isn't frozen.
abbrev pub IsOpenArgument : Signature → Bool → RawTerm → ℕ → Type 0
IsOpenArgument sig by_rule (numeral n) i = ⊤
IsOpenArgument sig by_rule (quoted q) i = ⊤
IsOpenArgument sig by_rule (variable x) i = ⊤
IsOpenArgument sig by_rule (apply f ts) i = IsOpen sig by_rule f i

-- so it may in each argument on the way
abbrev pub IsOpenWay : Signature → Bool → List ℕ → RawTerm → Type 0
IsOpenWay sig by_rule [] t = ⊤
IsOpenWay sig by_rule (i ∷ path) t = IsOpenArgument sig by_rule t i × ((u : RawTerm) → argument t i ≡ Some u → IsOpenWay sig by_rule path u)

-- Arguments that are taken are asked for as the first is: of an associative operator all are frozen, or none.
abbrev pub way_of_place : List ℕ → Option (List ℕ) → List ℕ
way_of_place path None = path
way_of_place path (Some ks) = path ++ 1 ∷ []

-- The part w of v stands at the place, and y is v with x in its stead. For rules (`by_rule`) it stands in no frozen argument.
pub record ReplacesAt (sig : Signature) (by_rule : Bool) (w x : RawTerm) (path : List ℕ) (take : Option (List ℕ)) (v y : RawTerm) : Type 0 where
  pub part : IsPartAt sig path take v w
  pub open_way : IsOpenWay sig by_rule (way_of_place path take) v
  pub becomes : y ≡ replaced_at sig path take x v

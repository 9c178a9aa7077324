-- A signature with numbers: Zero and NzNat below Nat, and Nat below Bag. Operators: `s_`; f on bags, which has the identity 0; g on numbers, which is
-- associative alone; a number c; and h on numbers, which has the identity c.
use Rattle.std.specs.Prelude.{ℕ, ◌≡◌, ◌⊎◌, ◌<◌, List, [], ◌∷◌, Bool, true, false, Option, Some, None, codes, ⊤}
use Rattle.mw_logic.specs.Term.{RawTerm, RawTerms, nil, cons}
use Rattle.mw_logic.specs.Signature.{Signature, Operator, Declaration, Identity, constant_of, numeral_of, sort, IsRawTerm, HasKind}
use Rattle.mw_logic.specs.Parts.{nested}

-- an operator of kind 1 without axioms
abbrev pub plain_of : List ℕ → List ℕ → List Declaration → Operator
plain_of name kinds declarations = record {
  spelling = name;
  args = kinds;
  result = 1;
  declarations = declarations;
  assoc = false;
  comm = false;
  identity = None;
  prec = 0;
  gather = [];
  config = false;
  frozen = [];
  built = false;
}

-- an associative one
abbrev pub joining_of : List ℕ → List Declaration → Bool → Option Identity → Operator
joining_of name declarations c e = record (plain_of name (1 ∷ 1 ∷ []) declarations) { assoc = true; comm = c; identity = e }

-- a declaration on two terms of a sort, with a result of that sort
abbrev pub closed_on : ℕ → Declaration
closed_on S = record { args = sort S ∷ sort S ∷ []; result = sort S }

abbrev pub s_of_numbers : Operator
s_of_numbers = plain_of (codes "s_") (1 ∷ []) (record { args = sort 3 ∷ []; result = sort 2 } ∷ [])

abbrev pub f_of_bags : Operator
f_of_bags = joining_of (codes "f") (closed_on 4 ∷ []) true (Some (numeral_of 0))

abbrev pub g_of_numbers : Operator
g_of_numbers = joining_of (codes "g") (closed_on 2 ∷ closed_on 3 ∷ []) false None

abbrev pub c_of_numbers : Operator
c_of_numbers = plain_of (codes "c") [] (record { args = []; result = sort 3 } ∷ [])

abbrev pub h_of_numbers : Operator
h_of_numbers = joining_of (codes "h") (closed_on 3 ∷ []) false (Some (constant_of 4))

abbrev pub numbers : Signature
numbers = record {
  sorts = codes "Zero" ∷ codes "NzNat" ∷ codes "Nat" ∷ codes "Bag" ∷ [];
  pairs = (1, 3) ∷ (2, 3) ∷ (3, 4) ∷ [];
  operators = s_of_numbers ∷ f_of_bags ∷ g_of_numbers ∷ c_of_numbers ∷ h_of_numbers ∷ [];
  nat = true;
  qid = false;
}

-- what t means, with nestings to the right, is a term of this signature, and of its one kind
pub record IsTerm (t : RawTerm) : Type 0 where
  pub raw : IsRawTerm numbers (nested numbers t)
  pub of_kind : HasKind numbers (nested numbers t) 1

abbrev pub AreTerms : RawTerms → Type 0
AreTerms nil = ⊤
AreTerms (cons t ts) = IsTerm t × AreTerms ts

-- the operator may stand on so many terms
abbrev pub MayTake : ℕ → ℕ → Type 0
MayTake f n = ((f ≡ 1) × (n ≡ 1)) ⊎ ((f ≡ 4) × (n ≡ 0)) ⊎ (((f ≡ 2) ⊎ (f ≡ 3) ⊎ (f ≡ 5)) × (0 < n))

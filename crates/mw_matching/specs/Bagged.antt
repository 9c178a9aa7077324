-- One argument at a time: what it takes of a multiset is matched before the others take of what is left.
use Rattle.std.specs.Prelude.{◌≡◌, ℕ, List, [], ◌∷◌, length, map, filter, flat_map, Bool, true, false, Option}
use Rattle.mw_logic.specs.Term.{RawTerm, RawTerms, nil, cons, join}
use Rattle.mw_logic.specs.Signature.{Signature, Identity}
use Rattle.mw_logic.specs.TermOrder.{sorted_terms}
use Rattle.mw_logic.specs.NormalForm.{identity_of, elements, flattened, rebuilt}
use Rattle.mw_logic.proofs.Elements.{taken}
use Rattle.mw_logic.proofs.Canonical.{IsCanonical, IsElement}
use Rattle.mw_position.specs.Positions.{counted_all, Begins}
use Rattle.mw_arguments.specs.Pieces.{is_backed}
use Rattle.mw_arguments.specs.Bags.{runs, heads}
use Rattle.mw_arguments.specs.Splits.{pieces}
use Rattle.mw_matching.specs.Matches.{Theory, evaluated_all, Fits}

-- a value, and what it leaves
abbrev pub Share : Type 0
Share = RawTerm × RawTerms

abbrev pub first_of : List RawTerms → RawTerms
first_of [] = nil
first_of (p ∷ ps) = p

abbrev pub second_of : List RawTerms → RawTerms
second_of [] = nil
second_of (p ∷ []) = nil
second_of (p ∷ q ∷ ps) = q

-- the value of the first of two pieces, and the second
abbrev pub share_of : Option Identity → ℕ → List RawTerms → Share
share_of e f ps = (rebuilt e f (first_of ps), second_of ps)

-- one element; or any part, where an empty one stands for the identity
abbrev pub shares : Option Identity → ℕ → Bool → RawTerms → List Share
shares e f true zs = map (λ d. (d, taken d zs)) (heads (runs zs))
shares e f false zs = map (share_of e f) (filter (λ ps. is_backed e (first_of ps)) (pieces true 2 zs))

-- a canonical value whose elements, with what it leaves, are zs; where `rigid` one element
pub record IsShare (sig : Signature) (f : ℕ) (rigid : Bool) (zs : RawTerms) (c : Share) : Type 0 where
  pub canonical : IsCanonical sig c.0
  pub order : sorted_terms c.1 ≡ c.1
  pub whole : sorted_terms (join (elements (identity_of sig f) f c.0) c.1) ≡ zs
  pub single : rigid ≡ true → IsElement (identity_of sig f) f c.0

-- M gives the matches of one pattern
abbrev pub bag_matches : Option Identity → ℕ → (RawTerm → Bool) → (RawTerm → RawTerm → List RawTerm → List (List RawTerm)) → RawTerms → RawTerms → List RawTerm → List (List RawTerm)
bag_matches e f rigid M nil nil vs = vs ∷ []
bag_matches e f rigid M nil (cons z zs) vs = []
bag_matches e f rigid M (cons q qs) zs vs = flat_map (λ c. flat_map (λ us. bag_matches e f rigid M qs c.1 us) (M q c.0 vs)) (shares e f (rigid q) zs)

-- us are the values vs and behind them those of the other variables of ps; the elements of the instances of ps, in order,
-- are zs
pub record IsBagMatch (sig : Signature) (T : Theory) (f : ℕ) (ps zs : RawTerms) (vs us : List RawTerm) : Type 0 where
  pub begins : Begins vs us
  pub size : length us ≡ counted_all (length vs) ps
  pub gives : sorted_terms (flattened (identity_of sig f) f (evaluated_all sig us ps)) ≡ zs
  pub fits : Fits sig T (length vs) us

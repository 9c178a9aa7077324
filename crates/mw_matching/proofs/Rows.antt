-- The module SET of mw_logic, by computing: a b comes of four pairs; X Y on a a b has six matches, X X on a a b b one
-- and on a b none.
use Rattle.std.specs.Prelude.{◌≡◌, [], ◌∷◌, length, true, false, refl}
use Rattle.mw_logic.specs.Term.{RawTerm, apply, variable, nil, cons}
use Rattle.mw_logic.specs.TermOrder.{stands_after}
use Rattle.mw_logic.specs.Kinds.{is_successor}
use Rattle.mw_logic.specs.NormalForm.{identity_of}
use Rattle.mw_logic.proofs.RowsOfSet.{sig, a, b, mt}
use Rattle.mw_split.specs.Cuts.{bag_cuts, list_cuts}
use Rattle.mw_arguments.specs.Splits.{splits_of}
use Rattle.mw_position.specs.Positions.{position}
use Rattle.mw_matching.specs.Matches.{Theory, matches}
use Rattle.mw_matching.specs.Rigid.{rigid_splits}
use Rattle.mw_matching.specs.Patterns.{theory}
use Rattle.mw_matching.specs.AllMatches.{all_matches}
use Rattle.mw_matching.specs.Found.{found}

abbrev any_term : Theory
any_term = theory sig (λ i t. true) (λ f i. false)

abbrev ab : RawTerm
ab = apply 4 (cons a (cons b nil))

abbrev X : RawTerm
X = variable (position 0)

abbrev Y : RawTerm
Y = variable (position 1)

-- the pairs on which the operator gives a b
pairs : splits_of sig 4 2 ab ≡ (cons mt (cons ab nil) ∷ cons b (cons a nil) ∷ cons a (cons b nil) ∷ cons ab (cons mt nil) ∷ [])
unfolding stands_after is_successor bag_cuts list_cuts
pairs = refl

six : length (matches any_term (apply 4 (cons X (cons Y nil))) (apply 4 (cons a (cons a (cons b nil)))) []) ≡ 6
unfolding stands_after is_successor bag_cuts list_cuts
six = refl

one : matches any_term (apply 4 (cons X (cons X nil))) (apply 4 (cons a (cons a (cons b (cons b nil))))) [] ≡ ((apply 4 (cons a (cons b nil)) ∷ []) ∷ [])
unfolding stands_after is_successor bag_cuts list_cuts
one = refl

none : matches any_term (apply 4 (cons X (cons X nil))) (apply 4 (cons a (cons b nil))) [] ≡ []
unfolding stands_after is_successor bag_cuts list_cuts
none = refl

-- one element first, the identity for what is left
first : rigid_splits (identity_of sig 4) 4 1 1 (cons a (cons b nil)) ≡ (cons a (cons b nil) ∷ cons b (cons a nil) ∷ [])
unfolding stands_after is_successor bag_cuts list_cuts
first = refl

-- a constant is rigid: it takes one element, and X what is left
rest : matches any_term (apply 4 (cons a (cons X nil))) (apply 4 (cons a (cons a (cons b nil)))) [] ≡ ((apply 4 (cons a (cons b nil)) ∷ []) ∷ [])
unfolding stands_after is_successor bag_cuts list_cuts
rest = refl

-- one argument at a time
as_many : length (all_matches sig (λ i t. true) (λ f i. false) (apply 4 (cons X (cons Y nil))) (apply 4 (cons a (cons a (cons b nil)))) []) ≡ 6
unfolding stands_after is_successor bag_cuts list_cuts
as_many = refl

-- as they are enumerated
found_six : length (found sig [] (apply 4 (cons X (cons Y nil))) (apply 4 (cons a (cons a (cons b nil)))) []) ≡ 6
unfolding stands_after is_successor bag_cuts list_cuts
found_six = refl

found_one : found sig [] (apply 4 (cons X (cons X nil))) (apply 4 (cons a (cons a (cons b (cons b nil))))) [] ≡ ((apply 4 (cons a (cons b nil)) ∷ []) ∷ [])
unfolding stands_after is_successor bag_cuts list_cuts
found_one = refl

found_none : found sig [] (apply 4 (cons X (cons X nil))) (apply 4 (cons a (cons b nil))) [] ≡ []
unfolding stands_after is_successor bag_cuts list_cuts
found_none = refl

found_rest : found sig [] (apply 4 (cons a (cons X nil))) (apply 4 (cons a (cons a (cons b nil)))) [] ≡ ((apply 4 (cons a (cons b nil)) ∷ []) ∷ [])
unfolding stands_after is_successor bag_cuts list_cuts
found_rest = refl

-- The matches of a pattern, whatever its operators' axioms: arguments under an associative and commutative operator one
-- at a time, others by splits.
use Rattle.std.specs.Prelude.{ℕ, List, [], ◌∷◌, flat_map, Bool, ◌&&◌, cond, slice_get}
use Rattle.mw_logic.specs.Term.{RawTerm, numeral, quoted, variable, apply, RawTerms, nil, cons}
use Rattle.mw_logic.specs.Signature.{Signature}
use Rattle.mw_logic.specs.Parts.{is_assoc, number_of_terms}
use Rattle.mw_logic.specs.NormalForm.{is_comm, identity_of, elements}
use Rattle.mw_arguments.specs.Bags.{same}
use Rattle.mw_arguments.specs.Splits.{splits_of}
use Rattle.mw_matching.specs.Matches.{at_position}
use Rattle.mw_matching.specs.Patterns.{is_rigid, theory}
use Rattle.mw_matching.specs.Bagged.{shares}

-- `has` tells which terms a position may have, `single` at which positions they are one element under an operator
module _ (sig : Signature) (has : ℕ → RawTerm → Bool) (single : ℕ → ℕ → Bool) where
  abbrev mutual
    pub all_matches : RawTerm → RawTerm → List RawTerm → List (List RawTerm)
    all_matches (numeral n) t vs = cond (same (numeral n) t) (vs ∷ []) []
    all_matches (quoted q) t vs = cond (same (quoted q) t) (vs ∷ []) []
    all_matches (variable x) t vs = at_position (theory sig has single) x.sort t vs (slice_get vs x.sort)
    all_matches (apply f qs) t vs =
        cond (is_assoc sig f && is_comm sig f) (all_bag_matches f qs (elements (identity_of sig f) f t) vs) (flat_map (λ ts. all_row_matches qs ts vs) (splits_of sig f (number_of_terms qs) t))

    pub all_row_matches : RawTerms → RawTerms → List RawTerm → List (List RawTerm)
    all_row_matches nil nil vs = vs ∷ []
    all_row_matches nil (cons t ts) vs = []
    all_row_matches (cons q qs) nil vs = []
    all_row_matches (cons q qs) (cons t ts) vs = flat_map (λ us. all_row_matches qs ts us) (all_matches q t vs)

    pub all_bag_matches : ℕ → RawTerms → RawTerms → List RawTerm → List (List RawTerm)
    all_bag_matches f nil nil vs = vs ∷ []
    all_bag_matches f nil (cons z zs) vs = []
    all_bag_matches f (cons q qs) zs vs = flat_map (λ c. flat_map (λ us. all_bag_matches f qs c.1 us) (all_matches q c.0 vs)) (shares (identity_of sig f) f (is_rigid sig single f q) zs)

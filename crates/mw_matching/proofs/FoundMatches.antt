-- `found` lists all matches of a pattern, each once, whatever the axioms.
use Rattle.std.specs.Prelude.{◌≡◌, ℕ, List, [], length, Bool, true, false, cond, Option, Some, None, slice_get, refl}
use Rattle.std.proofs.Common.{subst}
use Rattle.mw_logic.specs.Term.{RawTerm, numeral, quoted, variable, apply, RawTerms, nil, cons}
use Rattle.mw_logic.specs.Terms.{args_of}
use Rattle.mw_logic.specs.Signature.{Signature}
use Rattle.mw_logic.specs.Accepted.{IsAccepted}
use Rattle.mw_logic.specs.Kinds.{is_successor}
use Rattle.mw_logic.specs.Parts.{is_assoc}
use Rattle.mw_logic.specs.NormalForm.{is_comm, identity_of, elements}
use Rattle.mw_logic.proofs.Canonical.{IsCanonical}
use Rattle.mw_split.specs.Lists.{AllOnce}
use Rattle.mw_position.specs.Positions.{IsNumbered}
use Rattle.mw_arguments.specs.Splits.{orders}
use Rattle.mw_matching.specs.Matches.{Theory, at_position, Fits, IsMatch, HasArities, AllHaveArities}
use Rattle.mw_matching.specs.Patterns.{theory}
use Rattle.mw_matching.specs.Found.{Values, fits, is_single, has_top, has_before, before, placed, found, found_all, found_orders, found_row, found_bag}
use Rattle.mw_matching.proofs.Matches.{closed_once, at_variable_once}
use Rattle.mw_matching.proofs.FoundArguments.{AreKnown, swapped_once, plain_once}
use Rattle.mw_matching.proofs.FoundShares.{elements_of, matches_shared}
use Rattle.mw_matching.proofs.FoundRows.{row_once}
use Rattle.mw_matching.proofs.FoundBags.{bag_once}

module _ (sig : Signature) (ok : IsAccepted sig) (single : List (List ℕ)) where
  abbrev T : Theory
  T = theory sig (fits sig single) (is_single single)

  placed_same : (i : ℕ) (t : RawTerm) (vs : Values) (o : Option RawTerm) → at_position T i t vs o ≡ placed sig single i t vs o
  placed_same i t vs (Some u) = refl
  placed_same i t vs None = refl

  mutual
    pub found_once : (p t : RawTerm) (vs : Values) → HasArities sig p → IsNumbered (length vs) p → Fits sig T 0 vs → IsCanonical sig t → AllOnce (IsMatch sig T p t vs) (found sig single p t vs)
    found_once (numeral n) t vs a n0 g k = closed_once sig ok T (numeral n) t (numeral n) vs refl (λ us b. refl)
    found_once (quoted q) t vs a n0 g k = closed_once sig ok T (quoted q) t (quoted q) vs refl (λ us b. refl)
    found_once (variable x) t vs a n0 g k = subst (AllOnce (IsMatch sig T (variable x) t vs)) (placed_same x.sort t vs (slice_get vs x.sort)) (at_variable_once sig ok T x t vs k n0)
    found_once (apply f qs) t vs a n0 g k = by_axioms (is_assoc sig f) (is_comm sig f) refl refl (all_known qs a.1)
      where
        by_axioms : (x y : Bool) → is_assoc sig f ≡ x → is_comm sig f ≡ y → AreKnown sig ok single qs
            → AllOnce (IsMatch sig T (apply f qs) t vs) (cond x
            (cond y (found_bag sig single f qs (elements (identity_of sig f) f t) vs) (found_row sig single f qs (elements (identity_of sig f) f t) vs))
            (cond y (cond (has_top f t) (found_orders sig single qs (orders (args_of t)) vs) [])
            (cond (is_successor sig f) (cond (has_before f t) (found_all sig single qs (before t) vs) []) (cond (has_top f t) (found_all sig single qs (args_of t) vs) []))))
        by_axioms true true h c known =
            matches_shared sig ok f h T qs t vs (found_bag sig single f qs (elements (identity_of sig f) f t) vs) a.0 g k (bag_once sig ok single f h c qs (elements (identity_of sig f) f t) vs known n0 g (elements_of sig ok f h t k))
        by_axioms true false h c known =
            matches_shared sig ok f h T qs t vs (found_row sig single f qs (elements (identity_of sig f) f t) vs) a.0 g k (row_once sig ok single f h c qs (elements (identity_of sig f) f t) vs known n0 g (elements_of sig ok f h t k))
        by_axioms false true h c known = swapped_once sig ok single f qs t vs a.0 known n0 g k h c
        by_axioms false false h c known = plain_once sig ok single f qs t vs a.0 known n0 g k h c

    all_known : (qs : RawTerms) → AllHaveArities sig qs → AreKnown sig ok single qs
    all_known nil a = tt
    all_known (cons q qs) a = ((λ t vs n g k. found_once q t vs a.0 n g k), all_known qs a.1)

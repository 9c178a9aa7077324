-- Proofs of parts of a multiset, one after another, as one proof of the whole.
use Rattle.std.specs.Prelude.{◌≡◌, ◌≢◌, ◌⊎◌, ◌+◌, ◌≤◌, ◌++◌, ℕ, suc, List, [], ◌∷◌, length, IsPermutation, Some, slice_get, ⊤}
use Rattle.mw_logic.specs.Term.{RawTerm, RawTerms, join}
use Rattle.mw_logic.specs.Terms.{terms_of, front, skip}
use Rattle.mw_logic.specs.Parts.{number_of_terms}
use Rattle.mw_logic.specs.TermOrder.{sorted_terms}
use Rattle.mw_logic.specs.Module.{Module}
use Rattle.mw_arguments.specs.Places.{chosen, others, Rise}
use Rattle.mw_deduction.specs.Runs.{Dones, both}
use Rattle.mw_trail.specs.Tracks.{Track}
use Rattle.mw_multiset.specs.Together.{parts, together, AreMembers, IsOfMultisets, IsShallow, AllUnder}
use Rattle.mw_multiset.specs.Receipts.{beside}
use Rattle.mw_proof.specs.Deductions.{Deduction, IsKept}

-- the elements of a multiset as they are, and what was carried out since it was another term
pub record Gathering : Type 0 where
  pub over : Module
  pub operator : ℕ
  pub from : RawTerm
  pub elements : List RawTerm
  pub run : Dones

-- the trail is kept from the term to the operator on the elements, which stand in order
pub record IsGathered (M : Module) (f : ℕ) (from : RawTerm) (es : List RawTerm) (k : Track) : Type 0 where
  pub of : IsOfMultisets M f
  pub kept : IsKept M 63 from (together M.signature f es) k
  pub members : AreMembers M.signature f es
  pub order : sorted_terms (terms_of es) ≡ terms_of es

-- a proof of some of the elements, each replacement of which may be made beside the others
pub record MayAdd (g : Gathering) (d : Deduction) : Type 0 where
  pub over : d.over ≡ g.over
  pub rest : List RawTerm
  pub there : IsPermutation g.elements (parts g.over.signature g.operator d.from ++ rest)
  pub filled : parts g.over.signature g.operator d.from ≢ []
  pub under : AllUnder g.over.signature g.operator d.run
  pub shallow : IsShallow g.over.signature g.operator d.to

-- it is carried out beside the others
pub record Adds (g : Gathering) (d : Deduction) (h : Gathering) : Type 0 where
  pub over : h.over ≡ g.over
  pub operator : h.operator ≡ g.operator
  pub from : h.from ≡ g.from
  pub rest : List RawTerm
  pub taken : IsPermutation g.elements (parts g.over.signature g.operator d.from ++ rest)
  pub put : IsPermutation h.elements (parts g.over.signature g.operator d.to ++ rest)
  pub run : h.run ≡ both g.run (beside g.over.signature g.operator rest d.run)

-- Of ts these were taken out so far, which had these numbers; es are left, and what is looked for next stands behind so many of them.
pub record IsTakingOut (ts done : RawTerms) (found : List ℕ) (from : ℕ) (es : RawTerms) : Type 0 where
  pub tail : skip from es ≡ skip (from + length found) ts
  pub size : number_of_terms es + length found ≡ number_of_terms ts
  pub numbers : (ks : List ℕ) (us : RawTerms) → Rise (suc (from + length found)) (suc (number_of_terms ts)) ks → chosen (suc (from + length found)) ks (skip (from + length found) ts) ≡ us
      → Rise 1 (suc (number_of_terms ts)) (found ++ ks) × (chosen 1 (found ++ ks) ts ≡ join done us)
      × (others 1 (found ++ ks) ts ≡ join (front from es) (others (suc (from + length found)) ks (skip (from + length found) ts)))

-- us stand among ts, in this order
abbrev pub StandAmong : List RawTerm → List RawTerm → Type 0
StandAmong [] ts = ⊤
StandAmong (u ∷ us) [] = ⊥
StandAmong (u ∷ us) (t ∷ ts) = ((t ≡ u) × StandAmong us ts) ⊎ StandAmong (u ∷ us) ts

-- t stands in the list, from this index on
abbrev pub StandsFrom : List RawTerm → ℕ → RawTerm → Type 0
StandsFrom ts from t = (at : ℕ) × (from ≤ at) × (slice_get ts at ≡ Some t)

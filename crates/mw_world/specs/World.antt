-- The states of a pool: elements that are free, claims that took some, and proofs that gave others for them.
use Rattle.std.specs.Prelude.{◌≡◌, ◌≢◌, ◌⊎◌, ℕ, ◌+◌, List, [], ◌∷◌, ◌++◌, Bool, Option, Some, None, slice_index_or, true, IsTrue, IsPermutation, ⊤}
use Rattle.mw_logic.specs.Term.{RawTerm}
use Rattle.mw_logic.specs.Signature.{Signature, Member}
use Rattle.mw_logic.specs.Substitution.{Substitution, IsSolution}
use Rattle.mw_logic.specs.Parts.{nested}
use Rattle.mw_logic.specs.Module.{Module, Statement, IsStatement}
use Rattle.mw_logic.specs.Judgements.{Fails}
use Rattle.mw_logic.specs.Proof.{rules, steps}
use Rattle.mw_canon.specs.Canonical.{IsAdmittedTerm, meant}
use Rattle.mw_redex.specs.Replaced.{IsPartAt, IsOpenWay, way_of_place}
use Rattle.mw_trail.specs.Tracks.{Track}
use Rattle.mw_proof.specs.Deductions.{Deduction, IsKept, deduced}
use Rattle.mw_multiset.specs.Together.{parts, IsOfMultisets, IsShallow, AllUnder}

-- A part that was taken out, with its number and the pool's operator and limit for sides. `path` and `take` are where in it the rule applies, and `subst` has
-- values of the variables of the rule's left side; `steps` are granted.
pub record Claim : Type 0 where
  pub number : ℕ
  pub operator : ℕ
  pub side : ℕ
  pub part : RawTerm
  pub path : List ℕ
  pub take : Option (List ℕ)
  pub rule : ℕ
  pub subst : Substitution
  pub steps : ℕ

-- A rule that was tried with values, and whether its condition failed for them.
pub record Try : Type 0 where
  pub rule : ℕ
  pub subst : Substitution
  pub failed : Bool

-- The open claims stand at their numbers, from 0.
pub record World : Type 0 where
  pub over : Module
  pub opening : RawTerm
  pub operator : ℕ
  pub side : ℕ
  pub free : List RawTerm
  pub claims : List (Option Claim)
  pub journal : List Deduction
  pub tries : List Try
  pub rules_left : Option ℕ
  pub steps_left : ℕ
  pub rules_bound : Option ℕ
  pub steps_bound : ℕ

abbrev pub claim_at : List (Option Claim) → ℕ → Option Claim
claim_at cs k = slice_index_or cs k None

-- the elements of all open parts
abbrev pub claimed : Signature → ℕ → List (Option Claim) → List RawTerm
claimed sig f [] = []
claimed sig f (None ∷ cs) = claimed sig f cs
claimed sig f (Some c ∷ cs) = parts sig f c.part ++ claimed sig f cs

-- the free elements and those of all open parts
abbrev pub all_elements : World → List RawTerm
all_elements w = w.free ++ claimed w.over.signature w.operator w.claims

-- a number for each open claim, added up
abbrev pub total : (Claim → ℕ) → List (Option Claim) → ℕ
total h [] = 0
total h (None ∷ cs) = total h cs
total h (Some c ∷ cs) = h c + total h cs

abbrev pub open_count : List (Option Claim) → ℕ
open_count = total (λ c. 1)

abbrev pub granted : List (Option Claim) → ℕ
granted = total (λ c. c.steps)

abbrev pub rules_of : List Deduction → ℕ
rules_of [] = 0
rules_of (d ∷ ds) = rules d.proof + rules_of ds

abbrev pub steps_of : List Deduction → ℕ
steps_of [] = 0
steps_of (d ∷ ds) = steps d.proof + steps_of ds

-- From the elements xs the receipts lead, in order, to ys: each takes its part's elements, which are there, away once and adds its result's.
abbrev pub Leads : Signature → ℕ → List RawTerm → List Deduction → List RawTerm → Type 0
Leads sig f xs [] ys = IsPermutation xs ys
Leads sig f xs (d ∷ ds) ys = (rest : List RawTerm) × IsPermutation xs (parts sig f d.from ++ rest) × Leads sig f (parts sig f d.to ++ rest) ds ys

-- A kept proof over the module, of a part that isn't empty, of which each replacement may be made wherever the part stands under f.
pub record IsReceipt (M : Module) (f : ℕ) (d : Deduction) : Type 0 where
  pub over : d.over ≡ M
  pub track : Track
  pub kept : IsKept d.over d.rank d.from d.to track
  pub is : d ≡ deduced d.over d.rank d.from d.to track
  pub filled : parts M.signature f d.from ≢ []
  pub under : AllUnder M.signature f d.run
  pub shallow : IsShallow M.signature f d.to

abbrev pub AreReceipts : Module → ℕ → List Deduction → Type 0
AreReceipts M f [] = ⊤
AreReceipts M f (d ∷ ds) = IsReceipt M f d × AreReceipts M f ds

-- A claim is the pool's. Its part isn't empty, and its rule has a solution, by these values, for the part or, where that is one element, for the part of it at
-- the place. No argument on the way there is frozen.
pub record IsClaim (w : World) (c : Claim) : Type 0 where
  pub of_operator : c.operator ≡ w.operator
  pub of_side : c.side ≡ w.side
  pub admitted : IsAdmittedTerm w.over.signature c.part
  pub filled : parts w.over.signature w.operator c.part ≢ []
  pub rule : Statement
  pub is_there : IsStatement w.over c.rule rule
  pub is_rule : IsTrue rule.rule
  pub at : RawTerm
  pub place : IsPartAt w.over.signature c.path c.take c.part at
  pub open_way : IsOpenWay w.over.signature true (way_of_place c.path c.take) c.part
  pub solves : IsSolution w.over.signature rule.left (nested w.over.signature at) [] (meant w.over.signature c.subst)
  pub alone : ((c.path ≡ []) × (c.take ≡ None)) ⊎ (parts w.over.signature w.operator c.part ≡ c.part ∷ [])

-- what is left of a bound, with what was used, makes the bound
abbrev pub AddsUp : Option ℕ → Option ℕ → ℕ → Type 0
AddsUp None None used = ⊤
AddsUp None (Some bound) used = ⊥
AddsUp (Some left) None used = ⊥
AddsUp (Some left) (Some bound) used = left + used ≡ bound

-- a try that is noted as failed has failed
abbrev pub HasFailed : Module → Try → Type 0
HasFailed M t = IsTrue t.failed → (e : Statement) × IsStatement M t.rule e × Fails M 63 e.fragments (meant M.signature t.subst)

pub record IsSound (w : World) : Type 0 where
  pub of : IsOfMultisets w.over w.operator
  -- nothing is lost, and nothing is counted twice
  pub reached : Leads w.over.signature w.operator (parts w.over.signature w.operator w.opening) w.journal (all_elements w)
  -- each open claim stands at its number
  pub claims : (k : ℕ) (c : Claim) → claim_at w.claims k ≡ Some c → (c.number ≡ k) × IsClaim w c
  -- no step is counted twice
  pub rules : AddsUp w.rules_left w.rules_bound (open_count w.claims + rules_of w.journal)
  pub steps : w.steps_left + granted w.claims + steps_of w.journal ≡ w.steps_bound
  pub opening : IsAdmittedTerm w.over.signature w.opening
  pub shallow : IsShallow w.over.signature w.operator w.opening
  pub receipts : AreReceipts w.over w.operator w.journal
  pub failed : (t : Try) → Member t w.tries → HasFailed w.over t

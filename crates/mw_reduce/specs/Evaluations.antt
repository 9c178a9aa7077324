-- How a condition is evaluated: fragment by fragment, with the solutions of matches that are still to be tried.
use Rattle.std.specs.Prelude.{◌≡◌, ◌⊎◌, ◌≤◌, ℕ, suc, List, [], ◌∷◌, ◌++◌, length, map, take, drop, Bool, true, false, Some, slice_get, IsTrue, IsFalse, ⊤}
use Rattle.std.specs.List.{zip}
use Rattle.mw_logic.specs.Term.{Variable, RawTerm}
use Rattle.mw_logic.specs.Terms.{terms_of}
use Rattle.mw_logic.specs.Signature.{Signature, Member, IsRawTerm}
use Rattle.mw_logic.specs.Substitution.{Substitution, instance, occurs, IsSubstitution, Extends}
use Rattle.mw_logic.specs.Parts.{nested, IsAdmitted}
use Rattle.mw_logic.specs.NormalForm.{normal_form, some_largest}
use Rattle.mw_logic.specs.Module.{Fragment, matches, Module, Statement}
use Rattle.mw_logic.specs.Proof.{Proof, Proofs, nil, cons, equality, transitivity, rules}
use Rattle.mw_logic.specs.Judgements.{Evaluates, HoldsAbove, FailsAbove, admitted_judgements}
use Rattle.mw_logic.specs.Ends.{IsSide, Stops, StopsAtOnce}
use Rattle.mw_canon.specs.Canonical.{meant, IsAdmittedTerm}
use Rattle.mw_position.specs.Variables.{is_in, met, bound_variables, AreDistinct}
use Rattle.mw_solving.specs.Values.{AreValues}
use Rattle.mw_deduction.specs.Frontier.{Alternative, alternative, together, IsOneOr, IsSolvedOr, IsFrontier}
use Rattle.mw_deduction.specs.Replay.{Move, begins, ends, Stand, begun as begun_at, plays, AreMoves, sides_of, all_sides, begun_sides, beginnings}
use Rattle.mw_trail.specs.Tracks.{moves}
use Rattle.mw_proof.specs.Deductions.{Deduction, deduced, IsKept}
use Rattle.mw_proof.specs.Replacing.{evidence}
use Rattle.mw_match.specs.Solutions.{Coming, values, FitsSorts, Lacks, PassesTo, IsAllSolutions, AreNamed}
use Rattle.mw_match.specs.declared.solutions.Solution.{Solution}
use Rattle.mw_proof.specs.Reasons.{reason_of}
use Rattle.mw_proof.specs.declared.reason.Reason.{Reason}
use Rattle.mw_index.specs.Conditions.{IsTestOf, AreTests, AreReady, bound_by, all_bound}
use Rattle.mw_index.specs.declared.conditions.Condition.{Condition}
use Rattle.mw_index.specs.declared.conditions.Test.{Test}
use Rattle.mw_frames.specs.Machines.{data_of}
use Rattle.mw_frames.specs.State.{Run, Data, IsNormalHere}
use Rattle.mw_frames.specs.Redex.{IsBare, IsWaiting, value_in}
use Rattle.mw_reduce.specs.Limits.{limits_within}
use Rattle.mw_reduce.specs.declared.sides.Reduced.{Reduced}
use Rattle.mw_reduce.specs.declared.sides.Shown.{Shown}
use Rattle.mw_reduce.specs.declared.sides.Shown.TheVariants as shown
use Rattle.mw_reduce.specs.declared.sides.Begun.{Begun}
use Rattle.mw_reduce.specs.declared.sides.Begun.TheVariants as begun
use Rattle.mw_reduce.specs.declared.evaluation.Other.{Other}
use Rattle.mw_reduce.specs.declared.evaluation.Tested.{Tested}
use Rattle.mw_reduce.specs.declared.evaluation.Tested.TheVariants.{Holds, Fails, Opens, Stops as StopsHere}
use Rattle.mw_reduce.specs.declared.evaluation.Progress.{Progress}
use Rattle.mw_reduce.specs.declared.evaluation.Progress.TheVariants as progress
use Rattle.mw_reduce.specs.declared.evaluation.Verdict.{Verdict}
use Rattle.mw_reduce.specs.declared.evaluation.Verdict.TheVariants.{Held, Failed, Stopped}

-- Values of these variables, in their order: canonical and ground, of the variables' sorts, and without `s_` on the largest numeral.
pub record AreBoundTo (M : Module) (xs : List Variable) (vs : List RawTerm) : Type 0 where
  pub size : length vs ≡ length xs
  pub values : AreValues M.signature vs
  pub substitution : IsSubstitution M.signature (meant M.signature (zip xs vs))
  pub small : some_largest M.signature (terms_of vs) ≡ false

-- the substitution that they are
abbrev pub bound_to : Signature → List Variable → List RawTerm → Substitution
bound_to sig xs vs = meant sig (zip xs vs)

-- What a match found is normal, or has no arguments: the values of those variables that the left side l hasn't.
abbrev pub AreFound : Module → ℕ → RawTerm → List Variable → List RawTerm → Type 0
AreFound M n l xs vs = (x : Variable) → IsTrue (is_in x xs) → IsFalse (occurs x l) → IsNormalHere M n (value_in M.signature xs vs x) ⊎ IsBare (value_in M.signature xs vs x)

-- The moves may be made from the stand S on; then this evidence waits behind what waited, and its sides began at the terms ts.
pub record IsEvidenceAt (M : Module) (es : Proofs) (ts : List RawTerm) (ms : List Move) (S : Stand) (B : List Stand) : Type 0 where
  pub waiting : Stand
  pub may : AreMoves M ms (S ∷ B)
  pub plays : plays M ms (S ∷ B) ≡ waiting ∷ B
  pub waits : IsWaiting (together S.read.ready es) S waiting
  pub starts : beginnings waiting.sides ≡ beginnings S.sides ++ ts

-- so they may wherever a proof stands in this rank
abbrev pub IsEvidence : Module → ℕ → Proofs → List RawTerm → List Move → Type 0
IsEvidence M n es ts ms = (S : Stand) (B : List Stand) → S.rank ≡ n → IsEvidenceAt M es ts ms S B

-- the deductions that sides are in rank n, what they begin at, and the moves that show them one after another
abbrev pub deduction_of : Module → ℕ → Reduced → Deduction
deduction_of M n r = deduced M n r.from r.to r.kept

abbrev pub proofs_of : Module → ℕ → List Reduced → Proofs
proofs_of M n rs = evidence (map (deduction_of M n) rs)

abbrev pub starts_of : Module → List Reduced → List RawTerm
starts_of M rs = map (λ (r : Reduced). nested M.signature r.from) rs

abbrev pub side_moves : Module → Reduced → List Move
side_moves M r = begins r.from ∷ (moves M r.kept ++ ends ∷ [])

abbrev pub all_moves : Module → List Reduced → List Move
all_moves M [] = []
all_moves M (r ∷ rs) = side_moves M r ++ all_moves M rs

-- each is kept
abbrev pub AreKept : Module → ℕ → List Reduced → Type 0
AreKept M n [] = ⊤
AreKept M n (r ∷ rs) = (n ≤ 63 → IsKept M n r.from r.to r.kept) × AreKept M n rs

-- The instance t of a side, in canonical form, is where it begins. It evaluates in rank n to what the canonical term means that it was reduced to, by its
-- proof, for which its moves are evidence one rank above.
pub record IsShown (M : Module) (n : ℕ) (t : RawTerm) (r : Reduced) : Type 0 where
  pub begins : r.from ≡ normal_form M.signature t
  pub evaluates : Evaluates (admitted_judgements M n) t (transitivity equality (deduction_of M n r).proof) (nested M.signature r.to)
  pub normal : IsNormalHere M n r.to
  pub evidence : IsEvidence M (suc n) (cons (transitivity equality (deduction_of M n r).proof) nil) (nested M.signature r.from ∷ []) (side_moves M r)
  pub kept : n ≤ 63 → IsKept M n r.from r.to r.kept

-- It stops: at once, or its run does in rank n, within so many steps.
abbrev pub IsStoppedFor : Module → ℕ → ℕ → RawTerm → Reason → Type 0
IsStoppedFor M n limit t why =
    StopsAtOnce M t (reason_of why) ⊎ (IsAdmitted M.signature t × ((q : Proof) × (v : RawTerm) × (rules q ≡ 0) × Stops M n (limits_within limit limit) t q v (reason_of why)))

abbrev pub IsSideShown : Module → ℕ → ℕ → RawTerm → Shown → Type 0
IsSideShown M n limit t (shown.To r) = IsShown M n t r
IsSideShown M n limit t (shown.Stops why) = IsStoppedFor M n limit t why

-- a side whose variables are among these
pub record AreAsked (sig : Signature) (xs : List Variable) (t : RawTerm) : Type 0 where
  pub raw : IsRawTerm sig t
  pub among : (x : Variable) → IsTrue (occurs x t) → IsTrue (is_in x xs)
  pub distinct : AreDistinct xs

-- the run that begins at a term, with nothing around it
abbrev pub run_of : Module → ℕ → RawTerm → Run
run_of M n t = record { over = M; rank = n; from = t; start = begun_at n t ∷ []; below = []; rules = 0 }

-- nothing is kept or waits
abbrev pub nothing : Data
nothing = record { frames = []; done = []; jobs = []; values = []; moves = [] }

-- The instance t of a side begins at its canonical form, with nothing done, or stops at once.
abbrev pub IsBegun : Module → RawTerm → Begun → Type 0
IsBegun M t (begun.Runs r) = IsAdmittedTerm M.signature r.value.from × (r.value.from ≡ normal_form M.signature t) × ((N : Module) → data_of N r.value.machine ≡ nothing)
IsBegun M t (begun.Stops why) = StopsAtOnce M t (reason_of why)

-- these sides are shown
pub record AreShown (M : Module) (n : ℕ) (rs : List Reduced) : Type 0 where
  pub evidence : IsEvidence M (suc n) (proofs_of M n rs) (starts_of M rs) (all_moves M rs)
  pub kept : AreKept M n rs

-- the fragment f holds by these sides, which are its own, and binds nothing
pub record IsHolding (M : Module) (n : ℕ) (f : Fragment) (r : Substitution) (rs : List Reduced) : Type 0 where
  pub sides : AreShown M n rs
  pub starts : starts_of M rs ≡ begun_sides M.signature r (sides_of f)
  pub holds : HoldsAbove M (admitted_judgements M n) (f ∷ []) r (proofs_of M n rs) r
  pub fails_behind : (D : List Fragment) → FailsAbove M (admitted_judgements M n) D r → FailsAbove M (admitted_judgements M n) (f ∷ D) r

-- it fails, whatever stands behind it
abbrev pub IsFailing : Module → ℕ → Fragment → Substitution → Type 0
IsFailing M n f r = (D : List Fragment) → FailsAbove M (admitted_judgements M n) (f ∷ D) r

-- it is a match, and these are the solutions
pub record IsOpening (M : Module) (n : ℕ) (f : Fragment) (xs : List Variable) (vs : List RawTerm) (r : Reduced) (ys : List Variable) (c : Coming) : Type 0 where
  pub pattern : RawTerm
  pub side : RawTerm
  pub is : f ≡ matches pattern side
  pub shown : IsShown M n (instance (bound_to M.signature xs vs) side) r
  pub all : IsAllSolutions M.signature false pattern r.to (bound_to M.signature xs vs) c
  pub named : AreNamed M.signature ys c

-- The test of the fragment f for these values, by the sides that it has.
abbrev pub IsTested : Module → ℕ → ℕ → Fragment → List Variable → List RawTerm → List Variable → Tested → Type 0
IsTested M n limit f xs vs ys (Holds sides) = (ys ≡ xs) × IsHolding M n f (bound_to M.signature xs vs) sides.items
IsTested M n limit f xs vs ys Fails = IsFailing M n f (bound_to M.signature xs vs)
IsTested M n limit f xs vs ys (Opens r c) = IsOpening M n f xs vs r ys c.value
IsTested M n limit f xs vs ys (StopsHere why) = (u : RawTerm) × IsSide f u × IsStoppedFor M n limit (instance (bound_to M.signature xs vs) u) why

-- the test of some fragment
abbrev pub IsSomeTest : Signature → Test → Type 0
IsSomeTest sig t = (xs : List Variable) × (f : Fragment) × IsTestOf sig xs f t

-- the tests of some fragments
abbrev pub AreSomeTests : Signature → Condition → Type 0
AreSomeTests sig c = (xs : List Variable) × (C : List Fragment) × AreTests sig xs C c.tests

-- A place among the tests of the condition of e: the variables that are bound there, what is left of the condition, and the sides before it.
pub record IsPlace (M : Module) (n : ℕ) (e : Statement) (tests : List Test) (at : ℕ) (sides : List Reduced) (xs : List Variable) (rest : List Fragment) : Type 0 where
  pub fitting : AreTests M.signature xs rest (drop at tests)
  pub ready : AreReady M.signature e.variables xs rest
  pub ends : all_bound xs (drop at tests) ≡ all_bound (met [] e.left) tests
  pub shown : AreShown M n sides

-- The condition C is what is held, and then the rest. These sides begin at those of what is held: at their canonical instances by r, and so by all that
-- extends it.
pub record IsSplit (M : Module) (C : List Fragment) (r : Substitution) (sides : List Reduced) (rest : List Fragment) : Type 0 where
  pub held : List Fragment
  pub is : C ≡ held ++ rest
  pub starts : (q : Substitution) → Extends r q → starts_of M sides ≡ begun_sides M.signature q (all_sides held)

-- Solutions that are still to be tried: where they lead on, and what each one binds.
pub record IsOpen (M : Module) (n : ℕ) (e : Statement) (tests : List Test) (sides : List Reduced) (rest : List Fragment) (o : Other) : Type 0 where
  pub within : o.sides ≤ length sides
  pub variables : List Variable
  pub place : IsPlace M n e tests o.at (take o.sides sides) variables rest
  pub each : (r : Solution) → Member r o.solutions.value.candidates → FitsSorts o.solutions.value r
      → (bound_variables r.subst ≡ variables) × AreBoundTo M variables (values r) × AreFound M n e.left variables (values r)
      × IsSplit M e.fragments (bound_to M.signature variables (values r)) (take o.sides sides) rest
  pub telling : (r : Solution) → Member r o.solutions.value.candidates → FitsSorts o.solutions.value r → Lacks o.solutions.value r → ⊥

-- one by one, the innermost first, each with what is left of the condition
abbrev pub AreOpen : Module → ℕ → Statement → List Test → List Reduced → List (List Fragment) → List Other → Type 0
AreOpen M n e tests sides [] [] = ⊤
AreOpen M n e tests sides [] (o ∷ os) = ⊥
AreOpen M n e tests sides (D ∷ Ds) [] = ⊥
AreOpen M n e tests sides (D ∷ Ds) (o ∷ os) = IsOpen M n e tests sides D o × AreOpen M n e tests (take o.sides sides) Ds os

-- a solution that is still to come
abbrev pub IsComing : Signature → Other → Substitution → Type 0
IsComing sig o q = (r : Solution) × Member r o.solutions.value.candidates × FitsSorts o.solutions.value r × (q ≡ meant sig r.subst)

-- the alternatives that they are
abbrev pub AreLeft : Module → ℕ → List Reduced → List (List Fragment) → List Other → Alternative → Type 0
AreLeft M n sides [] os a = ⊥
AreLeft M n sides (D ∷ Ds) [] a = ⊥
AreLeft M n sides (D ∷ Ds) (o ∷ os) a = IsSolvedOr D (proofs_of M n (take o.sides sides)) (IsComing M.signature o) (AreLeft M n (take o.sides sides) Ds os) a

-- The condition of e is evaluated from s on: it has come to a place, with values, and others are left. Sides are evaluated in rank n.
pub record IsTrial (M : Module) (n : ℕ) (e : Statement) (tests : List Test) (s : Substitution) (at : ℕ) (vs : List RawTerm) (sides : List Reduced) (others : List Other) : Type 0 where
  pub rest : List Fragment
  pub variables : List Variable
  pub place : IsPlace M n e tests at sides variables rest
  pub bound : AreBoundTo M variables vs
  pub found : AreFound M n e.left variables vs
  pub split : IsSplit M e.fragments (bound_to M.signature variables vs) sides rest
  pub rests : List (List Fragment)
  pub waiting : AreOpen M n e tests sides rests others
  pub frontier : IsFrontier M (admitted_judgements M n) e.fragments s (IsOneOr (alternative rest (bound_to M.signature variables vs) (proofs_of M n sides)) (AreLeft M n sides rests others))

-- It has come to the test of the fragment f.
pub record IsAt (M : Module) (n : ℕ) (e : Statement) (tests : List Test) (s : Substitution) (at : ℕ) (f : Fragment) (C : List Fragment) (xs : List Variable) (vs : List RawTerm) (sides : List Reduced) (others : List Other) : Type 0 where
  pub place : IsPlace M n e tests at sides xs (f ∷ C)
  pub bound : AreBoundTo M xs vs
  pub found : AreFound M n e.left xs vs
  pub split : IsSplit M e.fragments (bound_to M.signature xs vs) sides (f ∷ C)
  pub rests : List (List Fragment)
  pub waiting : AreOpen M n e tests sides rests others
  pub frontier : IsFrontier M (admitted_judgements M n) e.fragments s (IsOneOr (alternative (f ∷ C) (bound_to M.signature xs vs) (proofs_of M n sides)) (AreLeft M n sides rests others))
  pub test : Test
  pub is_test : IsTestOf M.signature xs f test
  pub here : slice_get tests at ≡ Some test
  pub behind : AreTests M.signature (bound_by xs test) C (drop (suc at) tests)

-- none is at hand, and others are left
pub record IsBack (M : Module) (n : ℕ) (e : Statement) (tests : List Test) (s : Substitution) (sides : List Reduced) (others : List Other) : Type 0 where
  pub rests : List (List Fragment)
  pub waiting : AreOpen M n e tests sides rests others
  pub frontier : IsFrontier M (admitted_judgements M n) e.fragments s (AreLeft M n sides rests others)

-- The next solution that is to be tried is one of those that were, and the rest is left: its values, with the sides that were shown by then. Or none is left.
abbrev pub Tries : Other → Other → List Reduced → List Reduced → List RawTerm → Bool → Type 0
Tries old new before after vs true = (new.at ≡ old.at) × (new.sides ≡ old.sides) × (after ≡ take old.sides before)
    × ((r : Solution) × PassesTo old.solutions.value (r ∷ new.solutions.value.candidates) × FitsSorts old.solutions.value r × (vs ≡ values r)
    × (new.solutions.value ≡ record old.solutions.value { candidates = new.solutions.value.candidates }))
Tries old new before after vs false = (after ≡ take old.sides before) × PassesTo old.solutions.value []

-- A side stops, where what stands before its fragment holds.
pub record IsStoppedInside (M : Module) (n limit : ℕ) (C : List Fragment) (s : Substitution) (why : Reason) : Type 0 where
  pub held : List Fragment
  pub fragment : Fragment
  pub rest : List Fragment
  pub is : C ≡ held ++ fragment ∷ rest
  pub proofs : Proofs
  pub reached : Substitution
  pub holds : HoldsAbove M (admitted_judgements M n) held s proofs reached
  pub side : RawTerm
  pub is_side : IsSide fragment side
  pub stops : IsStoppedFor M n limit (instance reached side) why

-- The condition of e holds from s on, by values of all variables that are bound in it. The sides begin at its own, in order.
pub record IsHeldBy (M : Module) (n : ℕ) (e : Statement) (tests : List Test) (s : Substitution) (vs : List RawTerm) (sides : List Reduced) : Type 0 where
  pub shown : AreShown M n sides
  pub holds : HoldsAbove M (admitted_judgements M n) e.fragments s (proofs_of M n sides) (bound_to M.signature (all_bound (met [] e.left) tests) vs)
  pub bound : AreBoundTo M (all_bound (met [] e.left) tests) vs
  pub found : AreFound M n e.left (all_bound (met [] e.left) tests) vs
  pub starts : (q : Substitution) → Extends (bound_to M.signature (all_bound (met [] e.left) tests) vs) q → starts_of M sides ≡ begun_sides M.signature q (all_sides e.fragments)

abbrev pub IsVerdict : Module → ℕ → ℕ → Statement → List Test → Substitution → List RawTerm → Verdict → Type 0
IsVerdict M n limit e tests s vs (Held sides) = IsHeldBy M n e tests s vs sides.items
IsVerdict M n limit e tests s vs Failed = FailsAbove M (admitted_judgements M n) e.fragments s
IsVerdict M n limit e tests s vs (Stopped why) = IsStoppedInside M n limit e.fragments s why

-- how an evaluation goes on
abbrev pub IsProgress : Module → ℕ → ℕ → Statement → List Test → Substitution → List RawTerm → List Reduced → List Other → Progress → Type 0
IsProgress M n limit e tests s vs sides others (progress.At at) = IsTrial M n e tests s at vs sides others
IsProgress M n limit e tests s vs sides others progress.Failed = FailsAbove M (admitted_judgements M n) e.fragments s
IsProgress M n limit e tests s vs sides others (progress.Stopped why) = IsStoppedInside M n limit e.fragments s why

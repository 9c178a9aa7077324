-- Proofs that were made of parts of a multiset, one after another.
use Rattle.std.specs.Prelude.{◌≡◌, ◌≢◌, ◌≤◌, ◌+◌, ℕ, List, [], ◌∷◌, ◌++◌, length, IsPermutation, ⊤}
use Rattle.mw_logic.specs.Term.{RawTerm, numeral, nil}
use Rattle.mw_logic.specs.Terms.{terms_of}
use Rattle.mw_logic.specs.Signature.{Signature}
use Rattle.mw_logic.specs.Module.{Module}
use Rattle.mw_logic.specs.Proof as proof
use Rattle.mw_canon.specs.Canonical.{IsAdmittedTerm}
use Rattle.mw_deduction.specs.Runs.{Dones, none, both}
use Rattle.mw_deduction.specs.Replay.{Move, Stand, begun, opened, plays, AreMoves}
use Rattle.mw_deduction.specs.Under.{under_dones}
use Rattle.mw_multiset.specs.Together.{parts, together, AreMembers, IsShallow, AllUnder}

-- the moves may be made in rank n from t on, and end in one stand, at u, where no operator is open and no evidence waits
pub record IsMade (M : Module) (n : ℕ) (t u : RawTerm) (ms : List Move) : Type 0 where
  pub low : n ≤ 63
  pub begins : IsAdmittedTerm M.signature t
  pub made : AreMoves M ms (begun n t ∷ [])
  pub last : Stand
  pub stands : plays M ms (begun n t ∷ []) ≡ last ∷ []
  pub closed : last.opens ≡ []
  pub used : last.read.ready ≡ proof.nil
  pub reaches : last.hand ≡ u

-- the first of the stands, where there is one
abbrev pub first_of : List Stand → Stand
first_of [] = begun 0 (numeral 0)
first_of (S ∷ B) = S

-- what moves from t on carry out
abbrev pub run_of : Module → ℕ → RawTerm → List Move → Dones
run_of M n t ms = (first_of (plays M ms (begun n t ∷ []))).run

-- the part that was taken, what it became, and the moves of the proof
pub record Receipt : Type 0 where
  pub rank : ℕ
  pub from : RawTerm
  pub to : RawTerm
  pub moves : List Move

-- The part isn't empty, its proof is made, and each of its replacements may be made wherever the part stands under f.
pub record IsReceipt (M : Module) (f : ℕ) (r : Receipt) : Type 0 where
  pub made : IsMade M r.rank r.from r.to r.moves
  pub filled : parts M.signature f r.from ≢ []
  pub under : AllUnder M.signature f (run_of M r.rank r.from r.moves)
  pub shallow : IsShallow M.signature f r.to

abbrev pub AreReceipts : Module → ℕ → List Receipt → Type 0
AreReceipts M f [] = ⊤
AreReceipts M f (r ∷ rs) = IsReceipt M f r × AreReceipts M f rs

-- From the elements xs the receipts lead, in order, to ys: each takes its part's elements, which are there, away once and adds its result's.
abbrev pub Reaches : Signature → ℕ → List RawTerm → List Receipt → List RawTerm → Type 0
Reaches sig f xs [] ys = IsPermutation xs ys
Reaches sig f xs (r ∷ rs) ys = (rest : List RawTerm) × IsPermutation xs (parts sig f r.from ++ rest) × Reaches sig f (parts sig f r.to ++ rest) rs ys

-- a run beside the rest, where there is one
abbrev pub beside : Signature → ℕ → List RawTerm → Dones → Dones
beside sig f [] ds = ds
beside sig f (x ∷ rest) ds = under_dones sig (opened f nil (terms_of (x ∷ rest)) ∷ []) ds

-- the receipts' runs in order, each beside the rest
abbrev pub all_beside : (M : Module) (f : ℕ) (xs : List RawTerm) (rs : List Receipt) (ys : List RawTerm) → Reaches M.signature f xs rs ys → Dones
all_beside M f xs [] ys h = none
all_beside M f xs (r ∷ rs) ys h = both (beside M.signature f h.0 (run_of M r.rank r.from r.moves)) (all_beside M f (parts M.signature f r.to ++ h.0) rs ys h.2)

-- how many moves they have together, with two for each receipt
abbrev pub length_of : List Receipt → ℕ
length_of [] = 0
length_of (r ∷ rs) = 2 + length r.moves + length_of rs

-- no receipt's rank is above n
abbrev pub AreLow : ℕ → List Receipt → Type 0
AreLow n [] = ⊤
AreLow n (r ∷ rs) = (r.rank ≤ n) × AreLow n rs

-- The receipts in order are one proof, from the operator on the elements at first to the operator on those at last. It carries out their runs, each beside
-- the rest, and has about as many moves as they have together.
pub record AreOneProof (M : Module) (f n : ℕ) (xs : List RawTerm) (rs : List Receipt) (ys : List RawTerm) (h : Reaches M.signature f xs rs ys) : Type 0 where
  pub moves : List Move
  pub made : IsMade M n (together M.signature f xs) (together M.signature f ys) moves
  pub run : run_of M n (together M.signature f xs) moves ≡ all_beside M f xs rs ys h
  pub members : AreMembers M.signature f ys
  pub short : length moves ≤ length_of rs

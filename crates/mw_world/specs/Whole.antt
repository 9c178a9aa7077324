-- The receipts of a sound pool as one proof of the whole.
use Rattle.std.specs.Prelude.{◌≡◌, ◌≤◌, ◌+◌, ℕ, List, [], ◌∷◌, ◌++◌, length}
use Rattle.mw_logic.specs.Term.{RawTerm}
use Rattle.mw_logic.specs.Signature.{Signature}
use Rattle.mw_logic.specs.Module.{Module}
use Rattle.mw_deduction.specs.Runs.{Dones, none, both}
use Rattle.mw_deduction.specs.Replay.{Move}
use Rattle.mw_trail.specs.Tracks.{moves}
use Rattle.mw_proof.specs.Deductions.{Deduction, IsDeduction}
use Rattle.mw_multiset.specs.Together.{parts, together, AreMembers}
use Rattle.mw_multiset.specs.Receipts.{IsMade, beside}
use Rattle.mw_world.specs.World.{World, all_elements, Leads, AreReceipts, IsSound}

-- the receipts' runs in order, each beside the rest
abbrev pub runs_beside : (sig : Signature) (f : ℕ) (xs : List RawTerm) (ds : List Deduction) (ys : List RawTerm) → Leads sig f xs ds ys → Dones
runs_beside sig f xs [] ys h = none
runs_beside sig f xs (d ∷ ds) ys h = both (beside sig f h.0 d.run) (runs_beside sig f (parts sig f d.to ++ h.0) ds ys h.2)

-- how many moves they have together, with two for each receipt
abbrev pub moves_with : (M : Module) (f : ℕ) (ds : List Deduction) → AreReceipts M f ds → ℕ
moves_with M f [] h = 0
moves_with M f (d ∷ ds) h = 2 + length (moves M h.0.track) + moves_with M f ds h.1

-- One proof of about as many moves as all receipts have together: from the opening to the operator on the free elements and those of all open parts. It carries
-- out the receipts' runs in order, each beside the rest.
pub record IsOneProof (w : World) (h : IsSound w) : Type 0 where
  pub proof : Deduction
  pub is : IsDeduction proof
  pub over : proof.over ≡ w.over
  pub rank : proof.rank ≡ 63
  pub from : proof.from ≡ w.opening
  pub to : proof.to ≡ together w.over.signature w.operator (all_elements w)
  pub moves : List Move
  pub made : IsMade w.over 63 proof.from proof.to moves
  pub run : proof.run ≡ runs_beside w.over.signature w.operator (parts w.over.signature w.operator w.opening) w.journal (all_elements w) h.reached
  pub short : length moves ≤ moves_with w.over w.operator w.journal h.receipts
  pub members : AreMembers w.over.signature w.operator (all_elements w)
